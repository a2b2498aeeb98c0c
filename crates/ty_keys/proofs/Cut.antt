-- A text and its segments.
use Rattle.std.proofs.Common.{◌≡◌, ℕ, ◌+◌, ◌<◌, Bool, true, false, cond, not, List, [], ◌∷◌, ◌++◌, length, map, refl, sym, ap, ◌∙◌, arith, true≢false}
use borrow.Author.Tests.{eqb-true}
use Rattle.std.specs.List.{list_all, flat_map, slice_split, onto_first, All}
use Rattle.std.proofs.lemmas.List.{append-nil}
use Rattle.std.proofs.lemmas.List.Splits.{slice_split_at, slice_split_none}
use Rattle.std.proofs.lemmas.List.Elements.{All-cons}
use Rattle.ty_keys.specs.Grammar.{Piece, printed, slashed}
use Rattle.ty_keys.specs.Faults.{Segment, segments, placed, is_slash, after_slash}
use Rattle.ty_keys.proofs.Named.{is_clear}
use Rattle.ty_keys.proofs.Units.{and_left, and_right}

-- the pieces of a text that was cut, with the slashes
abbrev unsplit : List (List ℕ) → List ℕ
unsplit [] = []
unsplit (s ∷ ss) = s ++ flat_map slashed ss

unsplit_step : (b : ℕ) (bs : List ℕ) (parts : List (List ℕ)) → 0 < length parts → unsplit parts ≡ bs → unsplit (cond (is_slash b) ([] ∷ parts) (onto_first b parts)) ≡ b ∷ bs
unsplit_step b bs [] l h = absurd (omega arith)
unsplit_step b bs (p ∷ ps) l h =
    elim (is_slash b) as (λ v. is_slash b ≡ v → unsplit (cond v ([] ∷ p ∷ ps) (onto_first b (p ∷ ps))) ≡ b ∷ bs) [
      | true ↦ λ e. ap (λ t. 47 ∷ t) h ∙ ap (λ c. c ∷ bs) (sym (eqb-true b 47 e))
      | false ↦ λ e. ap (λ t. b ∷ t) h
    ] refl

some_step : (v : Bool) (b : ℕ) (parts : List (List ℕ)) → 0 < length parts → 0 < length (cond v ([] ∷ parts) (onto_first b parts))
some_step true b parts l = omega arith
some_step false b [] l = absurd (omega arith)
some_step false b (p ∷ ps) l = omega arith

some_parts : (bs : List ℕ) → 0 < length (slice_split is_slash bs)
some_parts [] = omega arith
some_parts (b ∷ bs) = some_step (is_slash b) b (slice_split is_slash bs) (some_parts bs)

pub unsplit_split : (bs : List ℕ) → unsplit (slice_split is_slash bs) ≡ bs
unsplit_split [] = refl
unsplit_split (b ∷ bs) = unsplit_step b bs (slice_split is_slash bs) (some_parts bs) (unsplit_split bs)

-- a text with a segment is its segments, each behind a slash
cut_back : (parts : List (List ℕ)) (s : List ℕ) (ss : List (List ℕ)) → after_slash parts ≡ s ∷ ss → unsplit parts ≡ flat_map slashed (s ∷ ss)
cut_back [] s ss h = absurd cc
cut_back ([] ∷ ps) s ss h = ap (flat_map slashed) h
cut_back ((b ∷ bs) ∷ ps) s ss h = absurd cc

pub text_back : (text s : List ℕ) (ss : List (List ℕ)) → after_slash (slice_split is_slash text) ≡ s ∷ ss → text ≡ flat_map slashed (s ∷ ss)
text_back text s ss h = sym (unsplit_split text) ∙ cut_back (slice_split is_slash text) s ss h

pub placed_texts : (at : ℕ) (ss : List (List ℕ)) → map (λ (x : Segment). x.1) (placed at ss) ≡ ss
placed_texts at [] = refl
placed_texts at (s ∷ ss) = ap (λ t. s ∷ t) (placed_texts (at + 1 + length s) ss)

-- ---- and the other way round

not_is : (b : Bool) → not b ≡ true → b ≡ false
not_is true h = absurd (true≢false (sym h))
not_is false h = refl

clear_all : (s : List ℕ) → is_clear s ≡ true → All (λ b. is_slash b ≡ false) s
clear_all [] h = λ k d l. absurd (omega arith)
clear_all (b ∷ s) h = All-cons (λ x. is_slash x ≡ false) b s (not_is (is_slash b) (and_left (not (is_slash b)) (is_clear s) h)) (clear_all s (and_right (not (is_slash b)) (is_clear s) h))

split_joined : (s : List ℕ) (ss : List (List ℕ)) → is_clear s ≡ true → list_all is_clear ss ≡ true → slice_split is_slash (s ++ flat_map slashed ss) ≡ s ∷ ss
split_joined s [] h g = ap (slice_split is_slash) (append-nil s) ∙ slice_split_none is_slash s (clear_all s h)
split_joined s (t ∷ ts) h g =
    slice_split_at is_slash s 47 (t ++ flat_map slashed ts) (clear_all s h) refl
    ∙ ap (λ ps. s ∷ ps) (split_joined t ts (and_left (is_clear t) (list_all is_clear ts) g) (and_right (is_clear t) (list_all is_clear ts) g))

pub segments_joined : (at : ℕ) (ss : List (List ℕ)) → list_all is_clear ss ≡ true → segments at (flat_map slashed ss) ≡ placed at ss
unfolding segments
segments_joined at [] h = refl
segments_joined at (s ∷ ss) h = ap (placed at) (split_joined s ss (and_left (is_clear s) (list_all is_clear ss) h) (and_right (is_clear s) (list_all is_clear ss) h))

pub flat_printed : (ps : List Piece) → flat_map (λ p. slashed (printed p)) ps ≡ flat_map slashed (map printed ps)
flat_printed [] = refl
flat_printed (p ∷ ps) = ap (λ t. slashed (printed p) ++ t) (flat_printed ps)
