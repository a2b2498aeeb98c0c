-- Cutting a text at its first slash, and then the rest.
use Rattle.std.proofs.Common.{◌≡◌, ℕ, ◌+◌, ◌≤◌, Bool, true, false, cond, List, [], ◌∷◌, length, get_or, take, drop, refl, sym, ap, ◌∙◌, arith, inl, inr, nat_lt, not, true≢false, ◌-◌, Some, None, Ok}
use borrow.Author.Tests.{eqb-true}
use Rattle.ty_keys.specs.Forms.{next_segment, is_end}
use Rattle.std.specs.List.{slice_split, onto_first, position_or_len, before_first, after_first, All}
use Rattle.std.proofs.lemmas.Bool.{cases_lt, ltb-false}
use Rattle.std.proofs.lemmas.List.{take_all, drop_all, drop_more, length-take-le, length-drop}
use Rattle.std.proofs.lemmas.List.Sums.{passes_at_first, fails_before_first, prefix_len-le-length}
use Rattle.std.proofs.lemmas.List.Splits.{slice_split_first, slice_split_none}
use Rattle.ty_keys.specs.Faults.{segments, placed, is_slash, after_slash}
use Rattle.ty_keys.specs.steps.Segments.{begins}

-- nothing stands before the slash
pub segments_at_slash : (at : ℕ) (bs : List ℕ) → segments at (47 ∷ bs) ≡ placed at (slice_split is_slash bs)
unfolding segments
segments_at_slash at bs = refl

pub segments_of_none : (at : ℕ) → segments at [] ≡ []
unfolding segments
segments_of_none at = refl

onto_none : (at b : ℕ) (parts : List (List ℕ)) → placed at (after_slash (onto_first b parts)) ≡ []
onto_none at b [] = refl
onto_none at b (p ∷ ps) = refl

-- a text that doesn't begin with a slash has no segments
pub segments_none : (at : ℕ) (bs : List ℕ) → begins bs ≡ false → segments at bs ≡ []
unfolding segments
segments_none at [] h = refl
segments_none at (b ∷ bs) h = ap (λ v. placed at (after_slash (cond v ([] ∷ slice_split is_slash bs) (onto_first b (slice_split is_slash bs))))) h ∙ onto_none at b (slice_split is_slash bs)

-- the first segment ends at the next slash, or at the end
pub first_segment : (at : ℕ) (bs : List ℕ) → placed at (slice_split is_slash bs) ≡ (at + 1, before_first is_slash bs) ∷ segments (at + 1 + position_or_len is_slash bs) (drop (position_or_len is_slash bs) bs)
first_segment at bs =
    let n = position_or_len is_slash bs in
    elim (cases_lt n (length bs)) [
      | inl lt ↦
          let len : length (before_first is_slash bs) ≡ n = length-take-le n bs (omega arith) in
          let here : get_or bs n 0 ≡ 47 = eqb-true (get_or bs n 0) 47 (passes_at_first is_slash bs 0 lt) in
          let rest : drop n bs ≡ 47 ∷ after_first is_slash bs = drop_more bs n 0 lt ∙ ap (λ b. b ∷ after_first is_slash bs) here in
          ap (placed at) (slice_split_first is_slash bs 0 lt)
          ∙ ap (λ k. (at + 1, before_first is_slash bs) ∷ placed (at + 1 + k) (slice_split is_slash (after_first is_slash bs))) len
          ∙ ap (λ ss. (at + 1, before_first is_slash bs) ∷ ss) (sym (segments_at_slash (at + 1 + n) (after_first is_slash bs)))
          ∙ ap (λ t. (at + 1, before_first is_slash bs) ∷ segments (at + 1 + n) t) (sym rest)
      | inr le ↦
          let all : All (λ b. is_slash b ≡ false) bs = λ k d h. fails_before_first is_slash bs k d (omega arith) in
          ap (placed at) (slice_split_none is_slash bs all)
          ∙ ap (λ s. (at + 1, s) ∷ []) (sym (take_all n bs le))
          ∙ ap (λ ss. (at + 1, before_first is_slash bs) ∷ ss) (sym (segments_of_none (at + 1 + n)))
          ∙ ap (λ t. (at + 1, before_first is_slash bs) ∷ segments (at + 1 + n) t) (sym (drop_all n bs le))
    ]

-- a text that begins with a slash is its first segment and what follows
pub segments_first : (at : ℕ) (bs : List ℕ) → begins bs ≡ true
    → segments at bs ≡ (at + 1, before_first is_slash (drop 1 bs)) ∷ segments (at + 1 + position_or_len is_slash (drop 1 bs)) (drop (position_or_len is_slash (drop 1 bs)) (drop 1 bs))
segments_first at [] h = absurd (true≢false (sym h))
segments_first at (b ∷ bs) h = ap (λ c. segments at (c ∷ bs)) (eqb-true b 47 h) ∙ segments_at_slash at bs ∙ first_segment at bs

pub position_or_len-le : (p : ℕ → Bool) (bs : List ℕ) → position_or_len p bs ≤ length bs
position_or_len-le p bs = prefix_len-le-length (λ b. not (p b)) bs

-- a search that finds none
pub past_end : (p n : ℕ) → p ≤ n → None ≡ cond (nat_lt p n) (Some p) None → n ≡ p
past_end p n le h =
    elim (nat_lt p n) as (λ v. nat_lt p n ≡ v → None ≡ cond v (Some p) None → n ≡ p) [
      | true ↦ λ t e. absurd (cc)
      | false ↦ λ t e. let ge : n ≤ p = ltb-false p n t in omega arith
    ] refl h

pub whole_rest : (bs : List ℕ) → take (length bs - 1) (drop 1 bs) ≡ drop 1 bs
whole_rest bs = take_all (length bs - 1) (drop 1 bs) (omega (arith, length-drop 1 bs))

pub segments_end : (at : ℕ) (bs : List ℕ) → not (begins bs) ≡ is_end (segments at bs)
segments_end at bs =
    elim (begins bs) as (λ v. begins bs ≡ v → not v ≡ is_end (segments at bs)) [
      | true ↦ λ h. sym (ap is_end (segments_first at bs h))
      | false ↦ λ h. sym (ap is_end (segments_none at bs h))
    ] refl

-- one segment, as the code cuts it off
pub next_is : (at : ℕ) (bs whole front back : List ℕ) (len : ℕ) → begins bs ≡ true → whole ≡ drop 1 bs → len ≡ position_or_len is_slash whole → front ≡ take len whole → back ≡ drop len whole
    → next_segment (segments at bs) ≡ Ok ((at + 1, front), segments (at + 1 + len) back)
next_is at bs whole front back len h w l f b =
    let rest = drop 1 bs in
    let n = position_or_len is_slash rest in
    let len-is : len ≡ n = l ∙ ap (position_or_len is_slash) w in
    let front-is : front ≡ take n rest = f ∙ ap (λ k. take k whole) len-is ∙ ap (take n) w in
    let back-is : back ≡ drop n rest = b ∙ ap (λ k. drop k whole) len-is ∙ ap (drop n) w in
    ap next_segment (segments_first at bs h)
    ∙ ap (λ x. next_segment ((at + 1, x) ∷ segments (at + 1 + n) (drop n rest))) (sym front-is)
    ∙ ap (λ x. next_segment ((at + 1, front) ∷ segments (at + 1 + n) x)) (sym back-is)
    ∙ ap (λ k. next_segment ((at + 1, front) ∷ segments (at + 1 + k) back)) (sym len-is)
