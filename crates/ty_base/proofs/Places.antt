-- A link in memory that stands at a place of its pieces.
use Rattle.std.proofs.Common.{◌≡◌, ℕ, ◌+◌, ◌<◌, ◌≤◌, suc, Bool, true, false, ◌&&◌, List, [], ◌∷◌, ◌++◌, length, get_or, take, drop, refl, sym, ◌∙◌, ap, subst, append_assoc, append-nil, add-one, flat_map, arith, true≢false, nat_lt, cond}
use Rattle.std.specs.Global.{Vec}
use Rattle.std.specs.List.{list_all, filter}
use Rattle.std.proofs.lemmas.Bool.{ltb-true, lt-ltb}
use Rattle.std.proofs.lemmas.List.{take-append-drop, take_more, drop-drop, length-drop, take-take, take_all}
use Rattle.std.proofs.lemmas.Grind.{flat_map-append}
use Rattle.std.proofs.Math.Seq.{take-append_seam, take-add, take-nil, drop-cons}
use Rattle.ty_base.specs.declared.piece.Piece.{Piece}
use Rattle.ty_base.specs.declared.piece.Piece.TheVariants.{Bytes, Quiet, End}
use Rattle.ty_base.specs.declared.link.Took.TheVariants as took
use Rattle.ty_base.specs.Links.{Coming, brings, rests, ends, Sight, Takes, pieces_left}
use Rattle.ty_base.specs.MemoryLinks.{coming_of}
use Rattle.ty_base.specs.steps.Places.{piece_bytes, is_real, has_left, coming_from, front_of, brought_at}

-- the piece at a place, and those behind it
pub here : (ps : List Piece) (i : ℕ) (p : Piece) → i < length ps → get_or ps i p ≡ p → drop i ps ≡ p ∷ drop (i + 1) ps
here ps i p within is =
    let P : ℕ → Type 0 = λ k. drop i ps ≡ p ∷ drop k ps in
    subst P (sym (add-one i)) (drop-cons ps i p within ∙ ap (λ (q : Piece). q ∷ drop (suc i) ps) is)

up_to : (ps : List Piece) (i : ℕ) (p : Piece) → i < length ps → get_or ps i p ≡ p → take (i + 1) ps ≡ take i ps ++ p ∷ []
up_to ps i p within is = take_more ps i p within ∙ ap (λ (q : Piece). take i ps ++ q ∷ []) is

pub from_zero : (ps : List Piece) → coming_from 0 ps ≡ coming_of ps
from_zero [] = refl
from_zero (Bytes v ∷ rest) = refl
from_zero (Quiet ∷ rest) = refl
from_zero (End ∷ rest) = refl

front_zero : (ps : List Piece) → front_of 0 ps ≡ []
front_zero [] = refl
front_zero (p ∷ rest) = refl

-- bytes of the piece that were taken make it whole: it was brought
passed : (ps : List Piece) (i k : ℕ) (p : Piece) (more : List ℕ) → i < length ps → get_or ps i p ≡ p → piece_bytes p ≡ take k (piece_bytes p) ++ more → brought_at ps (i + 1) 0 ≡ brought_at ps i k ++ more
passed ps i k p more within is whole =
    ap (λ (l : List ℕ). flat_map piece_bytes (take (i + 1) ps) ++ l) (front_zero (drop (i + 1) ps))
    ∙ append-nil (flat_map piece_bytes (take (i + 1) ps))
    ∙ ap (flat_map piece_bytes) (up_to ps i p within is)
    ∙ flat_map-append piece_bytes (take i ps) (p ∷ [])
    ∙ ap (λ (l : List ℕ). flat_map piece_bytes (take i ps) ++ l) (append-nil (piece_bytes p) ∙ whole)
    ∙ sym (append_assoc (flat_map piece_bytes (take i ps)) (take k (piece_bytes p)) more)
    ∙ ap (λ (l : List Piece). (flat_map piece_bytes (take i ps) ++ front_of k l) ++ more) (sym (here ps i p within is))

nonempty_left : (l : List ℕ) (rest : List Coming) → 0 < length l → pieces_left l rest ≡ brings l ∷ rest
nonempty_left (x ∷ l) rest h = refl
nonempty_left [] rest h = absurd (omega arith)

nonempty_drop : (k : ℕ) (l : List ℕ) → k < length l → 0 < length (drop k l)
nonempty_drop k l h = rw (length-drop k l) (omega arith)

first : (a b : Bool) → (a && b) ≡ true → a ≡ true
first true b h = refl
first false b h = absurd (true≢false (sym h))

-- the piece at a place has bytes left
pub left_here : (ps : List Piece) (i k : ℕ) (v : Vec ℕ) → i < length ps → get_or ps i (Bytes v) ≡ Bytes v → has_left k (drop i ps) ≡ true → k < length v.items
left_here ps i k v within is left =
    let both : (nat_lt k (length v.items) && list_all is_real (drop (i + 1) ps)) ≡ true = ap (has_left k) (sym (here ps i (Bytes v) within is)) ∙ left in
    ltb-true k (length v.items) (first (nat_lt k (length v.items)) (list_all is_real (drop (i + 1) ps)) both)

-- the front of a buffer into which the front of the rest was copied
pub copied_part : (items copied back : List ℕ) (k n m : ℕ) → n ≤ m → length copied ≡ n → copied ≡ take n (take m (drop k items)) → take n (copied ++ back) ≡ take n (drop k items)
copied_part items copied back k n m le len is =
    let P : ℕ → Type 0 = λ j. take j (copied ++ back) ≡ copied in
    subst P len (take-append_seam copied back) ∙ is ∙ take-take n m (drop k items) le

pub copied_whole : (items copied back : List ℕ) (k n m : ℕ) → n ≤ m → length copied ≡ n → copied ≡ take n (take m (drop k items)) → length (drop k items) ≤ n → take n (copied ++ back) ≡ drop k items
copied_whole items copied back k n m le len is all = copied_part items copied back k n m le len is ∙ take_all n (drop k items) all

abbrev pub place : List ℕ → List Piece → ℕ → ℕ → Bool → Sight
place given ps i k ended = record { given = given; brought = brought_at ps i k; coming = coming_from k (drop i ps); ended = ended }

module _ (given buf : List ℕ) (ps : List Piece) (i k : ℕ) (ended : Bool) where
  pub quiet_taken : i < length ps → get_or ps i Quiet ≡ Quiet → Takes took.Quiet buf (place given ps i k ended) (place given ps (i + 1) 0 ended)
  quiet_taken within is = (
    coming_of (drop (i + 1) ps),
    ap (coming_from k) (here ps i Quiet within is),
    λ j. record {
      given = given;
      brought = (passed ps i k Quiet [] within is (sym (ap (λ (l : List ℕ). l ++ []) (take-nil k))) ∙ append-nil (brought_at ps i k)) j;
      coming = from_zero (drop (i + 1) ps) j;
      ended = ended;
    },
  )

  -- the bytes taken are all that was left of the piece
  pub whole_taken : {v : Vec ℕ} (n : ℕ) → i < length ps → get_or ps i (Bytes v) ≡ Bytes v → k < length v.items → take n buf ≡ drop k v.items → Takes (took.Bytes n) buf (place given ps i k ended) (place given ps (i + 1) 0 ended)
  whole_taken {v} n within is some e = (
    [],
    coming_of (drop (i + 1) ps),
    ap (coming_from k) (here ps i (Bytes v) within is) ∙ nonempty_left (drop k v.items) (coming_of (drop (i + 1) ps)) (nonempty_drop k v.items some) ∙ ap (λ (l : List ℕ). brings l ∷ coming_of (drop (i + 1) ps)) (sym (append-nil (take n buf) ∙ e)),
    λ j. record {
      given = given;
      brought = passed ps i k (Bytes v) (take n buf) within is (sym (take-append-drop k v.items) ∙ ap (λ (l : List ℕ). take k v.items ++ l) (sym e)) j;
      coming = from_zero (drop (i + 1) ps) j;
      ended = ended;
    },
  )

  -- more of it is left
  pub part_taken : {v : Vec ℕ} (n : ℕ) → i < length ps → get_or ps i (Bytes v) ≡ Bytes v → k < length v.items → take n buf ≡ take n (drop k v.items) → Takes (took.Bytes n) buf (place given ps i k ended) (place given ps i (k + n) ended)
  part_taken {v} n within is some e =
      let rest : List Piece = drop (i + 1) ps in
      let at : drop i ps ≡ Bytes v ∷ rest = here ps i (Bytes v) within is in (
        drop (k + n) v.items,
        coming_of rest,
        ap (coming_from k) at ∙ nonempty_left (drop k v.items) (coming_of rest) (nonempty_drop k v.items some)
            ∙ ap (λ (l : List ℕ). brings l ∷ coming_of rest) (sym (take-append-drop n (drop k v.items)) ∙ ap (λ (l : List ℕ). l ++ drop n (drop k v.items)) (sym e) ∙ ap (λ (l : List ℕ). take n buf ++ l) (drop-drop n k v.items)),
        λ j. record {
          given = given;
          brought = (ap (λ (l : List Piece). flat_map piece_bytes (take i ps) ++ front_of (k + n) l) at
              ∙ ap (λ (l : List ℕ). flat_map piece_bytes (take i ps) ++ l) (take-add k n v.items ∙ ap (λ (l : List ℕ). take k v.items ++ l) (sym e))
              ∙ sym (append_assoc (flat_map piece_bytes (take i ps)) (take k v.items) (take n buf))
              ∙ ap (λ (l : List Piece). (flat_map piece_bytes (take i ps) ++ front_of k l) ++ take n buf) (sym at)) j;
          coming = ap (coming_from (k + n)) at j;
          ended = ended;
        },
      )

-- the pieces that are kept at the making

some_below : (n : ℕ) → nat_lt 0 (suc n) ≡ true
some_below n = lt-ltb 0 (suc n) (grind arith)

pub kept_real : (ps : List Piece) → list_all is_real (filter is_real ps) ≡ true
kept_real [] = refl
kept_real (p ∷ ps) =
    elim (is_real p) as (λ b. is_real p ≡ b → list_all is_real (cond b (p ∷ filter is_real ps) (filter is_real ps)) ≡ true) [
      | true ↦ λ e. ap (λ b. b && list_all is_real (filter is_real ps)) e ∙ kept_real ps
      | false ↦ λ e. kept_real ps
    ] refl

pub kept_coming : (ps : List Piece) → coming_of (filter is_real ps) ≡ coming_of ps
kept_coming [] = refl
kept_coming (Bytes v ∷ ps) =
    elim v.items as (λ l. v.items ≡ l → coming_of (cond (nat_lt 0 (length l)) (Bytes v ∷ filter is_real ps) (filter is_real ps)) ≡ pieces_left l (coming_of ps)) [
      | [] ↦ λ e. kept_coming ps
      | x ∷ l ↦ λ e. ap (λ (b : Bool). coming_of (cond b (Bytes v ∷ filter is_real ps) (filter is_real ps))) (some_below (length l)) ∙ ap (λ (l : List ℕ). pieces_left l (coming_of (filter is_real ps))) e ∙ ap (λ (r : List Coming). brings (x ∷ l) ∷ r) (kept_coming ps)
    ] refl
kept_coming (Quiet ∷ ps) = ap (λ (l : List Coming). rests ∷ l) (kept_coming ps)
kept_coming (End ∷ ps) = ap (λ (l : List Coming). ends ∷ l) (kept_coming ps)

pub all_left : (ps : List Piece) → list_all is_real ps ≡ true → has_left 0 ps ≡ true
all_left [] h = refl
all_left (Bytes v ∷ ps) h = h
all_left (Quiet ∷ ps) h = h
all_left (End ∷ ps) h = h
