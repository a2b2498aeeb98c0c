-- What a source in memory gives, and what it has left.
use Rattle.std.proofs.Common.{◌≡◌, ℕ, ◌+◌, ◌<◌, ◌≤◌, ◌∙◌, Bool, cond, min, List, [], ◌∷◌, ◌++◌, length, take, drop, drop-cons, get_or, map, flat_map, refl, sym, ap, subst, arith, add-one, zero-add, suc, lt-ltb, le-ltb, length-append}
use Rattle.std.proofs.lemmas.List.{drop-drop, take-append-drop, take-take, drop_all, take_more, flat_map_more}
use Rattle.std.proofs.Math.Seq.{take-append_seam}
use Rattle.ty_base.specs.Memory.{end_of, ends_after}

pub taken : (items copied back : List ℕ) (at n : ℕ) → length copied ≡ n → copied ≡ take n (drop at items) → drop at items ≡ take n (copied ++ back) ++ drop (at + n) items
taken items copied back at n l e = cc (take-append_seam copied back, drop-drop n at items, take-append-drop n (drop at items))

-- the same of a piece that is within the bytes
pub taken_piece : (items copied back : List ℕ) (at n m : ℕ) → n ≤ m → length copied ≡ n → copied ≡ take n (take m (drop at items)) → drop at items ≡ take n (copied ++ back) ++ drop (at + n) items
taken_piece items copied back at n m le l e = taken items copied back at n l (e ∙ take-take n m (drop at items) le)

-- The end of a piece

pub end_found : (ends : List ℕ) (i at all : ℕ) → i < length ends → at < get_or ends i 0 → min all (get_or ends i 0) ≡ end_of (drop i ends) at all
unfolding end_of
end_found ends i at all h e =
    sym (ap (λ (rest : List ℕ). end_of rest at all) (drop-cons ends i 0 h)
    ∙ ap (λ (b : Bool). cond b (min all (get_or ends i 0)) (end_of (drop (suc i) ends) at all)) (lt-ltb at (get_or ends i 0) e))

pub end_passed : (ends : List ℕ) (i at all : ℕ) → i < length ends → get_or ends i 0 ≤ at → end_of (drop (i + 1) ends) at all ≡ end_of (drop i ends) at all
unfolding end_of
end_passed ends i at all h e =
    let P : ℕ → Type 0 = λ j. end_of (drop j ends) at all ≡ end_of (drop i ends) at all in
    subst P (sym (add-one i)) (sym (ap (λ (rest : List ℕ). end_of rest at all) (drop-cons ends i 0 h)
    ∙ ap (λ (b : Bool). cond b (min all (get_or ends i 0)) (end_of (drop (suc i) ends) at all)) (le-ltb at (get_or ends i 0) e)))

pub end_of_all : (ends : List ℕ) (i at all : ℕ) → length ends ≤ i → all ≡ end_of (drop i ends) at all
unfolding end_of
end_of_all ends i at all h = sym (ap (λ (rest : List ℕ). end_of rest at all) (drop_all i ends h))

pub ends_push : {X : Type 0} (f : X → List ℕ) (before : ℕ) (ps : List X) (p : X)
    → ends_after before (map f ps) ++ (before + length (flat_map f ps ++ f p)) ∷ [] ≡ ends_after before (map f (ps ++ p ∷ []))
ends_push f before [] p = refl
ends_push f before (q ∷ ps) p =
    let counted : before + length ((f q ++ flat_map f ps) ++ f p) ≡ (before + length (f q)) + length (flat_map f ps ++ f p) = grind (arith, length-append) in
    ap (λ (n : ℕ). ((before + length (f q)) ∷ ends_after (before + length (f q)) (map f ps)) ++ n ∷ []) counted
    ∙ ap (λ (rest : List ℕ). (before + length (f q)) ∷ rest) (ends_push f (before + length (f q)) ps p)

-- one piece more, p at place i
pub bytes_more : {X : Type 0} (f : X → List ℕ) (ps : List X) (i : ℕ) (p : X) → i < length ps → p ≡ get_or ps i p
    → flat_map f (take i ps) ++ f p ≡ flat_map f (take (i + 1) ps)
bytes_more f ps i p h e =
    flat_map_more f [] (take i ps) p ∙ ap (λ x. flat_map f (take i ps ++ x ∷ [])) e ∙ ap (λ qs. flat_map f qs) (sym (take_more ps i p h))

pub ends_more : {X : Type 0} (f : X → List ℕ) (ps : List X) (i : ℕ) (p : X) → i < length ps → p ≡ get_or ps i p
    → ends_after 0 (map f (take i ps)) ++ length (flat_map f (take (i + 1) ps)) ∷ [] ≡ ends_after 0 (map f (take (i + 1) ps))
ends_more f ps i p h e =
    ap (λ (n : ℕ). ends_after 0 (map f (take i ps)) ++ n ∷ []) (ap (λ (bs : List ℕ). length bs) (sym (bytes_more f ps i p h e)) ∙ sym (zero-add (length (flat_map f (take i ps) ++ f p))))
    ∙ ends_push f 0 (take i ps) p
    ∙ ap (λ x. ends_after 0 (map f (take i ps ++ x ∷ []))) e
    ∙ ap (λ qs. ends_after 0 (map f qs)) (sym (take_more ps i p h))
