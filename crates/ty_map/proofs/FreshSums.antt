-- Fresh nodes add up: each node of c that a lacks is fresh to b, or is in b and fresh to a. No key of c stands twice, so no two
-- nodes of c are one of b, and nodes of b can be told by their keys.
use Rattle.std.proofs.Common.{◌≡◌, ℕ, ◌+◌, ◌≤◌, Bool, true, false, cond, ◌||◌, List, [], ◌∷◌, ◌++◌, map, refl, sym, ap, subst, ◌∙◌, inl, inr, arith, true≢false}
use Rattle.std.specs.List.{list_any}
use Rattle.std.specs.Str.{bytes_eq}
use Rattle.std.specs.Cmp.Lexicographic.{bytes_decides}
use Rattle.std.proofs.lemmas.List.{map-append}
use Rattle.ty_map.specs.Shape.{Shape, Empty, Fork, pairs}
use Rattle.ty_map.specs.Fresh.{fresh, is_subtree, AllDiffer, HasNoKeyTwice}
use Rattle.ty_map.proofs.FreshCounts.{fresh_node, subtree_cases, left_subtree, right_subtree, shapes_same}

abbrev one_if : Bool → ℕ
one_if true = 1
one_if false = 0

-- the nodes of a tree that are fresh to a, and whose key passes a test
abbrev counted : (List ℕ → Bool) → Shape → Shape → ℕ
counted p a Empty = 0
counted p a (Fork l e r h) = cond (is_subtree (Fork l e r h) a) 0 (one_if (p e.0) + counted p a l + counted p a r)

at_most_one : (b : Bool) → one_if b ≤ 1
at_most_one true = omega arith
at_most_one false = omega arith

counted_fresh : (p : List ℕ → Bool) (a b : Shape) → counted p a b ≤ fresh a b
unfolding fresh
counted_fresh p a Empty = omega arith
counted_fresh p a (Fork l e r h) =
    let left = counted_fresh p a l in
    let right = counted_fresh p a r in
    let own = at_most_one (p e.0) in
    elim (is_subtree (Fork l e r h) a) as (λ v. cond v 0 (one_if (p e.0) + counted p a l + counted p a r) ≤ cond v 0 (1 + fresh a l + fresh a r)) [ true ↦ omega arith | false ↦ omega arith ]

apart : (b d g : Bool) → (b ≡ true → d ≡ false) → (b ≡ true → g ≡ true) → (d ≡ true → g ≡ true) → one_if b + one_if d ≤ one_if g
apart true true g h i j = absurd (true≢false (h refl))
apart true false g h i j = subst (λ x. 1 + 0 ≤ one_if x) (sym (i refl)) (omega arith)
apart false true g h i j = subst (λ x. 0 + 1 ≤ one_if x) (sym (j refl)) (omega arith)
apart false false g h i j = omega arith

-- two tests of which no key passes both count at most what a wider one does
counted_both : (p q s : List ℕ → Bool) → ((x : List ℕ) → p x ≡ true → q x ≡ false) → ((x : List ℕ) → p x ≡ true → s x ≡ true) → ((x : List ℕ) → q x ≡ true → s x ≡ true) → (a b : Shape) → counted p a b + counted q a b ≤ counted s a b
counted_both p q s d i j a Empty = omega arith
counted_both p q s d i j a (Fork l e r h) =
    let left = counted_both p q s d i j a l in
    let right = counted_both p q s d i j a r in
    let own = apart (p e.0) (q e.0) (s e.0) (d e.0) (i e.0) (j e.0) in
    elim (is_subtree (Fork l e r h) a) as (λ v. cond v 0 (one_if (p e.0) + counted p a l + counted p a r) + cond v 0 (one_if (q e.0) + counted q a l + counted q a r) ≤ cond v 0 (one_if (s e.0) + counted s a l + counted s a r)) [ true ↦ omega arith | false ↦ omega arith ]

-- a subtree of a subtree is a subtree
within : (a t b : Shape) → is_subtree t b ≡ true → is_subtree b a ≡ true → is_subtree t a ≡ true
within a t Empty p q = subst (λ s. is_subtree s a ≡ true) (sym (shapes_same t Empty p)) q
within a t (Fork l e r h) p q =
    elim (subtree_cases t l e r h p) [
      | inl s ↦ subst (λ x. is_subtree x a ≡ true) (sym s) q
      | inr (inl s) ↦ within a t l s (left_subtree a l e r h q)
      | inr (inr s) ↦ within a t r s (right_subtree a l e r h q)
    ]

counted-subtree : (p : List ℕ → Bool) (a t : Shape) → is_subtree t a ≡ true → counted p a t ≡ 0
counted-subtree p a Empty s = refl
counted-subtree p a (Fork l e r h) s = ap (λ v. cond v 0 (one_if (p e.0) + counted p a l + counted p a r)) s

-- a subtree counts at most what the tree does
counted_within : (p : List ℕ → Bool) (a t b : Shape) → is_subtree t b ≡ true → counted p a t ≤ counted p a b
counted_within p a t Empty s = subst (λ x. counted p a x ≤ 0) (sym (shapes_same t Empty s)) (omega arith)
counted_within p a t (Fork l e r h) s =
    elim (is_subtree (Fork l e r h) a) as (λ v. is_subtree (Fork l e r h) a ≡ v → counted p a t ≤ cond v 0 (one_if (p e.0) + counted p a l + counted p a r)) [
      | true ↦ λ q. omega (arith, counted-subtree p a t (within a t (Fork l e r h) s q))
      | false ↦ λ q. elim (subtree_cases t l e r h s) [
        | inl i ↦ subst (λ x. counted p a x ≤ one_if (p e.0) + counted p a l + counted p a r) (sym i) (omega (arith, ap (λ v. cond v 0 (one_if (p e.0) + counted p a l + counted p a r)) q))
        | inr (inl i) ↦ omega (arith, counted_within p a t l i)
        | inr (inr i) ↦ omega (arith, counted_within p a t r i)
      ]
    ] refl

abbrev keys : Shape → List (List ℕ)
keys t = map (λ e. e.0) (pairs t)

abbrev among : List (List ℕ) → List ℕ → Bool
among ks x = list_any (bytes_eq x) ks

among_front : (ks ms : List (List ℕ)) (x : List ℕ) → among ks x ≡ true → among (ks ++ ms) x ≡ true
among_front [] ms x h = absurd (true≢false (sym h))
among_front (k ∷ ks) ms x h =
    elim (bytes_eq x k) as (λ v. (v || among ks x) ≡ true → (v || among (ks ++ ms) x) ≡ true) [ true ↦ λ g. refl | false ↦ λ g. among_front ks ms x g ] h

among_back : (ks ms : List (List ℕ)) (x : List ℕ) → among ms x ≡ true → among (ks ++ ms) x ≡ true
among_back [] ms x h = h
among_back (k ∷ ks) ms x h =
    elim (bytes_eq x k) as (λ v. (v || among (ks ++ ms) x) ≡ true) [ true ↦ refl | false ↦ among_back ks ms x h ]

among_next : (k : List ℕ) (ks : List (List ℕ)) (x : List ℕ) → among ks x ≡ true → among (k ∷ ks) x ≡ true
among_next k ks x h = among_back (k ∷ []) ks x h

differ_front : (ks ms : List (List ℕ)) → AllDiffer (ks ++ ms) → AllDiffer ks
differ_front [] ms d = tt
differ_front (k ∷ ks) ms d =
    let first : among ks k ≡ false = elim (among ks k) as (λ v. among ks k ≡ v → v ≡ false) [ true ↦ λ g. absurd (true≢false (sym (among_front ks ms k g) ∙ d.0)) | false ↦ λ g. refl ] refl in
    (first, differ_front ks ms d.1)

differ_back : (ks ms : List (List ℕ)) → AllDiffer (ks ++ ms) → AllDiffer ms
differ_back [] ms d = d
differ_back (k ∷ ks) ms d = differ_back ks ms d.1

-- no key of a front stands in what follows
differ_between : (ks ms : List (List ℕ)) → AllDiffer (ks ++ ms) → (x : List ℕ) → among ks x ≡ true → among ms x ≡ false
differ_between [] ms d x h = absurd (true≢false (sym h))
differ_between (k ∷ ks) ms d x h =
    elim (bytes_eq x k) as (λ v. bytes_eq x k ≡ v → (v || among ks x) ≡ true → among ms x ≡ false) [
      | true ↦ λ e g.
          let none : among ms k ≡ false = elim (among ms k) as (λ v. among ms k ≡ v → v ≡ false) [ true ↦ λ f. absurd (true≢false (sym (among_back ks ms k f) ∙ d.0)) | false ↦ λ f. refl ] refl in
          ap (among ms) ((bytes_decides x k).0 e) ∙ none
      | false ↦ λ e g. differ_between ks ms d.1 x g
    ] refl h

-- every key of a tree is among its keys, so all its fresh nodes are counted
fresh_counted : (p : List ℕ → Bool) (a t : Shape) → ((x : List ℕ) → among (keys t) x ≡ true → p x ≡ true) → fresh a t ≤ counted p a t
unfolding fresh
fresh_counted p a Empty i = omega arith
fresh_counted p a (Fork l e r h) i =
    let split : keys (Fork l e r h) ≡ keys l ++ e.0 ∷ keys r = map-append (λ x. x.0) (pairs l) (e ∷ pairs r) in
    let j : (x : List ℕ) → among (keys l ++ e.0 ∷ keys r) x ≡ true → p x ≡ true = λ x g. i x (ap (λ ks. among ks x) split ∙ g) in
    let left = fresh_counted p a l (λ x g. j x (among_front (keys l) (e.0 ∷ keys r) x g)) in
    let right = fresh_counted p a r (λ x g. j x (among_back (keys l) (e.0 ∷ keys r) x (among_next e.0 (keys r) x g))) in
    let itself : among (e.0 ∷ keys r) e.0 ≡ true = ap (λ v. v || among (keys r) e.0) ((bytes_decides e.0 e.0).1 refl) in
    let own : one_if (p e.0) ≡ 1 = ap one_if (j e.0 (among_back (keys l) (e.0 ∷ keys r) e.0 itself)) in
    elim (is_subtree (Fork l e r h) a) as (λ v. cond v 0 (1 + fresh a l + fresh a r) ≤ cond v 0 (one_if (p e.0) + counted p a l + counted p a r)) [ true ↦ omega arith | false ↦ omega arith ]

-- each node of c that is fresh to a is fresh to b, or one that b has and a lacks, with a key of c
told_apart : (a b c : Shape) → HasNoKeyTwice c → fresh a c ≤ counted (among (keys c)) a b + fresh b c
unfolding fresh
told_apart a b Empty d = omega arith
told_apart a b (Fork l e r h) d =
    let whole : Shape = Fork l e r h in
    let split : keys whole ≡ keys l ++ e.0 ∷ keys r = map-append (λ x. x.0) (pairs l) (e ∷ pairs r) in
    let differ : AllDiffer (keys l ++ e.0 ∷ keys r) = subst AllDiffer split d in
    let of_right : AllDiffer (e.0 ∷ keys r) = differ_back (keys l) (e.0 ∷ keys r) differ in
    let left = told_apart a b l (differ_front (keys l) (e.0 ∷ keys r) differ) in
    let right = told_apart a b r of_right.1 in
    let disjoint : (x : List ℕ) → among (keys l) x ≡ true → among (keys r) x ≡ false = λ x g.
    elim (among (keys r) x) as (λ v. among (keys r) x ≡ v → v ≡ false) [
      | true ↦ λ f. absurd (true≢false (sym (among_next e.0 (keys r) x f) ∙ differ_between (keys l) (e.0 ∷ keys r) differ x g))
      | false ↦ λ f. refl
    ] refl in
    let both = counted_both (among (keys l)) (among (keys r)) (among (keys whole)) disjoint
    (λ x g. ap (λ ks. among ks x) split ∙ among_front (keys l) (e.0 ∷ keys r) x g)
    (λ x g. ap (λ ks. among ks x) split ∙ among_back (keys l) (e.0 ∷ keys r) x (among_next e.0 (keys r) x g)) a b in
    let node = fresh_node a l e r h in
    elim (is_subtree whole b) as (λ v. is_subtree whole b ≡ v → fresh a whole ≤ counted (among (keys whole)) a b + cond v 0 (1 + fresh b l + fresh b r)) [
      | true ↦ λ q. omega (arith, fresh_counted (among (keys whole)) a whole (λ x g. g), counted_within (among (keys whole)) a whole b q)
      | false ↦ λ q. omega arith
    ] refl

pub adds_up : (a b c : Shape) → HasNoKeyTwice c → fresh a c ≤ fresh a b + fresh b c
adds_up a b c d = omega (arith, told_apart a b c d, counted_fresh (among (keys c)) a b)
