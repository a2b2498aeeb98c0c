-- How many nodes of a tree are in no subtree of an older one.
use Rattle.std.proofs.Common.{◌≡◌, ◌⊎◌, ℕ, ◌+◌, ◌≤◌, ◌==◌, Bool, true, false, cond, ◌&&◌, ◌||◌, List, max, refl, sym, ap, subst, ◌∙◌, inl, inr, arith, true≢false}
use Rattle.std.specs.Bool.{Decides}
use Rattle.std.specs.Cmp.Lexicographic.{bytes_decides}
use Rattle.std.proofs.lemmas.Bool.Decides.{Decides-and, Decides-like, Decides-eqb}
use Rattle.ty_base.specs.Feed.{same_pair}
use Rattle.ty_map.specs.Shape.{Shape, Empty, Fork, height}
use Rattle.ty_map.specs.Fresh.{same_shape, is_subtree, fresh}
use Rattle.ty_map.specs.steps.Tree.{AtMostFresh}

or_left : (a b : Bool) → a ≡ true → (a || b) ≡ true
or_left a b p = ap (λ x. x || b) p

or_right : (a b : Bool) → b ≡ true → (a || b) ≡ true
or_right true b p = refl
or_right false b p = p

or_cases : (a b : Bool) → (a || b) ≡ true → (a ≡ true) ⊎ (b ≡ true)
or_cases true b p = inl refl
or_cases false b p = inr p

pairs_decide : (a b : List ℕ × List ℕ) → Decides (same_pair a b) (a ≡ b)
pairs_decide a b = Decides-like (same_pair a b) (λ (p, q). λ i. (p i, q i)) (λ e. (ap (λ x. x.0) e, ap (λ x. x.1) e)) (Decides-and _ _ (bytes_decides a.0 b.0) (bytes_decides a.1 b.1))

and_both : (a b : Bool) → (a && b) ≡ true → (a ≡ true) × (b ≡ true)
and_both true b p = (refl, p)
and_both false b p = absurd (true≢false (sym p))

-- the test of two trees says whether they are one
pub shapes_same : (t u : Shape) → same_shape t u ≡ true → t ≡ u
shapes_same Empty Empty p = refl
shapes_same Empty (Fork m f s k) p = absurd (true≢false (sym p))
shapes_same (Fork l e r h) Empty p = absurd (true≢false (sym p))
shapes_same (Fork l e r h) (Fork m f s k) p =
    let a = and_both (same_pair e f) ((h == k) && (same_shape l m && same_shape r s)) p in
    let b = and_both (h == k) (same_shape l m && same_shape r s) a.1 in
    let d = and_both (same_shape l m) (same_shape r s) b.1 in
    let el = shapes_same l m d.0 in
    let er = shapes_same r s d.1 in
    let ee = (pairs_decide e f).0 a.0 in
    let eh = (Decides-eqb h k).0 b.0 in
    λ i. Fork (el i) (ee i) (er i) (eh i)

same_itself : (t : Shape) → same_shape t t ≡ true
same_itself Empty = refl
same_itself (Fork l e r h) =
    ap (λ b. b && ((h == h) && (same_shape l l && same_shape r r))) ((pairs_decide e e).1 refl)
    ∙ ap (λ b. b && (same_shape l l && same_shape r r)) ((Decides-eqb h h).1 refl)
    ∙ ap (λ b. b && same_shape r r) (same_itself l)
    ∙ same_itself r

pub subtree_itself : (t : Shape) → is_subtree t t ≡ true
subtree_itself Empty = refl
subtree_itself (Fork l e r h) = or_left (same_shape (Fork l e r h) (Fork l e r h)) (is_subtree (Fork l e r h) l || is_subtree (Fork l e r h) r) (same_itself (Fork l e r h))

below_left : (t l : Shape) (e : List ℕ × List ℕ) (r : Shape) (h : ℕ) → is_subtree t l ≡ true → is_subtree t (Fork l e r h) ≡ true
below_left t l e r h p = or_right (same_shape t (Fork l e r h)) (is_subtree t l || is_subtree t r) (or_left (is_subtree t l) (is_subtree t r) p)

below_right : (t l : Shape) (e : List ℕ × List ℕ) (r : Shape) (h : ℕ) → is_subtree t r ≡ true → is_subtree t (Fork l e r h) ≡ true
below_right t l e r h p = or_right (same_shape t (Fork l e r h)) (is_subtree t l || is_subtree t r) (or_right (is_subtree t l) (is_subtree t r) p)

-- where a subtree is: the tree itself, or below one of its sides
pub subtree_cases : (t l : Shape) (e : List ℕ × List ℕ) (r : Shape) (h : ℕ) → is_subtree t (Fork l e r h) ≡ true → (t ≡ Fork l e r h) ⊎ ((is_subtree t l ≡ true) ⊎ (is_subtree t r ≡ true))
subtree_cases t l e r h p =
    elim (or_cases (same_shape t (Fork l e r h)) (is_subtree t l || is_subtree t r) p) [
      | inl q ↦ inl (shapes_same t (Fork l e r h) q)
      | inr q ↦ inr (or_cases (is_subtree t l) (is_subtree t r) q)
    ]

-- the sides of a subtree are subtrees
pub left_subtree : (t l : Shape) (e : List ℕ × List ℕ) (r : Shape) (h : ℕ) → is_subtree (Fork l e r h) t ≡ true → is_subtree l t ≡ true
left_subtree Empty l e r h p = absurd (true≢false (sym p))
left_subtree (Fork a x b k) l e r h p =
    elim (subtree_cases (Fork l e r h) a x b k p) [
      | inl q ↦ subst (λ s. is_subtree l s ≡ true) q (below_left l l e r h (subtree_itself l))
      | inr (inl q) ↦ below_left l a x b k (left_subtree a l e r h q)
      | inr (inr q) ↦ below_right l a x b k (left_subtree b l e r h q)
    ]

pub right_subtree : (t l : Shape) (e : List ℕ × List ℕ) (r : Shape) (h : ℕ) → is_subtree (Fork l e r h) t ≡ true → is_subtree r t ≡ true
right_subtree Empty l e r h p = absurd (true≢false (sym p))
right_subtree (Fork a x b k) l e r h p =
    elim (subtree_cases (Fork l e r h) a x b k p) [
      | inl q ↦ subst (λ s. is_subtree r s ≡ true) q (below_right r l e r h (subtree_itself r))
      | inr (inl q) ↦ below_left r a x b k (right_subtree a l e r h q)
      | inr (inr q) ↦ below_right r a x b k (right_subtree b l e r h q)
    ]

pub fresh-subtree : (old t : Shape) → is_subtree t old ≡ true → fresh old t ≡ 0
unfolding fresh
fresh-subtree old Empty p = refl
fresh-subtree old (Fork l e r h) p = ap (λ b. cond b 0 (1 + fresh old l + fresh old r)) p

-- a node adds at most itself to what its sides have
pub fresh_node : (old l : Shape) (e : List ℕ × List ℕ) (r : Shape) (h : ℕ) → fresh old (Fork l e r h) ≤ 1 + fresh old l + fresh old r
unfolding fresh
fresh_node old l e r h = elim (is_subtree (Fork l e r h) old) as (λ b. cond b 0 (1 + fresh old l + fresh old r) ≤ 1 + fresh old l + fresh old r) [ true ↦ omega arith | false ↦ omega arith ]

pub fresh_sides : (old l : Shape) (e : List ℕ × List ℕ) (r : Shape) (h : ℕ) → fresh old l + fresh old r ≤ fresh old (Fork l e r h)
unfolding fresh
fresh_sides old l e r h =
    elim (is_subtree (Fork l e r h) old) as (λ b. is_subtree (Fork l e r h) old ≡ b → fresh old l + fresh old r ≤ cond b 0 (1 + fresh old l + fresh old r)) [
      | true ↦ λ p. omega (arith, fresh-subtree old l (left_subtree old l e r h p), fresh-subtree old r (right_subtree old l e r h p))
      | false ↦ λ p. omega arith
    ] refl

-- what is fresh to a tree is fresh to its sides
under : (old side t : Shape) → ((s : Shape) → is_subtree s side ≡ true → is_subtree s old ≡ true) → fresh old t ≤ fresh side t
unfolding fresh
under old side Empty h = omega arith
under old side (Fork a x b k) h =
    elim (is_subtree (Fork a x b k) side) as (λ v. is_subtree (Fork a x b k) side ≡ v → fresh old (Fork a x b k) ≤ cond v 0 (1 + fresh side a + fresh side b)) [
      | true ↦ λ p. omega (arith, fresh-subtree old (Fork a x b k) (h (Fork a x b k) p))
      | false ↦ λ p. omega (arith, fresh_node old a x b k, under old side a h, under old side b h)
    ] refl

pub under_left : (l : Shape) (e : List ℕ × List ℕ) (r : Shape) (h : ℕ) (t : Shape) (n : ℕ) → AtMostFresh l t n → AtMostFresh (Fork l e r h) t n
under_left l e r h t n p = omega (arith, under (Fork l e r h) l t (λ s q. below_left s l e r h q))

pub under_right : (l : Shape) (e : List ℕ × List ℕ) (r : Shape) (h : ℕ) (t : Shape) (n : ℕ) → AtMostFresh r t n → AtMostFresh (Fork l e r h) t n
under_right l e r h t n p = omega (arith, under (Fork l e r h) r t (λ s q. below_right s l e r h q))

pub left_shared : (l : Shape) (e : List ℕ × List ℕ) (r : Shape) (h n : ℕ) → AtMostFresh (Fork l e r h) l n
left_shared l e r h n = omega (arith, fresh-subtree (Fork l e r h) l (below_left l l e r h (subtree_itself l)))

pub right_shared : (l : Shape) (e : List ℕ × List ℕ) (r : Shape) (h n : ℕ) → AtMostFresh (Fork l e r h) r n
right_shared l e r h n = omega (arith, fresh-subtree (Fork l e r h) r (below_right r l e r h (subtree_itself r)))

-- a node at its right height
abbrev pub node_of : Shape → List ℕ × List ℕ → Shape → Shape
node_of l e r = Fork l e r (max (height l) (height r) + 1)

pub node_same : {l l' r r' : Shape} {e e' : List ℕ × List ℕ} → l ≡ l' → e ≡ e' → r ≡ r' → node_of l e r ≡ node_of l' e' r'
node_same p q s = λ i. node_of (p i) (q i) (s i)

pub made_node : (old l : Shape) (e : List ℕ × List ℕ) (r : Shape) (a b n : ℕ) → AtMostFresh old l a → AtMostFresh old r b → a + b + 1 ≤ n → AtMostFresh old (node_of l e r) n
made_node old l e r a b n p q le = omega (arith, fresh_node old l e r (max (height l) (height r) + 1))

-- the forms that a rotation leaves
pub turned_once_left : (old x : Shape) (j : List ℕ × List ℕ) (y : Shape) (h : ℕ) (k : List ℕ × List ℕ) (z : Shape) (a b : ℕ) → AtMostFresh old (Fork x j y h) a → AtMostFresh old z b → AtMostFresh old (node_of x j (node_of y k z)) (a + b + 3)
turned_once_left old x j y h k z a b p q =
    let s = fresh_sides old x j y h in
    let low = fresh_node old y k z (max (height y) (height z) + 1) in
    let top = fresh_node old x j (node_of y k z) (max (height x) (height (node_of y k z)) + 1) in omega arith

pub turned_once_right : (old x : Shape) (j : List ℕ × List ℕ) (y : Shape) (h : ℕ) (k : List ℕ × List ℕ) (z : Shape) (a b : ℕ) → AtMostFresh old z a → AtMostFresh old (Fork y j x h) b → AtMostFresh old (node_of (node_of z k y) j x) (a + b + 3)
turned_once_right old x j y h k z a b p q =
    let s = fresh_sides old y j x h in
    let low = fresh_node old z k y (max (height z) (height y) + 1) in
    let top = fresh_node old (node_of z k y) j x (max (height (node_of z k y)) (height x) + 1) in omega arith

pub turned_twice_left : (old x : Shape) (j : List ℕ × List ℕ) (u : Shape) (i : List ℕ × List ℕ) (v : Shape) (m h : ℕ) (k : List ℕ × List ℕ) (z : Shape) (a b : ℕ) → AtMostFresh old (Fork x j (Fork u i v m) h) a → AtMostFresh old z b
    → AtMostFresh old (node_of (node_of x j u) i (node_of v k z)) (a + b + 3)
turned_twice_left old x j u i v m h k z a b p q =
    let s = fresh_sides old x j (Fork u i v m) h in
    let w = fresh_sides old u i v m in
    let low = fresh_node old x j u (max (height x) (height u) + 1) in
    let high = fresh_node old v k z (max (height v) (height z) + 1) in
    let top = fresh_node old (node_of x j u) i (node_of v k z) (max (height (node_of x j u)) (height (node_of v k z)) + 1) in omega arith

pub turned_twice_right : (old x : Shape) (j : List ℕ × List ℕ) (u : Shape) (i : List ℕ × List ℕ) (v : Shape) (m h : ℕ) (k : List ℕ × List ℕ) (z : Shape) (a b : ℕ) → AtMostFresh old z a → AtMostFresh old (Fork (Fork u i v m) j x h) b
    → AtMostFresh old (node_of (node_of z k u) i (node_of v j x)) (a + b + 3)
turned_twice_right old x j u i v m h k z a b p q =
    let s = fresh_sides old (Fork u i v m) j x h in
    let w = fresh_sides old u i v m in
    let low = fresh_node old z k u (max (height z) (height u) + 1) in
    let high = fresh_node old v j x (max (height v) (height x) + 1) in
    let top = fresh_node old (node_of z k u) i (node_of v j x) (max (height (node_of z k u)) (height (node_of v j x)) + 1) in omega arith

pub empty_fresh : (old : Shape) (n : ℕ) → AtMostFresh old Empty n
unfolding fresh
empty_fresh old n = omega arith

pub at_most-more : (old t : Shape) (n m : ℕ) → n ≤ m → AtMostFresh old t n → AtMostFresh old t m
at_most-more old t n m le p = omega arith

pub fresh_is : (old t l : Shape) (e : List ℕ × List ℕ) (r : Shape) (h : ℕ) → t ≡ Fork l e r h → is_subtree t old ≡ false → fresh old t ≡ 1 + fresh old l + fresh old r
unfolding fresh
fresh_is old t l e r h is p = ap (fresh old) is ∙ ap (λ b. cond b 0 (1 + fresh old l + fresh old r)) (ap (λ s. is_subtree s old) (sym is) ∙ p)
