-- A node that is written in place: one side put in again at its old height, or its pair given another value.
use Rattle.std.proofs.Common.{◌≡◌, ℕ, Bool, not, [], ◌*◌, ◌+◌, ◌<◌, arith, max, length, length-append, List, ◌∷◌, ◌++◌, Less, Equal, Greater, ap, sym, subst, ◌∙◌}
use Rattle.std.specs.Prelude.{Some}
use Rattle.std.specs.Ordering.{nat_cmp}
use Rattle.std.specs.Cmp.Lexicographic.{slice_cmp, nat_list_cmp_total, texts_ties}
use Rattle.std.specs.FinMap.{slice_cmp-IsAntisymmetric, nat_cmp-IsAntisymmetric}
use Rattle.std.specs.Str.{bytes_eq}
use Rattle.ty_base.specs.Feed.{get, insert, remove}
use Rattle.ty_map.specs.Ascending.{IsAscending}
use Rattle.ty_map.specs.Shape.{Shape, Fork, pairs, height, IsBalanced, DifferByAtMost}
use Rattle.ty_map.specs.steps.Tree.{AtMostFresh}
use Rattle.ty_map.proofs.Order.{OnlyFails, find_left, find_right, find_middle, put_left, put_right, put_middle, sorted_put_middle, remove_left, remove_right, remove_middle, sorted_remove_left, sorted_remove_right, sorted_remove_middle}
use Rattle.ty_map.proofs.Nodes.{append_nil}
use Rattle.ty_map.proofs.FreshCounts.{fresh_node, under_left, under_right, left_shared, right_shared, at_most-more, fresh-subtree, subtree_itself}

abbrev Entry : Type 0
Entry = List ℕ × List ℕ

-- what holds of a node with these fields
abbrev pub Sound : Shape → Entry → Shape → ℕ → ℕ → Type 0
Sound l e r h c =
    IsAscending (pairs l ++ e ∷ pairs r)
    × (h ≡ max (height l) (height r) + 1)
    × DifferByAtMost 1 (height l) (height r)
    × (c ≡ length (pairs l ++ e ∷ pairs r))
    × IsBalanced l
    × IsBalanced r

pub sound_left : (l : Shape) (e : Entry) (r : Shape) (h c : ℕ) (m : Shape) (d : ℕ) → Sound l e r h c → IsAscending (pairs m ++ e ∷ pairs r) → height m ≡ height l → IsBalanced m → d + length (pairs l) ≡ c + length (pairs m) → Sound m e r h d
sound_left l e r h c m d g s eh b ed =
    let before = length-append (pairs l) (e ∷ pairs r) in
    let after = length-append (pairs m) (e ∷ pairs r) in
    (s, g.1 ∙ ap (λ x. max x (height r) + 1) (sym eh), subst (λ x. DifferByAtMost 1 x (height r)) (sym eh) g.2, omega (arith, g.3, ed, before, after), b, g.5)

pub sound_right : (l : Shape) (e : Entry) (r : Shape) (h c : ℕ) (m : Shape) (d : ℕ) → Sound l e r h c → IsAscending (pairs l ++ e ∷ pairs m) → height m ≡ height r → IsBalanced m → d + length (pairs r) ≡ c + length (pairs m) → Sound l e m h d
sound_right l e r h c m d g s eh b ed =
    let before = length-append (pairs l) (e ∷ pairs r) in
    let after = length-append (pairs l) (e ∷ pairs m) in
    (s, g.1 ∙ ap (λ x. max (height l) x + 1) (sym eh), subst (λ x. DifferByAtMost 1 (height l) x) (sym eh) g.2, omega (arith, g.3, ed, before, after), g.4, b)

-- the pair with the key's new value
pub same_key : (k v : List ℕ) (e f : Entry) → slice_cmp nat_cmp k e.0 ≡ Equal → f ≡ (k, v) → (e.0, v) ≡ f
same_key k v e f p ef =
    let same = slice_cmp-IsAntisymmetric nat_cmp-IsAntisymmetric k e.0 p in
    let middle : (e.0, v) ≡ (k, v) = λ i. (sym same i, v) in
    middle ∙ sym ef

pub sound_middle : (k v : List ℕ) (l : Shape) (e : Entry) (r : Shape) (h c : ℕ) (f : Entry) → Sound l e r h c → slice_cmp nat_cmp k e.0 ≡ Equal → f ≡ (k, v) → Sound l f r h c
sound_middle k v l e r h c f g p ef =
    let s = subst (λ x. IsAscending (pairs l ++ x ∷ pairs r)) (same_key k v e f p ef) (sorted_put_middle (slice_cmp nat_cmp) nat_list_cmp_total k v (pairs l) e (pairs r) p g.0) in
    let before = length-append (pairs l) (e ∷ pairs r) in
    let after = length-append (pairs l) (f ∷ pairs r) in
    (s, g.1, g.2, omega (arith, g.3, before, after), g.4, g.5)

-- the pairs of what becomes of a node
pub pairs_left : (k v : List ℕ) (t l : Shape) (e : Entry) (r : Shape) (h : ℕ) (m : Shape) → t ≡ Fork l e r h → slice_cmp nat_cmp k e.0 ≡ Less → pairs m ≡ insert (pairs l) k v → pairs m ++ e ∷ pairs r ≡ insert (pairs t) k v
pairs_left k v t l e r h m is p em =
    ap (λ x. x ++ e ∷ pairs r) em ∙ sym (put_left (slice_cmp nat_cmp) k v (pairs l) e (pairs r) p) ∙ ap (λ d. insert (pairs d) k v) (sym is)

pub pairs_right : (k v : List ℕ) (t l : Shape) (e : Entry) (r : Shape) (h : ℕ) (m : Shape) → t ≡ Fork l e r h → slice_cmp nat_cmp k e.0 ≡ Greater → IsAscending (pairs l ++ e ∷ pairs r) → pairs m ≡ insert (pairs r) k v → pairs l ++ e ∷ pairs m ≡ insert (pairs t) k v
pairs_right k v t l e r h m is p g em =
    ap (λ x. pairs l ++ e ∷ x) em ∙ sym (put_right (slice_cmp nat_cmp) nat_list_cmp_total k v (pairs l) e (pairs r) p g) ∙ ap (λ d. insert (pairs d) k v) (sym is)

pub pairs_middle : (k v : List ℕ) (t l : Shape) (e : Entry) (r : Shape) (h : ℕ) (f : Entry) → t ≡ Fork l e r h → slice_cmp nat_cmp k e.0 ≡ Equal → IsAscending (pairs l ++ e ∷ pairs r) → f ≡ (k, v) → pairs l ++ f ∷ pairs r ≡ insert (pairs t) k v
pairs_middle k v t l e r h f is p g ef =
    ap (λ x. pairs l ++ x ∷ pairs r) (sym (same_key k v e f p ef)) ∙ sym (put_middle (slice_cmp nat_cmp) nat_list_cmp_total k v (pairs l) e (pairs r) p g) ∙ ap (λ d. insert (pairs d) k v) (sym is)

-- what a node has at a key
pub found_left : (k : List ℕ) (t l : Shape) (e : Entry) (r : Shape) (h : ℕ) → t ≡ Fork l e r h → slice_cmp nat_cmp k e.0 ≡ Less → IsAscending (pairs l ++ e ∷ pairs r) → get (pairs l) k ≡ get (pairs t) k
found_left k t l e r h is p g = sym (find_left (slice_cmp nat_cmp) nat_list_cmp_total k (pairs l) e (pairs r) p g) ∙ ap (λ d. get (pairs d) k) (sym is)

pub found_right : (k : List ℕ) (t l : Shape) (e : Entry) (r : Shape) (h : ℕ) → t ≡ Fork l e r h → slice_cmp nat_cmp k e.0 ≡ Greater → IsAscending (pairs l ++ e ∷ pairs r) → get (pairs r) k ≡ get (pairs t) k
found_right k t l e r h is p g = sym (find_right (slice_cmp nat_cmp) nat_list_cmp_total k (pairs l) e (pairs r) p g) ∙ ap (λ d. get (pairs d) k) (sym is)

pub found_middle : (k : List ℕ) (t l : Shape) (e : Entry) (r : Shape) (h : ℕ) → t ≡ Fork l e r h → slice_cmp nat_cmp k e.0 ≡ Equal → IsAscending (pairs l ++ e ∷ pairs r) → Some e.1 ≡ get (pairs t) k
found_middle k t l e r h is p g = sym (find_middle (slice_cmp nat_cmp) nat_list_cmp_total k (pairs l) e (pairs r) p g) ∙ ap (λ d. get (pairs d) k) (sym is)

-- the same where a key is removed
abbrev other : List ℕ → List ℕ → Bool
other q x = not (bytes_eq q x)

only : (q : List ℕ) → OnlyFails (slice_cmp nat_cmp) q (other q)
only q x = ap not (texts_ties q x)

pub sorted_removed_left : (q : List ℕ) (l : Shape) (e : Entry) (r : Shape) → slice_cmp nat_cmp q e.0 ≡ Less → IsAscending (pairs l ++ e ∷ pairs r) → IsAscending (remove (pairs l) q ++ e ∷ pairs r)
sorted_removed_left q l e r p g = sorted_remove_left (slice_cmp nat_cmp) nat_list_cmp_total q (other q) (only q) (pairs l) e (pairs r) p g

pub sorted_removed_right : (q : List ℕ) (l : Shape) (e : Entry) (r : Shape) → slice_cmp nat_cmp q e.0 ≡ Greater → IsAscending (pairs l ++ e ∷ pairs r) → IsAscending (pairs l ++ e ∷ remove (pairs r) q)
sorted_removed_right q l e r p g = sorted_remove_right (slice_cmp nat_cmp) nat_list_cmp_total q (other q) (only q) (pairs l) e (pairs r) p g

pub sorted_removed_middle : (q : List ℕ) (l : Shape) (e : Entry) (r : Shape) → slice_cmp nat_cmp q e.0 ≡ Equal → IsAscending (pairs l ++ e ∷ pairs r) → IsAscending (pairs l ++ pairs r)
sorted_removed_middle q l e r p g = sorted_remove_middle (slice_cmp nat_cmp) nat_list_cmp_total q (other q) (only q) (pairs l) e (pairs r) p g

pub removed_left : (q : List ℕ) (t l : Shape) (e : Entry) (r : Shape) (h : ℕ) (m : Shape) → t ≡ Fork l e r h → slice_cmp nat_cmp q e.0 ≡ Less → IsAscending (pairs l ++ e ∷ pairs r) → pairs m ≡ remove (pairs l) q → pairs m ++ e ∷ pairs r ≡ remove (pairs t) q
removed_left q t l e r h m is p g em =
    ap (λ x. x ++ e ∷ pairs r) em ∙ sym (remove_left (slice_cmp nat_cmp) nat_list_cmp_total q (other q) (only q) (pairs l) e (pairs r) p g) ∙ ap (λ d. remove (pairs d) q) (sym is)

pub removed_right : (q : List ℕ) (t l : Shape) (e : Entry) (r : Shape) (h : ℕ) (m : Shape) → t ≡ Fork l e r h → slice_cmp nat_cmp q e.0 ≡ Greater → IsAscending (pairs l ++ e ∷ pairs r) → pairs m ≡ remove (pairs r) q → pairs l ++ e ∷ pairs m ≡ remove (pairs t) q
removed_right q t l e r h m is p g em =
    ap (λ x. pairs l ++ e ∷ x) em ∙ sym (remove_right (slice_cmp nat_cmp) nat_list_cmp_total q (other q) (only q) (pairs l) e (pairs r) p g) ∙ ap (λ d. remove (pairs d) q) (sym is)

pub removed_middle : (q : List ℕ) (t l : Shape) (e : Entry) (r : Shape) (h : ℕ) → t ≡ Fork l e r h → slice_cmp nat_cmp q e.0 ≡ Equal → IsAscending (pairs l ++ e ∷ pairs r) → pairs l ++ pairs r ≡ remove (pairs t) q
removed_middle q t l e r h is p g =
    sym (remove_middle (slice_cmp nat_cmp) nat_list_cmp_total q (other q) (only q) (pairs l) e (pairs r) p g) ∙ ap (λ d. remove (pairs d) q) (sym is)

pub removed_last : (q : List ℕ) (t l : Shape) (e : Entry) (r : Shape) (h : ℕ) → t ≡ Fork l e r h → slice_cmp nat_cmp q e.0 ≡ Equal → IsAscending (pairs l ++ e ∷ pairs r) → pairs r ≡ [] → pairs l ≡ remove (pairs t) q
removed_last q t l e r h is p g none =
    sym (append_nil (pairs l)) ∙ ap (λ x. pairs l ++ x) (sym none) ∙ removed_middle q t l e r h is p g

-- how many of its nodes are fresh
pub fresh_middle : (t l : Shape) (e : Entry) (r : Shape) (h : ℕ) (f : Entry) → t ≡ Fork l e r h → AtMostFresh t (Fork l f r h) (3 * (height t + 1))
fresh_middle t l e r h f is =
    let old = Fork l e r h in
    let left = left_shared l e r h 0 in
    let right = right_shared l e r h 0 in
    subst (λ s. AtMostFresh s (Fork l f r h) (3 * (height s + 1))) (sym is) (omega (arith, fresh_node old l f r h, left, right))

pub kept_node : (old l : Shape) (e : Entry) (r : Shape) (h a b : ℕ) → AtMostFresh old l a → AtMostFresh old r b → AtMostFresh old (Fork l e r h) (a + b + 3)
kept_node old l e r h a b p q = omega (arith, fresh_node old l e r h, p, q)

pub none_fresh : (t : Shape) (n : ℕ) → AtMostFresh t t n
none_fresh t n = omega (arith, fresh-subtree t t (subtree_itself t))

-- what a node with a new side m settles to
abbrev Settles : Shape → Shape → Shape → Type 0
Settles one other s = (old : Shape) (a b : ℕ) → AtMostFresh old one a → AtMostFresh old other b → AtMostFresh old s (a + b + 3)

pub settled_left : (t l : Shape) (e : Entry) (r : Shape) (h : ℕ) (m s : Shape) → t ≡ Fork l e r h → height l < h → AtMostFresh l m (3 * (height l + 1)) → Settles m r s → AtMostFresh t s (3 * (height t + 1))
settled_left t l e r h m s is lower new f =
    let old = Fork l e r h in
    let b : ℕ = 3 * (height l + 1) in
    let all = f old b 0 (under_left l e r h m b new) (right_shared l e r h 0) in
    subst (λ x. AtMostFresh x s (3 * (height x + 1))) (sym is) (at_most-more old s (b + 0 + 3) (3 * (h + 1)) (omega (arith, lower)) all)

pub settled_right : (t l : Shape) (e : Entry) (r : Shape) (h : ℕ) (m s : Shape) → t ≡ Fork l e r h → height r < h → AtMostFresh r m (3 * (height r + 1)) → Settles l m s → AtMostFresh t s (3 * (height t + 1))
settled_right t l e r h m s is lower new f =
    let old = Fork l e r h in
    let b : ℕ = 3 * (height r + 1) in
    let all = f old 0 b (left_shared l e r h 0) (under_right l e r h m b new) in
    subst (λ x. AtMostFresh x s (3 * (height x + 1))) (sym is) (at_most-more old s (0 + b + 3) (3 * (h + 1)) (omega (arith, lower)) all)
