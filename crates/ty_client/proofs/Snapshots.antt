-- A snapshot gives its map back, and the deltas between two entries lead from the one's map to the other's.
use Rattle.std.proofs.Common.{T, ◌≡◌, ℕ, ◌+◌, ◌-◌, ◌≤◌, Bool, true, false, ◌&&◌, List, [], ◌∷◌, ◌++◌, take, refl, sym, ap, subst, ◌∙◌, arith, append_assoc, append-nil, take-add}
use Rattle.std.specs.Prelude.{flat_map}
use Rattle.std.specs.List.{fold, AllByRecursion, slice_range}
use Rattle.std.specs.Ordering.{nat_cmp, is_lt, ordering_reverse}
use Rattle.std.specs.declared.cmp.Ordering.{Ordering}
use Rattle.std.specs.declared.cmp.Ordering.TheVariants.{Less, Equal, Greater}
use Rattle.std.specs.Cmp.Lexicographic.{slice_cmp, nat_list_cmp_total}
use Rattle.std.specs.FinMap.Entries.{by_order, below_all, is_sorted}
use Rattle.std.proofs.lemmas.List.Sums.{fold-append}
use Rattle.ty_base.specs.declared.entry.Entry.{Entry}
use Rattle.ty_base.specs.declared.delta.Delta.{Delta}
use Rattle.ty_base.specs.Feed.{Pairs, World, start, insert, changed, published, replay}
use Rattle.ty_base.proofs.Pairs.{IsInOrder, in_order-changed}
use Rattle.ty_wire.specs.Talk.{snapshot, world_after, deltas_between}

-- ---- what a replay leaves

fold_pairs : (es : List Entry) (w : World) → (fold published w es).pairs ≡ fold changed w.pairs (flat_map (λ e. e.deltas) es)
fold_pairs [] w = refl
fold_pairs (e ∷ es) w = fold_pairs es (published w e) ∙ sym (fold-append changed w.pairs e.deltas (flat_map (λ x. x.deltas) es))

pub replay_in_order : (es : List Entry) → IsInOrder (replay es).pairs
unfolding replay
replay_in_order es = subst IsInOrder (sym (fold_pairs es start)) (in_order-changed (flat_map (λ e. e.deltas) es) [] tt)

-- the deltas of the entries behind `from` up to the n-th lead from the one map to the other
pub between : (es : List Entry) (from n : ℕ) → from ≤ n → fold changed (world_after es from).pairs (deltas_between es from n) ≡ (world_after es n).pairs
unfolding replay
between es from n h =
    let e : from + (n - from) ≡ n = omega arith in
    let part : List Entry = slice_range es from n in
    sym (
    ap (λ (k : ℕ). (replay (take k es)).pairs) (sym e)
    ∙ ap (λ (l : List Entry). (replay l).pairs) (take-add from (n - from) es)
    ∙ ap (λ (w : World). w.pairs) (fold-append published start (take from es) part)
    ∙ fold_pairs part (world_after es from))

-- ---- pairs put in the order of their keys

first : (a b : Bool) → T (a && b) → T a
first true b h = tt
first false b h = h

second : (a b : Bool) → T (a && b) → T b
second true b h = h
second false b h = absurd h

-- a key is above all keys of a map
IsLast : Pairs → List ℕ → Type 0
IsLast m k = AllByRecursion (λ e. slice_cmp nat_cmp k e.0 ≡ Greater) m

put_last : (m : Pairs) (k v : List ℕ) → IsLast m k → insert m k v ≡ m ++ (k, v) ∷ []
unfolding IsLast
put_last [] k v h = refl
put_last (e ∷ m) k v h =
    ap (λ (o : Ordering). by_order o ((k, v) ∷ e ∷ m) ((e.0, v) ∷ m) (e ∷ insert m k v)) h.0
    ∙ ap (λ (l : Pairs). e ∷ l) (put_last m k v h.1)

above : (x y : List ℕ) → T (is_lt (slice_cmp nat_cmp x y)) → slice_cmp nat_cmp y x ≡ Greater
above x y h = nat_list_cmp_total.antisymm y x ∙ less (slice_cmp nat_cmp x y) h
  where
    less : (o : Ordering) → T (is_lt o) → ordering_reverse o ≡ Greater
    less Less t = refl
    less Equal t = absurd t
    less Greater t = absurd t

last_more : (m : Pairs) (p : List ℕ × List ℕ) (k : List ℕ) → IsLast m k → slice_cmp nat_cmp k p.0 ≡ Greater → IsLast (m ++ p ∷ []) k
unfolding IsLast
last_more [] p k h g = (g, tt)
last_more (e ∷ m) p k h g = (h.0, last_more m p k h.1 g)

-- each of these pairs comes behind the map
Behind : Pairs → Pairs → Type 0
Behind m more = AllByRecursion (λ p. IsLast m p.0) more

behind_more : (m : Pairs) (p : List ℕ × List ℕ) (more : Pairs) → Behind m more → T (below_all (slice_cmp nat_cmp) p.0 more) → Behind (m ++ p ∷ []) more
unfolding Behind
behind_more m p [] h b = tt
behind_more m p (q ∷ more) h b = (
  last_more m p q.0 h.0 (above p.0 q.0 (first (is_lt (slice_cmp nat_cmp p.0 q.0)) (below_all (slice_cmp nat_cmp) p.0 more) b)),
  behind_more m p more h.1 (second (is_lt (slice_cmp nat_cmp p.0 q.0)) (below_all (slice_cmp nat_cmp) p.0 more) b),
)

behind_none : (more : Pairs) → Behind [] more
unfolding Behind IsLast
behind_none [] = tt
behind_none (p ∷ more) = (tt, behind_none more)

abbrev told : Pairs → List Delta
told m = snapshot (record start { pairs = m })

put_all : (m more : Pairs) → IsInOrder more → Behind m more → fold changed m (told more) ≡ m ++ more
unfolding Behind
put_all m [] s b = sym (append-nil m)
put_all m (p ∷ more) s b =
    ap (λ (l : Pairs). fold changed l (told more)) (put_last m p.0 p.1 b.0)
    ∙ put_all (m ++ p ∷ []) more (second (below_all (slice_cmp nat_cmp) p.0 more) (is_sorted (slice_cmp nat_cmp) more) s)
    (behind_more m p more b.1 (first (below_all (slice_cmp nat_cmp) p.0 more) (is_sorted (slice_cmp nat_cmp) more) s))
    ∙ append_assoc m (p ∷ []) more

-- a snapshot's deltas, on the empty map, give all its pairs
pub snapshot_back : (es : List Entry) (n : ℕ) → fold changed [] (snapshot (world_after es n)) ≡ (world_after es n).pairs
snapshot_back es n = put_all [] (world_after es n).pairs (replay_in_order (take n es)) (behind_none (world_after es n).pairs)
