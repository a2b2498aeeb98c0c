-- Each change of a batch makes few nodes, and a batch at most so many for each of its updates.
use Rattle.std.proofs.Common.{◌≡◌, ℕ, ◌+◌, ◌*◌, ◌^◌, ◌<◌, ◌≤◌, Bool, not, List, [], ◌∷◌, length, refl, sym, ap, subst, arith, add-mul, mul-le-mul_right, Less, Equal, Greater}
use Rattle.std.specs.Prelude.{Option, None, Some}
use Rattle.std.specs.Ordering.{nat_cmp}
use Rattle.std.specs.Cmp.Lexicographic.{slice_cmp}
use Rattle.std.specs.List.{filter, filter_map, count_by}
use Rattle.std.specs.Str.{bytes_eq}
use Rattle.std.specs.FinMap.Entries.{by_order}
use Rattle.ty_base.specs.Readings.{last_put}
use Rattle.std.proofs.lemmas.Nat.{mul-le}
use Rattle.std.proofs.lemmas.List.{length-map}
use Rattle.std.proofs.lemmas.List.Sums.{length-filter, count_by-le-length}
use Rattle.ty_base.specs.declared.item.Item.{Item}
use Rattle.ty_base.specs.declared.item.Item.TheVariants.{Put, Del, State, Mark}
use Rattle.ty_base.specs.Feed.{Pairs, is_update, key_of, firsts, put_value}
use Rattle.ty_base.proofs.Pairs.{in_order-put_value}
use Rattle.ty_map.specs.Ascending.{IsAscending}
use Rattle.ty_map.specs.Fresh.{fresh}
use Rattle.ty_map.specs.Heights.{greatest_height}
use Rattle.ty_map.specs.Shape.{Shape, pairs, height}
use Rattle.ty_map.proofs.Ascending.{no_key_twice}
use Rattle.ty_map.proofs.FreshCounts.{fresh-subtree, subtree_itself}
use Rattle.ty_map.proofs.FreshSums.{adds_up}
use Rattle.ty_map.proofs.Heights.{height_within, height_greatest, square}
use Rattle.ty_dedupe.specs.Pending.{pending}
use Rattle.ty_crumb.specs.Crumbs.{most_fresh}
use Rattle.ty_crumb.specs.steps.Spent.{Spent}

squares_rise : (a b : ℕ) → a ≤ b → a ^ 2 ≤ b ^ 2
squares_rise a b h = omega (arith, square a, square b, mul-le a a b b h h)

-- the greatest height rises with the pairs
heights_rise : (a b : ℕ) → a ≤ b → greatest_height a ≤ greatest_height b
heights_rise a b h = height_greatest b (greatest_height a) (omega (arith, height_within a, squares_rise (a + 1) (b + 1) (omega arith)))

most_rises : (size a b : ℕ) → a ≤ b → most_fresh size a ≤ most_fresh size b
most_rises size a b h =
    mul-le (3 * a) (greatest_height (size + a) + 1) (3 * b) (greatest_height (size + b) + 1) (omega arith)
    (omega (arith, heights_rise (size + a) (size + b) (omega arith)))

-- One change

length_filter : {X : Type 0} (p : X → Bool) (xs : List X) → length (filter p xs) ≤ length xs
length_filter p xs = omega (arith, length-filter p xs, count_by-le-length p xs)

length_insert : (m : Pairs) (k v : List ℕ) → length (put_value m k (Some v)) ≤ length m + 1
length_insert [] k v = omega arith
length_insert (e ∷ m) k v =
    let rest = length_insert m k v in
    elim (slice_cmp nat_cmp k e.0) as (λ o. length (by_order o ((k, v) ∷ e ∷ m) ((e.0, v) ∷ m) (e ∷ put_value m k (Some v))) ≤ length (e ∷ m) + 1) [
      | Less ↦ omega arith
      | Equal ↦ omega arith
      | Greater ↦ omega arith
    ]

one_longer : (m : Pairs) (k : List ℕ) (v : Option (List ℕ)) → length (put_value m k v) ≤ length m + 1
one_longer m k None = omega (arith, length_filter (λ e. not (bytes_eq k e.0)) m)
one_longer m k (Some v) = length_insert m k v

pub spent_start : (old now : Shape) (all : ℕ) → now ≡ old → Spent old now all all
spent_start old now all e = subst (λ t. Spent old t all all) (sym e) (record {
  size = omega arith;
  few = omega (arith, fresh-subtree old old (subtree_itself old));
})

pub spent_less : (old now : Shape) (all before left : ℕ) → left ≤ before → Spent old now all before → Spent old now all left
spent_less old now all before left h s =
    let k : ℕ = greatest_height (length (pairs old) + all) + 1 in
    let fewer : 3 * left * k ≤ 3 * before * k = mul-le-mul_right k (omega arith) in
    record {
      size = omega (arith, s.size);
      few = omega (arith, s.few, fewer);
    }

pub spent_more : (old now next : Shape) (all before left : ℕ) (k : List ℕ) (v : Option (List ℕ)) → left < before → Spent old now all before
    → IsAscending (pairs now) → 2 ^ height now ≤ (length (pairs now) + 1) ^ 2 → pairs next ≡ put_value (pairs now) k v → fresh now next ≤ 3 * (height now + 1)
    → Spent old next all left
spent_more old now next all before left k v more s ascending low p few =
    let count : ℕ = length (pairs old) + all in
    let top : ℕ = greatest_height count in
    let h : height now ≤ top = height_greatest count (height now) (omega (arith, low, squares_rise (length (pairs now) + 1) (count + 1) (omega (arith, s.size)))) in
    let sorted : IsAscending (pairs next) = subst IsAscending (sym p) (in_order-put_value (pairs now) k v ascending) in
    let sum : fresh old next ≤ fresh old now + fresh now next = adds_up old now next (no_key_twice next sorted) in
    let longer : length (pairs next) ≤ length (pairs now) + 1 = subst (λ m. length m ≤ length (pairs now) + 1) (sym p) (one_longer (pairs now) k v) in
    let kept : (3 * left + 3) * (top + 1) ≤ 3 * before * (top + 1) = mul-le-mul_right (top + 1) (omega arith) in
    let parts : (3 * left + 3) * (top + 1) ≡ 3 * left * (top + 1) + 3 * (top + 1) = add-mul (3 * left) 3 (top + 1) in
    record {
      size = omega (arith, s.size, longer);
      few = omega (arith, s.few, sum, few, h, kept, parts);
    }

pub spent_end : (old now : Shape) (all left : ℕ) → Spent old now all left → fresh old now ≤ most_fresh (length (pairs old)) all
spent_end old now all left s = omega (arith, s.few)

-- A batch

keys_are_updates : (items : List Item) → length (filter_map key_of items) ≡ length (filter is_update items)
keys_are_updates [] = refl
keys_are_updates (Put k v ∷ items) = omega (arith, keys_are_updates items)
keys_are_updates (Del k ∷ items) = omega (arith, keys_are_updates items)
keys_are_updates (State s ∷ items) = keys_are_updates items
keys_are_updates (Mark ∷ items) = keys_are_updates items

firsts_are_fewer : (ks : List (List ℕ)) → length (firsts ks) ≤ length ks
firsts_are_fewer [] = omega arith
firsts_are_fewer (k ∷ ks) = omega (arith, length_filter (λ q. not (bytes_eq k q)) (firsts ks), firsts_are_fewer ks)

-- no more keys are pending than there are updates
pub pending_few : (items : List Item) → length (pending items) ≤ count_by is_update items
unfolding pending
pending_few items =
    let ks : List (List ℕ) = filter_map key_of items in
    let with_value : List ℕ → List ℕ × Option (List ℕ) = λ k. (k, last_put k items) in
    omega (arith, length-map (firsts ks) with_value, firsts_are_fewer ks, keys_are_updates items, length-filter is_update items)

pub most_of_batch : (size : ℕ) (items : List Item) (keys : List (List ℕ × Option (List ℕ))) → keys ≡ pending items
    → most_fresh size (length keys) ≤ most_fresh size (count_by is_update items)
most_of_batch size items keys e = most_rises size (length keys) (count_by is_update items) (omega (arith, ap length e, pending_few items))
