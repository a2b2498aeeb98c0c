-- The book, replayed, gives the worlds.
use Rattle.std.proofs.Common.{◌≡◌, ℕ, zero, suc, ◌+◌, ◌-◌, ◌<◌, ◌≤◌, Bool, List, [], ◌∷◌, take, map, refl, sym, ap, subst, ◌∙◌, arith, add-one, take-add}
use Rattle.std.specs.List.{filter_map, range_with_len, fold, slice_range}
use Rattle.std.proofs.lemmas.List.Sums.{fold-append}
use Rattle.std.proofs.lemmas.List.FromFn.{take-map-range_with_len, map-range_with_len_more}
use Rattle.ty_base.specs.declared.item.Item.{Item}
use Rattle.ty_base.specs.Feed.{get, start, after, folded, cuts, cut, last, world, world_at, closing_before, key_of, firsts, changes, changed, deltas, entry, book, published, replay, cuts_after, closings}
use Rattle.ty_base.proofs.Pairs.{kept_key, changed_all, in_order-after}
use Rattle.ty_base.proofs.Cuts.{Follows, all_follow, follow_at}

-- the fold up to p goes on from the fold up to b
pub world_between : (items : List Item) (b p : ℕ) → b ≤ p → world_at items p ≡ fold after (world_at items b) (slice_range items b p)
unfolding cuts_after cuts closings book deltas replay
world_between items b p h =
    let e : b + (p - b) ≡ p = omega arith in
    ap (λ n. folded (take n items)) (sym e) ∙ ap folded (take-add b (p - b) items) ∙ fold-append after start (take b items) (slice_range items b p)

next_pairs : (ended : Bool) (items : List Item) (n : ℕ) → Follows ended items (cut ended items n) (cut ended items (n + 1)) → fold changed (world ended items n).pairs (deltas ended items (n + 1)) ≡ (world ended items (n + 1)).pairs
unfolding cuts_after cuts closings book deltas replay
next_pairs ended items n f =
    let to : ℕ = cut ended items (n + 1) in
    let batch : List Item = slice_range items (closing_before ended items to) to in
    let before : n + 1 - 1 ≡ n = omega arith in
    ap (λ k. fold changed (world ended items n).pairs (changes (world ended items k).pairs (world ended items (n + 1)).pairs (firsts (filter_map key_of batch)))) before
    ∙ changed_all (world ended items n).pairs (world ended items (n + 1)).pairs (filter_map key_of batch) (in_order-after (take (cut ended items n) items) start tt) (in_order-after (take to items) start tt) (λ q t.
    ap (λ w. get w.pairs q) (sym f.same)
    ∙ sym (kept_key batch (world_at items (closing_before ended items to)) q t)
    ∙ ap (λ w. get w.pairs q) (sym (world_between items (closing_before ended items to) to f.from)))

next_world : (ended : Bool) (items : List Item) (n : ℕ) → n < last ended items → published (world ended items n) (entry ended items (n + 1)) ≡ world ended items (n + 1)
unfolding cuts_after cuts closings book deltas replay
next_world ended items n l =
    let e : fold changed (world ended items n).pairs (deltas ended items (n + 1)) ≡ (world ended items (n + 1)).pairs = next_pairs ended items n (follow_at ended items (cuts ended items) 0 n (all_follow ended items) l) in
    λ i. record { pairs = e i; status = (world ended items (n + 1)).status }

replay_to : (ended : Bool) (items : List Item) (n : ℕ) → n ≤ last ended items → replay (map (entry ended items) (range_with_len 1 n)) ≡ world ended items n
unfolding cuts_after cuts closings book deltas replay
replay_to ended items zero l = refl
replay_to ended items (suc n) l =
    let P : ℕ → Type 0 = λ k. replay (map (entry ended items) (range_with_len 1 k)) ≡ world ended items k in
    subst P (add-one n) (
    ap replay (map-range_with_len_more (entry ended items) 1 n (n + 1) (omega arith))
    ∙ fold-append published start (map (entry ended items) (range_with_len 1 n)) (entry ended items (n + 1) ∷ [])
    ∙ ap (λ w. published w (entry ended items (n + 1))) (replay_to ended items n (omega arith))
    ∙ next_world ended items n (omega arith))

-- the first n entries of the book give the n-th world
pub replays : (ended : Bool) (items : List Item) (n : ℕ) → n ≤ last ended items → replay (take n (book ended items)) ≡ world ended items n
unfolding cuts_after cuts closings book deltas replay
replays ended items n l = ap replay (take-map-range_with_len (entry ended items) 1 (last ended items) n l) ∙ replay_to ended items n l
