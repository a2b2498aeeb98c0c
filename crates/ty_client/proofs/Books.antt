-- A book's entries leave the worlds of its items, and pass where the items do.
use Rattle.std.proofs.Common.{◌≡◌, ℕ, suc, ◌^◌, ◌<◌, ◌≤◌, Bool, true, false, cond, List, [], ◌∷◌, ◌++◌, length, take, map, refl, ap, ◌∙◌, arith}
use Rattle.std.specs.Prelude.{None}
use Rattle.std.specs.List.{AllByRecursion, list_all, filter, range_with_len}
use Rattle.std.proofs.lemmas.List.FromFn.{length-range_with_len, length-map-range_with_len}
use Rattle.ty_base.specs.declared.limits.TheConstants.{INPUT_BYTES}
use Rattle.ty_base.specs.declared.item.Item.{Item}
use Rattle.ty_base.specs.declared.entry.Entry.{Entry}
use Rattle.ty_base.specs.Feed.{World, same_world, world_at, is_closing, closings, cuts_after, cuts, last, entry, book}
use Rattle.ty_base.proofs.Passing.{both, deltas_pass}
use Rattle.ty_base.proofs.Replay.{replays}
use Rattle.ty_base.specs.Limits.{is_key_text, is_value_text, is_small_entry, AreSmall}
use Rattle.ty_wire.specs.Wire.{IsWire, frames}
use Rattle.ty_wire.specs.Talk.{ping_fits, Rise, IsTalk}
use Rattle.ty_wire.specs.declared.message.Msg.{Msg}
use Rattle.ty_wire.proofs.Talk.{talk-with-pings}
use Rattle.ty_client.specs.Rebuilt.{Rebuilt, ats}
use Rattle.ty_client.specs.Heard.{Hears}
use Rattle.ty_client.specs.Worlds.{numbered, rebuilt_after, rebuilt_world}
use Rattle.ty_client.proofs.Talks.{Rebuilds, within, pings_rebuild, first_worlds, whole_rebuilds}

-- ---- a list of positions

cuts_few : (items : List Item) (c : ℕ) (ps : List ℕ) → length (cuts_after items c ps) ≤ length ps
unfolding cuts_after
cuts_few items c [] = omega arith
cuts_few items c (p ∷ ps) =
    elim (same_world (world_at items c) (world_at items p)) as (λ b. length (cond b (cuts_after items c ps) (p ∷ cuts_after items p ps)) ≤ suc (length ps)) [
      | true ↦ omega (arith, cuts_few items c ps)
      | false ↦ omega (arith, cuts_few items p ps)
    ]

filter_few : (test : ℕ → Bool) (ps : List ℕ) → length (filter test ps) ≤ length ps
filter_few test [] = omega arith
filter_few test (p ∷ ps) =
    elim (test p) as (λ b. length (cond b (p ∷ filter test ps) (filter test ps)) ≤ suc (length ps)) [
      | true ↦ omega (arith, filter_few test ps)
      | false ↦ omega (arith, filter_few test ps)
    ]

module _ (ended : Bool) (items : List Item) where
  last_few : last ended items ≤ length items
  unfolding cuts closings
  last_few = omega (
    arith,
    cuts_few items 0 (closings ended items),
    filter_few (is_closing ended items) (range_with_len 1 (length items)),
    length-range_with_len 1 (length items),
  )

  -- ---- the book

  pub book_length : length (book ended items) ≡ last ended items
  unfolding book
  book_length = length-map-range_with_len (entry ended items) 1 (last ended items)

  pub book_few : length items < 2 ^ 64 → length (book ended items) < 2 ^ 64
  book_few h = omega (arith, book_length, last_few, h)

  entries_pass : AreSmall items → (ns : List ℕ) → list_all is_small_entry (map (entry ended items) ns) ≡ true
  entries_pass h [] = refl
  entries_pass h (n ∷ ns) = both (deltas_pass is_key_text is_value_text ended items n h) (entries_pass h ns)

  pub book_passes : AreSmall items → list_all is_small_entry (book ended items) ≡ true
  unfolding book
  book_passes h = entries_pass h (range_with_len 1 (last ended items))

  -- ---- what is rebuilt

  same_worlds : (n : ℕ) (ns : List ℕ) → Rise n ns (length (book ended items)) → map (rebuilt_after (book ended items)) (n ∷ ns) ≡ map (rebuilt_world ended items) (n ∷ ns)
  same_worlds n [] r =
      ap (λ (w : World). numbered n w ∷ []) (replays ended items n (omega (arith, within n [] (length (book ended items)) r, book_length)))
  same_worlds n (k ∷ ns) r =
      ap (λ (w : World). numbered n w ∷ map (rebuilt_after (book ended items)) (k ∷ ns)) (replays ended items n (omega (arith, within n (k ∷ ns) (length (book ended items)) r, book_length)))
      ∙ ap (λ (l : List Rebuilt). rebuilt_world ended items n ∷ l) (same_worlds k ns r.1)

  pub first_at : (e0 : ℕ) (ns bytes more : List ℕ) (all : List Msg) → Rise e0 ns (length (book ended items)) → Rebuilds (book ended items) e0 ns all → AllByRecursion IsWire all → length bytes < INPUT_BYTES → bytes ++ more ≡ frames all
      → (ms : List Msg) × (k : ℕ) × Hears bytes ms None × (ats ms ≡ take k (map (rebuilt_world ended items) (e0 ∷ ns)))
  first_at e0 ns bytes more all rise b w short e =
      let r = first_worlds (book ended items) e0 ns all bytes more b w short e in
      (r.0, r.1, r.2, r.3 ∙ ap (take r.1) (same_worlds e0 ns rise))

  pub whole_at : (e0 : ℕ) (ns : List ℕ) (all : List Msg) → Rise e0 ns (length (book ended items)) → Rebuilds (book ended items) e0 ns all → AllByRecursion IsWire all → length (frames all) < INPUT_BYTES
      → Hears (frames all) all None × (ats all ≡ map (rebuilt_world ended items) (e0 ∷ ns))
  whole_at e0 ns all rise b w short =
      let r = whole_rebuilds (book ended items) e0 ns all b w short in
      (r.0, r.1 ∙ same_worlds e0 ns rise)

  -- ---- with pings

  pub front_with_pings : (e0 : ℕ) (ns bytes more : List ℕ) (all : List Msg) → AreSmall items → length items < 2 ^ 64 → IsTalk (book ended items) e0 ns all → list_all ping_fits all ≡ true → length bytes < INPUT_BYTES → bytes ++ more ≡ frames all
      → (ms : List Msg) × (k : ℕ) × Hears bytes ms None × (ats ms ≡ take k (map (rebuilt_world ended items) (e0 ∷ ns)))
  front_with_pings e0 ns bytes more all p l t q short e =
      let es : List Entry = book ended items in
      first_at e0 ns bytes more all t.rise (pings_rebuild es e0 ns all t) (talk-with-pings es e0 ns all (book_passes p) (book_few l) t q) short e

  pub whole_with_pings : (e0 : ℕ) (ns : List ℕ) (all : List Msg) → AreSmall items → length items < 2 ^ 64 → IsTalk (book ended items) e0 ns all → list_all ping_fits all ≡ true → length (frames all) < INPUT_BYTES
      → Hears (frames all) all None × (ats all ≡ map (rebuilt_world ended items) (e0 ∷ ns))
  whole_with_pings e0 ns all p l t q short =
      let es : List Entry = book ended items in
      whole_at e0 ns all t.rise (pings_rebuild es e0 ns all t) (talk-with-pings es e0 ns all (book_passes p) (book_few l) t q) short
