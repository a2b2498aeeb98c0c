-- What marks say is a talk; more marks say more, and more entries change nothing.
use Rattle.std.proofs.Common.{◌≡◌, ℕ, ◌-◌, ◌≤◌, ◌^◌, true, List, [], ◌∷◌, ◌++◌, length, take, drop, map, refl, sym, ap, ◌∙◌, arith, append_assoc, length-drop, lt-ltb}
use Rattle.std.specs.Prelude.{Option, None, Some, flat_map}
use Rattle.std.specs.List.{list_all, filter}
use Rattle.std.proofs.lemmas.List.{take-append-le, drop-append-le}
use Rattle.std.proofs.lemmas.List.Elements.{filter-append}
use Rattle.std.proofs.lemmas.List.Folds.{list_all-append}
use Rattle.std.proofs.lemmas.Grind.{flat_map-append}
use Rattle.ty_base.proofs.Passing.{both}
use Rattle.ty_base.specs.Feed.{World, replay}
use Rattle.ty_base.specs.declared.entry.Entry.{Entry}
use Rattle.ty_base.specs.declared.delta.Delta.{Delta}
use Rattle.ty_base.specs.declared.status.Status.{Status}
use Rattle.ty_wire.specs.Wire.{frame, frames}
use Rattle.ty_wire.specs.Cut.{cut_deltas}
use Rattle.ty_wire.specs.Talk.{kvs_messages, status_messages, group_messages, snapshot, world_after, deltas_between, status_change, group_between, groups_after, opening, is_no_ping, ping_fits, Rise, IsTalk}
use Rattle.ty_wire.specs.declared.message.Msg.{Msg}
use Rattle.ty_wire.specs.declared.message.Msg.TheVariants.{ServerHello, Kvs, Crumb, Ping}
use Rattle.ty_marks.specs.Marks.{Mark, start, group, ping, crumb_end_of, end_after, mark_messages, messages_after, messages_of, bytes_of, Follow, AreMarks, group_numbers}

-- ---- a group has no pings

kvs-kept : (parts : List (List Delta)) → filter is_no_ping (map Kvs parts) ≡ map Kvs parts
kvs-kept [] = refl
kvs-kept (p ∷ parts) = ap (λ (l : List Msg). Kvs p ∷ l) (kvs-kept parts)

end-kept : (s : Option Status) (n : ℕ) → filter is_no_ping (status_messages s ++ Crumb n ∷ []) ≡ status_messages s ++ Crumb n ∷ []
end-kept None n = refl
end-kept (Some s) n = refl

group-kept : (ds : List Delta) (s : Option Status) (n : ℕ) → filter is_no_ping (group_messages ds s n) ≡ group_messages ds s n
group-kept ds s n =
    filter-append is_no_ping (kvs_messages ds) (status_messages s ++ Crumb n ∷ [])
    ∙ ap (λ (l : List Msg). l ++ filter is_no_ping (status_messages s ++ Crumb n ∷ [])) (kvs-kept (cut_deltas ds))
    ∙ ap (λ (l : List Msg). kvs_messages ds ++ l) (end-kept s n)

kvs-fit : (parts : List (List Delta)) → list_all ping_fits (map Kvs parts) ≡ true
kvs-fit [] = refl
kvs-fit (p ∷ parts) = kvs-fit parts

end-fit : (s : Option Status) (n : ℕ) → list_all ping_fits (status_messages s ++ Crumb n ∷ []) ≡ true
end-fit None n = refl
end-fit (Some s) n = refl

group-fit : (ds : List Delta) (s : Option Status) (n : ℕ) → list_all ping_fits (group_messages ds s n) ≡ true
group-fit ds s n = list_all-append ping_fits (kvs_messages ds) (status_messages s ++ Crumb n ∷ []) ∙ both (kvs-fit (cut_deltas ds)) (end-fit s n)

-- ---- what follows a start

pub rise : (from : ℕ) (marks : List Mark) (most : ℕ) → Follow from marks most → Rise from (group_numbers marks) most
rise from [] most f = f
rise from (start n ∷ marks) most f = absurd f
rise from (group n ∷ marks) most f = (f.0, rise n marks most f.1)
rise from (ping ts ∷ marks) most f = rise from marks most f.1

groups-kept : (es : List Entry) (from : ℕ) (marks : List Mark) (most : ℕ) → Follow from marks most → filter is_no_ping (messages_after es from marks) ≡ groups_after es from (group_numbers marks)
unfolding messages_after groups_after
groups-kept es from [] most f = refl
groups-kept es from (start n ∷ marks) most f = absurd f
groups-kept es from (group n ∷ marks) most f =
    filter-append is_no_ping (group_between es from n) (messages_after es n marks)
    ∙ ap (λ (l : List Msg). l ++ filter is_no_ping (messages_after es n marks)) (group-kept (deltas_between es from n) (status_change (world_after es from).status (world_after es n).status) n)
    ∙ ap (λ (l : List Msg). group_between es from n ++ l) (groups-kept es n marks most f.1)
groups-kept es from (ping ts ∷ marks) most f = groups-kept es from marks most f.1

after-fit : (es : List Entry) (from : ℕ) (marks : List Mark) (most : ℕ) → Follow from marks most → list_all ping_fits (messages_after es from marks) ≡ true
unfolding messages_after
after-fit es from [] most f = refl
after-fit es from (start n ∷ marks) most f = absurd f
after-fit es from (group n ∷ marks) most f =
    list_all-append ping_fits (group_between es from n) (messages_after es n marks)
    ∙ both (group-fit (deltas_between es from n) (status_change (world_after es from).status (world_after es n).status) n) (after-fit es n marks most f.1)
after-fit es from (ping ts ∷ marks) most f = both (lt-ltb ts (2 ^ 64) f.0) (after-fit es from marks most f.1)

pub talk : (es : List Entry) (e0 : ℕ) (marks : List Mark) → Follow e0 marks (length es) → IsTalk es e0 (group_numbers marks) (messages_of es (start e0 ∷ marks))
unfolding messages_after
talk es e0 marks f = record {
  rise = rise e0 marks (length es) f;
  rest = messages_after es e0 marks;
  whole = refl;
  same = groups-kept es e0 marks (length es) f;
}

pub pings : (es : List Entry) (e0 : ℕ) (marks : List Mark) → Follow e0 marks (length es) → list_all ping_fits (messages_of es (start e0 ∷ marks)) ≡ true
unfolding messages_after
pings es e0 marks f =
    list_all-append ping_fits (opening es e0) (messages_after es e0 marks)
    ∙ both (group-fit (snapshot (world_after es e0)) (Some (world_after es e0).status) e0) (after-fit es e0 marks (length es) f)

-- ---- more marks

pub messages-more : (es : List Entry) (from : ℕ) (marks more : List Mark) → messages_after es from (marks ++ more) ≡ messages_after es from marks ++ messages_after es (end_after from marks) more
unfolding messages_after
messages-more es from [] more = refl
messages-more es from (m ∷ marks) more =
    ap (λ (l : List Msg). mark_messages es from m ++ l) (messages-more es (crumb_end_of from m) marks more)
    ∙ sym (append_assoc (mark_messages es from m) (messages_after es (crumb_end_of from m) marks) (messages_after es (end_after (crumb_end_of from m) marks) more))

pub bytes-more : (es : List Entry) (marks more : List Mark) → bytes_of es (marks ++ more) ≡ bytes_of es marks ++ frames (messages_after es (end_after 0 marks) more)
bytes-more es marks more = ap frames (messages-more es 0 marks more) ∙ flat_map-append frame (messages_of es marks) (messages_after es (end_after 0 marks) more)

-- ---- more entries

pub follow-within : (from : ℕ) (marks : List Mark) (most : ℕ) → Follow from marks most → from ≤ most
follow-within from [] most f = f
follow-within from (start n ∷ marks) most f = absurd f
follow-within from (group n ∷ marks) most f = omega (arith, f.0, follow-within n marks most f.1)
follow-within from (ping ts ∷ marks) most f = follow-within from marks most f.1

pub world-more : (es more : List Entry) (n : ℕ) → n ≤ length es → world_after (es ++ more) n ≡ world_after es n
world-more es more n h = ap replay (take-append-le n es more h)

abbrev joined : List Entry → List Delta
joined es = flat_map (λ e. e.deltas) es

pub between-more : (es more : List Entry) (from n : ℕ) → from ≤ length es → n ≤ length es → deltas_between (es ++ more) from n ≡ deltas_between es from n
between-more es more from n f h =
    ap joined (ap (take (n - from)) (drop-append-le from es more f) ∙ take-append-le (n - from) (drop from es) more (omega (arith, length-drop from es, h)))

group-more : (es more : List Entry) (from n : ℕ) → from ≤ length es → n ≤ length es → group_between (es ++ more) from n ≡ group_between es from n
group-more es more from n f h =
    ap (λ (w : World). group_messages (deltas_between (es ++ more) from n) (status_change w.status (world_after (es ++ more) n).status) n) (world-more es more from f)
    ∙ ap (λ (w : World). group_messages (deltas_between (es ++ more) from n) (status_change (world_after es from).status w.status) n) (world-more es more n h)
    ∙ ap (λ (ds : List Delta). group_messages ds (status_change (world_after es from).status (world_after es n).status) n) (between-more es more from n f h)

opening-more : (es more : List Entry) (n : ℕ) → n ≤ length es → opening (es ++ more) n ≡ opening es n
opening-more es more n h = ap (λ (w : World). ServerHello 1 ∷ group_messages (snapshot w) (Some w.status) n) (world-more es more n h)

after-more : (es more : List Entry) (from : ℕ) (marks : List Mark) → Follow from marks (length es) → messages_after (es ++ more) from marks ≡ messages_after es from marks
unfolding messages_after
after-more es more from [] f = refl
after-more es more from (start n ∷ marks) f = absurd f
after-more es more from (group n ∷ marks) f =
    let to : n ≤ length es = follow-within n marks (length es) f.1 in
    ap (λ (l : List Msg). l ++ messages_after (es ++ more) n marks) (group-more es more from n (omega (arith, f.0, to)) to)
    ∙ ap (λ (l : List Msg). group_between es from n ++ l) (after-more es more n marks f.1)
after-more es more from (ping ts ∷ marks) f = ap (λ (l : List Msg). Ping ts ∷ l) (after-more es more from marks f.1)

pub messages_of-more : (es more : List Entry) (marks : List Mark) → AreMarks marks (length es) → messages_of (es ++ more) marks ≡ messages_of es marks
unfolding messages_after
messages_of-more es more [] f = refl
messages_of-more es more (start n ∷ marks) f =
    ap (λ (l : List Msg). l ++ messages_after (es ++ more) n marks) (opening-more es more n (follow-within n marks (length es) f))
    ∙ ap (λ (l : List Msg). opening es n ++ l) (after-more es more n marks f)
messages_of-more es more (group n ∷ marks) f = absurd f
messages_of-more es more (ping ts ∷ marks) f = absurd f
