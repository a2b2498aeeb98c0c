-- The messages of a talk have frames, where the texts of its entries are UTF-8 and within the limits.
use Rattle.std.proofs.Common.{◌≡◌, ℕ, ◌-◌, ◌<◌, ◌≤◌, ◌^◌, Bool, true, ◌&&◌, nat_lt, List, [], ◌∷◌, length, take, drop, flat_map, refl, sym, ap, subst, ◌∙◌, arith, ltb-true}
use Rattle.std.specs.Prelude.{Option, None, Some}
use Rattle.std.specs.List.{AllByRecursion, list_all, filter, fold, slice_range}
use Rattle.std.specs.Str.{is_utf8}
use Rattle.std.proofs.lemmas.Str.{IsUtf8-from_is_utf8}
use Rattle.std.proofs.lemmas.List.Folds.{list_all-append}
use Rattle.ty_base.specs.Limits.{key_fits, value_fits, deltas_fit, is_key_text, is_value_text, is_small_delta, is_small_entry}
use Rattle.ty_base.specs.Feed.{Pairs, World, start, published, replay}
use Rattle.ty_base.specs.Passing.{option_passes, pair_passes, delta_passes}
use Rattle.ty_base.proofs.Passing.{both, left, right, all_take, all_drop}
use Rattle.ty_base.specs.declared.entry.Entry.{Entry}
use Rattle.ty_base.specs.declared.delta.Delta.{Delta}
use Rattle.ty_wire.specs.Wire.{IsWire, ValueHasUtf8, DeltaHasUtf8}
use Rattle.ty_wire.specs.Talk.{snapshot, world_after, deltas_between, status_change, group_between, groups_after, opening, talk, is_no_ping, ping_fits, Rise, IsTalk}
use Rattle.ty_wire.proofs.Changed.{changes-pass}
use Rattle.ty_wire.proofs.Short.{server_hello-fits, ping-fits}
use Rattle.ty_wire.proofs.Sent.{all-append}
use Rattle.ty_wire.proofs.Utf8.{is_wire, group-wire}
use Rattle.ty_wire.specs.declared.message.Msg.{Msg}
use Rattle.ty_wire.specs.declared.message.Msg.TheVariants.{ClientHello, ServerHello, Kvs, Status as StatusMsg, Crumb, Ping, Pong}

-- ---- deltas that pass

abbrev Pass : List Delta → Type 0
Pass ds = list_all is_small_delta ds ≡ true

value-fits : (v : Option (List ℕ)) → option_passes is_value_text v ≡ true → (option_passes value_fits v ≡ true) × ValueHasUtf8 v
value-fits None h = (refl, tt)
value-fits (Some v) h = (left (value_fits v) (is_utf8 v) h, IsUtf8-from_is_utf8 v (right (value_fits v) (is_utf8 v) h))

delta-passes : (d : Delta) → is_small_delta d ≡ true → (delta_passes key_fits value_fits d ≡ true) × DeltaHasUtf8 d
delta-passes d h =
    let key : is_key_text d.key ≡ true = left (is_key_text d.key) (option_passes is_value_text d.value) h in
    let value = value-fits d.value (right (is_key_text d.key) (option_passes is_value_text d.value) h) in (
      both (left (key_fits d.key) (is_utf8 d.key) key) value.0,
      (IsUtf8-from_is_utf8 d.key (right (key_fits d.key) (is_utf8 d.key) key), value.1),
    )

within : (ds : List Delta) → Pass ds → deltas_fit ds ≡ true
within [] h = refl
within (d ∷ ds) h = both (delta-passes d (left (is_small_delta d) (list_all is_small_delta ds) h)).0 (within ds (right (is_small_delta d) (list_all is_small_delta ds) h))

utf8 : (ds : List Delta) → Pass ds → AllByRecursion DeltaHasUtf8 ds
utf8 [] h = tt
utf8 (d ∷ ds) h = ((delta-passes d (left (is_small_delta d) (list_all is_small_delta ds) h)).1, utf8 ds (right (is_small_delta d) (list_all is_small_delta ds) h))

-- ---- what a replay leaves passes

abbrev pairs_pass : Pairs → Bool
pairs_pass m = list_all (pair_passes is_key_text is_value_text) m

replay-on : (es : List Entry) (w : World) → list_all is_small_entry es ≡ true → pairs_pass w.pairs ≡ true → pairs_pass (fold published w es).pairs ≡ true
replay-on [] w p h = h
replay-on (e ∷ es) w p h =
    replay-on es (published w e) (right (is_small_entry e) (list_all is_small_entry es) p) (changes-pass is_key_text is_value_text e.deltas w.pairs (left (is_small_entry e) (list_all is_small_entry es) p) h)

replay-passes : (es : List Entry) → list_all is_small_entry es ≡ true → pairs_pass (replay es).pairs ≡ true
unfolding replay
replay-passes es p = replay-on es start p refl

pairs-told : (m : Pairs) (s : World) → s.pairs ≡ m → pairs_pass m ≡ true → Pass (snapshot s)
pairs-told [] s e h = ap (λ (l : Pairs). list_all is_small_delta (snapshot (record s { pairs = l }))) e
pairs-told (x ∷ m) s e h =
    ap (λ (l : Pairs). list_all is_small_delta (snapshot (record s { pairs = l }))) e
    ∙ both (left (pair_passes is_key_text is_value_text x) (pairs_pass m) h) (pairs-told m (record s { pairs = m }) refl (right (pair_passes is_key_text is_value_text x) (pairs_pass m) h))

-- ---- the deltas between two entries

joined-pass : (es : List Entry) → list_all is_small_entry es ≡ true → Pass (flat_map (λ e. e.deltas) es)
joined-pass [] p = refl
joined-pass (e ∷ es) p =
    list_all-append is_small_delta e.deltas (flat_map (λ e. e.deltas) es)
    ∙ both (left (is_small_entry e) (list_all is_small_entry es) p) (joined-pass es (right (is_small_entry e) (list_all is_small_entry es) p))

between-pass : (es : List Entry) (from n : ℕ) → list_all is_small_entry es ≡ true → Pass (deltas_between es from n)
between-pass es from n p = joined-pass (slice_range es from n) (all_take is_small_entry (n - from) (drop from es) (all_drop is_small_entry from es p))

-- ---- the talk

rises : (e0 : ℕ) (ns : List ℕ) (most : ℕ) → Rise e0 ns most → e0 ≤ most
rises e0 [] most r = r
rises e0 (n ∷ ns) most r = omega (arith, r.0, rises n ns most r.1)

groups : (es : List Entry) (from : ℕ) (ns : List ℕ) → list_all is_small_entry es ≡ true → length es < 2 ^ 64 → Rise from ns (length es) → AllByRecursion IsWire (groups_after es from ns)
unfolding groups_after
groups es from [] p l r = tt
groups es from (n ∷ ns) p l r =
    let ds : List Delta = deltas_between es from n in
    all-append (group_between es from n) (groups_after es n ns)
    (group-wire ds (status_change (world_after es from).status (world_after es n).status) n (within ds (between-pass es from n p)) (utf8 ds (between-pass es from n p)) (omega (arith, rises n ns (length es) r.1)))
    (groups es n ns p l r.1)

opens : (es : List Entry) (e0 : ℕ) → list_all is_small_entry es ≡ true → length es < 2 ^ 64 → e0 ≤ length es → AllByRecursion IsWire (opening es e0)
opens es e0 p l h =
    let w : World = world_after es e0 in
    let q : Pass (snapshot w) = pairs-told w.pairs w refl (replay-passes (take e0 es) (all_take is_small_entry e0 es p)) in
    (is_wire (ServerHello 1) tt (server_hello-fits 1 (omega arith)), group-wire (snapshot w) (Some w.status) e0 (within (snapshot w) q) (utf8 (snapshot w) q) (omega arith))

pub talk-wire : (es : List Entry) (e0 : ℕ) (ns : List ℕ) → list_all is_small_entry es ≡ true → length es < 2 ^ 64 → Rise e0 ns (length es) → AllByRecursion IsWire (talk es e0 ns)
talk-wire es e0 ns p l r = all-append (opening es e0) (groups_after es e0 ns) (opens es e0 p l (rises e0 ns (length es) r)) (groups es e0 ns p l r)

-- ---- with pings

with-pings : (ms : List Msg) → list_all ping_fits ms ≡ true → AllByRecursion IsWire (filter is_no_ping ms) → AllByRecursion IsWire ms
with-pings [] p w = tt
with-pings (ClientHello v h ∷ ms) p w = (w.0, with-pings ms p w.1)
with-pings (ServerHello v ∷ ms) p w = (w.0, with-pings ms p w.1)
with-pings (Kvs ds ∷ ms) p w = (w.0, with-pings ms p w.1)
with-pings (StatusMsg s ∷ ms) p w = (w.0, with-pings ms p w.1)
with-pings (Crumb n ∷ ms) p w = (w.0, with-pings ms p w.1)
with-pings (Ping ts ∷ ms) p w =
    (is_wire (Ping ts) tt (ping-fits ts (ltb-true ts (2 ^ 64) (left (nat_lt ts (2 ^ 64)) (list_all ping_fits ms) p))), with-pings ms (right (nat_lt ts (2 ^ 64)) (list_all ping_fits ms) p) w)
with-pings (Pong ts ∷ ms) p w = (w.0, with-pings ms p w.1)

pub talk-with-pings : (es : List Entry) (e0 : ℕ) (ns : List ℕ) (ms : List Msg) → list_all is_small_entry es ≡ true → length es < 2 ^ 64 → IsTalk es e0 ns ms → list_all ping_fits ms ≡ true → AllByRecursion IsWire ms
talk-with-pings es e0 ns ms p l t q =
    let W : List Msg → Type 0 = AllByRecursion IsWire in
    let pings : (list_all ping_fits (opening es e0) && list_all ping_fits t.rest) ≡ true = sym (list_all-append ping_fits (opening es e0) t.rest) ∙ ap (list_all ping_fits) (sym t.whole) ∙ q in
    let rest : AllByRecursion IsWire t.rest = with-pings t.rest (right (list_all ping_fits (opening es e0)) (list_all ping_fits t.rest) pings) (subst W (sym t.same) (groups es e0 ns p l t.rise)) in
    subst W (sym t.whole) (all-append (opening es e0) t.rest (opens es e0 p l (rises e0 ns (length es) t.rise)) rest)
