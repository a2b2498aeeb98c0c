-- The messages of a talk are in their places, and what they rebuild at each crumb end is the world of its number.
use Rattle.std.proofs.Common.{◌≡◌, ℕ, ◌+◌, ◌<◌, ◌≤◌, Bool, true, false, cond, List, [], ◌∷◌, ◌++◌, length, take, map, flat_map, refl, sym, ap, subst, ◌∙◌, arith, append_assoc, append-nil, length-append, lt-ltb, ne_eqb}
use Rattle.std.specs.Prelude.{Option, None, Some, unwrap_or, if◌then◌else◌}
use Rattle.std.specs.Option.{option_or}
use Rattle.std.specs.List.{AllByRecursion, fold, filter}
use Rattle.std.proofs.lemmas.List.Sums.{fold-append}
use Rattle.std.proofs.Math.Seq.{take-append_seam}
use Rattle.ty_base.specs.declared.limits.TheConstants.{INPUT_BYTES}
use Rattle.ty_base.specs.Feed.{Pairs, World, changed}
use Rattle.ty_base.specs.Statuses.{same_status}
use Rattle.ty_base.proofs.Pairs.{same_statuses}
use Rattle.ty_base.specs.declared.entry.Entry.{Entry}
use Rattle.ty_base.specs.declared.delta.Delta.{Delta}
use Rattle.ty_base.specs.declared.status.Status.{Status}
use Rattle.ty_base.specs.declared.status.Status.TheVariants.{Wait}
use Rattle.ty_wire.specs.Cut.{cut_deltas}
use Rattle.ty_wire.specs.Talk.{kvs_messages, status_messages, group_messages, snapshot, world_after, deltas_between, status_change, first_group, groups_after, opening, talk, is_no_ping, Rise, IsTalk}
use Rattle.ty_wire.specs.declared.message.Msg.{Msg}
use Rattle.ty_wire.specs.declared.message.Msg.TheVariants.{ClientHello, ServerHello, Kvs, Status as StatusMsg, Crumb, Ping, Pong}
use Rattle.ty_wire.specs.Wire.{IsWire, frame, frames}
use Rattle.ty_wire.specs.Whole.{whole_in}
use Rattle.ty_wire.specs.Stream.{Reads}
use Rattle.ty_wire.proofs.Parts.{joined}
use Rattle.ty_wire.proofs.Whole.{reads-whole, reads-in, whole-all, whole-front}
use Rattle.ty_wire.proofs.Short.{server_hello-fits}
use Rattle.ty_wire.proofs.Utf8.{is_wire}
use Rattle.ty_client.specs.declared.fault.StreamFault.{StreamFault}
use Rattle.ty_client.specs.Places.{later_fault, opening_fault, rising_fault, crumb_fault, place_fault, next_frame, latest, told_status, told_number, is_status, has_status, Judged, judged_by, judged_after, judged}
use Rattle.ty_client.specs.Rebuilt.{Rebuilt, deltas_in, rebuilt_map, at_of, ats_after, ats}
use Rattle.ty_client.specs.Rebuild.{Staged, staged}
use Rattle.ty_client.specs.Heard.{Hears}
use Rattle.ty_client.specs.Worlds.{rebuilt_after}
use Rattle.ty_client.proofs.Judging.{judged_one, judged_none, staged_push, ats_more}
use Rattle.ty_client.proofs.Snapshots.{between, snapshot_back}

-- ---- messages behind the hello: their places, by the last status, whether it is fresh, and the last number; and
-- what they rebuild, by the last status and the map

InPlace : Option Status → Bool → Option ℕ → List Msg → Type 0
InPlace status fresh number [] = Unit {0}
InPlace status fresh number (m ∷ ms) =
    ((k : ℕ) → later_fault k status fresh number m ≡ None)
    × InPlace (option_or (told_status m) status) (unwrap_or (is_status m) fresh) (option_or (told_number m) number) ms

abbrev found_at : Option Status → Pairs → Msg → List Rebuilt
found_at status pairs (Crumb n) = record { number = n; status = unwrap_or status Wait; pairs = pairs } ∷ []
found_at status pairs (ClientHello version host) = []
found_at status pairs (ServerHello version) = []
found_at status pairs (Kvs ds) = []
found_at status pairs (StatusMsg s) = []
found_at status pairs (Ping ts) = []
found_at status pairs (Pong ts) = []

found : Option Status → Pairs → List Msg → List Rebuilt
found status pairs [] = []
found status pairs (m ∷ ms) = found_at status pairs m ++ found (option_or (told_status m) status) (fold changed pairs (deltas_in m)) ms

abbrev StagePlaced : List Msg → Staged → Type 0
StagePlaced ms s = InPlace s.status s.fresh s.number ms

later : (before : List Msg) (m : Msg) → 0 < length before → place_fault before m ≡ later_fault (next_frame before) (latest told_status before) (has_status before) (latest told_number before) m
later before m h =
    ap (λ (b : Bool). if b then opening_fault m else later_fault (next_frame before) (latest told_status before) (has_status before) (latest told_number before) m)
    (ne_eqb (length before + 1) 1 (λ e. omega (arith, h, e)))

judged_placed : (before ms : List Msg) → 0 < length before → StagePlaced ms (staged before) → judged_after before ms ≡ record { good = ms; fault = None }
unfolding InPlace
judged_placed before [] h p = judged_none before
judged_placed before (m ∷ ms) h p =
    judged_one before m ms
    ∙ ap (λ (f : Option StreamFault). judged_by f m (judged_after (before ++ m ∷ []) ms)) (later before m h ∙ p.0 (next_frame before))
    ∙ ap (judged_by None m) (judged_placed (before ++ m ∷ []) ms (omega (arith, length-append before (m ∷ []))) (subst (StagePlaced ms) (sym (staged_push before m)) p.1))

at_found : (before : List Msg) (m : Msg) → at_of before m ≡ found_at (latest told_status before) (rebuilt_map before) m
at_found before (Crumb n) = refl
at_found before (ClientHello version host) = refl
at_found before (ServerHello version) = refl
at_found before (Kvs ds) = refl
at_found before (StatusMsg s) = refl
at_found before (Ping ts) = refl
at_found before (Pong ts) = refl

ats_found : (before ms : List Msg) → ats_after before ms ≡ found (latest told_status before) (rebuilt_map before) ms
unfolding ats_after found
ats_found before [] = refl
ats_found before (m ∷ ms) =
    ap (λ (l : List Rebuilt). l ++ ats_after (before ++ m ∷ []) ms) (at_found before m)
    ∙ ap (λ (l : List Rebuilt). found_at (latest told_status before) (rebuilt_map before) m ++ l) (
    ats_found (before ++ m ∷ []) ms
    ∙ ap (λ (s : Staged). found s.status s.pairs ms) (staged_push before m))

-- ---- a group

kvs_placed : (status : Option Status) (number : Option ℕ) (parts : List (List Delta)) (rest : List Msg) → InPlace status false number rest → InPlace status false number (map Kvs parts ++ rest)
unfolding InPlace
kvs_placed status number [] rest p = p
kvs_placed status number (ds ∷ parts) rest p = (λ k. refl, kvs_placed status number parts rest p)

kvs_found : (status : Option Status) (pairs : Pairs) (parts : List (List Delta)) (rest : List Msg) → found status pairs (map Kvs parts ++ rest) ≡ found status (fold changed pairs (flat_map (λ part. part) parts)) rest
unfolding found
kvs_found status pairs [] rest = refl
kvs_found status pairs (ds ∷ parts) rest =
    kvs_found status (fold changed pairs ds) parts rest
    ∙ ap (λ (m : Pairs). found status m rest) (sym (fold-append changed pairs ds (flat_map (λ part. part) parts)))

end_placed : (status told : Option Status) (number : Option ℕ) (n : ℕ) (s : Status) (rest : List Msg) → option_or told status ≡ Some s → ((k : ℕ) → rising_fault k number n ≡ None)
    → InPlace (Some s) false (Some n) rest → InPlace status false number ((status_messages told ++ Crumb n ∷ []) ++ rest)
unfolding InPlace
end_placed status None number n s rest e r p = (
  λ k. ap (λ (o : Option Status). crumb_fault k o number n) e ∙ r k,
  subst (λ (o : Option Status). InPlace o false (Some n) rest) (sym e) p,
)
end_placed status (Some t) number n s rest e r p = (
  λ k. refl,
  (
    λ k. r k,
    subst (λ (o : Option Status). InPlace o false (Some n) rest) (sym e) p,
  ),
)

end_found : (status told : Option Status) (pairs : Pairs) (n : ℕ) (rest : List Msg)
    → found status pairs ((status_messages told ++ Crumb n ∷ []) ++ rest) ≡ record { number = n; status = unwrap_or (option_or told status) Wait; pairs = pairs } ∷ found (option_or told status) pairs rest
unfolding found
end_found status None pairs n rest = refl
end_found status (Some t) pairs n rest = refl

group_placed : (status told : Option Status) (number : Option ℕ) (ds : List Delta) (n : ℕ) (s : Status) (rest : List Msg) → option_or told status ≡ Some s → ((k : ℕ) → rising_fault k number n ≡ None)
    → InPlace (Some s) false (Some n) rest → InPlace status false number (group_messages ds told n ++ rest)
group_placed status told number ds n s rest e r p =
    subst (λ (l : List Msg). InPlace status false number l) (sym (append_assoc (kvs_messages ds) (status_messages told ++ Crumb n ∷ []) rest))
    (kvs_placed status number (cut_deltas ds) ((status_messages told ++ Crumb n ∷ []) ++ rest) (end_placed status told number n s rest e r p))

-- the deltas lead to the world that n entries leave, and so does the status
group_found : (es : List Entry) (status told : Option Status) (pairs : Pairs) (ds : List Delta) (n : ℕ) (rest : List Msg) → option_or told status ≡ Some (world_after es n).status → fold changed pairs ds ≡ (world_after es n).pairs
    → found status pairs (group_messages ds told n ++ rest) ≡ rebuilt_after es n ∷ found (Some (world_after es n).status) (world_after es n).pairs rest
group_found es status told pairs ds n rest e f =
    ap (found status pairs) (append_assoc (kvs_messages ds) (status_messages told ++ Crumb n ∷ []) rest)
    ∙ kvs_found status pairs (cut_deltas ds) ((status_messages told ++ Crumb n ∷ []) ++ rest)
    ∙ ap (λ (m : Pairs). found status m ((status_messages told ++ Crumb n ∷ []) ++ rest)) (ap (fold changed pairs) (joined ds) ∙ f)
    ∙ end_found status told (world_after es n).pairs n rest
    ∙ ap (λ (o : Option Status). record { number = n; status = unwrap_or o Wait; pairs = (world_after es n).pairs } ∷ found o (world_after es n).pairs rest) e

-- ---- all groups behind the first

told_change : (a b : Status) → option_or (status_change a b) (Some a) ≡ Some b
told_change a b =
    elim (same_status a b) as (λ v. same_status a b ≡ v → option_or (cond v None (Some b)) (Some a) ≡ Some b) [
      | true ↦ λ e. ap Some (same_statuses a b e)
      | false ↦ λ e. refl
    ] refl

rising : (had n k : ℕ) → had < n → rising_fault k (Some had) n ≡ None
rising had n k h = rw (lt-ltb had n h) refl

groups_placed : (es : List Entry) (from : ℕ) (ns : List ℕ) (most : ℕ) → Rise from ns most → InPlace (Some (world_after es from).status) false (Some from) (groups_after es from ns)
unfolding groups_after InPlace
groups_placed es from [] most r = tt
groups_placed es from (n ∷ ns) most r =
    group_placed (Some (world_after es from).status) (status_change (world_after es from).status (world_after es n).status) (Some from) (deltas_between es from n) n (world_after es n).status (groups_after es n ns)
    (told_change (world_after es from).status (world_after es n).status) (λ k. rising from n k r.0) (groups_placed es n ns most r.1)

groups_found : (es : List Entry) (from : ℕ) (ns : List ℕ) (most : ℕ) → Rise from ns most → found (Some (world_after es from).status) (world_after es from).pairs (groups_after es from ns) ≡ map (rebuilt_after es) ns
unfolding groups_after found
groups_found es from [] most r = refl
groups_found es from (n ∷ ns) most r =
    group_found es (Some (world_after es from).status) (status_change (world_after es from).status (world_after es n).status) (world_after es from).pairs (deltas_between es from n) n (groups_after es n ns)
    (told_change (world_after es from).status (world_after es n).status) (between es from n (omega (arith, r.0)))
    ∙ ap (λ (l : List Rebuilt). rebuilt_after es n ∷ l) (groups_found es n ns most r.1)

-- ---- pings change nothing

pings_placed : (status : Option Status) (fresh : Bool) (number : Option ℕ) (ms : List Msg) → InPlace status fresh number (filter is_no_ping ms) → InPlace status fresh number ms
unfolding InPlace
pings_placed status fresh number [] p = p
pings_placed status fresh number (Ping ts ∷ ms) p = (λ k. refl, pings_placed status fresh number ms p)
pings_placed status fresh number (ClientHello v h ∷ ms) p = (p.0, pings_placed status fresh number ms p.1)
pings_placed status fresh number (ServerHello v ∷ ms) p = (p.0, pings_placed status fresh number ms p.1)
pings_placed status fresh number (Kvs ds ∷ ms) p = (p.0, pings_placed status fresh number ms p.1)
pings_placed status fresh number (StatusMsg s ∷ ms) p = (p.0, pings_placed (Some s) true number ms p.1)
pings_placed status fresh number (Crumb n ∷ ms) p = (p.0, pings_placed status false (Some n) ms p.1)
pings_placed status fresh number (Pong ts ∷ ms) p = (p.0, pings_placed status fresh number ms p.1)

pings_found : (status : Option Status) (pairs : Pairs) (ms : List Msg) → found status pairs ms ≡ found status pairs (filter is_no_ping ms)
unfolding found
pings_found status pairs [] = refl
pings_found status pairs (Ping ts ∷ ms) = pings_found status pairs ms
pings_found status pairs (ClientHello v h ∷ ms) = pings_found status pairs ms
pings_found status pairs (ServerHello v ∷ ms) = pings_found status pairs ms
pings_found status pairs (Kvs ds ∷ ms) = pings_found status (fold changed pairs ds) ms
pings_found status pairs (StatusMsg s ∷ ms) = pings_found (Some s) pairs ms
pings_found status pairs (Crumb n ∷ ms) = ap (λ (l : List Rebuilt). record { number = n; status = unwrap_or status Wait; pairs = pairs } ∷ l) (pings_found status pairs ms)
pings_found status pairs (Pong ts ∷ ms) = pings_found status pairs ms

-- ---- from the hello on

abbrev hello : List Msg
hello = ServerHello 1 ∷ []

-- messages of a talk are all in their places, and rebuild the worlds of its numbers
pub record Rebuilds (es : List Entry) (e0 : ℕ) (ns : List ℕ) (ms : List Msg) : Type 0 where
  pub good : judged ms ≡ record { good = ms; fault = None }
  pub worlds : ats ms ≡ map (rebuilt_after es) (e0 ∷ ns)

opened : (es : List Entry) (e0 : ℕ) (ns : List ℕ) (rest : List Msg) → InPlace (Some (world_after es e0).status) false (Some e0) rest
    → found (Some (world_after es e0).status) (world_after es e0).pairs rest ≡ map (rebuilt_after es) ns → Rebuilds es e0 ns (opening es e0 ++ rest)
unfolding ats_after
opened es e0 ns rest p f =
    let w : World = world_after es e0 in
    let ms : List Msg = first_group es e0 ++ rest in
    record {
      good = judged_one [] (ServerHello 1) ms
          ∙ ap (judged_by None (ServerHello 1)) (judged_placed hello ms (omega arith) (group_placed None (Some w.status) None (snapshot w) e0 w.status rest refl (λ k. refl) p));
      worlds = ats_found hello ms
          ∙ group_found es None (Some w.status) [] (snapshot w) e0 rest refl (snapshot_back es e0)
          ∙ ap (λ (l : List Rebuilt). rebuilt_after es e0 ∷ l) f;
    }

pub talk_rebuilds : (es : List Entry) (e0 : ℕ) (ns : List ℕ) → Rise e0 ns (length es) → Rebuilds es e0 ns (talk es e0 ns)
talk_rebuilds es e0 ns r = opened es e0 ns (groups_after es e0 ns) (groups_placed es e0 ns (length es) r) (groups_found es e0 ns (length es) r)

pub pings_rebuild : (es : List Entry) (e0 : ℕ) (ns : List ℕ) (ms : List Msg) → IsTalk es e0 ns ms → Rebuilds es e0 ns ms
pings_rebuild es e0 ns ms t =
    let s : Option Status = Some (world_after es e0).status in
    subst (Rebuilds es e0 ns) (sym t.whole) (opened es e0 ns t.rest
    (pings_placed s false (Some e0) t.rest (subst (InPlace s false (Some e0)) (sym t.same) (groups_placed es e0 ns (length es) t.rise)))
    (pings_found s (world_after es e0).pairs t.rest ∙ ap (found s (world_after es e0).pairs) t.same ∙ groups_found es e0 ns (length es) t.rise))

-- ---- a front of the messages

good_front : (before ms more : List Msg) → (judged_after before (ms ++ more)).fault ≡ None → judged_after before ms ≡ record { good = ms; fault = None }
unfolding judged_after
good_front before [] more h = refl
good_front before (m ∷ ms) more h =
    elim (place_fault before m) as (λ f. (judged_by f m (judged_after (before ++ m ∷ []) (ms ++ more))).fault ≡ None → judged_by f m (judged_after (before ++ m ∷ []) ms) ≡ record { good = m ∷ ms; fault = None }) [
      | None ↦ λ g. ap (judged_by None m) (good_front (before ++ m ∷ []) ms more g)
      | Some f ↦ λ g. cc
    ] h

pub within : (n : ℕ) (ns : List ℕ) (most : ℕ) → Rise n ns most → n ≤ most
within n [] most r = r
within n (k ∷ ns) most r = omega (arith, r.0, within k ns most r.1)

-- ---- bytes

hears : (bytes rest : List ℕ) (ms : List Msg) → length bytes < INPUT_BYTES → Reads bytes ms rest → judged ms ≡ record { good = ms; fault = None } → Hears bytes ms None
hears bytes rest ms l r g = record {
  front = bytes;
  rest = [];
  whole = sym (append-nil bytes);
  stops = λ _. refl;
  all = ms;
  wire = None;
  brings = (l, (rest, r));
  good = sym (ap (λ (j : Judged). j.good) g);
  first = sym (ap (λ (j : Judged). option_or j.fault None) g);
}

-- a front of the messages, all of them in their places
pub record Front (all : List Msg) (bytes : List ℕ) : Type 0 where
  pub ms : List Msg
  pub unheard : List Msg
  pub whole : all ≡ ms ++ unheard
  pub heard : Hears bytes ms None

front_of : (all : List Msg) (bytes more : List ℕ) → (judged all).fault ≡ None → AllByRecursion IsWire all → length bytes < INPUT_BYTES → bytes ++ more ≡ frames all → Front all bytes
front_of all bytes more good w l e =
    let n : ℕ = length bytes in
    let within : n ≤ length (frames all) = omega (arith, ap length e, length-append bytes more) in
    let r : (rest : List ℕ) × Reads (take n (frames all)) (whole_in n all) rest = reads-in all n w within in
    let same : take n (frames all) ≡ bytes = ap (take n) (sym e) ∙ take-append_seam bytes more in
    let later : (later : List Msg) × (whole_in (length (frames all)) all ≡ whole_in n all ++ later) = whole-front all n (length (frames all)) within in
    let whole : all ≡ whole_in n all ++ later.0 = sym (whole-all all) ∙ later.1 in
    record {
      ms = whole_in n all;
      unheard = later.0;
      whole = whole;
      heard = hears bytes r.0 (whole_in n all) l (subst (λ (b : List ℕ). Reads b (whole_in n all) r.0) same r.1) (good_front [] (whole_in n all) later.0 (ap (λ (x : List Msg). (judged x).fault) (sym whole) ∙ good));
    }

-- what it rebuilds are the first worlds
pub first_worlds : (es : List Entry) (e0 : ℕ) (ns : List ℕ) (all : List Msg) (bytes more : List ℕ) → Rebuilds es e0 ns all → AllByRecursion IsWire all → length bytes < INPUT_BYTES → bytes ++ more ≡ frames all
    → (ms : List Msg) × (k : ℕ) × Hears bytes ms None × (ats ms ≡ take k (map (rebuilt_after es) (e0 ∷ ns)))
first_worlds es e0 ns all bytes more b w l e =
    let f : Front all bytes = front_of all bytes more (ap (λ (j : Judged). j.fault) b.good) w l e in
    let later : List Rebuilt = ats_after f.ms f.unheard in
    let split : map (rebuilt_after es) (e0 ∷ ns) ≡ ats f.ms ++ later = sym b.worlds ∙ ap ats f.whole ∙ ats_more [] f.ms f.unheard in
    (f.ms, length (ats f.ms), f.heard, sym (take-append_seam (ats f.ms) later) ∙ ap (take (length (ats f.ms))) (sym split))

pub whole_rebuilds : (es : List Entry) (e0 : ℕ) (ns : List ℕ) (all : List Msg) → Rebuilds es e0 ns all → AllByRecursion IsWire all → length (frames all) < INPUT_BYTES → Hears (frames all) all None × (ats all ≡ map (rebuilt_after es) (e0 ∷ ns))
whole_rebuilds es e0 ns all b w l = (hears (frames all) [] all l (reads-whole all w) b.good, b.worlds)

-- the hello alone

none_in_front : (xs ys : List Rebuilt) → xs ++ ys ≡ [] → xs ≡ []
none_in_front [] ys e = refl
none_in_front (x ∷ xs) ys e = absurd (omega (arith, ap length e))

hello_good : (judged hello).fault ≡ None
hello_good = ap (λ (j : Judged). j.fault) (judged_one [] (ServerHello 1) [] ∙ ap (judged_by None (ServerHello 1)) (judged_none hello))

hello_rebuilds : ats hello ≡ []
unfolding ats_after
hello_rebuilds = refl

pub hello_heard : (bytes more : List ℕ) → length bytes < INPUT_BYTES → bytes ++ more ≡ frame (ServerHello 1) → (ms : List Msg) × Hears bytes ms None × (ats ms ≡ [])
hello_heard bytes more l e =
    let f : Front hello bytes = front_of hello bytes more hello_good (is_wire (ServerHello 1) tt (server_hello-fits 1 (omega arith)), tt) l (e ∙ sym (append-nil (frame (ServerHello 1)))) in
    (f.ms, f.heard, none_in_front (ats f.ms) (ats_after f.ms f.unheard) (sym (ats_more [] f.ms f.unheard) ∙ ap ats (sym f.whole) ∙ hello_rebuilds))
