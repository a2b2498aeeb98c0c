-- A link that is followed, call by call.
use Rattle.std.proofs.Common.{◌≡◌, ℕ, ◌<◌, ◌≤◌, true, List, [], ◌∷◌, ◌++◌, Bool, length, take, drop, refl, sym, ap, subst, ◌∙◌, arith, append_assoc, append-nil, length-drop, length-append}
use Rattle.std.proofs.lemmas.List.{take-take, take-append-drop, length-take}
use Rattle.std.specs.Prelude.{Option, None, Some, Result, Ok, Err, IfOk, IfErr}
use Rattle.std.specs.Io.KnownBytes.{Appends}
use Rattle.ty_base.specs.Causes.{Rose}
use Rattle.ty_base.specs.Devices.{Output}
use Rattle.ty_base.specs.Fronts.{AppendsFront}
use Rattle.ty_base.specs.Links.{Coming, Sight, Takes, IsGiven, IsOver}
use Rattle.ty_base.specs.Told.{Told, IsSame}
use Rattle.ty_base.specs.declared.link.Took.TheVariants.{Bytes, Quiet, End}
use Rattle.ty_base.proofs.Known.{Appends-then, Appends-same, AppendsFront-after}
use Rattle.ty_base.proofs.Telling.{Told-then, Told-as, Told-still}
use Rattle.ty_wire.specs.Wire.{frame, frames}
use Rattle.ty_wire.specs.Stream.{FramesOpen, Reads}
use Rattle.ty_wire.specs.declared.message.Msg.{Msg}
use Rattle.ty_wire.specs.declared.message.Msg.TheVariants.{ClientHello}
use Rattle.ty_client.specs.declared.fault.StreamFault.{StreamFault}
use Rattle.ty_client.specs.declared.follower.FollowFault.{FollowFault}
use Rattle.ty_client.specs.declared.follower.FollowFault.TheVariants.{Link, Write, NoMemory}
use Rattle.ty_client.specs.declared.connection.Taken.{Taken}
use Rattle.ty_client.specs.declared.connection.Taken.TheVariants.{More, Last}
use Rattle.ty_client.specs.Rebuilt.{Rebuilt, ats, ats_after, last_held, pongs}
use Rattle.ty_client.specs.Heard.{Hears, Holds}
use Rattle.ty_client.specs.Rebuild.{RebuildHeld, IsGoodUnless, IsGoodSoFar, ConnectionStands, BroughtHere}
use Rattle.ty_client.specs.Text.{rebuilt_text}
use Rattle.ty_client.specs.Linked.{Scene, scene, client_talk, IsBrought, IsGivenAll, IsGivenFront, EndIsAsBefore, EndIsTaken, Linked, LinkedPart, LinkEnded, LinkStopped}
use Rattle.ty_client.specs.steps.Given.{Wrote}
use Rattle.ty_client.specs.steps.Links.{Opening, opened_with, ExchangesUnended, HasReached, Goes, LinkCameTo, ByTaken, GoesOnOrStops, TakesOn, Begins, by_fault}
use Rattle.ty_client.specs.steps.Pieces.{EndsAt}
use Rattle.ty_client.proofs.Connections.{holds_more, none_left}
use Rattle.ty_client.proofs.Followed.{text_more, open_of, nothing_of}
use Rattle.ty_client.proofs.Judging.{ats_more, ats_none, pongs_more, last_more}

-- what a link tells over one call

exchanges_same : (x y : Sight) → y ≡ x → ExchangesUnended [] [] x y
exchanges_same x y e = record {
  gave = ap (λ (s : Sight). s.given) e ∙ sym (append-nil x.given);
  came = ap (λ (s : Sight). s.brought) e ∙ sym (append-nil x.brought);
  unended = ap (λ (s : Sight). s.ended) e;
}

exchanges_still : (x : Option Sight) → Told (ExchangesUnended [] []) x x
exchanges_still x = Told-still (ExchangesUnended [] []) (λ s. exchanges_same s s refl) x

exchanges_then : (f g h k : List ℕ) (x y z : Sight) → ExchangesUnended f h x y → ExchangesUnended g k y z → ExchangesUnended (f ++ g) (h ++ k) x z
exchanges_then f g h k x y z p q = record {
  gave = q.gave ∙ ap (λ (l : List ℕ). l ++ g) p.gave ∙ append_assoc x.given f g;
  came = q.came ∙ ap (λ (l : List ℕ). l ++ k) p.came ∙ append_assoc x.brought h k;
  unended = q.unended ∙ p.unended;
}

told_then : (f g h k : List ℕ) (x y z : Option Sight) → Told (ExchangesUnended f h) x y → Told (ExchangesUnended g k) y z → Told (ExchangesUnended (f ++ g) (h ++ k)) x z
told_then f g h k x y z p q = Told-then (exchanges_then f g h k) x y z p q

pub told_same : (x y : Option Sight) → Told IsSame x y → Told (ExchangesUnended [] []) x y
told_same x y h = Told-as exchanges_same x y h

pub told_given : (n : ℕ) (piece : List ℕ) (x y : Option Sight) → Told (IsGiven n piece) x y → Told (ExchangesUnended (take n piece) []) x y
told_given n piece x y h =
    Told-as (λ p q e. record {
      gave = ap (λ (s : Sight). s.given) e;
      came = ap (λ (s : Sight). s.brought) e ∙ sym (append-nil p.brought);
      unended = ap (λ (s : Sight). s.ended) e;
    }) x y h

pub told_bytes : (n : ℕ) (buf : List ℕ) (x y : Option Sight) → Told (Takes (Bytes n) buf) x y → Told (ExchangesUnended [] (take n buf)) x y
told_bytes n buf x y h =
    Told-as (λ p q k. record {
      gave = ap (λ (s : Sight). s.given) k.3 ∙ sym (append-nil p.given);
      came = ap (λ (s : Sight). s.brought) k.3;
      unended = ap (λ (s : Sight). s.ended) k.3;
    }) x y h

pub told_quiet : (buf : List ℕ) (x y : Option Sight) → Told (Takes Quiet buf) x y → Told (ExchangesUnended [] []) x y
told_quiet buf x y h =
    Told-as (λ p q k. record {
      gave = ap (λ (s : Sight). s.given) k.2 ∙ sym (append-nil p.given);
      came = ap (λ (s : Sight). s.brought) k.2 ∙ sym (append-nil p.brought);
      unended = ap (λ (s : Sight). s.ended) k.2;
    }) x y h

-- what a connection that went so far comes to where it goes no further

given_front : (sent up whole heard : List ℕ) (x y : Option Sight) → sent ++ up ≡ whole → Told (ExchangesUnended sent heard) x y → Told (IsGivenFront whole) x y
given_front sent up whole heard x y q h = Told-as (λ p r e. (sent, up, sym q, e.gave)) x y h

linked : (o : Opening) (now : Scene) (r : HasReached o now) (f : Option StreamFault) → now.rebuild.fault ≡ f → Appends o.old.sink.held now.sink.held (rebuilt_text o.brief (ats r.ms)) → Linked o.host o.brief o.old now f
linked o now r f e w = record {
  bytes = r.bytes;
  ms = r.ms;
  brought = Told-as (λ p q k. k.came) o.old.sight now.sight r.exchanged;
  given = given_front r.sent now.rebuild.up (client_talk o.host r.ms) r.bytes o.old.sight now.sight r.queued r.exchanged;
  hears = subst (λ (x : Option StreamFault). Hears r.bytes r.ms x) e r.stands.hears;
  stands = λ connections h. record {
    unspent = r.stands.unspent;
    hears = r.stands.hears;
    goes_on = r.stands.goes_on;
    held_before = o.old.rebuild.held;
    holds = h;
    held_is = r.held;
  };
  written = w;
}

unended : (o : Opening) (now : Scene) (r : HasReached o now) → Told EndIsAsBefore o.old.sight now.sight
unended o now r = Told-as (λ p q k. k.unended) o.old.sight now.sight r.exchanged

-- it went so far, then the link brought bytes that weren't heard
part : (o : Opening) (then_ now : Scene) (r : HasReached o then_) (unheard : List ℕ) → Told (ExchangesUnended [] unheard) then_.sight now.sight → now.rebuild.held ≡ then_.rebuild.held
    → AppendsFront o.old.sink.held now.sink.held (rebuilt_text o.brief (ats r.ms)) → (p : LinkedPart o.host o.brief o.old now) × (p.unheard ≡ unheard)
part o then_ now r unheard t k w =
    let both : Told (ExchangesUnended (r.sent ++ []) (r.bytes ++ unheard)) o.old.sight now.sight = told_then r.sent [] r.bytes unheard o.old.sight then_.sight now.sight r.exchanged t in (
      record {
        bytes = r.bytes;
        unheard = unheard;
        ms = r.ms;
        fault = then_.rebuild.fault;
        brought = Told-as (λ p q e. e.came) o.old.sight now.sight both;
        given = given_front (r.sent ++ []) then_.rebuild.up (client_talk o.host r.ms) (r.bytes ++ unheard) o.old.sight now.sight (ap (λ (l : List ℕ). l ++ then_.rebuild.up) (append-nil r.sent) ∙ r.queued) both;
        unended = Told-as (λ p q e. e.unended) o.old.sight now.sight both;
        hears = r.stands.hears;
        holds = λ connections h. subst (λ (x : Option Rebuilt). Holds (connections ++ r.bytes ∷ []) x) (sym (k ∙ r.held))
            (holds_more None connections o.old.rebuild.held r.bytes r.ms then_.rebuild.fault h r.stands.hears);
        written = w;
      },
      refl,
    )

all_front : (a b : Option (List ℕ)) (x : List ℕ) → Appends a b x → AppendsFront a b x
all_front a b x h = (x, [], sym (append-nil x), h)

-- it went so far, and nothing was changed since but the link's bytes; then memory ran out
pub runs_short : (A : Type 0) (o : Opening) (then_ now : Scene) (Good : A → Type 0) (unheard : List ℕ) → Goes o then_ → Told (ExchangesUnended [] unheard) then_.sight now.sight → now.rebuild.held ≡ then_.rebuild.held → now.sink ≡ then_.sink
    → then_.faults ≤ now.faults → LinkCameTo {A = A} o now Good (Err NoMemory)
runs_short A o then_ now Good unheard g t k s le = record {
  ok = tt;
  stopped = (part o then_ now g.reached unheard t k (subst (λ (x : Output). AppendsFront o.old.sink.held x.held (rebuilt_text o.brief (ats g.reached.ms))) (sym s) (all_front _ _ _ g.written))).0;
  link_later = omega (arith, g.reached.link_later, le);
  sink_later = omega (arith, g.reached.sink_later, ap (λ (x : Output). x.faults) s);
}

pub short_here : (A : Type 0) (o : Opening) (now : Scene) (Good : A → Type 0) → Goes o now → LinkCameTo {A = A} o now Good (Err NoMemory)
short_here A o now Good g = runs_short A o now now Good [] g (exchanges_still now.sight) refl refl (omega arith)

-- how it goes on

said_more : (host : List ℕ) (ms more : List Msg) → client_talk host (ms ++ more) ≡ client_talk host ms ++ frames (pongs more)
said_more host ms more =
    ap (λ (l : List ℕ). frame (ClientHello 1 host) ++ l) (pongs_more ms more)
    ∙ sym (append_assoc (frame (ClientHello 1 host)) (frames (pongs ms)) (frames (pongs more)))

queued_more : (sent given up next more whole : List ℕ) → sent ++ up ≡ whole → given ++ next ≡ up ++ more → (sent ++ given) ++ next ≡ whole ++ more
queued_more sent given up next more whole e f =
    append_assoc sent given next ∙ ap (λ (l : List ℕ). sent ++ l) f ∙ sym (append_assoc sent up more) ∙ ap (λ (l : List ℕ). l ++ more) e

held_more : (old a b : Option Rebuilt) (ms more : List Msg) → a ≡ last_held old (ats ms) → b ≡ last_held a (ats_after ms more) → b ≡ last_held old (ats (ms ++ more))
held_more old a b ms more e f =
    f ∙ ap (λ (x : Option Rebuilt). last_held x (ats_after ms more)) e ∙ sym (last_more old (ats ms) (ats_after ms more))
    ∙ ap (last_held old) (sym (ats_more [] ms more))

reached_on : (o : Opening) (a b : Scene) (r : HasReached o a) (sent heard : List ℕ) (more : List Msg) → Told (ExchangesUnended sent heard) a.sight b.sight → ConnectionStands b.rebuild (r.bytes ++ heard) (r.ms ++ more)
    → b.rebuild.held ≡ last_held a.rebuild.held (ats_after r.ms more) → sent ++ b.rebuild.up ≡ a.rebuild.up ++ frames (pongs more) → a.faults ≤ b.faults → a.sink.faults ≤ b.sink.faults
    → (s : HasReached o b) × (s.ms ≡ r.ms ++ more)
reached_on o a b r sent heard more t st k q le ls = (
  record {
    bytes = r.bytes ++ heard;
    ms = r.ms ++ more;
    sent = r.sent ++ sent;
    exchanged = told_then r.sent sent r.bytes heard o.old.sight a.sight b.sight r.exchanged t;
    queued = queued_more r.sent sent a.rebuild.up b.rebuild.up (frames (pongs more)) (client_talk o.host r.ms) r.queued q ∙ sym (said_more o.host r.ms more);
    stands = st;
    held = held_more o.old.rebuild.held a.rebuild.held b.rebuild.held r.ms more r.held k;
    link_later = omega (arith, r.link_later, le);
    sink_later = omega (arith, r.sink_later, ls);
  },
  refl,
)

stands_still : (v w : RebuildHeld) (bytes : List ℕ) (ms : List Msg) → w ≡ record v { up = w.up } → ConnectionStands v bytes ms → ConnectionStands w (bytes ++ []) (ms ++ [])
stands_still v w bytes ms e s =
    let P : List ℕ → List Msg → Type 0 = λ b l. ConnectionStands w b l in
    subst (λ (b : List ℕ). P b (ms ++ [])) (sym (append-nil bytes)) (subst (λ (l : List Msg). P bytes l) (sym (append-nil ms))
    (subst (λ (x : RebuildHeld). ConnectionStands x bytes ms) (sym e) (record { unspent = s.unspent; hears = s.hears; goes_on = s.goes_on })))

held_still : (a b : Option Rebuilt) (ms : List Msg) → b ≡ a → b ≡ last_held a (ats_after ms [])
held_still a b ms e = e ∙ none_left a (ats_after ms []) (ap (λ (l : List Rebuilt). length l) (ats_none ms))

text_still : (brief : Bool) (a b : Option (List ℕ)) (ms ns : List Msg) → ns ≡ ms ++ [] → Appends a b (rebuilt_text brief (ats ms)) → Appends a b (rebuilt_text brief (ats ns))
text_still brief a b ms ns e h = subst (λ (l : List Msg). Appends a b (rebuilt_text brief (ats l))) (sym (e ∙ append-nil ms)) h

-- bytes that were queued were given, and nothing else has changed
goes_still : (o : Opening) (a b : Scene) (sent : List ℕ) → Goes o a → Told (ExchangesUnended sent []) a.sight b.sight → b.rebuild ≡ record a.rebuild { up = b.rebuild.up } → sent ++ b.rebuild.up ≡ a.rebuild.up → b.sink ≡ a.sink → a.faults ≤ b.faults → Goes o b
goes_still o a b sent g t e q s le =
    let r = reached_on o a b g.reached sent [] [] t (stands_still a.rebuild b.rebuild g.reached.bytes g.reached.ms e g.reached.stands)
    (held_still a.rebuild.held b.rebuild.held g.reached.ms (ap (λ (x : RebuildHeld). x.held) e)) (q ∙ sym (append-nil a.rebuild.up)) le (omega (arith, ap (λ (x : Output). x.faults) s)) in
    record {
      reached = r.0;
      no_fault = ap (λ (x : RebuildHeld). x.fault) e ∙ g.no_fault;
      written = text_still o.brief o.old.sink.held b.sink.held g.reached.ms r.0.ms r.1 (subst (λ (x : Output). Appends o.old.sink.held x.held (rebuilt_text o.brief (ats g.reached.ms))) (sym s) g.written);
    }

pub goes_good : {A : Type 0} (o : Opening) (now : Scene) (Good : A → Type 0) (x : A) → Goes o now → Good x → LinkCameTo {A = A} o now Good (Ok x)
goes_good o now Good x g good = record { ok = good; stopped = tt; link_later = g.reached.link_later; sink_later = g.reached.sink_later }

-- giving

pub gives_piece : (brief : Bool) (r s : RebuildHeld) (x y : Option Sight) (n m : ℕ) (sink : Output) (count end : ℕ) → count ≤ end → Told (IsGiven count (take end r.up)) x y → n ≤ m → s ≡ record r { up = drop count r.up }
    → GoesOnOrStops brief (scene r x n sink) (scene s y m sink) (Ok tt)
gives_piece brief r s x y n m sink count end h t le e = λ host old g.
    let o : Opening = opened_with host brief old in
    let up : s.up ≡ drop count r.up = ap (λ (v : RebuildHeld). v.up) e in
    let sent : Told (ExchangesUnended (take count r.up) []) x y = subst (λ (l : List ℕ). Told (ExchangesUnended l []) x y) (take-take count end r.up h) (told_given count (take end r.up) x y t) in
    let goes : Goes o (scene s y m sink) = goes_still o (scene r x n sink) (scene s y m sink) (take count r.up) g sent (e ∙ ap (λ (l : List ℕ). record r { up = l }) (sym up))
    (ap (λ (l : List ℕ). take count r.up ++ l) up ∙ take-append-drop count r.up) refl le in
    goes_good o (scene s y m sink) (λ _. Goes o (scene s y m sink)) tt goes goes

pub shorter : (r s : RebuildHeld) (n : ℕ) → 0 < n → n ≤ length r.up → s ≡ record r { up = drop n r.up } → length s.up < length r.up
shorter r s n some h e = omega (arith, some, h, ap (λ (v : RebuildHeld). length v.up) e, length-drop n r.up)

pub goes_then : (brief : Bool) (a b c : Scene) (result : Result (Unit {0}) FollowFault) → GoesOnOrStops brief a b (Ok tt) → GoesOnOrStops brief b c result → GoesOnOrStops brief a c result
goes_then brief a b c result p q = λ host old g. q host old (p host old g).ok

pub goes_nowhere : (brief : Bool) (a : Scene) → GoesOnOrStops brief a a (Ok tt)
goes_nowhere brief a = λ host old g. goes_good (opened_with host brief old) a (λ _. Goes (opened_with host brief old) a) tt g g

-- the link failed
pub link_fails : (A : Type 0) (o : Opening) (r : RebuildHeld) (x y : Option Sight) (n m : ℕ) (sink : Output) (Good : A → Type 0) → Goes o (scene r x n sink) → Told IsSame x y → n ≤ m → Rose n m → LinkCameTo {A = A} o (scene r y m sink) Good (Err Link)
link_fails A o r x y n m sink Good g t le rose =
    let goes : Goes o (scene r y m sink) = goes_still o (scene r x n sink) (scene r y m sink) [] g (told_same x y t) refl refl refl le in
    record {
      ok = tt;
      stopped = (linked o (scene r y m sink) goes.reached None goes.no_fault goes.written, unended o (scene r y m sink) goes.reached, omega (arith, g.reached.link_later, rose));
      link_later = goes.reached.link_later;
      sink_later = goes.reached.sink_later;
    }

-- taking

pub takes_quiet : (brief : Bool) (r : RebuildHeld) (x y : Option Sight) (n m : ℕ) (sink : Output) (buf : List ℕ) → Told (Takes Quiet buf) x y → n ≤ m → TakesOn brief (scene r x n sink) (scene r y m sink) (Ok More)
takes_quiet brief r x y n m sink buf t le = λ host old g.
    let o : Opening = opened_with host brief old in
    let goes : Goes o (scene r y m sink) = goes_still o (scene r x n sink) (scene r y m sink) [] g (told_quiet buf x y t) refl refl refl le in
    goes_good o (scene r y m sink) (ByTaken o (scene r y m sink)) More goes goes

pub takes_bytes : (brief : Bool) (a b : Scene) (u : Unit {0}) → GoesOnOrStops brief a b (Ok u) → TakesOn brief a b (Ok More)
takes_bytes brief a b u h = λ host old g.
    let k = h host old g in
    record { ok = k.ok; stopped = tt; link_later = k.link_later; sink_later = k.sink_later }

-- the link's end

ended_link : (o : Opening) (r : RebuildHeld) (x y : Option Sight) (n m : ℕ) (sink : Output) (buf : List ℕ) (rest : List ℕ) (g : Goes o (scene r x n sink)) → r.up ≡ [] → Told (Takes End buf) x y → Reads g.reached.bytes g.reached.ms rest → LinkEnded o.host o.brief o.old (scene r y m sink) rest
unfolding linked
ended_link o r x y n m sink buf rest g empty t reads =
    let f = g.reached in
    let all : f.sent ≡ client_talk o.host f.ms = sym (append-nil f.sent) ∙ ap (λ (l : List ℕ). f.sent ++ l) (sym empty) ∙ f.queued in
    let gave : Told (IsGivenAll f.sent) o.old.sight y =
    Told-then {P = ExchangesUnended f.sent f.bytes} {Q = Takes End buf} {R = IsGivenAll f.sent} (λ p q z e k. ap (λ (s : Sight). s.given) k.1 ∙ e.gave) o.old.sight x y f.exchanged t in
    let goes = linked o (scene r x n sink) f None g.no_fault g.written in
    record {
      linked = record {
        bytes = f.bytes;
        ms = f.ms;
        brought = Told-then {P = ExchangesUnended f.sent f.bytes} {Q = Takes End buf} {R = IsBrought f.bytes} (λ p q z e k. ap (λ (s : Sight). s.brought) k.1 ∙ e.came) o.old.sight x y f.exchanged t;
        given = Told-as (λ p q e. (f.sent, [], sym (append-nil f.sent ∙ all), e)) o.old.sight y gave;
        hears = goes.hears;
        stands = goes.stands;
        written = g.written;
      };
      ended = Told-then {P = ExchangesUnended f.sent f.bytes} {Q = Takes End buf} {R = EndIsTaken} (λ p q z e k. (ap (λ (s : Sight). s.ended) k.1, subst (λ (c : List Coming). IsOver c) (sym (ap (λ (s : Sight). s.coming) k.1)) k.0)) o.old.sight x y f.exchanged t;
      given_all = subst (λ (l : List ℕ). Told (IsGivenAll l) o.old.sight y) all gave;
      reads = reads;
    }

by_end : (result : Result (Unit {0}) FollowFault) (o : Opening) (now : Scene) (rest : List ℕ) → EndsAt result (length rest) → LinkEnded o.host o.brief o.old now rest → IfOk result (λ _. LinkEnded o.host o.brief o.old now []) × IfErr result (LinkStopped o.host o.brief o.old now)
by_end (Ok u) o now rest n d = (subst (λ (x : List ℕ). LinkEnded o.host o.brief o.old now x) (nothing_of rest n) d, tt)
by_end (Err fault) o now rest n d = (tt, subst (λ (e : FollowFault). LinkStopped o.host o.brief o.old now e) (sym n.1) (rest, d, n.0, refl))

-- a connection that went until then is over
abbrev pub EndsHere : Bool → Scene → Scene → Result (Unit {0}) FollowFault → Type 0
EndsHere brief then_ now result = (host : List ℕ) (old : Scene) → Goes (opened_with host brief old) then_ → LinkCameTo (opened_with host brief old) now (λ _. LinkEnded host brief old now []) result

pub takes_end : (result : Result (Unit {0}) FollowFault) (brief : Bool) (r : RebuildHeld) (x y : Option Sight) (n m : ℕ) (sink : Output) (buf : List ℕ) → r.up ≡ [] → Told (Takes End buf) x y → n ≤ m
    → ((bytes rest : List ℕ) (ms : List Msg) → ConnectionStands r bytes ms → r.fault ≡ None → Reads bytes ms rest → EndsAt result (length rest))
    → EndsHere brief (scene r x n sink) (scene r y m sink) result
takes_end result brief r x y n m sink buf empty t le k = λ host old g.
    let o : Opening = opened_with host brief old in
    let f = g.reached in
    let good : IsGoodSoFar r.unread r.stage f.bytes f.ms = subst (λ (e : Option StreamFault). IsGoodUnless e r.unread r.stage f.bytes f.ms) g.no_fault f.stands.goes_on in
    let opens : FramesOpen r.unread f.bytes f.ms = open_of r.unread r.stage f.bytes f.ms good in
    let d = by_end result o (scene r y m sink) r.unread.rest (k f.bytes r.unread.rest f.ms f.stands g.no_fault opens.reads) (ended_link o r x y n m sink buf r.unread.rest g empty t opens.reads) in
    record { ok = d.0; stopped = d.1; link_later = omega (arith, f.link_later, le); sink_later = f.sink_later }

-- hearing

abbrev pub IsBroughtIn : RebuildHeld → RebuildHeld → List ℕ → List Rebuilt → Type 0
IsBroughtIn r s piece at_ends = (bytes : List ℕ) (ms : List Msg) → ConnectionStands r bytes ms → BroughtHere r s bytes piece ms at_ends

reached_heard : (o : Opening) (a b : Scene) (r : HasReached o a) (piece : List ℕ) (at_ends : List Rebuilt) → Told (ExchangesUnended [] piece) a.sight b.sight → BroughtHere a.rebuild b.rebuild r.bytes piece r.ms at_ends
    → b.rebuild.held ≡ last_held a.rebuild.held at_ends → a.faults ≤ b.faults → a.sink.faults ≤ b.sink.faults
    → (s : HasReached o b) × (rebuilt_text o.brief (ats s.ms) ≡ rebuilt_text o.brief (ats r.ms) ++ rebuilt_text o.brief at_ends)
reached_heard o a b r piece at_ends t h k le ls =
    let s = reached_on o a b r [] piece h.more t h.stands (k ∙ ap (last_held a.rebuild.held) h.at_ends_are) h.up le ls in (
      s.0,
      ap (λ (l : List Msg). rebuilt_text o.brief (ats l)) s.1 ∙ text_more o.brief r.ms h.more
          ∙ ap (λ (l : List Rebuilt). rebuilt_text o.brief (ats r.ms) ++ rebuilt_text o.brief l) (sym h.at_ends_are),
    )

by_heard : (f : Option StreamFault) (o : Opening) (b : Scene) (r : HasReached o b) → f ≡ b.rebuild.fault → Appends o.old.sink.held b.sink.held (rebuilt_text o.brief (ats r.ms)) → LinkCameTo o b (λ _. Goes o b) (by_fault f)
by_heard None o b r e w =
    let goes : Goes o b = record { reached = r; no_fault = sym e; written = w } in
    goes_good o b (λ _. Goes o b) tt goes goes
by_heard (Some f) o b r e w = record { ok = tt; stopped = (linked o b r (Some f) (sym e) w, unended o b r); link_later = r.link_later; sink_later = r.sink_later }

module _ (brief : Bool) (r s : RebuildHeld) (x y : Option Sight) (n m : ℕ) (k j : Output) (piece : List ℕ) (at_ends : List Rebuilt) where
  -- the text was given whole
  pub hears_all : (f : Option StreamFault) (u : Unit {0}) → IsBroughtIn r s piece at_ends → s.held ≡ last_held r.held at_ends → f ≡ s.fault → Wrote {T = Unit {0}} (Ok u) k.held j.held k.faults j.faults (rebuilt_text brief at_ends)
      → Told (ExchangesUnended [] piece) x y → n ≤ m → GoesOnOrStops brief (scene r x n k) (scene s y m j) (by_fault f)
  hears_all f u br h e w t le = λ host old g.
      let o : Opening = opened_with host brief old in
      let z = reached_heard o (scene r x n k) (scene s y m j) g.reached piece at_ends t (br g.reached.bytes g.reached.ms g.reached.stands) h le w.later in
      by_heard f o (scene s y m j) z.0 e (subst (λ (l : List ℕ). Appends old.sink.held j.held l) (sym z.1) (Appends-then old.sink.held k.held j.held (rebuilt_text brief (ats g.reached.ms)) (rebuilt_text brief at_ends) g.written w.ok))

  -- a front of it was given
  cut_text : (o : Opening) (g : Goes o (scene r x n k)) (z : HasReached o (scene s y m j)) → rebuilt_text o.brief (ats z.ms) ≡ rebuilt_text o.brief (ats g.reached.ms) ++ rebuilt_text o.brief at_ends → AppendsFront k.held j.held (rebuilt_text o.brief at_ends)
      → (p : LinkedPart o.host o.brief o.old (scene s y m j)) × (p.unheard ≡ [])
  cut_text o g z e w =
      part o (scene s y m j) (scene s y m j) z [] (exchanges_still y) refl (subst (λ (l : List ℕ). AppendsFront o.old.sink.held j.held l) (sym e)
      (AppendsFront-after o.old.sink.held k.held j.held (rebuilt_text o.brief (ats g.reached.ms)) (rebuilt_text o.brief at_ends) g.written w))

  pub hears_unwritten : IsBroughtIn r s piece at_ends → s.held ≡ last_held r.held at_ends → AppendsFront k.held j.held (rebuilt_text brief at_ends) → k.faults ≤ j.faults → Rose k.faults j.faults
      → Told (ExchangesUnended [] piece) x y → n ≤ m → GoesOnOrStops brief (scene r x n k) (scene s y m j) (Err Write)
  hears_unwritten br h w later rose t le = λ host old g.
      let o : Opening = opened_with host brief old in
      let z = reached_heard o (scene r x n k) (scene s y m j) g.reached piece at_ends t (br g.reached.bytes g.reached.ms g.reached.stands) h le later in
      record { ok = tt; stopped = (cut_text o g z.0 z.1 w, omega (arith, g.reached.sink_later, rose)); link_later = z.0.link_later; sink_later = z.0.sink_later }

  pub hears_short : IsBroughtIn r s piece at_ends → s.held ≡ last_held r.held at_ends → AppendsFront k.held j.held (rebuilt_text brief at_ends) → k.faults ≤ j.faults
      → Told (ExchangesUnended [] piece) x y → n ≤ m → GoesOnOrStops brief (scene r x n k) (scene s y m j) (Err NoMemory)
  hears_short br h w later t le = λ host old g.
      let o : Opening = opened_with host brief old in
      let z = reached_heard o (scene r x n k) (scene s y m j) g.reached piece at_ends t (br g.reached.bytes g.reached.ms g.reached.stands) h le later in
      record { ok = tt; stopped = (cut_text o g z.0 z.1 w).0; link_later = z.0.link_later; sink_later = z.0.sink_later }

-- nothing of it was heard
pub hears_nothing_of : (brief : Bool) (r s : RebuildHeld) (x y : Option Sight) (n m : ℕ) (k : Output) (piece : List ℕ) → s.held ≡ r.held → Told (ExchangesUnended [] piece) x y → n ≤ m → GoesOnOrStops brief (scene r x n k) (scene s y m k) (Err NoMemory)
hears_nothing_of brief r s x y n m k piece e t le = λ host old g.
    runs_short (Unit {0}) (opened_with host brief old) (scene r x n k) (scene s y m k) (λ _. Goes (opened_with host brief old) (scene s y m k)) piece g t e refl le

-- the beginning

text_none : (brief : Bool) (a : Option (List ℕ)) → Appends a a (rebuilt_text brief (ats []))
text_none brief a = subst (λ (l : List Rebuilt). Appends a a (rebuilt_text brief l)) (sym (ats_none [])) (Appends-same a)

pub link_begins : (host : List ℕ) (r s t : RebuildHeld) → ConnectionStands s [] [] → s.held ≡ r.held → s.up ≡ [] → s.fault ≡ None → t ≡ record s { up = s.up ++ frame (ClientHello 1 host) } → Begins host r t (Ok tt)
link_begins host r s t st h empty f e = λ brief sight faults sink.
    let o : Opening = opened_with host brief (scene r sight faults sink) in
    let goes : Goes o (scene t sight faults sink) = record {
      reached = record {
        bytes = [];
        ms = [];
        sent = [];
        exchanged = exchanges_still sight;
        queued = ap (λ (v : RebuildHeld). v.up) e ∙ ap (λ (l : List ℕ). l ++ frame (ClientHello 1 host)) empty ∙ sym (append-nil (frame (ClientHello 1 host)));
        stands = subst (λ (v : RebuildHeld). ConnectionStands v [] []) (sym e) (record { unspent = st.unspent; hears = st.hears; goes_on = st.goes_on });
        held = held_still r.held t.held [] (ap (λ (v : RebuildHeld). v.held) e ∙ h);
        link_later = omega arith;
        sink_later = omega arith;
      };
      no_fault = ap (λ (v : RebuildHeld). v.fault) e ∙ f;
      written = text_none brief sink.held;
    } in
    goes_good o (scene t sight faults sink) (λ _. Goes o (scene t sight faults sink)) tt goes goes

pub begins_short : (host : List ℕ) (r s t : RebuildHeld) → ConnectionStands s [] [] → s.held ≡ r.held → s.fault ≡ None → t ≡ record s { spent = true } → Begins host r t (Err NoMemory)
begins_short host r s t st h f e = λ brief sight faults sink.
    let hears : Hears [] [] None = subst (λ (x : Option StreamFault). Hears [] [] x) f st.hears in
    let held : t.held ≡ last_held r.held (ats []) = held_still r.held t.held [] (ap (λ (v : RebuildHeld). v.held) e ∙ h) in
    record {
      ok = tt;
      stopped = record {
        bytes = [];
        unheard = [];
        ms = [];
        fault = None;
        brought = Told-as (λ p q k. k.came) sight sight (exchanges_still sight);
        given = Told-as (λ p q k. ([], client_talk host [], refl, k.gave)) sight sight (exchanges_still sight);
        unended = Told-as (λ p q k. k.unended) sight sight (exchanges_still sight);
        hears = hears;
        holds = λ connections k. subst (λ (x : Option Rebuilt). Holds (connections ++ [] ∷ []) x) (sym held) (holds_more None connections r.held [] [] None k hears);
        written = all_front sink.held sink.held (rebuilt_text brief (ats [])) (text_none brief sink.held);
      };
      link_later = omega arith;
      sink_later = omega arith;
    }

-- the buffer of a take keeps its length
pub room_kept : (size len : ℕ) (new items : List ℕ) → length items ≡ size → length new ≡ size → size ≤ len → length (take len (new ++ drop (length new) items)) ≡ size
room_kept size len new items i n l = omega (arith, i, n, l, length-take len (new ++ drop (length new) items), length-append new (drop (length new) items), length-drop (length new) items)

-- one call behind another

pub takes_then : (brief : Bool) (a b c : Scene) (result : Result Taken FollowFault) → GoesOnOrStops brief a b (Ok tt) → TakesOn brief b c result → TakesOn brief a c result
takes_then brief a b c result p q = λ host old g. q host old (p host old g).ok

-- an end is the same end of another answer
pub stops_first : (brief : Bool) (a b : Scene) (e : FollowFault) → GoesOnOrStops brief a b (Err e) → TakesOn brief a b (Err e)
stops_first brief a b e p = λ host old g.
    let k = p host old g in
    record { ok = tt; stopped = k.stopped; link_later = k.link_later; sink_later = k.sink_later }

pub takes_last : (brief : Bool) (a b : Scene) (u : Unit {0}) → EndsHere brief a b (Ok u) → TakesOn brief a b (Ok Last)
takes_last brief a b u p = λ host old g.
    let k = p host old g in
    record { ok = k.ok; stopped = tt; link_later = k.link_later; sink_later = k.sink_later }

pub takes_cut : (brief : Bool) (a b : Scene) (e : FollowFault) → EndsHere brief a b (Err e) → TakesOn brief a b (Err e)
takes_cut brief a b e p = λ host old g.
    let k = p host old g in
    record { ok = tt; stopped = k.stopped; link_later = k.link_later; sink_later = k.sink_later }
