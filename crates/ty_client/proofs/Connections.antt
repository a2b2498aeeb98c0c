-- Pieces of a connection, and one connection after another.
use Rattle.std.proofs.Common.{◌≡◌, ℕ, suc, ◌-◌, true, false, List, [], ◌∷◌, ◌++◌, length, refl, sym, ap, subst, ◌∙◌, append_assoc, append-nil, arith}
use Rattle.std.specs.Prelude.{Option, None, Some, option_map, slice_get, is_some}
use Rattle.std.specs.Option.{option_or}
use Rattle.std.specs.List.{AllByRecursion}
use Rattle.ty_wire.specs.Wire.{IsWire}
use Rattle.ty_wire.specs.Held.{FramesHeld}
use Rattle.ty_wire.specs.Stream.{FramesStand, FramesStandBy, IsFault, Brings}
use Rattle.ty_wire.specs.declared.message.Msg.{Msg}
use Rattle.ty_wire.specs.declared.fault.WireFault.{WireFault}
use Rattle.ty_wire.specs.declared.fault.WireFault.TheVariants.{TooLong, NotJson, Shape, TooMuch}
use Rattle.ty_wire.proofs.Stream.{brings}
use Rattle.ty_client.specs.declared.fault.StreamFault.{StreamFault}
use Rattle.ty_client.specs.declared.fault.StreamFault.TheVariants.{Wire}
use Rattle.ty_client.specs.Places.{place_fault, Judged, judged_by, judged_after, judged}
use Rattle.ty_client.specs.Rebuilt.{Rebuilt, ats, ats_after, last_held}
use Rattle.ty_client.specs.Heard.{Hears, Holds, HoldsAfter}
use Rattle.ty_client.specs.Rebuild.{HasHistory, Staged, RebuildHeld, IsGoodSoFar, IsGoodUnless, ConnectionStands, RebuildStands, Brought, BroughtHere}
use Rattle.ty_client.specs.steps.Stage.{IsJudged, IsHeard}
use Rattle.ty_client.proofs.Judging.{judged_more, judged_none, ats_more, ats_none, last_more}

-- what a `Frames` stands for

fault_each : (bytes : List ℕ) (ms : List Msg) (w : WireFault) → IsFault bytes ms w → AllByRecursion IsWire ms
fault_each bytes ms TooMuch h = h.1.1.each
fault_each bytes ms (TooLong n len) h = h.each
fault_each bytes ms (NotJson n) h = h.each
fault_each bytes ms (Shape n) h = h.each

each_by : (o : Option WireFault) (f : FramesHeld) (bytes : List ℕ) (ms : List Msg) → FramesStandBy o f bytes ms → AllByRecursion IsWire ms
each_by None f bytes ms h = h.reads.each
each_by (Some w) f bytes ms h = fault_each bytes ms w h

all_behind : {X : Type 0} (P : X → Type 0) (xs ys : List X) → AllByRecursion P (xs ++ ys) → AllByRecursion P ys
all_behind P [] ys h = h
all_behind P (x ∷ xs) ys h = all_behind P xs ys h.1

-- the messages behind the earlier ones have frames
pub wire_behind : (f : FramesHeld) (bytes : List ℕ) (ms more : List Msg) → FramesStand f bytes (ms ++ more) → AllByRecursion IsWire more
wire_behind f bytes ms more h = all_behind IsWire ms more (each_by f.fault f bytes (ms ++ more) h.1)

-- a piece

all_good : (f : Option StreamFault) (m : Msg) (ms : List Msg) (later : Judged) → (later.fault ≡ None → later.good ≡ ms) → (judged_by f m later).fault ≡ None → (judged_by f m later).good ≡ m ∷ ms
all_good None m ms later goes h = ap (λ (l : List Msg). m ∷ l) (goes h)
all_good (Some f) m ms later goes h = cc

pub good_all : (before ms : List Msg) → (judged_after before ms).fault ≡ None → (judged_after before ms).good ≡ ms
unfolding judged_after
good_all before [] h = refl
good_all before (m ∷ ms) h = all_good (place_fault before m) m ms (judged_after (before ++ m ∷ []) ms) (good_all (before ++ m ∷ []) ms) h

goes : (fault : Option StreamFault) (wire : Option WireFault) (u : FramesHeld) (s : Staged) (bytes : List ℕ) (ms : List Msg) → (fault ≡ None → wire ≡ None → IsGoodSoFar u s bytes ms) → IsGoodUnless (option_or fault (option_map Wire wire)) u s bytes ms
goes None None u s bytes ms h = h refl refl
goes None (Some w) u s bytes ms h = tt
goes (Some f) wire u s bytes ms h = tt

pub heard_on : (u v : FramesHeld) (s t : Staged) (bytes piece : List ℕ) (ms msgs : List Msg) (at_ends : List Rebuilt) (fault : Option StreamFault) (wire : Option WireFault) (up up' : List ℕ)
    → IsGoodSoFar u s bytes ms → FramesStand v (bytes ++ piece) (ms ++ msgs) → wire ≡ v.fault → IsJudged ms msgs at_ends fault t up up'
    → IsHeard v t bytes piece ms at_ends (option_or fault (option_map Wire wire)) up up'
heard_on u v s t bytes piece ms msgs at_ends fault wire up up' o k w j =
    let e : judged (ms ++ msgs) ≡ record { good = ms ++ (judged_after ms msgs).good; fault = (judged_after ms msgs).fault } = judged_more [] ms msgs (ap (λ (x : Judged). x.fault) o.good) in
    record {
      more = (judged_after ms msgs).good;
      hears = record {
        front = bytes ++ piece;
        rest = [];
        whole = sym (append-nil (bytes ++ piece));
        stops = λ _. refl;
        all = ms ++ msgs;
        wire = wire;
        brings = subst (λ (x : Option WireFault). Brings (bytes ++ piece) (ms ++ msgs) x) (sym w) (brings v (bytes ++ piece) (ms ++ msgs) k);
        good = sym (ap (λ (x : Judged). x.good) e);
        first = ap (λ (x : Option StreamFault). option_or x (option_map Wire wire)) (j.fault_is ∙ sym (ap (λ (x : Judged). x.fault) e));
      };
      goes_on = goes fault wire v t (bytes ++ piece) (ms ++ (judged_after ms msgs).good) (λ f n.
          let same : (judged_after ms msgs).good ≡ msgs = good_all ms msgs (sym j.fault_is ∙ f) in
          record {
            frames_stand = subst (λ (l : List Msg). FramesStand v (bytes ++ piece) (ms ++ l)) (sym same) k;
            no_wire_fault = sym w ∙ n;
            good = ap (λ (l : List Msg). judged (ms ++ l)) same ∙ e ∙ ap (λ (x : Option StreamFault). record { good = ms ++ (judged_after ms msgs).good; fault = x }) (sym j.fault_is ∙ f);
            stage_is = j.stage_is;
          });
      at_ends_are = j.at_ends_are;
      up_is = j.up_is;
    }

-- after a fault nothing is heard
nothing_here : (old new : RebuildHeld) (bytes piece : List ℕ) (ms : List Msg) (at_ends : List Rebuilt) (f : StreamFault) → ConnectionStands old bytes ms → old.fault ≡ Some f → new ≡ old → at_ends ≡ [] → BroughtHere old new bytes piece ms at_ends
nothing_here old new bytes piece ms at_ends f s e same a = record {
  more = [];
  stands = subst (λ (r : RebuildHeld). ConnectionStands r (bytes ++ piece) (ms ++ [])) (sym same) (subst (λ (l : List Msg). ConnectionStands old (bytes ++ piece) l) (sym (append-nil ms)) (record {
    unspent = s.unspent;
    hears = record {
      front = s.hears.front;
      rest = s.hears.rest ++ piece;
      whole = ap (λ (l : List ℕ). l ++ piece) s.hears.whole ∙ append_assoc s.hears.front s.hears.rest piece;
      stops = λ n. cc (sym e ∙ n);
      all = s.hears.all;
      wire = s.hears.wire;
      brings = s.hears.brings;
      good = s.hears.good;
      first = s.hears.first;
    };
    goes_on = subst (λ (o : Option StreamFault). IsGoodUnless o old.unread old.stage (bytes ++ piece) ms) (sym e) tt;
  }));
  at_ends_are = a ∙ sym (ats_none ms);
  up = ap (λ (r : RebuildHeld). r.up) same ∙ sym (append-nil old.up);
}

brought_here : (old new : RebuildHeld) (bytes piece : List ℕ) (ms : List Msg) (at_ends : List Rebuilt) (fault : Option StreamFault)
    → ConnectionStands old bytes ms → old.fault ≡ None
    → ((b : List ℕ) (l : List Msg) → IsGoodSoFar old.unread old.stage b l → IsHeard new.unread new.stage b piece l at_ends fault old.up new.up)
    → new.fault ≡ fault → new.spent ≡ false
    → BroughtHere old new bytes piece ms at_ends
brought_here old new bytes piece ms at_ends fault s e hear f n =
    let o : IsGoodSoFar old.unread old.stage bytes ms = subst (λ (x : Option StreamFault). IsGoodUnless x old.unread old.stage bytes ms) e s.goes_on in
    let h : IsHeard new.unread new.stage bytes piece ms at_ends fault old.up new.up = hear bytes ms o in
    record {
      more = h.more;
      stands = record {
        unspent = n;
        hears = subst (λ (x : Option StreamFault). Hears (bytes ++ piece) (ms ++ h.more) x) (sym f) h.hears;
        goes_on = subst (λ (x : Option StreamFault). IsGoodUnless x new.unread new.stage (bytes ++ piece) (ms ++ h.more)) (sym f) h.goes_on;
      };
      at_ends_are = h.at_ends_are;
      up = h.up_is;
    }

-- what it stands for of its connection, without those before, and back with them

here : (r : RebuildHeld) (before : List (List ℕ)) (bytes : List ℕ) (ms : List Msg) → RebuildStands r before bytes ms → ConnectionStands r bytes ms
here r before bytes ms s = record { unspent = s.unspent; hears = s.hears; goes_on = s.goes_on }

with_before : (old new : RebuildHeld) (before : List (List ℕ)) (bytes piece : List ℕ) (ms : List Msg) (at_ends : List Rebuilt) → RebuildStands old before bytes ms → new.held ≡ last_held old.held at_ends → BroughtHere old new bytes piece ms at_ends → Brought old new before bytes piece ms at_ends
with_before old new before bytes piece ms at_ends s k h = record {
  more = h.more;
  stands = record {
    unspent = h.stands.unspent;
    hears = h.stands.hears;
    goes_on = h.stands.goes_on;
    held_before = s.held_before;
    holds = s.holds;
    held_is =
        k ∙ ap (λ (x : Option Rebuilt). last_held x at_ends) s.held_is ∙ sym (last_more s.held_before (ats ms) at_ends)
        ∙ ap (last_held s.held_before) (ap (λ (l : List Rebuilt). ats ms ++ l) h.at_ends_are ∙ sym (ats_more [] ms h.more));
  };
  at_ends_are = h.at_ends_are;
  up = h.up;
}

-- connections

pub hears_nothing : (u : FramesHeld) → FramesStand u [] [] → u.fault ≡ None → Hears [] [] None
hears_nothing u k w = record {
  front = [];
  rest = [];
  whole = refl;
  stops = λ _. refl;
  all = [];
  wire = None;
  brings = subst (λ (x : Option WireFault). Brings [] [] x) w (brings u [] [] k);
  good = sym (ap (λ (x : Judged). x.good) (judged_none []));
  first = sym (ap (λ (x : Judged). option_or x.fault None) (judged_none []));
}

pub good_nothing : (u : FramesHeld) (s : Staged) → FramesStand u [] [] → u.fault ≡ None → s ≡ record { frame = 1; status = None; fresh = false; number = None; pairs = [] } → IsGoodSoFar u s [] []
good_nothing u s k w e = record { frames_stand = k; no_wire_fault = w; good = judged_none []; stage_is = e }

pub begins_here : (r : RebuildHeld) → r.spent ≡ false → r.fault ≡ None → r.unread.fault ≡ None → FramesStand r.unread [] [] → r.stage ≡ record { frame = 1; status = None; fresh = false; number = None; pairs = [] } → ConnectionStands r [] []
begins_here r n f w k s = record {
  unspent = n;
  hears = subst (λ (x : Option StreamFault). Hears [] [] x) (sym f) (hears_nothing r.unread k w);
  goes_on = subst (λ (x : Option StreamFault). IsGoodUnless x r.unread r.stage [] []) (sym f) (good_nothing r.unread r.stage k w s);
}

pub begins : (r : RebuildHeld) (connections : List (List ℕ)) → r.spent ≡ false → r.fault ≡ None → r.unread.fault ≡ None → FramesStand r.unread [] [] → r.stage ≡ record { frame = 1; status = None; fresh = false; number = None; pairs = [] } → Holds connections r.held → RebuildStands r connections [] []
unfolding ats_after last_held
begins r connections n f w k s h =
    let here : ConnectionStands r [] [] = begins_here r n f w k s in
    record { unspent = n; hears = here.hears; goes_on = here.goes_on; held_before = r.held; holds = h; held_is = refl }

pub holds_more : (held : Option Rebuilt) (connections : List (List ℕ)) (now : Option Rebuilt) (bytes : List ℕ) (ms : List Msg) (fault : Option StreamFault) → HoldsAfter held connections now → Hears bytes ms fault → HoldsAfter held (connections ++ bytes ∷ []) (last_held now (ats ms))
holds_more held [] now bytes ms fault h k = (ms, fault, k, ap (λ (x : Option Rebuilt). last_held x (ats ms)) h)
holds_more held (c ∷ cs) now bytes ms fault (l, f, x, h) k = (l, f, x, holds_more (last_held held (ats l)) cs now bytes ms fault h k)

-- what is held is what the connections before and this one leave
pub holds_all : (r : RebuildHeld) (before : List (List ℕ)) (bytes : List ℕ) (ms : List Msg) → RebuildStands r before bytes ms → Holds (before ++ bytes ∷ []) r.held
holds_all r before bytes ms s = subst (λ (x : Option Rebuilt). Holds (before ++ bytes ∷ []) x) (sym s.held_is) (holds_more None before s.held_before bytes ms r.fault s.holds s.hears)

pub last_is : (held : Option Rebuilt) (xs : List Rebuilt) (a : Rebuilt) → slice_get xs (length xs - 1) ≡ Some a → last_held held xs ≡ Some a
unfolding last_held
last_is held [] a h = cc
last_is held (x ∷ []) a h = h
last_is held (x ∷ y ∷ xs) a h =
    let e : length (x ∷ y ∷ xs) - 1 ≡ suc (length (y ∷ xs) - 1) = omega arith in
    last_is (Some x) (y ∷ xs) a (sym (ap (slice_get (x ∷ y ∷ xs)) e) ∙ h)

pub none_left : (held : Option Rebuilt) (xs : List Rebuilt) → length xs ≡ 0 → held ≡ last_held held xs
unfolding last_held
none_left held [] h = refl
none_left held (x ∷ xs) h = absurd (omega arith)

-- as `Rebuild` uses them

pub history_wire : (u v : FramesHeld) (piece : List ℕ) (msgs : List Msg) → HasHistory false u → ((bytes : List ℕ) (ms : List Msg) → FramesStand u bytes ms → FramesStand v (bytes ++ piece) (ms ++ msgs)) → AllByRecursion IsWire msgs
history_wire u v piece msgs (bytes, ms, k) f = wire_behind v (bytes ++ piece) ms msgs (f bytes ms k)

pub some_of : {A : Type 0} (o : Option A) → is_some o ≡ true → (x : A) × (o ≡ Some x)
some_of None h = cc
some_of (Some x) h = (x, refl)

pub none_of : {A : Type 0} (o : Option A) → is_some o ≡ false → o ≡ None
none_of None h = refl
none_of (Some x) h = cc

pub brought_from : (v old new : RebuildHeld) (bytes piece : List ℕ) (ms : List Msg) (at_ends : List Rebuilt) (fault : Option StreamFault)
    → v ≡ old → v.fault ≡ None
    → ((b : List ℕ) (l : List Msg) → IsGoodSoFar v.unread v.stage b l → IsHeard new.unread new.stage b piece l at_ends fault v.up new.up)
    → new.fault ≡ fault → new.spent ≡ false
    → ConnectionStands old bytes ms → BroughtHere old new bytes piece ms at_ends
brought_from v old new bytes piece ms at_ends fault e n hear f u =
    let P : RebuildHeld → Type 0 = λ r. ConnectionStands r bytes ms → BroughtHere r new bytes piece ms at_ends in
    subst P e (λ s. brought_here v new bytes piece ms at_ends fault s n hear f u)

pub nothing_from : (v old : RebuildHeld) (bytes piece : List ℕ) (ms : List Msg) (at_ends : List Rebuilt) → v ≡ old → is_some v.fault ≡ true → at_ends ≡ [] → ConnectionStands old bytes ms → BroughtHere old old bytes piece ms at_ends
nothing_from v old bytes piece ms at_ends e t a s =
    let f : (x : StreamFault) × (v.fault ≡ Some x) = some_of v.fault t in
    nothing_here old old bytes piece ms at_ends f.0 s (sym (ap (λ (r : RebuildHeld). r.fault) e) ∙ f.1) refl a

-- the same over the connections before

pub brought_all : (v old new : RebuildHeld) (before : List (List ℕ)) (bytes piece : List ℕ) (ms : List Msg) (at_ends : List Rebuilt)
    → v ≡ old → (ConnectionStands old bytes ms → BroughtHere old new bytes piece ms at_ends) → new.held ≡ last_held v.held at_ends
    → RebuildStands old before bytes ms → Brought old new before bytes piece ms at_ends
brought_all v old new before bytes piece ms at_ends e h k s =
    with_before old new before bytes piece ms at_ends s (k ∙ ap (λ (r : RebuildHeld). last_held r.held at_ends) e) (h (here old before bytes ms s))
