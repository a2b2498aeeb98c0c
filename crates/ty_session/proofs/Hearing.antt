-- Messages that are heard, one after another.
use Rattle.std.proofs.Common.{◌≡◌, ℕ, ◌+◌, ◌<◌, ◌≤◌, ◌^◌, ◌-◌, Bool, true, false, List, [], ◌∷◌, ◌++◌, length, drop, refl, sym, ap, subst, ◌∙◌, arith, append-nil, length-append, ne_eqb, true≢false, add-one, drop-cons, get_or, min}
use Rattle.std.specs.Prelude.{Option, None, Some, is_some, IsSome, option_map, if◌then◌else◌}
use Rattle.std.specs.Option.{option_or}
use Rattle.std.proofs.lemmas.List.{length-take, drop_all}
use Rattle.ty_base.specs.declared.entry.Entry.{Entry}
use Rattle.ty_wire.specs.Wire.{frame, frames}
use Rattle.ty_wire.specs.Held.{FramesHeld}
use Rattle.ty_wire.specs.Stream.{FramesStand, FramesStandBy, Brings, read_part}
use Rattle.ty_wire.proofs.Moved.{frame-len}
use Rattle.ty_wire.specs.declared.message.Msg.{Msg}
use Rattle.ty_wire.specs.declared.fault.WireFault.{WireFault}
use Rattle.ty_wire.specs.declared.fault.WireFault.TheVariants.{TooLong, NotJson, Shape, TooMuch}
use Rattle.ty_marks.specs.Marks.{Mark}
use Rattle.ty_session.specs.Client.{client_fault, first_client_fault, Shows}
use Rattle.ty_session.specs.declared.stance.Stance.{Stance}
use Rattle.ty_session.specs.Story.{Story, heard_by, heard_more, greeted_by, left_by, looked_at}
use Rattle.ty_session.specs.Held.{SessionHeld, SessionStands, IsIn, IsHearing}
use Rattle.ty_session.specs.Outcomes.{HeardMore}
use Rattle.ty_session.specs.steps.Hearing.{MoreMessages, IsListened, heard_times}
use Rattle.ty_session.specs.steps.Held.{looked_view, over_view}
use Rattle.ty_session.specs.declared.phase.Phase.{Phase}
use Rattle.ty_session.specs.declared.phase.Phase.TheVariants.{Waiting, Greeted, Joined, Over}
use Rattle.ty_session.specs.declared.reason.Reason.{Reason}
use Rattle.ty_session.specs.declared.reason.Reason.TheVariants.{BadBytes}

-- ---- places

pub fault-cons : (k : ℕ) (m : Msg) (ms : List Msg) → first_client_fault k (m ∷ ms) ≡ option_or (client_fault k m) (first_client_fault (k + 1) ms)
unfolding first_client_fault
fault-cons k m ms = refl

pub fault-none : (k : ℕ) → first_client_fault k [] ≡ None
unfolding first_client_fault
fault-none k = refl

or_assoc : (a b c : Option Reason) → option_or a (option_or b c) ≡ option_or (option_or a b) c
or_assoc None b c = refl
or_assoc (Some a) b c = refl

pub fault-append : (k : ℕ) (ms more : List Msg) → first_client_fault k (ms ++ more) ≡ option_or (first_client_fault k ms) (first_client_fault (k + length ms) more)
fault-append k [] more = ap (λ (n : ℕ). first_client_fault n more) here ∙ ap (λ (o : Option Reason). option_or o (first_client_fault (k + 0) more)) (sym (fault-none k))
  where
    here : k ≡ k + 0
    here = omega arith
fault-append k (m ∷ ms) more =
    let next : k + 1 + length ms ≡ k + length (m ∷ ms) = omega arith in
    fault-cons k m (ms ++ more)
    ∙ ap (option_or (client_fault k m)) (fault-append (k + 1) ms more)
    ∙ or_assoc (client_fault k m) (first_client_fault (k + 1) ms) (first_client_fault (k + 1 + length ms) more)
    ∙ ap (λ (o : Option Reason). option_or o (first_client_fault (k + 1 + length ms) more)) (sym (fault-cons k m ms))
    ∙ ap (λ (n : ℕ). option_or (first_client_fault k (m ∷ ms)) (first_client_fault n more)) next

-- ---- how many messages there are

frames-len : (ms : List Msg) → length ms ≤ length (frames ms)
frames-len [] = omega arith
frames-len (m ∷ ms) = omega (arith, length-append (frame m) (frames ms), frame-len m, frames-len ms)

whole-len : (bytes : List ℕ) (ms : List Msg) (rest : List ℕ) → bytes ≡ frames ms ++ rest → length ms ≤ length bytes
whole-len bytes ms rest e = omega (arith, ap length e, length-append (frames ms) rest, frames-len ms)

few_by : (o : Option WireFault) (f : FramesHeld) (bytes : List ℕ) (ms : List Msg) → FramesStandBy o f bytes ms → length ms < 2 ^ 40
few_by None f bytes ms h = omega (arith, whole-len bytes ms f.rest h.reads.whole, h.short)
few_by (Some TooMuch) f bytes ms h = omega (arith, whole-len (read_part bytes) ms h.1.0 h.1.1.whole, length-take (2 ^ 40 - 1) bytes)
few_by (Some (TooLong n len)) f bytes ms h = omega (arith, whole-len (read_part bytes) ms h.rest h.whole, length-take (2 ^ 40 - 1) bytes)
few_by (Some (NotJson n)) f bytes ms h = omega (arith, whole-len (read_part bytes) ms h.rest h.whole, length-take (2 ^ 40 - 1) bytes)
few_by (Some (Shape n)) f bytes ms h = omega (arith, whole-len (read_part bytes) ms h.rest h.whole, length-take (2 ^ 40 - 1) bytes)

pub few : (f : FramesHeld) (bytes : List ℕ) (ms more : List Msg) → FramesStand f bytes (ms ++ more) → length ms + length more < 2 ^ 40
few f bytes ms more h = omega (arith, few_by f.fault f bytes (ms ++ more) h.1, length-append ms more)

brings_by : (o : Option WireFault) (f : FramesHeld) (bytes : List ℕ) (ms : List Msg) → FramesStandBy o f bytes ms → Brings bytes ms o
brings_by None f bytes ms h = (h.short, (f.rest, h.reads))
brings_by (Some w) f bytes ms h = h

-- ---- a piece

hearing_in : (p : Phase) (frame : ℕ) (reason : Option Reason) (unread : FramesHeld) (bytes : List ℕ) (ms : List Msg) (marks : List Mark) (es : List Entry) → reason ≡ None → IsIn p frame reason unread bytes ms marks es → IsHearing frame reason unread bytes ms
hearing_in Waiting frame reason unread bytes ms marks es e h = h.0
hearing_in Greeted frame reason unread bytes ms marks es e h = h.0
hearing_in Joined frame reason unread bytes ms marks es e h = h.0
hearing_in Over frame reason unread bytes ms marks es e h = absurd (true≢false (sym (subst (λ (o : Option Reason). IsSome o) e h)))

over_by : (p : Phase) (frame : ℕ) (reason : Option Reason) (unread : FramesHeld) (bytes : List ℕ) (ms : List Msg) (marks : List Mark) (es : List Entry) (r : Reason) → reason ≡ Some r → IsIn p frame reason unread bytes ms marks es → p ≡ Over
over_by Waiting frame reason unread bytes ms marks es r e h = absurd (true≢false (ap is_some (sym e ∙ h.0.no_reason)))
over_by Greeted frame reason unread bytes ms marks es r e h = absurd (true≢false (ap is_some (sym e ∙ h.0.no_reason)))
over_by Joined frame reason unread bytes ms marks es r e h = absurd (true≢false (ap is_some (sym e ∙ h.0.no_reason)))
over_by Over frame reason unread bytes ms marks es r e h = refl

hearing : (v : SessionHeld) (s : Story) → s.stance.reason ≡ None → SessionStands v s → IsHearing v.frame s.stance.reason v.unread s.bytes s.messages
hearing v s e st = hearing_in s.stance.phase v.frame s.stance.reason v.unread s.bytes s.messages s.marks s.entries e st.phase

-- no fault of a message and none of the wire
neither : (o : Option Reason) (w : Option WireFault) → option_or o (option_map BadBytes w) ≡ None → (o ≡ None) × (w ≡ None)
neither None None e = (refl, refl)
neither None (Some w) e = cc
neither (Some r) w e = cc

times_by : (now : ℕ) (more : List Msg) (t : Stance) → heard_times now (length more) t ≡ heard_by now more t
times_by now [] t = refl
times_by now (m ∷ ms) t = ap (λ (b : Bool). if b then record t { looked = now } else record t { looked = now; heard = now; phase = greeted_by t.phase }) (ne_eqb (length (m ∷ ms)) 0 (λ e. omega (arith, e)))

-- the phase behind more messages
phase_by : (p : Phase) (now : ℕ) (more : List Msg) (frame new_frame : ℕ) (t : Stance) (unread new_unread : FramesHeld) (bytes new_bytes : List ℕ) (ms : List Msg) (marks : List Mark) (es : List Entry) → t.phase ≡ p → t.reason ≡ None
    → IsIn p frame t.reason unread bytes ms marks es → IsHearing new_frame t.reason new_unread new_bytes (ms ++ more)
    → IsIn (heard_by now more t).phase new_frame (heard_by now more t).reason new_unread new_bytes (ms ++ more) marks es
phase_by Waiting now [] frame new_frame t unread new_unread bytes new_bytes ms marks es e n h k =
    subst (λ (q : Phase). IsIn q new_frame t.reason new_unread new_bytes (ms ++ []) marks es) (sym e) (k, append-nil ms ∙ h.1, h.2, h.3)
phase_by Waiting now (m ∷ more) frame new_frame t unread new_unread bytes new_bytes ms marks es e n h k =
    subst (λ (q : Phase). IsIn (greeted_by q) new_frame t.reason new_unread new_bytes (ms ++ (m ∷ more)) marks es) (sym e) (k, omega (arith, length-append ms (m ∷ more)), h.2, h.3)
phase_by Greeted now [] frame new_frame t unread new_unread bytes new_bytes ms marks es e n h k =
    subst (λ (q : Phase). IsIn q new_frame t.reason new_unread new_bytes (ms ++ []) marks es) (sym e) (k, omega (arith, length-append ms [], h.1), h.2, h.3)
phase_by Greeted now (m ∷ more) frame new_frame t unread new_unread bytes new_bytes ms marks es e n h k =
    subst (λ (q : Phase). IsIn (greeted_by q) new_frame t.reason new_unread new_bytes (ms ++ (m ∷ more)) marks es) (sym e) (k, omega (arith, length-append ms (m ∷ more)), h.2, h.3)
phase_by Joined now [] frame new_frame t unread new_unread bytes new_bytes ms marks es e n h k =
    subst (λ (q : Phase). IsIn q new_frame t.reason new_unread new_bytes (ms ++ []) marks es) (sym e) (k, omega (arith, length-append ms [], h.1), h.2)
phase_by Joined now (m ∷ more) frame new_frame t unread new_unread bytes new_bytes ms marks es e n h k =
    subst (λ (q : Phase). IsIn (greeted_by q) new_frame t.reason new_unread new_bytes (ms ++ (m ∷ more)) marks es) (sym e) (k, omega (arith, length-append ms (m ∷ more)), h.2)
phase_by Over now more frame new_frame t unread new_unread bytes new_bytes ms marks es e n h k = absurd (true≢false (sym (subst (λ (o : Option Reason). IsSome o) n h)))

pub hears : (v w x : SessionHeld) (s : Story) (now : ℕ) (bytes : List ℕ) (count : ℕ) (fault : Option Reason) → v.stance.reason ≡ None → IsListened v w bytes count fault → fault ≡ None
    → x ≡ record w { stance = heard_times now count w.stance } → SessionStands v s → HeardMore x now bytes count s
hears v w x s now bytes count fault unended l none e st =
    let no_reason : s.stance.reason ≡ None = ap (λ (t : Stance). t.reason) (sym st.stance) ∙ unended in
    let k = hearing v s no_reason st in
    let h = l.heard s.bytes s.messages k.frames_stand k.frame_is in
    let m : MoreMessages w.unread (s.bytes ++ bytes) s.messages count fault = h.0 in
    let both = neither (first_client_fault (length s.messages + 1) m.more) w.unread.fault (sym m.fault_is ∙ none) in
    let shift : 1 + length s.messages ≡ length s.messages + 1 = omega arith in
    let now_hearing : IsHearing w.frame s.stance.reason w.unread (s.bytes ++ bytes) (s.messages ++ m.more) = record {
      frames_stand = m.stands;
      no_wire_fault = both.1;
      good = fault-append 1 s.messages m.more ∙ ap (λ (o : Option Reason). option_or o (first_client_fault (1 + length s.messages) m.more)) k.good ∙ ap (λ (n : ℕ). first_client_fault n m.more) shift ∙ both.0;
      no_reason = no_reason;
      frame_is = omega (arith, h.1, k.frame_is, m.counted, length-append s.messages m.more);
    } in
    let v_is : x ≡ record v { stance = heard_times now count v.stance; unread = w.unread; frame = w.frame } = e ∙ ap (λ (y : SessionHeld). record y { stance = heard_times now count y.stance }) l.same in
    let stance : heard_times now count v.stance ≡ heard_by now m.more s.stance =
    ap (heard_times now count) st.stance ∙ ap (λ (n : ℕ). heard_times now n s.stance) m.counted ∙ times_by now m.more s.stance in
    record {
      more = m.more;
      count = m.counted;
      stands = subst (λ (y : SessionHeld). SessionStands y (heard_more now bytes m.more s)) (sym v_is) (record {
        unspent = st.unspent;
        stance = stance;
        number = st.number;
        status = st.status;
        ended = st.ended;
        told = st.told;
        held = st.held;
        marks = st.marks;
        queued = record { within = st.queued.within; rest = st.queued.rest };
        phase = phase_by s.stance.phase now m.more v.frame w.frame s.stance v.unread w.unread s.bytes (s.bytes ++ bytes) s.messages s.marks s.entries refl no_reason st.phase now_hearing;
      });
    }

pub shows : (v w : SessionHeld) (s : Story) (bytes : List ℕ) (count : ℕ) (fault : Option Reason) (r : Reason) → s.stance.reason ≡ None → IsListened v w bytes count fault → fault ≡ Some r → SessionStands v s → Shows (s.bytes ++ bytes) r
shows v w s bytes count fault r unended l some st =
    let k = hearing v s unended st in
    let h = l.heard s.bytes s.messages k.frames_stand k.frame_is in
    let m : MoreMessages w.unread (s.bytes ++ bytes) s.messages count fault = h.0 in
    let shift : 1 + length s.messages ≡ length s.messages + 1 = omega arith in
    record {
      messages = s.messages ++ m.more;
      wire = w.unread.fault;
      brings = brings_by w.unread.fault w.unread (s.bytes ++ bytes) (s.messages ++ m.more) m.stands.1;
      first = sym some ∙ m.fault_is
          ∙ ap (λ (o : Option Reason). option_or o (option_map BadBytes w.unread.fault)) (sym (fault-append 1 s.messages m.more ∙ ap (λ (o : Option Reason). option_or o (first_client_fault (1 + length s.messages) m.more)) k.good ∙ ap (λ (n : ℕ). first_client_fault n m.more) shift));
    }

pub leaves : (v w x : SessionHeld) (s : Story) (bytes : List ℕ) (count : ℕ) (fault : Option Reason) (r : Reason) → IsListened v w bytes count fault → x ≡ over_view r w → SessionStands v s → SessionStands x (left_by r s)
leaves v w x s bytes count fault r l e st =
    subst (λ (y : SessionHeld). SessionStands y (left_by r s)) (sym (e ∙ ap (over_view r) l.same)) (record {
      unspent = st.unspent;
      stance = ap (λ (t : Stance). record t { phase = Over; reason = Some r }) st.stance;
      number = st.number;
      status = st.status;
      ended = st.ended;
      told = st.told;
      held = st.held;
      marks = st.marks;
      queued = record { within = st.queued.within; rest = st.queued.rest };
      phase = refl;
    })

-- ---- the look

heard_looked : (now : ℕ) (bytes : List ℕ) (more : List Msg) (s : Story) → heard_more now bytes more (looked_at now s) ≡ heard_more now bytes more s
heard_looked now bytes [] s = refl
heard_looked now bytes (m ∷ ms) s = refl

pub looks : (v w : SessionHeld) (s : Story) (now : ℕ) → w ≡ looked_view now v → SessionStands v s → SessionStands w (looked_at now s)
looks v w s now e st = subst (λ (y : SessionHeld). SessionStands y (looked_at now s)) (sym e) (record {
  unspent = st.unspent;
  stance = ap (λ (t : Stance). record t { looked = now }) st.stance;
  number = st.number;
  status = st.status;
  ended = st.ended;
  told = st.told;
  held = st.held;
  marks = st.marks;
  queued = record { within = st.queued.within; rest = st.queued.rest };
  phase = st.phase;
})

-- a session that is over stays so
pub stays : (v w : SessionHeld) (s : Story) (now : ℕ) (r : Reason) → v.stance.reason ≡ Some r → w ≡ looked_view now v → SessionStands v s → SessionStands w (left_by r (looked_at now s))
stays v w s now r reason e st =
    let why : s.stance.reason ≡ Some r = ap (λ (t : Stance). t.reason) (sym st.stance) ∙ reason in
    let over : s.stance.phase ≡ Over = over_by s.stance.phase v.frame s.stance.reason v.unread s.bytes s.messages s.marks s.entries r why st.phase in
    subst (SessionStands w) (λ i. record s { stance = record s.stance { looked = now; phase = over i; reason = why i } }) (looks v w s now e st)

pub hears_looked : (v look w x : SessionHeld) (s : Story) (now : ℕ) (bytes : List ℕ) (count : ℕ) (fault : Option Reason) → look ≡ looked_view now v → look.stance.reason ≡ None → IsListened look w bytes count fault → fault ≡ None
    → x ≡ record w { stance = heard_times now count w.stance } → SessionStands v s → HeardMore x now bytes count s
hears_looked v look w x s now bytes count fault e unended l none f st =
    let h : HeardMore x now bytes count (looked_at now s) = hears look w x (looked_at now s) now bytes count fault unended l none f (looks v look s now e st) in
    record { more = h.more; count = h.count; stands = subst (SessionStands x) (heard_looked now bytes h.more s) h.stands }

pub shows_looked : (v look w : SessionHeld) (s : Story) (now : ℕ) (bytes : List ℕ) (count : ℕ) (fault : Option Reason) (r : Reason) → look ≡ looked_view now v → s.stance.reason ≡ None → IsListened look w bytes count fault → fault ≡ Some r → SessionStands v s → Shows (s.bytes ++ bytes) r
shows_looked v look w s now bytes count fault r e unended l some st = shows look w (looked_at now s) bytes count fault r unended l some (looks v look s now e st)

pub leaves_looked : (v look w x : SessionHeld) (s : Story) (now : ℕ) (bytes : List ℕ) (count : ℕ) (fault : Option Reason) (r : Reason) → look ≡ looked_view now v → IsListened look w bytes count fault → x ≡ over_view r w → SessionStands v s → SessionStands x (left_by r (looked_at now s))
leaves_looked v look w x s now bytes count fault r e l f st = leaves look w x (looked_at now s) bytes count fault r l f (looks v look s now e st)

-- ---- the code's steps

pub listened : (unread : FramesHeld) (bytes : List ℕ) (ms more : List Msg) (count frame : ℕ) (first fault : Option Reason) → FramesStand unread bytes (ms ++ more) → frame ≡ length ms + 1 → count ≡ length more
    → (frame + length more < 2 ^ 64 → first ≡ first_client_fault frame more) → fault ≡ option_or first (option_map BadBytes unread.fault) → MoreMessages unread bytes ms count fault
listened unread bytes ms more count frame first fault st f c g e = record {
  more = more;
  counted = c;
  stands = st;
  fault_is = e ∙ ap (λ (o : Option Reason). option_or o (option_map BadBytes unread.fault)) (g (omega (arith, f, few unread bytes ms more st)) ∙ ap (λ (n : ℕ). first_client_fault n more) f);
}

-- ---- the loop over messages

at_place : (msgs : List Msg) (i : ℕ) (m : Msg) → i < length msgs → m ≡ get_or msgs i m → drop i msgs ≡ m ∷ drop (i + 1) msgs
at_place msgs i m h e = drop-cons msgs i m h ∙ ap (λ (n : ℕ). get_or msgs i m ∷ drop n msgs) (sym (add-one i)) ∙ ap (λ (x : Msg). x ∷ drop (i + 1) msgs) (sym e)

abbrev Sofar : ℕ → ℕ → ℕ → List Msg → Type 0
Sofar frame next i msgs = (next ≡ frame + i) × (first_client_fault next (drop i msgs) ≡ first_client_fault frame msgs)

or_some : (o p : Option Reason) → is_some o ≡ true → option_or o p ≡ o
or_some None p h = absurd (true≢false (sym h))
or_some (Some r) p h = refl

or_none : (o p : Option Reason) → is_some o ≡ false → option_or o p ≡ p
or_none None p h = refl
or_none (Some r) p h = absurd (true≢false h)

pub bad_found : (frame next i : ℕ) (msgs : List Msg) (m : Msg) (r : Option Reason) → Sofar frame next i msgs → i < length msgs → m ≡ get_or msgs i m → r ≡ client_fault next m → is_some r ≡ true → r ≡ first_client_fault frame msgs
bad_found frame next i msgs m r s h e p b =
    let rest : Option Reason = first_client_fault (next + 1) (drop (i + 1) msgs) in
    sym (or_some r rest b) ∙ ap (λ (o : Option Reason). option_or o rest) p ∙ sym (fault-cons next m (drop (i + 1) msgs)) ∙ ap (first_client_fault next) (sym (at_place msgs i m h e)) ∙ s.1

pub good_step : (frame next after i : ℕ) (msgs : List Msg) (m : Msg) (r : Option Reason) → Sofar frame next i msgs → i < length msgs → m ≡ get_or msgs i m → r ≡ client_fault next m → is_some r ≡ false → frame + length msgs < 2 ^ 64 → after ≡ min (next + 1) (2 ^ 64 - 1) → Sofar frame after (i + 1) msgs
good_step frame next after i msgs m r s h e p b l a =
    let one : after ≡ next + 1 = omega (arith, a, s.0, h, l) in
    let rest : Option Reason = first_client_fault (next + 1) (drop (i + 1) msgs) in (
      omega (arith, one, s.0),
      ap (λ (n : ℕ). first_client_fault n (drop (i + 1) msgs)) one
          ∙ sym (or_none r rest b) ∙ ap (λ (o : Option Reason). option_or o rest) p ∙ sym (fault-cons next m (drop (i + 1) msgs)) ∙ ap (first_client_fault next) (sym (at_place msgs i m h e)) ∙ s.1,
    )

pub no_bad : (frame next i : ℕ) (msgs : List Msg) → Sofar frame next i msgs → length msgs ≤ i → None ≡ first_client_fault frame msgs
no_bad frame next i msgs s h = sym (fault-none next) ∙ ap (first_client_fault next) (sym (drop_all i msgs h)) ∙ s.1

-- the session has the new unfinished frame
pub kept : (inside v w : SessionHeld) (unread : FramesHeld) (frame : ℕ) (bytes : List ℕ) (count : ℕ) (fault : Option Reason) → inside ≡ v → w ≡ record inside { unread = unread; frame = frame }
    → ((so_far : List ℕ) (ms : List Msg) → FramesStand inside.unread so_far ms → inside.frame ≡ length ms + 1 → MoreMessages unread (so_far ++ bytes) ms count fault)
    → frame ≡ min (inside.frame + count) (2 ^ 64 - 1) → IsListened v w bytes count fault
kept inside v w unread frame bytes count fault i e h f =
    subst (λ (x : SessionHeld). IsListened x w bytes count fault) i (subst (λ (x : SessionHeld). IsListened inside x bytes count fault) (sym e) (record {
      same = refl;
      heard = λ so_far ms st k.
          let m : MoreMessages unread (so_far ++ bytes) ms count fault = h so_far ms st k in
          (m, omega (arith, f, k, m.counted, few unread (so_far ++ bytes) ms m.more m.stands));
    }))
