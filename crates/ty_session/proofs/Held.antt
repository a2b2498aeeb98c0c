-- What each change of a session's fields makes of the story that it stands for.
use Rattle.std.proofs.Common.{◌≡◌, ◌≢◌, ℕ, ◌<◌, ◌≤◌, ◌^◌, Bool, true, false, cond, ◌&&◌, List, [], ◌∷◌, ◌++◌, length, drop, refl, sym, ap, subst, ◌∙◌, arith, append-nil, length-append, length-drop, lt-ltb, le-ltb, true≢false}
use Rattle.std.specs.Prelude.{None, nat_lt, Result, Ok, Err, OnOk}
use Rattle.std.proofs.lemmas.List.{drop-drop}
use Rattle.std.proofs.lemmas.List.Sums.{fold_push}
use Rattle.ty_base.specs.Feed.{World, replay}
use Rattle.ty_base.specs.declared.entry.Entry.{Entry}
use Rattle.ty_base.specs.declared.delta.Delta.{Delta}
use Rattle.ty_base.specs.declared.status.Status.{Status}
use Rattle.ty_wire.specs.Wire.{frame, frames}
use Rattle.ty_wire.specs.Held.{FramesHeld}
use Rattle.ty_wire.specs.Stream.{FramesStand}
use Rattle.ty_base.specs.declared.status.Status.TheVariants.{Wait}
use Rattle.ty_session.specs.Client.{first_client_fault}
use Rattle.ty_wire.specs.Talk.{group_messages, status_change, world_after, deltas_between}
use Rattle.ty_wire.specs.declared.message.Msg.TheVariants.{Ping}
use Rattle.ty_session.specs.Times.{is_ping_due, closes_group}
use Rattle.ty_crumb.specs.Crumbs.{CrumbStands, last_deltas, world_of}
use Rattle.ty_crumb.specs.declared.crumb.Crumb.{Crumb}
use Rattle.ty_marks.specs.Marks.{Mark, start, group, ping, end_after, bytes_of, mark_messages, messages_after}
use Rattle.ty_marks.proofs.Marks.{messages_of-more, world-more}
use Rattle.ty_session.proofs.Marks.{end-push, bytes-push, bytes-none, bytes-start, out-more, marks-ping, marks-close, marks-more, marks-end, world-whole, between-push, between-none}
use Rattle.ty_session.specs.declared.stance.Stance.{Stance}
use Rattle.ty_session.specs.Story.{Story, over_for, left_by, opened_at, begun, pinged_at, closed, with_entry, joined_at, given_up, held_deltas, snapshot_bytes, is_joined, ticked, is_holding, idled, offered_at, pings_at}
use Rattle.ty_session.specs.Held.{SessionHeld, IsQueued, SessionStands, IsIn}
use Rattle.ty_session.specs.steps.Held.{over_view, joined_view, pinged_view, taken_view, closed_view, entered_view}
use Rattle.ty_session.specs.declared.phase.Phase.{Phase}
use Rattle.ty_session.specs.declared.phase.Phase.TheVariants.{Waiting, Greeted, Joined, Over}
use Rattle.ty_session.specs.declared.reason.Reason.{Reason}

abbrev PhaseOf : Phase → ℕ → FramesHeld → Story → Type 0
PhaseOf p frame unread s = IsIn p frame s.stance.reason unread s.bytes s.messages s.marks s.entries

in_joined : (frame : ℕ) (unread : FramesHeld) (s : Story) → s.stance.phase ≡ Joined → PhaseOf s.stance.phase frame unread s → PhaseOf Joined frame unread s
in_joined frame unread s e h = subst (λ (p : Phase). PhaseOf p frame unread s) e h

in_greeted : (frame : ℕ) (unread : FramesHeld) (s : Story) → s.stance.phase ≡ Greeted → PhaseOf s.stance.phase frame unread s → PhaseOf Greeted frame unread s
in_greeted frame unread s e h = subst (λ (p : Phase). PhaseOf p frame unread s) e h

-- ---- what is queued

queued_more : (out more : List ℕ) (s t : Story) → t.removed ≡ s.removed → bytes_of t.entries t.marks ≡ bytes_of s.entries s.marks ++ more → IsQueued out s → IsQueued (out ++ more) t
queued_more out more s t r e q =
    let old : List ℕ = bytes_of s.entries s.marks in
    record {
      within = omega (arith, r, q.within, ap length e, length-append old more);
      rest = out-more out old more s.removed q.within q.rest ∙ ap (drop s.removed) (sym e) ∙ ap (λ (n : ℕ). drop n (bytes_of t.entries t.marks)) (sym r);
    }

queued_as : (out : List ℕ) (s t : Story) → t.removed ≡ s.removed → bytes_of t.entries t.marks ≡ bytes_of s.entries s.marks → IsQueued out s → IsQueued out t
queued_as out s t r e q = record {
  within = omega (arith, r, q.within, ap length e);
  rest = q.rest ∙ ap (drop s.removed) (sym e) ∙ ap (λ (n : ℕ). drop n (bytes_of t.entries t.marks)) (sym r);
}

pub queued_given : (out : List ℕ) (s : Story) (n : ℕ) → n ≤ length out → IsQueued out s → IsQueued (drop n out) (given_up n s)
queued_given out s n h q =
    let all : List ℕ = bytes_of s.entries s.marks in
    record {
      within = omega (arith, q.within, h, ap length q.rest, length-drop s.removed all);
      rest = ap (drop n) q.rest ∙ drop-drop n s.removed all;
    }

-- ---- bytes that are sent

pub given : (v : SessionHeld) (s : Story) (n : ℕ) → n ≤ length v.out → SessionStands v s → SessionStands (record v { out = drop n v.out }) (given_up n s)
given v s n h st = record {
  unspent = st.unspent;
  stance = st.stance;
  number = st.number;
  status = st.status;
  ended = st.ended;
  told = st.told;
  held = st.held;
  marks = st.marks;
  queued = queued_given v.out s n h st.queued;
  phase = st.phase;
}

-- ---- one mark more

pub pinged : (v : SessionHeld) (s : Story) (now : ℕ) → s.stance.phase ≡ Joined → now < 2 ^ 64 → SessionStands v s
    → SessionStands (record v { stance = record v.stance { pinged = now }; out = v.out ++ frame (Ping now) }) (pinged_at now s)
pinged v s now e h st =
    let p = in_joined v.frame v.unread s e st.phase in
    let marks : List Mark = s.marks ++ ping now ∷ [] in
    let end : end_after 0 marks ≡ end_after 0 s.marks = end-push s.marks (ping now) in
    let bytes : bytes_of s.entries marks ≡ bytes_of s.entries s.marks ++ frame (Ping now) =
    bytes-push s.entries s.marks (ping now) ∙ ap (λ (l : List ℕ). bytes_of s.entries s.marks ++ l) (append-nil (frame (Ping now))) in
    record {
      unspent = st.unspent;
      stance = ap (λ (t : Stance). record t { pinged = now }) st.stance;
      number = st.number;
      status = st.status;
      ended = st.ended ∙ sym end;
      told = st.told ∙ ap (λ (n : ℕ). (world_after s.entries n).status) (sym end);
      held = st.held ∙ ap (λ (n : ℕ). deltas_between s.entries n (length s.entries)) (sym end);
      marks = marks-ping s.marks (length s.entries) now st.marks p.2 h;
      queued = queued_more v.out (frame (Ping now)) s (pinged_at now s) refl bytes st.queued;
      phase = subst (λ (q : Phase). IsIn q v.frame s.stance.reason v.unread s.bytes s.messages marks s.entries) (sym e)
          (p.0, p.1, omega (arith, p.2, length-append s.marks (ping now ∷ [])));
    }

pub closes : (v : SessionHeld) (s : Story) → s.stance.phase ≡ Joined → end_after 0 s.marks < length s.entries → SessionStands v s
    → SessionStands (record v { ended = v.number; told = v.status; held = []; out = v.out ++ frames (group_messages v.held (status_change v.told v.status) v.number) }) (closed s)
closes v s e h st =
    let p = in_joined v.frame v.unread s e st.phase in
    let n : ℕ = length s.entries in
    let marks : List Mark = s.marks ++ group n ∷ [] in
    let end : end_after 0 marks ≡ n = end-push s.marks (group n) in
    let status : v.status ≡ (world_after s.entries n).status = st.status ∙ ap (λ (w : World). w.status) (sym (world-whole s.entries)) in
    let more : List ℕ = frames (group_messages v.held (status_change v.told v.status) v.number) in
    let same : more ≡ frames (mark_messages s.entries (end_after 0 s.marks) (group n)) =
    ap (λ (ds : List Delta). frames (group_messages ds (status_change v.told v.status) v.number)) st.held
    ∙ ap (λ (t : Status). frames (group_messages (held_deltas s) (status_change t v.status) v.number)) st.told
    ∙ ap (λ (t : Status). frames (group_messages (held_deltas s) (status_change (world_after s.entries (end_after 0 s.marks)).status t) v.number)) status
    ∙ ap (λ (k : ℕ). frames (group_messages (held_deltas s) (status_change (world_after s.entries (end_after 0 s.marks)).status (world_after s.entries n).status) k)) st.number in
    let bytes : bytes_of s.entries marks ≡ bytes_of s.entries s.marks ++ more = bytes-push s.entries s.marks (group n) ∙ ap (λ (l : List ℕ). bytes_of s.entries s.marks ++ l) (sym same) in
    record {
      unspent = st.unspent;
      stance = st.stance;
      number = st.number;
      status = st.status;
      ended = st.number ∙ sym end;
      told = status ∙ ap (λ (k : ℕ). (world_after s.entries k).status) (sym end);
      held = sym (between-none s.entries) ∙ ap (λ (k : ℕ). deltas_between s.entries k n) (sym end);
      marks = marks-close s.marks n st.marks p.2 h;
      queued = queued_more v.out more s (closed s) refl bytes st.queued;
      phase = subst (λ (q : Phase). IsIn q v.frame s.stance.reason v.unread s.bytes s.messages marks s.entries) (sym e)
          (p.0, p.1, omega (arith, p.2, length-append s.marks (group n ∷ [])));
    }

-- ---- one entry more

pub entered : (v : SessionHeld) (s : Story) (e : Entry) (number : ℕ) (status : Status) (ds : List Delta) → s.stance.phase ≡ Joined
    → number ≡ length (s.entries ++ e ∷ []) → status ≡ (replay (s.entries ++ e ∷ [])).status → ds ≡ e.deltas → SessionStands v s
    → SessionStands (record v { number = number; status = status; held = v.held ++ ds }) (with_entry e s)
entered v s e number status ds j num stat del st =
    let p = in_joined v.frame v.unread s j st.phase in
    let es : List Entry = s.entries ++ e ∷ [] in
    let end : end_after 0 s.marks ≤ length s.entries = marks-end s.marks (length s.entries) st.marks in
    let bytes : bytes_of es s.marks ≡ bytes_of s.entries s.marks = ap frames (messages_of-more s.entries (e ∷ []) s.marks st.marks) in
    record {
      unspent = st.unspent;
      stance = st.stance;
      number = num;
      status = stat;
      ended = st.ended;
      told = st.told ∙ ap (λ (w : World). w.status) (sym (world-more s.entries (e ∷ []) (end_after 0 s.marks) end));
      held = ap (λ (l : List Delta). l ++ ds) st.held ∙ ap (λ (l : List Delta). held_deltas s ++ l) del ∙ sym (between-push s.entries e (end_after 0 s.marks) end);
      marks = marks-more s.marks (length s.entries) (length es) st.marks (omega (arith, length-append s.entries (e ∷ [])));
      queued = queued_as v.out s (with_entry e s) refl bytes st.queued;
      phase = subst (λ (q : Phase). IsIn q v.frame s.stance.reason v.unread s.bytes s.messages s.marks es) (sym j) p;
    }

-- ---- the joining

pub joins : (v : SessionHeld) (s : Story) (now : ℕ) (es : List Entry) (w : World) (number : ℕ) → s.stance.phase ≡ Greeted
    → number ≡ length es → w ≡ replay es → SessionStands v s
    → SessionStands (record v { stance = record v.stance { phase = Joined; joined = now; pinged = now }; number = number; status = w.status; ended = number; told = w.status; held = []; out = v.out ++ snapshot_bytes w number }) (joined_at now es s)
joins v s now es w number j num world st =
    let p = in_greeted v.frame v.unread s j st.phase in
    let n : ℕ = length es in
    let whole : w ≡ world_after es n = world ∙ sym (world-whole es) in
    let old_bytes : bytes_of s.entries s.marks ≡ [] = ap (bytes_of s.entries) p.2 ∙ bytes-none s.entries in
    let none : s.removed ≡ 0 = omega (arith, st.queued.within, ap length old_bytes) in
    let same : snapshot_bytes w number ≡ frames (mark_messages es 0 (start n)) =
    ap (λ (x : World). snapshot_bytes x number) whole ∙ ap (snapshot_bytes (world_after es n)) num in
    let bytes : bytes_of es (start n ∷ []) ≡ snapshot_bytes w number = bytes-start es n ∙ sym same in
    let out_none : v.out ≡ [] = st.queued.rest ∙ ap (λ (k : ℕ). drop k (bytes_of s.entries s.marks)) none ∙ old_bytes in
    record {
      unspent = st.unspent;
      stance = ap (λ (t : Stance). record t { phase = Joined; joined = now; pinged = now }) st.stance;
      number = num;
      status = ap (λ (x : World). x.status) world;
      ended = num;
      told = ap (λ (x : World). x.status) whole;
      held = sym (between-none es);
      marks = omega arith;
      queued = record { within = omega (arith, none); rest = ap (λ (l : List ℕ). l ++ snapshot_bytes w number) out_none ∙ sym bytes ∙ ap (λ (k : ℕ). drop k (bytes_of es (start n ∷ []))) (sym none) };
      phase = (p.0, p.1, omega arith);
    }

-- ---- the beginning

pub starts : (opened : ℕ) (stance : Stance) (held : List Delta) (out : List ℕ) (unread : FramesHeld) → stance ≡ opened_at opened → held ≡ [] → out ≡ [] → FramesStand unread [] [] → unread.fault ≡ None
    → SessionStands (record { stance = stance; number = 0; status = Wait; ended = 0; told = Wait; held = held; out = out; unread = unread; frame = 1; spent = false }) (begun opened)
unfolding messages_after first_client_fault replay
starts opened stance held out unread t h o f n = record {
  unspent = refl;
  stance = t;
  number = refl;
  status = refl;
  ended = refl;
  told = refl;
  held = h;
  marks = tt;
  queued = record { within = omega arith; rest = o };
  phase = (record { frames_stand = f; no_wire_fault = n; good = refl; no_reason = refl; frame_is = refl }, refl, refl, refl);
}

-- ---- the calls

all_true : (a b : Bool) → (a && b) ≡ true → a ≡ true
all_true true b h = refl
all_true false b h = h

phase_joined : (p : Phase) → is_joined p ≡ true → p ≡ Joined
phase_joined Waiting h = absurd (true≢false (sym h))
phase_joined Greeted h = absurd (true≢false (sym h))
phase_joined Joined h = refl
phase_joined Over h = absurd (true≢false (sym h))

pub ticks : (v w : SessionHeld) (s : Story) (now : ℕ) → pings_at now v.stance ≡ true → now < 2 ^ 64
    → w ≡ pinged_view now v → SessionStands v s → SessionStands w (ticked now s)
ticks v w s now b h e st =
    let due : pings_at now s.stance ≡ true = ap (pings_at now) (sym st.stance) ∙ b in
    let joined : s.stance.phase ≡ Joined = phase_joined s.stance.phase (all_true (is_joined s.stance.phase) (is_ping_due s.stance.pinged now) due) in
    let same : pinged_at now s ≡ ticked now s = ap (λ (x : Bool). cond x (pinged_at now s) s) (sym due) in
    subst (SessionStands w) same (subst (λ (x : SessionHeld). SessionStands x (pinged_at now s)) (sym e) (pinged v s now joined h st))

pub stays : (v : SessionHeld) (s : Story) (now : ℕ) → pings_at now v.stance ≡ false → SessionStands v s → SessionStands v (ticked now s)
stays v s now b st = subst (SessionStands v) (ap (λ (x : Bool). cond x (pinged_at now s) s) (sym (ap (pings_at now) (sym st.stance) ∙ b))) st

holding : (v : SessionHeld) (s : Story) → SessionStands v s → is_holding s ≡ nat_lt v.ended v.number
holding v s st = ap (λ (n : ℕ). nat_lt n (length s.entries)) (sym st.ended) ∙ ap (nat_lt v.ended) (sym st.number)

pub idles : (v w : SessionHeld) (s : Story) → s.stance.phase ≡ Joined → v.ended ≢ v.number → w ≡ closed_view v → SessionStands v s → SessionStands w (idled s)
idles v w s j h e st =
    let end : end_after 0 s.marks ≤ length s.entries = marks-end s.marks (length s.entries) st.marks in
    let behind : v.ended < v.number = omega (arith, h, end, st.ended, st.number) in
    let yes : is_holding s ≡ true = holding v s st ∙ lt-ltb v.ended v.number behind in
    subst (SessionStands w) (ap (λ (x : Bool). cond x (closed s) s) (sym yes))
    (subst (λ (x : SessionHeld). SessionStands x (closed s)) (sym e) (closes v s j (omega (arith, behind, st.ended, st.number)) st))

pub idle_stays : (v : SessionHeld) (s : Story) → v.ended ≡ v.number → SessionStands v s → SessionStands v (idled s)
idle_stays v s h st = subst (SessionStands v) (ap (λ (x : Bool). cond x (closed s) s) (sym (holding v s st ∙ le-ltb v.ended v.number (omega (arith, h))))) st

-- ---- an offer

last_one : (es : List Entry) (e : Entry) → last_deltas (es ++ e ∷ []) ≡ e.deltas
last_one es e = fold_push (λ _ x. x.deltas) [] es e

takes : (v : SessionHeld) (s : Story) (e : Entry) (c : Crumb) → s.stance.phase ≡ Joined → CrumbStands c (s.entries ++ e ∷ []) → SessionStands v s → SessionStands (taken_view c c.deltas v) (with_entry e s)
takes v s e c j cr st = entered v s e c.number c.status c.deltas j cr.number (ap (λ (w : World). w.status) cr.world) (cr.deltas ∙ last_one s.entries e) st

either : (b : Bool) (v w : SessionHeld) (s t : Story) → SessionStands v s → SessionStands w t → SessionStands (cond b v w) (cond b s t)
either true v w s t x y = x
either false v w s t x y = y

pub offers : (v w : SessionHeld) (s : Story) (e : Entry) (c : Crumb) (now : ℕ) → w ≡ entered_view now c c.deltas v → SessionStands v s → s.stance.phase ≡ Joined → CrumbStands c (s.entries ++ e ∷ [])
    → SessionStands w (offered_at c.at now e s)
offers v w s e c now f st j cr =
    let t : SessionStands (taken_view c c.deltas v) (with_entry e s) = takes v s e c j cr st in
    let end : end_after 0 s.marks ≤ length s.entries = marks-end s.marks (length s.entries) st.marks in
    let behind : end_after 0 s.marks < length (s.entries ++ e ∷ []) = omega (arith, end, length-append s.entries (e ∷ [])) in
    let b : Bool = closes_group c.at now (length (v.held ++ c.deltas)) in
    let same : b ≡ closes_group c.at now (length (held_deltas (with_entry e s))) = ap (λ (ds : List Delta). closes_group c.at now (length ds)) t.held in
    subst (λ (y : SessionHeld). SessionStands y (offered_at c.at now e s)) (sym f)
    (subst (λ (x : Bool). SessionStands (entered_view now c c.deltas v) (cond x (closed (with_entry e s)) (with_entry e s))) same
    (either b (closed_view (taken_view c c.deltas v)) (taken_view c c.deltas v) (closed (with_entry e s)) (with_entry e s) (closes (taken_view c c.deltas v) (with_entry e s) j behind t) t))

-- ---- the joining of a breadcrumb

pub admits : (v w : SessionHeld) (c : Crumb) (now : ℕ) → w ≡ joined_view now c v → (es : List Entry) → CrumbStands c es → (s : Story) → SessionStands v s → s.stance.phase ≡ Greeted → SessionStands w (joined_at now es s)
admits v w c now f es cr s st j = subst (λ (y : SessionHeld). SessionStands y (joined_at now es s)) (sym f) (joins v s now es (world_of c) c.number j cr.number cr.world st)

-- ---- the end

pub gives : (v w : SessionHeld) (s : Story) (n : ℕ) → n ≤ length v.out → w ≡ record v { out = drop n v.out } → SessionStands v s → SessionStands w (given_up n s)
gives v w s n h e st = subst (λ (y : SessionHeld). SessionStands y (given_up n s)) (sym e) (given v s n h st)

pub ends : (v w : SessionHeld) (s : Story) (r : Reason) → w ≡ over_view r v → SessionStands v s → SessionStands w (left_by r s)
ends v w s r e st = subst (λ (y : SessionHeld). SessionStands y (left_by r s)) (sym e) (record {
  unspent = st.unspent;
  stance = ap (over_for r) st.stance;
  number = st.number;
  status = st.status;
  ended = st.ended;
  told = st.told;
  held = st.held;
  marks = st.marks;
  queued = record { within = st.queued.within; rest = st.queued.rest };
  phase = refl;
})

-- a clause on a good answer from another
pub on_ok : {A E : Type 0} {P Q : Type 0} → (r : Result A E) → (P → Q) → OnOk r P → OnOk r Q
on_ok (Ok a) f h = f h
on_ok (Err e) f h = h

-- the deltas are those of the breadcrumb
pub offers_as : (v w : SessionHeld) (s : Story) (e : Entry) (c : Crumb) (ds : List Delta) (now : ℕ) → w ≡ entered_view now c ds v → ds ≡ c.deltas → SessionStands v s → s.stance.phase ≡ Joined → CrumbStands c (s.entries ++ e ∷ [])
    → SessionStands w (offered_at c.at now e s)
offers_as v w s e c ds now f d st j cr = offers v w s e c now (f ∙ ap (λ (x : List Delta). entered_view now c x v) d) st j cr
