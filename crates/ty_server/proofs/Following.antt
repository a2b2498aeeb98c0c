-- Stories that follow one another.
use Rattle.std.proofs.Common.{◌≡◌, ℕ, ◌≤◌, ◌⊎◌, inl, inr, Bool, true, false, List, [], ◌∷◌, ◌++◌, length, take, refl, sym, ap, subst, ◌∙◌, append-nil, append_assoc}
use Rattle.std.specs.Prelude.{None, cond}
use Rattle.std.proofs.lemmas.List.{take-append-le}
use Rattle.ty_base.specs.declared.entry.Entry.{Entry}
use Rattle.ty_marks.specs.Marks.{Mark, ping, AreMarks, bytes_of, messages_after, end_after}
use Rattle.ty_marks.proofs.Marks.{bytes-more}
use Rattle.ty_wire.specs.Wire.{frames}
use Rattle.ty_wire.specs.declared.message.Msg.{Msg}
use Rattle.ty_session.specs.Story.{Story, heard_more, looked_at, left_by, greeted_by, pinged_at, ticked, pings_at}
use Rattle.ty_session.specs.Held.{SessionHeld, SessionStands, IsQueued}
use Rattle.ty_session.specs.Outcomes.{IsSpent, tick_reason, reason_in}
use Rattle.ty_session.specs.declared.phase.Phase.{Phase}
use Rattle.ty_session.specs.declared.phase.Phase.TheVariants.{Waiting, Greeted, Joined, Over}
use Rattle.ty_session.specs.declared.reason.Reason.{Reason}
use Rattle.ty_server.specs.Stories.{said_so_far, Extends, IsLeft}
use Rattle.ty_server.specs.steps.Parts.{IsPhaseAfter, StaysAsIs, RunsShort}

pub follows_self : (now : ℕ) (s : Story) → AreMarks s.marks (length s.entries) → Extends now [] s s
follows_self now s m = record {
  more_said = sym (append-nil (said_so_far s));
  are_marks = m;
  opened = refl;
  joined = refl;
  last_heard = inl refl;
}

last_then : (now a b c : ℕ) → (b ≡ a) ⊎ (b ≡ now) → (c ≡ b) ⊎ (c ≡ now) → (c ≡ a) ⊎ (c ≡ now)
last_then now a b c (inl e) (inl f) = inl (f ∙ e)
last_then now a b c (inr e) (inl f) = inr (f ∙ e)
last_then now a b c h (inr f) = inr f

pub follows_then : (now : ℕ) (x y : List ℕ) (s t u : Story) → Extends now x s t → Extends now y t u → Extends now (x ++ y) s u
follows_then now x y s t u f g = record {
  more_said = g.more_said ∙ ap (λ (l : List ℕ). l ++ y) f.more_said ∙ append_assoc (said_so_far s) x y;
  are_marks = g.are_marks;
  opened = g.opened ∙ f.opened;
  joined = g.joined ∙ f.joined;
  last_heard = last_then now s.stance.heard t.stance.heard u.stance.heard f.last_heard g.last_heard;
}

greeted_twice : (p : Phase) → greeted_by (greeted_by p) ≡ greeted_by p
greeted_twice Waiting = refl
greeted_twice Greeted = refl
greeted_twice Joined = refl
greeted_twice Over = refl

pub phase_then : (p q r : Phase) → IsPhaseAfter p q → IsPhaseAfter q r → IsPhaseAfter p r
phase_then p q r (inl e) (inl f) = inl (f ∙ e)
phase_then p q r (inl e) (inr f) = inr (f ∙ ap greeted_by e)
phase_then p q r (inr e) (inl f) = inr (f ∙ e)
phase_then p q r (inr e) (inr f) = inr (f ∙ ap greeted_by e ∙ greeted_twice p)

-- a front of what was said is said whatever comes behind it
pub said_more : (es : List Entry) (marks more : List Mark) (n : ℕ) → n ≤ length (bytes_of es marks) → take n (bytes_of es (marks ++ more)) ≡ take n (bytes_of es marks)
said_more es marks more n h =
    ap (take n) (bytes-more es marks more) ∙ take-append-le n (bytes_of es marks) (frames (messages_after es (end_after 0 marks) more)) h

-- ---- hearing

pub heard_stays : (now : ℕ) (bytes : List ℕ) (more : List Msg) (w : SessionHeld) (s : Story) → s.stance.reason ≡ None → SessionStands w (heard_more now bytes more s) → StaysAsIs now [] bytes w s (heard_more now bytes more s)
heard_stays now bytes [] w s r st = record {
  follows = record { more_said = sym (append-nil (said_so_far s)); are_marks = st.marks; opened = refl; joined = refl; last_heard = inl refl };
  entries = refl;
  stands = st;
  bytes = refl;
  later_phase = inl refl;
  no_reason = r;
}
heard_stays now bytes (m ∷ more) w s r st = record {
  follows = record { more_said = sym (append-nil (said_so_far s)); are_marks = st.marks; opened = refl; joined = refl; last_heard = inr refl };
  entries = refl;
  stands = st;
  bytes = refl;
  later_phase = inr refl;
  no_reason = r;
}

pub looked_stays : (now : ℕ) (w : SessionHeld) (s : Story) → s.stance.reason ≡ None → SessionStands w (looked_at now s) → StaysAsIs now [] [] w s (looked_at now s)
looked_stays now w s r st = record {
  follows = record { more_said = sym (append-nil (said_so_far s)); are_marks = st.marks; opened = refl; joined = refl; last_heard = inl refl };
  entries = refl;
  stands = st;
  bytes = sym (append-nil s.bytes);
  later_phase = inl refl;
  no_reason = r;
}

pub left_follows : (now : ℕ) (r : Reason) (w : SessionHeld) (s : Story) → SessionStands w (left_by r s) → Extends now [] s (left_by r s)
left_follows now r w s st = record { more_said = sym (append-nil (said_so_far s)); are_marks = st.marks; opened = refl; joined = refl; last_heard = inl refl }

pub left_over : (r : Reason) (w : SessionHeld) (s : Story) → SessionStands w (left_by r s) → IsLeft r w (left_by r s)
left_over r w s st = record { stands = st; in_phase = refl; why = refl }

pub short_runs : (now : ℕ) (v w : SessionHeld) (s : Story) → IsSpent v w → SessionStands v s → RunsShort now [] w s s
short_runs now v w s sp st = record {
  follows = follows_self now s st.marks;
  entries = refl;
  spent = sp.spent;
  queued = subst (λ (o : List ℕ). IsQueued o s) (sym sp.out) st.queued;
}

-- ---- time

ticked_by : (b : Bool) (now : ℕ) (v w : SessionHeld) (s : Story) → s.stance.reason ≡ None → SessionStands v s → SessionStands w (cond b (pinged_at now s) s) → StaysAsIs now [] [] w s (cond b (pinged_at now s) s)
ticked_by true now v w s r old st = record {
  follows = record {
    more_said = said_more s.entries s.marks (ping now ∷ []) s.removed old.queued.within ∙ sym (append-nil (said_so_far s));
    are_marks = st.marks;
    opened = refl;
    joined = refl;
    last_heard = inl refl;
  };
  entries = refl;
  stands = st;
  bytes = sym (append-nil s.bytes);
  later_phase = inl refl;
  no_reason = r;
}
ticked_by false now v w s r old st = record {
  follows = follows_self now s st.marks;
  entries = refl;
  stands = st;
  bytes = sym (append-nil s.bytes);
  later_phase = inl refl;
  no_reason = r;
}

pub ticked_stays : (now : ℕ) (v w : SessionHeld) (s : Story) → s.stance.reason ≡ None → SessionStands v s → SessionStands w (ticked now s) → StaysAsIs now [] [] w s (ticked now s)
ticked_stays now v w s r old st = ticked_by (pings_at now s.stance) now v w s r old st

tick_same : (b : Bool) (now : ℕ) (s : Story) → tick_reason now (cond b (pinged_at now s) s).stance ≡ tick_reason now s.stance
tick_same true now s = by s.stance.phase where
  by : (p : Phase) → reason_in p now (record s.stance { pinged = now }) ≡ reason_in p now s.stance
  by Waiting = refl
  by Greeted = refl
  by Joined = refl
  by Over = refl
tick_same false now s = refl

-- a tick doesn't change whether its time is up
pub tick_again : (now : ℕ) (s : Story) → tick_reason now (ticked now s).stance ≡ tick_reason now s.stance
tick_again now s = tick_same (pings_at now s.stance) now s
