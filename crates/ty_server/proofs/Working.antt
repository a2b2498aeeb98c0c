-- What a session's own calls come to, as parts of a call.
use Rattle.std.proofs.Common.{◌≡◌, ℕ, inl, List, [], ◌++◌, refl, sym, ap, subst, ◌∙◌, append-nil}
use Rattle.std.specs.Prelude.{None, Some, Result, Ok, Err, OnOk}
use Rattle.ty_session.specs.Client.{Shows}
use Rattle.ty_session.specs.Story.{Story, heard_more, looked_at, ticked, left_by}
use Rattle.ty_session.specs.Held.{SessionHeld, SessionStands}
use Rattle.ty_session.specs.Outcomes.{IfLeft, OnShort, IsSpent, Carries, HeardMore, tick_reason}
use Rattle.ty_session.specs.declared.reason.Reason.{Reason}
use Rattle.ty_session.specs.declared.reason.Gone.{Gone}
use Rattle.ty_session.specs.declared.reason.Gone.TheVariants.{Left, NoMemory}
use Rattle.ty_server.specs.Causes.{IsCause}
use Rattle.ty_server.specs.Exchanges.{LinkSeen, Exchanged}
use Rattle.ty_server.specs.Stories.{said_so_far}
use Rattle.ty_server.specs.steps.Parts.{Part, InTime, KeepsTalk, Works}
use Rattle.ty_server.proofs.Following.{heard_stays, looked_stays, left_follows, left_over, short_runs, ticked_stays, tick_again}
use Rattle.ty_server.proofs.Saying.{shows_cause, tick_cause}

-- ---- hearing

pub heard : (A : Type 0) (now : ℕ) (bytes : List ℕ) (v w : SessionHeld) (n : ℕ) (x : A) → ((s : Story) → SessionStands v s → HeardMore w now bytes n s) → Works {A = A} now bytes v w (Ok x)
heard A now bytes v w n x h a b s st none =
    let more = h s st in
    (heard_more now bytes more.more s, heard_stays now bytes more.more w s none more.stands)

pub hear_ends : (A B : Type 0) (now : ℕ) (bytes : List ℕ) (v w : SessionHeld) (e : Gone)
    → IfLeft {A = A} (Err e) (λ r. (s : Story) → SessionStands v s → s.stance.reason ≡ None → Shows (s.bytes ++ bytes) r)
    → IfLeft {A = A} (Err e) (λ r. Carries v w (λ s. left_by r (looked_at now s)))
    → OnShort {A = A} (Err e) (IsSpent v w) → Works {A = B} now bytes v w (Err e)
hear_ends A B now bytes v w (Left r) shows leaves short a b s st none =
    let over : SessionStands w (left_by r (looked_at now s)) = leaves s st in (
      left_by r (looked_at now s),
      record {
        follows = record { more_said = sym (append-nil (said_so_far s)); are_marks = over.marks; opened = refl; joined = refl; last_heard = inl refl };
        entries = refl;
        over = left_over r w (looked_at now s) over;
        cause = shows_cause now s bytes a b (λ _. ⊥) ⊥ r (shows s st none);
      },
    )
hear_ends A B now bytes v w NoMemory shows leaves short a b s st none = (s, short_runs now v w s short st)

pub looked : {A : Type 0} (now : ℕ) (v w : SessionHeld) (x : A) → Carries v w (looked_at now) → Works {A = A} now [] v w (Ok x)
looked now v w x h a b s st none = (looked_at now s, looked_stays now w s none (h s st))

-- ---- time

pub ticks : {A : Type 0} (now : ℕ) (v w : SessionHeld) (r : Result A Gone) → OnOk r (Carries v w (ticked now))
    → IfLeft r (λ q. tick_reason now v.stance ≡ Some q) → IfLeft r (λ q. Carries v w (left_by q)) → OnShort r (IsSpent v w) → Works now [] v w r
ticks now v w (Ok x) goes left leaves short a b s st none = (ticked now s, ticked_stays now v w s none st (goes s st))
ticks now v w (Err (Left q)) goes left leaves short a b s st none =
    let over : SessionStands w (left_by q s) = leaves s st in (
      left_by q s,
      record {
        follows = left_follows now q w s over;
        entries = refl;
        over = left_over q w s over;
        cause = tick_cause now s a b (λ _. ⊥) ⊥ v q none st left;
      },
    )
ticks now v w (Err NoMemory) goes left leaves short a b s st none = (s, short_runs now v w s short st)

pub in_time : {A : Type 0} (now : ℕ) (v w : SessionHeld) (r : Result A Gone) → OnOk r (Carries v w (ticked now)) → OnOk r (tick_reason now v.stance ≡ None) → OnOk r (InTime now v w)
in_time now v w (Ok x) goes none = λ s st unended.
    ap (tick_reason now) (goes s st).stance ∙ tick_again now s ∙ ap (tick_reason now) (sym st.stance) ∙ none
in_time now v w (Err e) goes none = tt

-- ---- the link is gone

pub leaves : {A : Type 0} (now : ℕ) (a b : LinkSeen) (v w : SessionHeld) (reason : Reason) (e : Gone) → Exchanged [] [] a b → ((s : Story) → IsCause now s [] a b (λ _. ⊥) ⊥ reason)
    → e ≡ Left reason → Carries v w (left_by reason) → Part {A = A} now [] a b v w (Err e)
leaves {A = A} now a b v w reason e ex cause is h = subst (λ (g : Gone). Part {A = A} now [] a b v w (Err g)) (sym is) (record {
  heard = [];
  exchanged = ex;
  story = λ s st none.
      let over : SessionStands w (left_by reason s) = h s st in (
        left_by reason s,
        record {
          follows = left_follows now reason w s over;
          entries = refl;
          over = left_over reason w s over;
          cause = cause s;
        },
      );
})

pub part_heard : {A : Type 0} (now : ℕ) (bytes : List ℕ) (a b : LinkSeen) (v w : SessionHeld) (r : Result A Gone) → Exchanged [] bytes a b → Works now bytes v w r → Part now [] a b v w r
part_heard now bytes a b v w r ex h = record { heard = bytes; exchanged = ex; story = λ s st none. h a b s st none }

-- ---- what is queued stays

pub keeps_heard : (now : ℕ) (bytes : List ℕ) (v w : SessionHeld) (n : ℕ) → ((s : Story) → SessionStands v s → HeardMore w now bytes n s) → KeepsTalk v w
keeps_heard now bytes v w n h s st =
    let more = h s st in
    (more.stands.queued.rest ∙ sym st.queued.rest, more.stands.ended ∙ sym st.ended, more.stands.number ∙ sym st.number)

pub keeps_looked : (now : ℕ) (v w : SessionHeld) → Carries v w (looked_at now) → KeepsTalk v w
keeps_looked now v w h s st =
    let more = h s st in
    (more.queued.rest ∙ sym st.queued.rest, more.ended ∙ sym st.ended, more.number ∙ sym st.number)
