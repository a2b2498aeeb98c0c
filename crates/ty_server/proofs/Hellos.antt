-- What a greeting comes to.
use Rattle.std.proofs.Common.{◌≡◌, ℕ, ◌⊎◌, inl, inr, false, List, [], sym, ap, subst, ◌∙◌}
use Rattle.std.specs.Prelude.{None, Ok, Err}
use Rattle.ty_base.specs.Drops.{is_unhello}
use Rattle.ty_base.specs.declared.text.NoMemory.{NoMemory as Want}
use Rattle.ty_wire.specs.Stream.{Brings}
use Rattle.ty_session.specs.Story.{Story, greeted_by}
use Rattle.ty_session.specs.Held.{SessionHeld, SessionStands, IsIn}
use Rattle.ty_session.specs.Outcomes.{tick_reason, reason_in}
use Rattle.ty_session.specs.declared.phase.Phase.{Phase}
use Rattle.ty_session.specs.declared.phase.Phase.TheVariants as phase
use Rattle.ty_session.specs.declared.reason.Reason.{Reason}
use Rattle.ty_session.specs.declared.reason.Reason.TheVariants.{NoHello}
use Rattle.ty_session.specs.declared.reason.Gone.TheVariants.{Left, NoMemory}
use Rattle.ty_session.specs.declared.stance.Stance.{Stance}
use Rattle.ty_server.specs.Exchanges.{LinkSeen}
use Rattle.ty_server.specs.Greeting.{Greets, Greeted}
use Rattle.ty_server.specs.declared.answers.Greet.{Greet}
use Rattle.ty_server.specs.declared.answers.Greet.TheVariants.{Ready, Waiting, Over}
use Rattle.ty_server.specs.steps.Parts.{Part, StaysAsIs, InTime, greeting_in}
use Rattle.ty_server.proofs.Saying.{brings_none, no_if}

abbrev PhaseOf : Phase → SessionHeld → Story → Type 0
PhaseOf p v s = IsIn p v.frame s.stance.reason v.unread s.bytes s.messages s.marks s.entries

in_waiting : (v : SessionHeld) (s : Story) → SessionStands v s → s.stance.phase ≡ phase.Waiting → PhaseOf phase.Waiting v s
in_waiting v s st e = subst (λ (p : Phase). PhaseOf p v s) e st.phase

pub in_greeted : (v : SessionHeld) (s : Story) → SessionStands v s → s.stance.phase ≡ phase.Greeted → PhaseOf phase.Greeted v s
in_greeted v s st e = subst (λ (p : Phase). PhaseOf p v s) e st.phase

pub in_joined : (v : SessionHeld) (s : Story) → SessionStands v s → s.stance.phase ≡ phase.Joined → PhaseOf phase.Joined v s
in_joined v s st e = subst (λ (p : Phase). PhaseOf p v s) e st.phase

-- a session that waits for a hello, or whose client has joined, isn't over
pub waiting_goes : (v : SessionHeld) (s : Story) → SessionStands v s → s.stance.phase ≡ phase.Waiting → s.stance.reason ≡ None
waiting_goes v s st e = (in_waiting v s st e).0.no_reason

pub joined_goes : (v : SessionHeld) (s : Story) → SessionStands v s → s.stance.phase ≡ phase.Joined → s.stance.reason ≡ None
joined_goes v s st e = (in_joined v s st e).0.no_reason

-- its time is not up
pub waiting_in_time : (now : ℕ) (t : Stance) → t.phase ≡ phase.Waiting → tick_reason now t ≡ None → is_unhello t.opened now ≡ false
waiting_in_time now t e h = no_if (is_unhello t.opened now) (NoHello t.opened now) (ap (λ (p : Phase). reason_in p now t) (sym e) ∙ h)

module _ (now : ℕ) (heard : List ℕ) (a b : LinkSeen) (v w : SessionHeld) (s t : Story) where
  waits : SessionStands v s → s.stance.phase ≡ phase.Waiting → StaysAsIs now [] heard w s t → t.stance.phase ≡ phase.Waiting → tick_reason now w.stance ≡ None → Greeted now heard a b w s (Ok Waiting)
  waits st e p f time =
      let hearing = in_waiting w t p.stands f in
      let free : is_unhello t.stance.opened now ≡ false = waiting_in_time now t.stance f (ap (tick_reason now) (sym p.stands.stance) ∙ time) in (
        t,
        record { stands = p.stands; follows = p.follows; in_phase = f; bytes = p.bytes },
        subst (λ (l : List ℕ). Brings l [] None) p.bytes (brings_none w.frame t.stance.reason w.unread t.bytes t.messages hearing.0 hearing.1),
        ap (λ (o : ℕ). is_unhello o now) (sym p.follows.opened) ∙ free,
      )

  is_ready : StaysAsIs now [] heard w s t → t.stance.phase ≡ phase.Greeted → Greeted now heard a b w s (Ok Ready)
  is_ready p f = (t, record { stands = p.stands; follows = p.follows; in_phase = f; bytes = p.bytes })

  answers : (g : Greet) → g ≡ greeting_in w.stance.phase → SessionStands v s → s.stance.phase ≡ phase.Waiting → StaysAsIs now [] heard w s t → (t.stance.phase ≡ s.stance.phase) ⊎ (t.stance.phase ≡ greeted_by s.stance.phase)
      → tick_reason now w.stance ≡ None → Greeted now heard a b w s (Ok g)
  answers g is st e p (inl f) time =
      let q : t.stance.phase ≡ phase.Waiting = f ∙ e in
      subst (λ (x : Greet). Greeted now heard a b w s (Ok x)) (sym (is ∙ ap (λ (x : Stance). greeting_in x.phase) p.stands.stance ∙ ap greeting_in q)) (waits st e p q time)
  answers g is st e p (inr f) time =
      let q : t.stance.phase ≡ phase.Greeted = f ∙ ap greeted_by e in
      subst (λ (x : Greet). Greeted now heard a b w s (Ok x)) (sym (is ∙ ap (λ (x : Stance). greeting_in x.phase) p.stands.stance ∙ ap greeting_in q)) (is_ready p q)

pub greets_on : {A : Type 0} (gives : ℕ → Type 0) (now : ℕ) (a b : LinkSeen) (v w : SessionHeld) (g : Greet) (x : A) → gives now → Part now [] a b v w (Ok x) → InTime now v w → g ≡ greeting_in w.stance.phase → Greets gives a b v w (Ok g)
greets_on gives now a b v w g x moment p time is = record {
  now = now;
  moment = moment;
  heard = p.heard;
  exchanged = p.exchanged;
  answered = λ s st e.
      let none = waiting_goes v s st e in
      let one = p.story s st none in
      answers now p.heard a b v w s one.0 g is st e one.1 one.1.later_phase (time s st none);
}

pub greets_over : {A : Type 0} (gives : ℕ → Type 0) (now : ℕ) (a b : LinkSeen) (v w : SessionHeld) (reason : Reason) → gives now → Part {A = A} now [] a b v w (Err (Left reason)) → Greets gives a b v w (Ok (Over reason))
greets_over gives now a b v w reason moment p = record {
  now = now;
  moment = moment;
  heard = p.heard;
  exchanged = p.exchanged;
  answered = λ s st e.
      let one = p.story s st (waiting_goes v s st e) in
      (one.0, one.1.over, one.1.cause);
}

pub greets_short : {A : Type 0} (gives : ℕ → Type 0) (now : ℕ) (a b : LinkSeen) (v w : SessionHeld) (e : Want) → gives now → Part {A = A} now [] a b v w (Err NoMemory) → Greets gives a b v w (Err e)
greets_short gives now a b v w e moment p = record {
  now = now;
  moment = moment;
  heard = p.heard;
  exchanged = p.exchanged;
  answered = λ s st h. (p.story s st (waiting_goes v s st h)).1.spent;
}
