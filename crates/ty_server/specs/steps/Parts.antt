-- A part of a call, between two moments of its session and its link.
use Rattle.std.specs.Prelude.{◌≡◌, ◌<◌, ◌⊎◌, ℕ, true, List, [], ◌++◌, length, None, Result, Ok, Err}
use Rattle.ty_session.specs.Story.{Story, greeted_by}
use Rattle.ty_session.specs.Outcomes.{tick_reason}
use Rattle.ty_session.specs.Held.{SessionHeld, IsQueued, SessionStands}
use Rattle.ty_session.specs.declared.phase.Phase.{Phase}
use Rattle.ty_session.specs.declared.phase.Phase.TheVariants.{Waiting as IsWaiting, Greeted, Joined, Over}
use Rattle.ty_session.specs.declared.reason.Reason.{Reason}
use Rattle.ty_session.specs.declared.reason.Gone.{Gone}
use Rattle.ty_session.specs.declared.reason.Gone.TheVariants.{Left, NoMemory}
use Rattle.ty_server.specs.Causes.{IsCause}
use Rattle.ty_server.specs.Exchanges.{LinkSeen, Exchanged}
use Rattle.ty_server.specs.Stories.{Extends, IsLeft}
use Rattle.ty_server.specs.declared.answers.Greet.{Greet}
use Rattle.ty_server.specs.declared.answers.Greet.TheVariants.{Ready, Waiting}

-- the phase stayed, or a client that was waited for was greeted
abbrev pub IsPhaseAfter : Phase → Phase → Type 0
IsPhaseAfter p q = (q ≡ p) ⊎ (q ≡ greeted_by p)

-- the connection goes on
pub record StaysAsIs (now : ℕ) (sent heard : List ℕ) (w : SessionHeld) (s t : Story) : Type 0 where
  pub follows : Extends now sent s t
  pub entries : t.entries ≡ s.entries
  pub stands : SessionStands w t
  pub bytes : t.bytes ≡ s.bytes ++ heard
  pub later_phase : IsPhaseAfter s.stance.phase t.stance.phase
  pub no_reason : t.stance.reason ≡ None

-- it is over, with a cause
pub record Leaves (now : ℕ) (sent heard : List ℕ) (a b : LinkSeen) (w : SessionHeld) (reason : Reason) (s t : Story) : Type 0 where
  pub follows : Extends now sent s t
  pub entries : t.entries ≡ s.entries
  pub over : IsLeft reason w t
  pub cause : IsCause now s heard a b (λ _. ⊥) ⊥ reason

-- memory ran out
pub record RunsShort (now : ℕ) (sent : List ℕ) (w : SessionHeld) (s t : Story) : Type 0 where
  pub follows : Extends now sent s t
  pub entries : t.entries ≡ s.entries
  pub spent : w.spent ≡ true
  pub queued : IsQueued w.out t

abbrev pub PartStory : {A : Type 0} → ℕ → List ℕ → List ℕ → LinkSeen → LinkSeen → SessionHeld → Story → Result A Gone → Type 0
PartStory now sent heard a b w s (Ok x) = (t : Story) × StaysAsIs now sent heard w s t
PartStory now sent heard a b w s (Err (Left reason)) = (t : Story) × Leaves now sent heard a b w reason s t
PartStory now sent heard a b w s (Err NoMemory) = (t : Story) × RunsShort now sent w s t

-- `sent` was said in it, of a story of this kind
pub record PartIn {A : Type 0} (K : Story → Type 0) (now : ℕ) (sent : List ℕ) (a b : LinkSeen) (v w : SessionHeld) (result : Result A Gone) : Type 0 where
  pub heard : List ℕ
  pub exchanged : Exchanged sent heard a b
  pub story : (s : Story) → SessionStands v s → K s → PartStory now sent heard a b w s result

abbrev pub IsUnended : Story → Type 0
IsUnended s = s.stance.reason ≡ None

abbrev pub HasJoined : Story → Type 0
HasJoined s = s.stance.phase ≡ Joined

abbrev pub Part : {A : Type 0} → ℕ → List ℕ → LinkSeen → LinkSeen → SessionHeld → SessionHeld → Result A Gone → Type 0
Part now sent a b v w result = PartIn IsUnended now sent a b v w result

-- the session does its work on these bytes of the client, and says nothing
abbrev pub WorksIn : {A : Type 0} → (Story → Type 0) → ℕ → List ℕ → SessionHeld → SessionHeld → Result A Gone → Type 0
WorksIn K now heard v w result = (a b : LinkSeen) (s : Story) → SessionStands v s → K s
    → PartStory now [] heard a b w s result

abbrev pub Works : {A : Type 0} → ℕ → List ℕ → SessionHeld → SessionHeld → Result A Gone → Type 0
Works now heard v w result = WorksIn IsUnended now heard v w result

-- something was said in it
abbrev pub SomePartIn : {A : Type 0} → (Story → Type 0) → ℕ → LinkSeen → LinkSeen → SessionHeld → SessionHeld → Result A Gone → Type 0
SomePartIn K now a b v w result = (sent : List ℕ) × PartIn K now sent a b v w result

abbrev pub SomePart : {A : Type 0} → ℕ → LinkSeen → LinkSeen → SessionHeld → SessionHeld → Result A Gone → Type 0
SomePart now a b v w result = SomePartIn IsUnended now a b v w result

-- what a greeting comes to, by the phase
abbrev pub greeting_in : Phase → Greet
greeting_in IsWaiting = Waiting
greeting_in Greeted = Ready
greeting_in Joined = Ready
greeting_in Over = Ready

-- the time of a session that goes on isn't up
abbrev pub InTime : ℕ → SessionHeld → SessionHeld → Type 0
InTime now v w = (s : Story) → SessionStands v s → s.stance.reason ≡ None → tick_reason now w.stance ≡ None

-- some bytes are queued no longer
abbrev pub IsShorter : SessionHeld → SessionHeld → Type 0
IsShorter v w = (w ≡ record v { out = w.out }) × (length w.out < length v.out)

-- nothing is queued and no group held
abbrev pub HasSaidAll : SessionHeld → Type 0
HasSaidAll v = (v.out ≡ []) × (v.ended ≡ v.number)

-- what was queued, the number and the last crumb end stay
abbrev pub KeepsTalk : SessionHeld → SessionHeld → Type 0
KeepsTalk v w = (s : Story) → SessionStands v s → (w.out ≡ v.out) × (w.ended ≡ v.ended) × (w.number ≡ v.number)
