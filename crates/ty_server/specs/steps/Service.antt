-- A client that is being served.
use Rattle.std.specs.Prelude.{◌≡◌, ◌≤◌, ℕ, ◌++◌, Result, Ok, OnOk}
use mathlib.Core.List.{IsPrefix}
use Rattle.ty_base.specs.declared.text.NoMemory.{NoMemory as Want}
use Rattle.ty_chain.specs.Shown.{Shown}
use Rattle.ty_base.specs.Links.{Sight}
use Rattle.ty_base.specs.Told.{Told}
use Rattle.ty_session.specs.Story.{Story}
use Rattle.ty_session.specs.Held.{SessionHeld, SessionStands}
use Rattle.ty_session.specs.declared.phase.Phase.TheVariants.{Waiting, Greeted}
use Rattle.ty_session.specs.declared.reason.Reason.{Reason}
use Rattle.ty_session.specs.declared.reason.Gone.{Gone}
use Rattle.ty_session.specs.declared.reason.Gone.TheVariants.{Left, NoMemory}
use Rattle.ty_server.specs.Exchanges.{LinkSeen}
use Rattle.ty_server.specs.Stories.{said_so_far}
use Rattle.ty_server.specs.Turning.{StandsAt}

-- the link was given what was said, and brought what the client said
abbrev pub TellsAll : Story → Sight → Sight → Type 0
TellsAll s x y = (y.given ≡ x.given ++ said_so_far s) × (y.brought ≡ x.brought ++ s.bytes)

-- since the link was seen first; the clock gave the moments of opening and hearing
pub record IsServed (gives : ℕ → Type 0) (a b : LinkSeen) (v : SessionHeld) (s : Story) : Type 0 where
  pub stands : SessionStands v s
  pub told : Told (TellsAll s) a.sight b.sight
  pub later : a.faults ≤ b.faults
  pub opened : gives s.stance.opened
  pub heard : gives s.stance.heard

-- and the client has joined the follower's breadcrumb, at a moment that the clock gave
pub record IsAttended (gives : ℕ → Type 0) (a b : LinkSeen) (f : Shown) (v : SessionHeld) : Type 0 where
  pub story : Story
  pub served : IsServed gives a b v story
  pub joined : gives story.stance.joined
  pub begins : IsPrefix story.entries f.known.entries
  pub at_crumb : StandsAt v f

-- since the link was seen first, the client has said its hello
pub record IsGreeted (gives : ℕ → Type 0) (a b : LinkSeen) (v : SessionHeld) : Type 0 where
  pub story : Story
  pub served : IsServed gives a b v story
  pub in_phase : story.stance.phase ≡ Greeted

-- it still waits for it
pub record IsWaiting (gives : ℕ → Type 0) (a b : LinkSeen) (v : SessionHeld) : Type 0 where
  pub story : Story
  pub served : IsServed gives a b v story
  pub in_phase : story.stance.phase ≡ Waiting

-- nothing was given to the link, where it tells
abbrev pub IsSilent : LinkSeen → LinkSeen → Type 0
IsSilent a b = Told (λ x y. y.given ≡ x.given) a.sight b.sight

-- why it is over, or want of memory
abbrev pub IsReasonOf : Gone → Result Reason Want → Type 0
IsReasonOf (Left reason) result = result ≡ Ok reason
IsReasonOf NoMemory result = OnOk result ⊥
