-- What `greet` does.
use Rattle.std.specs.Prelude.{◌≡◌, ℕ, true, false, List, [], ◌++◌, None, Result, Ok, Err}
use Rattle.ty_base.specs.Drops.{is_unhello}
use Rattle.ty_base.specs.declared.text.NoMemory.{NoMemory}
use Rattle.ty_wire.specs.Stream.{Brings}
use Rattle.ty_session.specs.Story.{Story}
use Rattle.ty_session.specs.Held.{SessionHeld, SessionStands}
use Rattle.ty_session.specs.declared.phase.Phase.TheVariants.{Waiting as IsWaiting, Greeted as IsGreeted}
use Rattle.ty_server.specs.Causes.{IsCause}
use Rattle.ty_server.specs.Exchanges.{LinkSeen, Exchanged}
use Rattle.ty_server.specs.Stories.{GoesOn, IsLeft}
use Rattle.ty_server.specs.declared.answers.Greet.{Greet}
use Rattle.ty_server.specs.declared.answers.Greet.TheVariants.{Ready, Waiting, Over}

-- at the time `now`, the client having said `heard`
module _ (now : ℕ) (heard : List ℕ) (a b : LinkSeen) (w : SessionHeld) (s : Story) where
  -- the session goes on without having said anything: greeted; or without a whole message, while there is time for one; or it is over
  abbrev pub Greeted : Result Greet NoMemory → Type 0
  Greeted (Ok Ready) = (t : Story) × GoesOn now [] heard IsGreeted w s t
  Greeted (Ok Waiting) = (t : Story) × GoesOn now [] heard IsWaiting w s t
      × Brings (s.bytes ++ heard) [] None × (is_unhello s.stance.opened now ≡ false)
  Greeted (Ok (Over reason)) = (t : Story) × IsLeft reason w t
      × IsCause now s heard a b (λ _. ⊥) ⊥ reason
  Greeted (Err e) = w.spent ≡ true

-- at a moment that the clock gives the link was given nothing and brought what was heard
pub record Greets (gives : ℕ → Type 0) (a b : LinkSeen) (v w : SessionHeld) (result : Result Greet NoMemory) : Type 0 where
  pub now : ℕ
  pub moment : gives now
  pub heard : List ℕ
  pub exchanged : Exchanged [] heard a b
  pub answered : (s : Story) → SessionStands v s → s.stance.phase ≡ IsWaiting
      → Greeted now heard a b w s result
