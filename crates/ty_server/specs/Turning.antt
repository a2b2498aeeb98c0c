-- What `turn` does.
use Rattle.std.specs.Prelude.{◌≡◌, ◌⊎◌, ℕ, true, false, List, [], ◌∷◌, ◌++◌, Result, Ok, Err, ⊤}
use mathlib.Core.List.{IsPrefix}
use Rattle.ty_base.specs.Drops.{is_silent, is_slow}
use Rattle.ty_base.specs.declared.entry.Entry.{Entry}
use Rattle.ty_base.specs.declared.text.NoMemory.{NoMemory}
use Rattle.ty_account.specs.Known.{KnowsMore}
use Rattle.ty_chain.specs.Shown.{Shown}
use Rattle.ty_chain.specs.Following.{Moves, StepDone}
use Rattle.ty_chain.specs.declared.follower.Step.TheVariants.{Pending, Ended}
use Rattle.ty_session.specs.Story.{Story}
use Rattle.ty_session.specs.Held.{SessionHeld, IsQueued, SessionStands}
use Rattle.ty_session.specs.declared.phase.Phase.TheVariants.{Joined}
use Rattle.ty_server.specs.Causes.{IsCause}
use Rattle.ty_server.specs.Exchanges.{LinkSeen, Exchanged}
use Rattle.ty_server.specs.Stories.{Extends, GoesOn, IsLeft, IsAllSaid}
use Rattle.ty_server.specs.declared.answers.Turn.{Turn}
use Rattle.ty_server.specs.declared.answers.Turn.TheVariants.{Sent, Idle, Over}

-- the answer is that there was no later breadcrumb
abbrev pub IfIdle : Result Turn NoMemory → Type 0 → Type 0
IfIdle (Ok Sent) P = ⊤
IfIdle (Ok Idle) P = P
IfIdle (Ok (Over reason)) P = ⊤
IfIdle (Err e) P = ⊤

-- the session has joined the breadcrumb at which the follower stands, by number
abbrev pub StandsAt : SessionHeld → Shown → Type 0
StandsAt v f = (v.stance.phase ≡ Joined) × (v.number ≡ f.crumb.number)

-- the step found the list at its end and closed, and all that it has was said
pub record HasFinished (f g : Shown) (t : Story) : Type 0 where
  pub step : StepDone f g Ended
  pub entries : t.entries ≡ g.known.entries
  pub all_said : IsAllSaid t

-- at the time `now`, with `sent` said and `heard` heard, from story `s` to story `t`
module _ (now : ℕ) (sent heard : List ℕ) (a b : LinkSeen) (f g : Shown) (v w : SessionHeld) (s t : Story) where
  -- the step went to the breadcrumb of the next entry, which was offered
  pub record IsSent : Type 0 where
    pub goes_on : GoesOn now sent heard Joined w s t
    pub at_crumb : StandsAt w g
    pub step : Moves f g
    pub entry : Entry
    pub entries : t.entries ≡ s.entries ++ entry ∷ []
    pub heard_in_time : is_silent t.stance.heard now ≡ false
    pub not_slow : is_slow g.crumb.at t.stance.joined now ≡ false

  -- the step found no later entry, and all up to this breadcrumb was said
  pub record IsIdle : Type 0 where
    pub goes_on : GoesOn now sent heard Joined w s t
    pub at_crumb : StandsAt w g
    pub step : StepDone f g Pending
    pub entries : t.entries ≡ s.entries
    pub all_said : IsAllSaid t
    pub heard_in_time : is_silent t.stance.heard now ≡ false

  -- memory ran out at the session, which is spent
  abbrev pub Answered : Result Turn NoMemory → Type 0
  Answered (Ok Sent) = IsSent
  Answered (Ok Idle) = IsIdle
  Answered (Ok (Over reason)) = IsLeft reason w t
      × IsCause now s heard a b (λ made. made ≡ g.crumb.at) (HasFinished f g t) reason
  Answered (Err e) = w.spent ≡ true

-- at every answer: what was said so far are the first bytes of marks over entries that the follower knows, and what is queued is the rest
pub record Turned (now : ℕ) (sent heard : List ℕ) (a b : LinkSeen) (f g : Shown) (v w : SessionHeld) (result : Result Turn NoMemory) (s : Story) : Type 0 where
  pub story : Story
  pub follows : Extends now sent s story
  pub queued : IsQueued w.out story
  pub begins : IsPrefix story.entries g.known.entries
  pub answered : Answered now sent heard a b f g v w s story result

-- at a moment that the clock gives the link was given what was said and brought what was heard
pub record Turns (gives : ℕ → Type 0) (a b : LinkSeen) (f g : Shown) (v w : SessionHeld) (result : Result Turn NoMemory) : Type 0 where
  pub now : ℕ
  pub moment : gives now
  pub sent : List ℕ
  pub heard : List ℕ
  pub exchanged : Exchanged sent heard a b
  pub knows_more : KnowsMore f.known g.known
  pub turned : (s : Story) → SessionStands v s → IsPrefix s.entries f.known.entries
      → Turned now sent heard a b f g v w result s
