-- The second part of a turn: one step of the follower, and what comes of it.
use Rattle.std.specs.Prelude.{◌≡◌, ◌⊎◌, ℕ, true, false, List, length, Result, Ok, Err, OnOk}
use mathlib.Core.List.{IsPrefix}
use Rattle.ty_base.specs.Drops.{is_silent}
use Rattle.ty_base.specs.declared.text.NoMemory.{NoMemory as Want}
use Rattle.ty_account.specs.Known.{KnowsMore}
use Rattle.ty_chain.specs.Shown.{Shown}
use Rattle.ty_session.specs.Story.{Story}
use Rattle.ty_session.specs.Held.{SessionHeld, IsQueued, SessionStands}
use Rattle.ty_session.specs.declared.phase.Phase.TheVariants.{Joined}
use Rattle.ty_session.specs.declared.reason.Gone.{Gone}
use Rattle.ty_session.specs.declared.reason.Gone.TheVariants.{Left, NoMemory}
use Rattle.ty_server.specs.Causes.{IsCause}
use Rattle.ty_server.specs.Exchanges.{LinkSeen, Exchanged}
use Rattle.ty_server.specs.Stories.{Extends, IsLeft}
use Rattle.ty_server.specs.Turning.{IsSent, IsIdle, HasFinished}
use Rattle.ty_server.specs.declared.answers.Turn.{Turn}
use Rattle.ty_server.specs.declared.answers.Turn.TheVariants.{Sent, Idle, Over}

-- the client has joined the follower's breadcrumb, and was heard in time
pub record StandsBesideFollower (now : ℕ) (f : Shown) (s : Story) : Type 0 where
  pub has_joined : s.stance.phase ≡ Joined
  pub begins : IsPrefix s.entries f.known.entries
  pub number : f.crumb.number ≡ length s.entries
  pub heard_in_time : is_silent s.stance.heard now ≡ false

module _ (now : ℕ) (sent heard : List ℕ) (a b : LinkSeen) (f g : Shown) (v w : SessionHeld) (s t : Story) where
  abbrev pub StepAnswered : Result Turn Gone → Type 0
  StepAnswered (Ok Sent) = IsSent now sent heard a b f g v w s t
  StepAnswered (Ok Idle) = IsIdle now sent heard a b f g v w s t
  StepAnswered (Ok (Over reason)) = ⊥
  StepAnswered (Err (Left reason)) = IsLeft reason w t
      × IsCause now s heard a b (λ made. made ≡ g.crumb.at) (HasFinished f g t) reason
  StepAnswered (Err NoMemory) = w.spent ≡ true

pub record StepTurned (now : ℕ) (sent heard : List ℕ) (a b : LinkSeen) (f g : Shown) (v w : SessionHeld) (result : Result Turn Gone) (s : Story) : Type 0 where
  pub story : Story
  pub follows : Extends now sent s story
  pub queued : IsQueued w.out story
  pub begins : IsPrefix story.entries g.known.entries
  pub answered : StepAnswered now sent heard a b f g v w s story result

pub record Steps (now : ℕ) (a b : LinkSeen) (f g : Shown) (v w : SessionHeld) (result : Result Turn Gone) : Type 0 where
  pub sent : List ℕ
  pub heard : List ℕ
  pub exchanged : Exchanged sent heard a b
  pub knows_more : KnowsMore f.known g.known
  pub turned : (s : Story) → SessionStands v s → StandsBesideFollower now f s → StepTurned now sent heard a b f g v w result s

-- the answer that there was no later breadcrumb comes only after a look
abbrev pub OnIdle : Result Turn Gone → Type 0 → Type 0
OnIdle (Ok Sent) P = Unit {0}
OnIdle (Ok Idle) P = P
OnIdle (Ok (Over reason)) P = Unit {0}
OnIdle (Err e) P = Unit {0}

-- the same answer, where an end of the connection is one
abbrev pub IsAnswer : Result Turn Gone → Result Turn Want → Type 0
IsAnswer (Ok turn) result = result ≡ Ok turn
IsAnswer (Err (Left reason)) result = result ≡ Ok (Over reason)
IsAnswer (Err NoMemory) result = OnOk result ⊥
