-- How a call of a session ends.
use Rattle.std.specs.Prelude.{◌≡◌, ◌++◌, ◌∷◌, ℕ, List, [], Option, None, Some, Result, Ok, Err, true, length, if◌then◌else◌, ⊤}
use Rattle.ty_base.specs.Drops.{is_unhello, is_silent, is_slow}
use Rattle.ty_base.specs.declared.entry.Entry.{Entry}
use Rattle.ty_wire.specs.declared.message.Msg.{Msg}
use Rattle.ty_crumb.specs.Crumbs.{CrumbStands}
use Rattle.ty_crumb.specs.declared.crumb.Crumb.{Crumb}
use Rattle.ty_session.specs.Held.{SessionHeld, SessionStands}
use Rattle.ty_session.specs.Story.{Story, heard_more, offered_at}
use Rattle.ty_session.specs.declared.phase.Phase.{Phase}
use Rattle.ty_session.specs.declared.phase.Phase.TheVariants.{Waiting, Greeted, Joined, Over}
use Rattle.ty_session.specs.declared.reason.Reason.{Reason}
use Rattle.ty_session.specs.declared.reason.Reason.TheVariants.{NoHello, BadHello, BadBytes, BadOrder, NoPong, TooSlow, PeerClosed, LinkFault, Finished}
use Rattle.ty_session.specs.declared.reason.Gone.{Gone}
use Rattle.ty_session.specs.declared.reason.Gone.TheVariants.{Left, NoMemory}
use Rattle.ty_session.specs.declared.stance.Stance.{Stance}

-- Answers

-- the connection is over, and why
abbrev pub IfLeft : {A : Type 0} → Result A Gone → (Reason → Type 0) → Type 0
IfLeft (Ok a) P = ⊤
IfLeft (Err (Left r)) P = P r
IfLeft (Err NoMemory) P = ⊤

-- where memory ran out
abbrev pub OnShort : {A : Type 0} → Result A Gone → Type 0 → Type 0
OnShort (Ok a) P = ⊤
OnShort (Err (Left r)) P = ⊤
OnShort (Err NoMemory) P = P

-- the answer is want of memory
abbrev pub IsShort : {A : Type 0} → Result A Gone → Type 0
IsShort (Ok a) = ⊥
IsShort (Err (Left r)) = ⊥
IsShort (Err NoMemory) = ⊤

-- Carries

-- whatever the one stands for, the other stands for what this makes of it
abbrev pub Carries : SessionHeld → SessionHeld → (Story → Story) → Type 0
Carries old new f = (s : Story) → SessionStands old s → SessionStands new (f s)

-- the same in this phase
abbrev pub CarriesIn : Phase → SessionHeld → SessionHeld → (Story → Story) → Type 0
CarriesIn p old new f =
    (s : Story) → SessionStands old s → s.stance.phase ≡ p → SessionStands new (f s)

-- a client that has joined was offered the breadcrumb of one entry more
abbrev pub TakesNext : SessionHeld → SessionHeld → Crumb → ℕ → Type 0
TakesNext old new crumb now = (s : Story) (e : Entry)
    → SessionStands old s → s.stance.phase ≡ Joined
    → CrumbStands crumb (s.entries ++ e ∷ []) → SessionStands new (offered_at crumb.at now e s)

-- n more messages came with these bytes
pub record HeardMore (v : SessionHeld) (now : ℕ) (bytes : List ℕ) (n : ℕ) (s : Story) : Type 0 where
  pub more : List Msg
  pub count : n ≡ length more
  pub stands : SessionStands v (heard_more now bytes more s)

-- memory ran out, and what was queued is queued still
pub record IsSpent (old new : SessionHeld) : Type 0 where
  pub spent : new.spent ≡ true
  pub out : new.out ≡ old.out

-- Why a connection is over

abbrev pub no_hello : ℕ → Stance → Option Reason
no_hello now t = if is_unhello t.opened now then Some (NoHello t.opened now) else None

abbrev pub no_pong : ℕ → Stance → Option Reason
no_pong now t = if is_silent t.heard now then Some (NoPong t.heard now) else None

abbrev pub reason_in : Phase → ℕ → Stance → Option Reason
reason_in Waiting now t = no_hello now t
reason_in Greeted now t = no_pong now t
reason_in Joined now t = no_pong now t
reason_in Over now t = t.reason

-- once time has passed
abbrev pub tick_reason : ℕ → Stance → Option Reason
tick_reason now t = reason_in t.phase now t

-- at a breadcrumb that was made at `at`
abbrev pub offer_reason : ℕ → ℕ → Stance → Option Reason
offer_reason at now t = if is_slow at t.joined now then Some (TooSlow at now) else None

-- What a caller may end a connection for: the link is gone, or nothing is queued and no group held
abbrev pub MayLeave : Reason → SessionHeld → Type 0
MayLeave (NoHello opened now) v = ⊥
MayLeave (BadHello version) v = ⊥
MayLeave (BadBytes fault) v = ⊥
MayLeave (BadOrder frame) v = ⊥
MayLeave (NoPong heard now) v = ⊥
MayLeave (TooSlow at now) v = ⊥
MayLeave PeerClosed v = ⊤
MayLeave LinkFault v = ⊤
MayLeave Finished v = (v.out ≡ []) × (v.ended ≡ v.number)
