-- One client of a world, for the client that it stands for.
use Rattle.std.specs.Prelude.{◌≡◌, ℕ, ◌<◌, ◌≤◌, List, [], ◌∷◌, length, map, Bool, true, false, Option, None, Some, option_map, ⊤}
use Rattle.std.specs.List.{list_all, AllByRecursion}
use Rattle.ty_base.specs.declared.entry.Entry.{Entry}
use Rattle.ty_base.specs.declared.limits.TheConstants.{INPUT_BYTES}
use Rattle.ty_base.specs.Limits.{is_small_entry}
use Rattle.ty_crumb.specs.declared.crumb.Crumb.{Crumb}
use Rattle.ty_client.specs.Rebuilt.{Rebuilt}
use Rattle.ty_client.specs.Rebuild.{RebuildHeld}
use Rattle.ty_client.specs.Worlds.{rebuilt_after}
use Rattle.ty_session.specs.Held.{SessionHeld}
use Rattle.ty_session.specs.declared.phase.Phase.{Phase}
use Rattle.ty_session.specs.declared.phase.Phase.TheVariants.{Waiting, Greeted, Joined, Over}
use Rattle.ty_session.specs.declared.reason.Reason.{Reason}
use Rattle.ty_session.specs.declared.reason.Reason.TheVariants.{NoHello, NoPong}
use Rattle.ty_core.specs.declared.client.Client.{Client}
use Rattle.ty_core.specs.declared.client.Connection.{Connection}
use Rattle.ty_core.specs.declared.slot.Slot.{Slot}
use Rattle.ty_core.specs.declared.told.Told.{Told}
use Rattle.ty_core.specs.declared.told.Told.TheVariants.{Rebuilt as AtEnd, Still, NoHello as ToldHello, NoPong as ToldPong}
use Rattle.ty_core.specs.Clients.{Trail, hear_link, get_link, get_client, got_with, numbers_came, last_number}
use Rattle.ty_core.specs.Run.{hear_fault, get_fault}
use Rattle.ty_core.specs.Report.{told_hear, told_ends, told_get}
use Rattle.ty_core.specs.Held.{AreCrumbs, HasHeard, IsLinked, SlotStands}

-- the breadcrumbs stand for the trail, whose entries are within the limits
pub record AreTrail (crumbs : List Crumb) (t : Trail) : Type 0 where
  pub stand : AreCrumbs crumbs t.entries
  pub times : t.times ≡ map (λ c. c.at) crumbs
  pub texts : list_all is_small_entry t.entries ≡ true
  pub few : length t.entries < INPUT_BYTES

-- the link, where a session that is over may still be there
abbrev pub LinkOrOver : RebuildHeld → Option SessionHeld → List Entry → Option Connection → Type 0
LinkOrOver rebuild None es None = HasHeard rebuild
LinkOrOver rebuild None es (Some k) = ⊥
LinkOrOver rebuild (Some s) es None = (s.stance.phase ≡ Over) × HasHeard rebuild
LinkOrOver rebuild (Some s) es (Some k) = IsLinked rebuild s es k

-- the client is this one now, and this was told
pub record SlotMoves (slot : Slot) (es : List Entry) (c : Client) (told wanted : List Told) : Type 0 where
  pub stands : SlotStands slot es c
  pub told_is : told ≡ wanted

-- so many bytes reached the client, fewer than are too many
pub record LinkGets (rebuild : RebuildHeld) (session : SessionHeld) (es : List Entry) (k : Connection) (n c : ℕ) (held : Option ℕ) (told : List Told) : Type 0 where
  pub link : IsLinked rebuild session es (get_link es n k)
  pub short : got_with es k n < INPUT_BYTES
  pub held_is : rebuild.held ≡ option_map (rebuilt_after es) (last_number held (numbers_came es k n))
  pub told_is : told ≡ told_ends (rebuilt_after es) c held (numbers_came es k n)

-- what was heard, and where the client joined
pub record LinkHears (rebuild : RebuildHeld) (session : SessionHeld) (es : List Entry) (k : Connection) (now c : ℕ) (told : List Told) : Type 0 where
  pub link : IsLinked rebuild session es (hear_link (length es) now k)
  pub no_fault : hear_fault es (Some k) ≡ None
  pub told_is : told ≡ told_hear (length es) c (Some k)

-- the numbers of the crumb ends that come are those of breadcrumbs
abbrev pub LinkNumbers : List Entry → ℕ → Option Connection → Type 0
LinkNumbers es n None = ⊤
LinkNumbers es n (Some k) = AllByRecursion (λ m. m ≤ length es) (numbers_came es k n)

pub record SlotGets (slot : Slot) (es : List Entry) (c : Client) (n number : ℕ) (told : List Told) : Type 0 where
  pub stands : SlotStands slot es (get_client es n c.held c.link)
  pub no_fault : get_fault es n c.link ≡ None
  pub told_is : told ≡ told_get (rebuilt_after es) es number n c.held c.link
  pub within : LinkNumbers es n c.link

-- Phases

abbrev pub is_greeted_phase : Phase → Bool
is_greeted_phase Waiting = false
is_greeted_phase Greeted = true
is_greeted_phase Joined = false
is_greeted_phase Over = false

abbrev pub is_joined_phase : Phase → Bool
is_joined_phase Waiting = false
is_joined_phase Greeted = false
is_joined_phase Joined = true
is_joined_phase Over = false

abbrev pub is_over_phase : Phase → Bool
is_over_phase Waiting = false
is_over_phase Greeted = false
is_over_phase Joined = false
is_over_phase Over = true

abbrev pub is_over_session : Option SessionHeld → Bool
is_over_session None = false
is_over_session (Some s) = is_over_phase s.stance.phase

-- What is told

abbrev pub ends_or_still : ℕ → Option Rebuilt → List Rebuilt → List Told
ends_or_still c held [] = Still c held ∷ []
ends_or_still c held (a ∷ more) = map (AtEnd c) (a ∷ more)

abbrev pub reason_told : ℕ → Reason → Option Told
reason_told c (NoHello opened now) = Some (ToldHello c opened now)
reason_told c (NoPong heard now) = Some (ToldPong c heard now)
reason_told c _ = None
