-- Doors with their workers.
use Rattle.std.specs.Prelude.{◌≡◌, ◌≤◌, ◌<◌, ℕ, List, [], Option, None, Some, length, slice_index_or, is_err}
use Rattle.ty_account.specs.Known.{Name, Known, KnowsMore}
use Rattle.ty_base.specs.Doors.{DoorSight}
use Rattle.ty_base.specs.Links.{Sight}
use Rattle.ty_chain.specs.Publishing.{Issued}
use Rattle.ty_server.specs.WholeServer.{Run, IsManned}
use Rattle.ty_server.specs.declared.post.Post.{Post}
use Rattle.ty_server.specs.declared.worker.TheConstants.{MOST_LINKS}

abbrev pub door_of : {D : Type 0} → Post D → D
door_of post = post.door

-- what its worker's run came to
abbrev pub run_of : {D : Type 0} → Post D → Run
run_of post = record { short = post.worker.short; failed = is_err post.answer }

abbrev pub IsWithin : {D : Type 0} → Post D → Type 0
IsWithin post = post.worker.short ≤ MOST_LINKS

-- what the worker knows is of this account
abbrev pub HasAccount : {D : Type 0} → Name → Post D → Type 0
HasAccount account post = post.worker.front.account ≡ account

-- the worker knows this
abbrev pub HasFront : {D : Type 0} → Known → Post D → Type 0
HasFront front post = post.worker.front ≡ front

-- the publisher is there and has published nothing
abbrev pub IsNew : Option Issued → Type 0
IsNew None = ⊥
IsNew (Some v) = (v.known.entries ≡ []) × (v.cut ≡ 0)

module _ {D L : Type 0} (gave got count : D → ℕ) (sight : D → Option (DoorSight L)) (link : L → Option Sight) (faults : L → ℕ) (gives : ℕ → Type 0) where
  -- the worker ran at its door, over what it knows afterwards
  pub record IsStaffed (p q : Post D) : Type 0 where
    pub knows_more : KnowsMore p.worker.front q.worker.front
    pub manned : IsManned gave got count sight link faults gives q.worker.front (run_of q) p.door q.door

  -- each of them did
  pub record AreStaffed (ps qs : List (Post D)) : Type 0 where
    pub each : (i : ℕ) (d : Post D) → i < length ps → IsStaffed (slice_index_or ps i d) (slice_index_or qs i d)
