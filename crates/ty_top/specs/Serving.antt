-- Why a run of `serve` ends.
use Rattle.std.specs.Prelude.{◌≡◌, ◌⊎◌, nat_lt, ℕ, true, List, Option, None, Some, if◌then◌else◌}
use Rattle.ty_base.specs.Devices.{Input}
use Rattle.ty_base.specs.Doors.{DoorSight}
use Rattle.ty_base.specs.Links.{Sight}
use Rattle.ty_feed.specs.Publishing.{Publishes}
use Rattle.ty_feed.specs.declared.ending.FeedEnd.{FeedEnd}
use Rattle.ty_feed.specs.declared.ending.FeedEnd.TheVariants as feed
use Rattle.ty_server.specs.WholeServer.{IsServedByAll}
use Rattle.ty_server.specs.declared.server.Served.{Served}
use Rattle.ty_top.specs.declared.link_ending.ServeEnd.{ServeEnd}
use Rattle.ty_top.specs.declared.link_ending.ServeEnd.TheVariants.{Done, Fault, Read, Door, Memory}

-- what the feed came to, and only where that is good, whether a door failed
abbrev pub feed_end : FeedEnd → Option ℕ → ServeEnd
feed_end feed.Done None = Done
feed_end feed.Done (Some place) = Door
feed_end (feed.Fault f) door = Fault f
feed_end feed.Read door = Read
feed_end feed.NoMemory door = Memory

-- want of memory at a connection comes first
abbrev pub serve_end : Served → ServeEnd
serve_end served = if nat_lt 0 served.short then Memory else feed_end served.feed served.door

-- of what doors and links tell and count, over the clock's moments
module _ {D L : Type 0} (gave got count : D → ℕ) (sight : D → Option (DoorSight L)) (link : L → Option Sight) (faults : L → ℕ) (gives : ℕ → Type 0) where
  -- the feed was published into one list, which is closed, and served at all doors
  pub record IsServed (end : ServeEnd) (old new : Input) (xs ys : List D) : Type 0 where
    pub served : Served
    pub end_is : end ≡ serve_end served
    pub closed : served.front.closed ≡ true
    pub list : Publishes served.feed old new served.front.entries
    pub doors : IsServedByAll gave got count sight link faults gives served xs ys

  -- or memory ran out before anything was done
  abbrev pub Serves : ServeEnd → Input → Input → List D → List D → Type 0
  Serves end old new xs ys = IsServed end old new xs ys ⊎ ((end ≡ Memory) × (new ≡ old) × (ys ≡ xs))
