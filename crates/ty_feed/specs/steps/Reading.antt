-- A feed of which the batches so far are published.
use Rattle.std.specs.Prelude.{◌≡◌, ◌<◌, Bool, true, List, ◌++◌, length, Option, None, Some, Result, Ok, Err}
use Rattle.std.specs.List.{list_all}
use mathlib.Core.List.{IsPrefix}
use Rattle.ty_base.specs.declared.item.Item.{Item}
use Rattle.ty_base.specs.declared.limits.TheConstants.{INPUT_BYTES}
use Rattle.ty_base.specs.declared.text.NoMemory.{NoMemory as Want}
use Rattle.ty_base.specs.Feed.{book}
use Rattle.ty_intake.specs.declared.batch.Closed.{Closed}
use Rattle.ty_intake.specs.declared.intake.IntakeFault.{IntakeFault}
use Rattle.ty_intake.specs.Lines.{Feed}
use Rattle.ty_intake.specs.Faults.{feed_fault}
use Rattle.ty_intake.specs.Batches.{batches, batch_fits, closed_items, joined}
use Rattle.ty_intake.specs.Held.{IntakeHeld, IntakeStands}
use Rattle.ty_chain.specs.Publishing.{Issued}
use Rattle.ty_feed.specs.Publishing.{IsListOf, IfReadFailed}
use Rattle.ty_feed.specs.declared.ending.FeedEnd.{FeedEnd}
use Rattle.ty_feed.specs.declared.ending.FeedEnd.TheVariants.{Done, Fault}

-- the publisher's list is the book of these items, all of which it counts
pub record IsBookOf (v : Issued) (items : List Item) : Type 0 where
  pub entries : v.known.entries ≡ book true items
  pub cut : v.cut ≡ length items

-- the batches are the last ones of a list of items, behind those that are published
pub record AreDue (v : Issued) (closed : List Closed) : Type 0 where
  pub ended : Bool
  pub items : List Item
  pub done : List Closed
  pub whole : batches ended items ≡ done ++ closed
  pub few : length items < INPUT_BYTES
  pub fits : list_all batch_fits closed ≡ true
  pub book_of : IsBookOf v (joined done)

-- all of these items are published, or memory ran out on the way
abbrev pub HavePublished : Result (Unit {0}) Want → Issued → List Item → Type 0
HavePublished (Ok u) v items = IsBookOf v items
HavePublished (Err e) v items = IsPrefix v.known.entries (book true items)

-- the intake has read this feed, and the batches that it closed are published
pub record HasReadTo (intake : IntakeHeld) (v : Issued) (feed : Feed) : Type 0 where
  pub stands : IntakeStands intake feed
  pub book_of : IsBookOf v (closed_items feed)

abbrev pub going_on : Option IntakeFault → Result (Unit {0}) FeedEnd
going_on None = Ok tt
going_on (Some f) = Err (Fault f)

abbrev pub ending_by : Option IntakeFault → FeedEnd
ending_by None = Done
ending_by (Some f) = Fault f

-- a piece was read, with which the feed is `now`: it goes on, or it has come to its end
abbrev pub HasReadPiece : Result (Unit {0}) FeedEnd → IntakeHeld → Issued → Feed → Type 0
HasReadPiece (Ok u) intake v now = HasReadTo intake v now × (feed_fault now ≡ None)
HasReadPiece (Err end) intake v now = IsListOf end now v.known.entries × IfReadFailed end ⊥

-- the end was read of a feed, or memory ran out at it
pub record HasReadEnd (end : FeedEnd) (v : Issued) (feed : Feed) : Type 0 where
  pub read : Feed
  pub bytes : read.bytes ≡ feed.bytes
  pub list : IsListOf end read v.known.entries
  pub cause : IfReadFailed end ⊥
