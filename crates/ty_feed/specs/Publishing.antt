-- What publishing a feed to its end comes to.
use Rattle.std.specs.Prelude.{◌≡◌, true, false, List, None, Some, ⊤}
use Rattle.std.specs.Io.KnownBytes.{Consumes, IsAtEnd}
use mathlib.Core.List.{IsPrefix}
use Rattle.ty_base.specs.declared.entry.Entry.{Entry}
use Rattle.ty_base.specs.Causes.{Rose}
use Rattle.ty_base.specs.Devices.{Input}
use Rattle.ty_base.specs.Feed.{book}
use Rattle.ty_intake.specs.Lines.{Feed}
use Rattle.ty_intake.specs.Faults.{feed_fault}
use Rattle.ty_intake.specs.Batches.{items_of, closed_items}
use Rattle.ty_feed.specs.declared.ending.FeedEnd.{FeedEnd}
use Rattle.ty_feed.specs.declared.ending.FeedEnd.TheVariants.{Done, Fault, Read, NoMemory}

-- the bytes of the feed were taken, and the source's end where the feed has ended
pub record IsReadFrom (old new : Input) (read : Feed) : Type 0 where
  pub bytes : Consumes old.left new.left read.bytes
  pub end : read.ended ≡ true → IsAtEnd new.left

-- the list behind a feed that was read so far, by how that ended: the book of all its items where it is whole, or else of those up
-- to the last closing, or for want of memory the first entries of that
abbrev pub IsListOf : FeedEnd → Feed → List Entry → Type 0
IsListOf Done read entries = (read.ended ≡ true) × (feed_fault read ≡ None) × (entries ≡ book true (items_of read))
IsListOf (Fault f) read entries = (feed_fault read ≡ Some f) × (entries ≡ book true (closed_items read))
IsListOf Read read entries = (read.ended ≡ false) × (feed_fault read ≡ None) × (entries ≡ book true (closed_items read))
IsListOf NoMemory read entries = IsPrefix entries (book true (closed_items read))

abbrev pub IfReadFailed : FeedEnd → Type 0 → Type 0
IfReadFailed Done P = ⊤
IfReadFailed (Fault f) P = ⊤
IfReadFailed Read P = P
IfReadFailed NoMemory P = ⊤

-- what was read, and the list that was published of it. The source has counted its fault where it failed
pub record Publishes (end : FeedEnd) (old new : Input) (entries : List Entry) : Type 0 where
  pub read : Feed
  pub taken : IsReadFrom old new read
  pub list : IsListOf end read entries
  pub cause : IfReadFailed end (Rose old.faults new.faults)
