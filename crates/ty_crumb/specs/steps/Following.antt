-- All that is owed for a batch over the last crumb.
use Rattle.std.specs.Prelude.{◌≡◌, ◌+◌, ◌≤◌, ℕ, Bool, false, List, ◌++◌, length}
use Rattle.std.specs.List.{fold, count_by}
use Rattle.ty_base.specs.declared.item.Item.{Item}
use Rattle.ty_base.specs.declared.entry.Entry.{Entry}
use Rattle.ty_base.specs.Feed.{after, book, same_world, is_update}
use Rattle.ty_base.specs.Batches.{IsBatch, IsClosed, IsNextBatch}
use Rattle.ty_map.specs.Fresh.{fresh}
use Rattle.ty_map.specs.Shape.{pairs}
use Rattle.ty_dedupe.specs.declared.drained.Drained.{Drained}
use Rattle.ty_dedupe.specs.Pending.{pending, last_status}
use Rattle.ty_crumb.specs.declared.crumb.Crumb.{Crumb}
use Rattle.ty_crumb.specs.declared.successor.Made.{Made}
use Rattle.ty_crumb.specs.Batches.{next_entries}
use Rattle.ty_crumb.specs.Crumbs.{CrumbStands, world_of, is_unchanged, IfNext, entries_of, IsMadeFor, most_fresh}

-- two crumbs with the same number, status and map
pub record IsLike (one other : Crumb) : Type 0 where
  pub number : one.number ≡ other.number
  pub status : one.status ≡ other.status
  pub pairs : one.pairs ≡ other.pairs

-- the items are a batch, and this is what they leave pending
pub record IsLeftBy (drained : Drained) (items : List Item) : Type 0 where
  pub batch : IsBatch items
  pub pairs : drained.pairs ≡ pending items
  pub status : drained.status ≡ last_status items

pub record IsMadeOf (last : Crumb) (items : List Item) (cut now : ℕ) (m : Made) : Type 0 where
  pub unchanged : is_unchanged m ≡ same_world (world_of last) (fold after (world_of last) items)
  pub entries : entries_of m ≡ next_entries cut (world_of last) items
  pub number : IfNext m (λ c. c.number ≡ last.number + 1)
  pub at : IfNext m (λ c. c.at ≡ now)
  pub world : IfNext m (λ c. world_of c ≡ fold after (world_of last) items)
  pub few : IfNext m (λ c. fresh last.pairs c.pairs ≤ most_fresh (length (pairs last.pairs)) (count_by is_update items))
  pub stands : (es : List Entry) → CrumbStands last es → IfNext m (λ c. CrumbStands c (es ++ entries_of m))
  pub book : (ended : Bool) (before : List Item) → IsClosed before → IsNextBatch ended before items → cut ≡ length before + length items
      → CrumbStands last (book false before) → IsMadeFor (book false before) (book ended (before ++ items)) m
