-- Batches: where a list of items ends at a closing, and what the next batch behind it is.
use Rattle.std.specs.Prelude.{◌≡◌, ℕ, ◌+◌, ◌-◌, ◌<◌, ◌≤◌, ◌⊎◌, Bool, true, false, List, [], ◌++◌, length, take}
use Rattle.std.specs.List.{count_by, list_all}
use Rattle.ty_base.specs.declared.item.Item.{Item}
use Rattle.ty_base.specs.Feed.{is_closing, is_update}
use Rattle.ty_base.specs.Limits.{items_fit}
use Rattle.ty_base.specs.declared.limits.TheConstants.{BATCH_UPDATES}

-- one batch: no more updates than close one, an item that is no update only as the last, and keys and values within the limits
pub record IsBatch (items : List Item) : Type 0 where
  pub few : count_by is_update items ≤ BATCH_UPDATES
  pub ends : list_all is_update (take (length items - 1) items) ≡ true
  pub fits : items_fit items ≡ true

-- there are no items, or a batch closes at their end
abbrev pub IsClosed : List Item → Type 0
IsClosed items = (items ≡ []) ⊎ (is_closing false items (length items) ≡ true)

-- behind these items a batch closes at the end of the next ones, and at no place before
pub record IsNextBatch (ended : Bool) (before batch : List Item) : Type 0 where
  pub some : 0 < length batch
  pub none_before : (p : ℕ) → length before < p → p < length before + length batch → is_closing false (before ++ batch) p ≡ false
  pub closes : is_closing ended (before ++ batch) (length before + length batch) ≡ true
