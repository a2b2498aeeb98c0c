-- The items of a feed, and the batches that they close.
use Rattle.std.specs.Prelude.{ℕ, List, [], ◌∷◌, Bool, not, ◌&&◌, take, is_some}
use Rattle.std.specs.List.{filter_map, flat_map, take_while, slice_range, list_all}
use Rattle.ty_base.specs.declared.item.Item.{Item}
use Rattle.ty_base.specs.Feed.{closings, last_of}
use Rattle.ty_base.specs.Limits.{is_small}
use Rattle.ty_intake.specs.Lines.{Feed, lines_of}
use Rattle.ty_intake.specs.Line.{item_by}
use Rattle.ty_intake.specs.Faults.{line_fault, feed_fault}
use Rattle.ty_intake.specs.declared.batch.Closed.{Closed}

abbrev pub is_good : List ℕ → Bool
is_good line = not (is_some (line_fault 0 line))

-- the items of the lines before the first fault, in order
unfoldable pub items_of : Feed → List Item
items_of feed = filter_map item_by (take_while is_good (lines_of feed))

-- the end closes a batch where no fault came before it
abbrev pub is_whole : Feed → Bool
is_whole feed = feed.ended && not (is_some (feed_fault feed))

-- from each closing to the next
abbrev pub batches_between : List Item → ℕ → List ℕ → List Closed
batches_between items from [] = []
batches_between items from (p ∷ ps) = record { items = slice_range items from p; cut = p } ∷ batches_between items p ps

-- the batches of a list of items, each with the position at which it closes
unfoldable pub batches : Bool → List Item → List Closed
batches ended items = batches_between items 0 (closings ended items)

unfoldable pub batches_of : Feed → List Closed
batches_of feed = batches (is_whole feed) (items_of feed)

-- the items of batches, one behind another
abbrev pub joined : List Closed → List Item
joined bs = flat_map (λ b. b.items) bs

-- the items up to the last closing
unfoldable pub closed_items : Feed → List Item
closed_items feed = take (last_of 0 (closings (is_whole feed) (items_of feed))) (items_of feed)

-- the keys and values of a batch are within the limits, and UTF-8
abbrev pub batch_fits : Closed → Bool
batch_fits b = list_all is_small b.items
