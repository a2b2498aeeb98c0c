-- What a list of items leaves pending, by the list alone.
use Rattle.std.specs.Prelude.{◌≡◌, ℕ, List, Option, None, Some, map, reverse, slice_get, string_bytes}
use Rattle.std.specs.List.{filter_map}
use Rattle.std.specs.declared.string.String.{String}
use Rattle.std.specs.declared.alloc.Global.{Global}
use Rattle.ty_base.specs.declared.item.Item.{Item}
use Rattle.ty_base.specs.declared.item.Item.TheVariants.{State}
use Rattle.ty_base.specs.declared.status.Status.{Status}
use Rattle.ty_base.specs.Feed.{key_of, firsts}
use Rattle.ty_base.specs.Readings.{last_put}

-- each key of an update, once, in the order of its first item, with the value of its last item, or none where that is a deletion
unfoldable pub pending : List Item → List (List ℕ × Option (List ℕ))
pending items = map (λ k. (k, last_put k items)) (firsts (filter_map key_of items))

abbrev pub status_of_item : Item → Option Status
status_of_item (State s) = Some s
status_of_item _ = None

-- the last status, if there is one
unfoldable pub last_status : List Item → Option Status
last_status items = slice_get (reverse (filter_map status_of_item items)) 0

-- what an entry of the buffer's map is seen as
abbrev pub shown : String Global × Option (List ℕ) → List ℕ × Option (List ℕ)
shown e = (string_bytes e.0, e.1)

-- the buffer's pairs and status are what the items since the last drain leave pending
abbrev pub BufferStands : List (List ℕ × Option (List ℕ)) × Option Status → List Item → Type 0
BufferStands buffer items = (buffer.0 ≡ pending items) × (buffer.1 ≡ last_status items)
