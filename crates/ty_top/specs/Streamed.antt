-- What `stream` writes, and the worlds that it tells.
use Rattle.std.specs.Prelude.{ℕ, ◌+◌, ◌-◌, List, map, nat_le, true, if◌then◌else◌}
use Rattle.std.specs.List.{range_with_len}
use Rattle.ty_base.specs.declared.item.Item.{Item}
use Rattle.ty_base.specs.Feed.{book, last}
use Rattle.ty_wire.specs.Wire.{frame, frames}
use Rattle.ty_wire.specs.Talk.{talk}
use Rattle.ty_wire.specs.declared.message.Msg.TheVariants.{ServerHello}
use Rattle.ty_client.specs.Rebuilt.{Rebuilt}
use Rattle.ty_client.specs.Worlds.{rebuilt_world}

-- the talk over the book of these items, where the feed has ended: from breadcrumb j to the last, each a group of its
-- own, or the server hello alone where there is no breadcrumb j
unfoldable pub streamed : List Item → ℕ → List ℕ
streamed items j =
    let last_number = last true items in
    if nat_le j last_number then frames (talk (book true items) j (range_with_len (j + 1) (last_number - j))) else frame (ServerHello 1)

-- the worlds of these items from breadcrumb j to the last, each once and in order
abbrev pub worlds_from : List Item → ℕ → List Rebuilt
worlds_from items j = map (rebuilt_world true items) (range_with_len j (last true items + 1 - j))
