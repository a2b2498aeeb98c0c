-- What a talk over a list of entries lets a client rebuild.
use Rattle.std.specs.Prelude.{ℕ, Bool, List}
use Rattle.ty_base.specs.declared.item.Item.{Item}
use Rattle.ty_base.specs.declared.entry.Entry.{Entry}
use Rattle.ty_base.specs.Feed.{World, world}
use Rattle.ty_wire.specs.Talk.{world_after}
use Rattle.ty_client.specs.Rebuilt.{Rebuilt}

-- a world's map and status, under a number
abbrev pub numbered : ℕ → World → Rebuilt
numbered n w = record { number = n; status = w.status; pairs = w.pairs }

-- the map and the status that the first n entries leave
abbrev pub rebuilt_after : List Entry → ℕ → Rebuilt
rebuilt_after entries n = numbered n (world_after entries n)

-- Over the book of a list of items

-- the map and the status of the world at breadcrumb n
abbrev pub rebuilt_world : Bool → List Item → ℕ → Rebuilt
rebuilt_world ended items n = numbered n (world ended items n)
