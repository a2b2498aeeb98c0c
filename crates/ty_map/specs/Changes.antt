-- How a map changes at a key.
use Rattle.std.specs.Prelude.{ℕ, List, Option, None, Some}
use Rattle.ty_base.specs.declared.delta.Delta.{Delta}
use Rattle.ty_base.specs.declared.delta.Kind.{Kind}
use Rattle.ty_base.specs.Feed.{Pairs, get, change}

-- the kind of a change, or none where nothing changes
abbrev pub kind_of : Option Delta → Option Kind
kind_of None = None
kind_of (Some d) = Some d.kind

-- the kind of the change of a key from what a map has there to a value
abbrev pub kind_of_put : Pairs → List ℕ → List ℕ → Option Kind
kind_of_put m k v = kind_of (change k (get m k) (Some v))
