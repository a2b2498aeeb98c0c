-- The deltas of a key that has another value, or none any more, and what a put of a kind changes.
use Rattle.std.specs.Prelude.{ℕ, List, Option, Some, None, refl}
use Rattle.ty_base.specs.declared.delta.Delta.{Delta}
use Rattle.ty_base.specs.declared.delta.Kind.{Kind}
use Rattle.ty_base.specs.declared.delta.Kind.TheVariants.{New, Updated, Deleted}
use Rattle.ty_crumb.specs.Crumbs.{added}

abbrev pub updated : List ℕ → List ℕ → Delta
updated k v = record { key = k; kind = Updated; value = Some v; told = refl }

abbrev pub deleted : List ℕ → Delta
deleted k = record { key = k; kind = Deleted; value = None; told = refl }

abbrev pub delta_of : Option Kind → List ℕ → List ℕ → Option Delta
delta_of None k v = None
delta_of (Some New) k v = Some (added k v)
delta_of (Some Updated) k v = Some (updated k v)
delta_of (Some Deleted) k v = None
