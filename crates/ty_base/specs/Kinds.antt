-- Which deltas have a value.
use Rattle.std.specs.Prelude.{Bool, true, false, List, ℕ, Option, None, Some}
use Rattle.ty_base.specs.declared.delta.Kind.{Kind}
use Rattle.ty_base.specs.declared.delta.Kind.TheVariants.{New, Updated, Deleted}

-- a delta has a value exactly where it is no deletion
abbrev pub tells : Kind → Option (List ℕ) → Bool
tells New None = false
tells New (Some v) = true
tells Updated None = false
tells Updated (Some v) = true
tells Deleted None = true
tells Deleted (Some v) = false
