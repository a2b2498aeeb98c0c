-- The pending keys of a batch, one after another in the map as it is by then.
use Rattle.std.specs.Prelude.{◌≡◌, ℕ, false, List, [], ◌∷◌, ◌++◌, length, map, Option}
use Rattle.std.specs.List.{fold, filter_map, list_any}
use Rattle.std.specs.Str.{bytes_eq}
use Rattle.ty_base.specs.declared.delta.Delta.{Delta}
use Rattle.ty_base.specs.Feed.{Pairs, get, change, changed}
use Rattle.ty_map.specs.Shape.{Shape, pairs}
use Rattle.ty_crumb.specs.steps.Spent.{Spent}

abbrev pub Pending : Type 0
Pending = List (List ℕ × Option (List ℕ))

-- no key is pending twice
abbrev pub AreApart : Pending → Type 0
AreApart [] = Unit {0}
AreApart (p ∷ ps) = (list_any (bytes_eq p.0) (map (λ q. q.0) ps) ≡ false) × AreApart ps

-- what pending keys change in a map
abbrev pub changes_of : Pairs → Pending → List Delta
changes_of m ps = filter_map (λ p. change p.0 (get m p.0) p.1) ps

-- of all pending keys those before the rest have their values, and what that changed is told
pub record Applied (old : Shape) (all : Pending) (now : Shape) (ds : List Delta) (rest : Pending) : Type 0 where
  pub told : ds ++ changes_of (pairs now) rest ≡ changes_of (pairs old) all
  pub led : pairs now ≡ fold changed (pairs old) ds
  pub same : ds ≡ [] → now ≡ old
  pub apart : AreApart rest
  pub spent : Spent old now (length all) (length rest)
