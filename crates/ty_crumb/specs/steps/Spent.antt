-- How many fresh nodes the changes of a batch have made so far.
use Rattle.std.specs.Prelude.{ℕ, ◌+◌, ◌*◌, ◌≤◌, length}
use Rattle.ty_map.specs.Fresh.{fresh}
use Rattle.ty_map.specs.Heights.{greatest_height}
use Rattle.ty_map.specs.Shape.{Shape, pairs}
use Rattle.ty_crumb.specs.Crumbs.{most_fresh}

-- from the old tree to this one, where at most `left` of all changes are still to come: what they may add is kept free
pub record Spent (old now : Shape) (all left : ℕ) : Type 0 where
  pub size : length (pairs now) + left ≤ length (pairs old) + all
  pub few : fresh old now + 3 * left * (greatest_height (length (pairs old) + all) + 1) ≤ most_fresh (length (pairs old)) all
