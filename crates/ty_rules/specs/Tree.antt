-- In each object of the tree the names ascend.
use Rattle.std.specs.Prelude.{◌≡◌, ℕ, List}
use Rattle.std.specs.Ordering.{nat_cmp}
use Rattle.std.specs.declared.cmp.Ordering.TheVariants.{Less}
use Rattle.std.specs.Cmp.Lexicographic.{slice_cmp}
use Rattle.serde_json.specs.Data.{Data, array, object, Items, no_items, item, Members, no_members, member}

-- the name is below each of these members'
abbrev pub Below : List ℕ → Members → Type 0
Below k no_members = Unit {0}
Below k (member l d ms) = (slice_cmp nat_cmp k l ≡ Less) × Below k ms

abbrev mutual
  pub Ascends : Data → Type 0
  Ascends (array ds) = ItemsAscend ds
  Ascends (object ms) = MembersAscend ms
  Ascends d = Unit {0}

  pub ItemsAscend : Items → Type 0
  ItemsAscend no_items = Unit {0}
  ItemsAscend (item d ds) = Ascends d × ItemsAscend ds

  pub MembersAscend : Members → Type 0
  MembersAscend no_members = Unit {0}
  MembersAscend (member k d ms) = Below k ms × Ascends d × MembersAscend ms
