-- Pairs in the order of their keys.
use Rattle.std.specs.Prelude.{T}
use Rattle.std.specs.Ordering.{nat_cmp}
use Rattle.std.specs.Cmp.Lexicographic.{slice_cmp}
use Rattle.std.specs.FinMap.Entries.{is_sorted}
use Rattle.ty_base.specs.Feed.{Pairs}

-- each key stands before all later ones, byte by byte, so none stands twice
abbrev pub IsAscending : Pairs → Type 0
IsAscending m = T (is_sorted (slice_cmp nat_cmp) m)
