use Rattle.std.proofs.Common.{◌≡◌, ◌++◌}
use Rattle.std.specs.List.{range_with_len}
use Rattle.ty_wire.specs.Wire.{frames}
use Rattle.ty_wire.specs.Talk.{groups_after, world_after}
use Rattle.ty_top.proofs.plain.write_entries.Given as goal

abbrev pub invariant-loop-entry : goal.invariant-loop-entry
invariant-loop-entry l = record {
  written : l.out.items ≡ l.fn.out.items ++ frames (groups_after l.book 0 (range_with_len 1 l.entry-index));
  counted : l.n ≡ l.entry-index;
  told : l.status ≡ (world_after l.book l.entry-index).status;
}
