use Rattle.std.proofs.Common.{◌≡◌, length, ◌-◌, ◌^◌, ◌≤◌}
use Rattle.std.specs.Io.KnownBytes.{Consumes}
use Rattle.ty_base.proofs.flow.read_all.Given as goal

abbrev pub invariant-loop-all : goal.invariant-loop-all
invariant-loop-all g l = record {
  within : length l.all.items ≤ 2 ^ 40;
  piece : length l.piece.items ≡ 65536;
  taken : Consumes (g.S.Source.seen l.fn.source).left (g.S.Source.seen l.source).left l.all.items;
  later : (g.S.Source.seen l.fn.source).faults ≤ (g.S.Source.seen l.source).faults;
}

abbrev pub decreases-loop-all : goal.decreases-loop-all
decreases-loop-all g l = 2 ^ 40 - length l.all.items
