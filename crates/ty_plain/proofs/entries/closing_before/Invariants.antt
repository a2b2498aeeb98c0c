use Rattle.std.proofs.Common.{◌≡◌, ◌≤◌, take}
use Rattle.ty_plain.specs.steps.Scans.{last_before}
use Rattle.ty_plain.proofs.entries.closing_before.Given as goal

abbrev pub invariant-loop-p : goal.invariant-loop-p
invariant-loop-p l = record {
  is : l.last ≡ last_before (take l.p-index l.closings) l.c;
  within : l.last ≤ l.c;
}
