use Rattle.std.proofs.Common.{◌≡◌, ◌+◌, ◌-◌, ◌≤◌, ◌++◌, length, drop}
use Rattle.std.specs.List.{AllByRecursion}
use Rattle.ty_wire.specs.Wire.{IsWire, frames}
use Rattle.ty_wire.proofs.frame.read_frames.Given as goal

abbrev pub invariant-loop-msgs : goal.invariant-loop-msgs
invariant-loop-msgs l = record {
  each : AllByRecursion IsWire l.msgs;
  within : l.used ≤ length l.bytes;
  counted : length l.msgs ≤ length l.fn.msgs + l.used;
  number : l.number ≡ l.count + length l.msgs + 1;
  same : frames l.fn.msgs ++ l.bytes ≡ frames l.msgs ++ drop l.used l.bytes;
}

abbrev pub decreases-loop-msgs : goal.decreases-loop-msgs
decreases-loop-msgs l = length l.bytes - l.used
