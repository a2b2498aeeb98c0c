use Rattle.std.proofs.Common.{◌≡◌, ◌++◌, ◌+◌, ◌≤◌, map, length, vec_len}
use Rattle.std.specs.Prelude.{vec_capacity}
use Rattle.ty_dedupe.specs.Pending.{shown}
use Rattle.ty_dedupe.proofs.buffer.moved.Given as goal

abbrev pub invariant-loop-key : goal.invariant-loop-key
invariant-loop-key l = record {
  moved : l.list.items ++ map shown l.key-iterator ≡ map shown l.fn.all.entries;
  room : vec_len l.list + length l.key-iterator ≤ vec_capacity l.list;
}
