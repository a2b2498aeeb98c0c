use Rattle.std.proofs.Common.{◌≡◌, ◌++◌, flat_map, take}
use Rattle.ty_wire.specs.steps.Tokens.{delta_tokens}
use Rattle.ty_wire.proofs.encode.put_deltas.Given as goal

abbrev pub invariant-loop-delta : goal.invariant-loop-delta
invariant-loop-delta l = record {
  tokens : l.writer.tokens ≡ l.fn.writer.tokens ++ flat_map delta_tokens (take l.delta-index l.deltas);
  before : l.writer.before ≡ l.fn.writer.before;
}
