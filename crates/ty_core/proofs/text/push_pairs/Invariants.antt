use Rattle.std.proofs.Common.{◌≡◌, ◌++◌, string_bytes}
use Rattle.ty_map.specs.Shape.{pairs}
use Rattle.ty_client.specs.Text.{pair_lines}
use Rattle.ty_core.proofs.text.push_pairs.Given as goal

abbrev pub invariant-loop-key : goal.invariant-loop-key
invariant-loop-key l = string_bytes l.out ++ pair_lines l.key-iterator ≡ string_bytes l.fn.out ++ pair_lines (pairs l.pairs)
