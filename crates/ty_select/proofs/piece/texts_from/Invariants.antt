use Rattle.std.proofs.Common.{◌≡◌, ◌-◌}
use Rattle.ty_select.specs.Expressions.{more_texts, texts_from}
use Rattle.ty_select.proofs.Loops.{with_front}
use Rattle.ty_select.proofs.piece.texts_from.Given as goal

abbrev pub invariant-loop : goal.invariant-loop
invariant-loop l = with_front l.list.items (more_texts (l.count - l.counter) l.rest) ≡ texts_from l.fn.first l.bytes
