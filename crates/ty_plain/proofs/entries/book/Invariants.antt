use Rattle.std.proofs.Common.{◌≡◌, ◌∷◌, map, get_or}
use Rattle.std.specs.List.{range_with_len}
use Rattle.ty_base.specs.Feed as feed
use Rattle.ty_plain.proofs.entries.book.Given as goal

abbrev pub invariant-loop-c : goal.invariant-loop-c
invariant-loop-c l = record {
  told : l.book.items ≡ map (feed.entry l.ended l.items) (range_with_len 1 l.c-index);
  behind : l.last ≡ get_or (0 ∷ l.c-items) l.c-index 0;
}
