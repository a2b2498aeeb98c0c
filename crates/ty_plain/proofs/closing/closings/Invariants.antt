use Rattle.std.proofs.Common.{◌≡◌, ◌≤◌, take}
use Rattle.std.specs.List.{filter, range_with_len, suffix_len}
use Rattle.ty_base.specs.Feed as feed
use Rattle.ty_plain.proofs.closing.closings.Given as goal

abbrev pub invariant-loop-i : goal.invariant-loop-i
invariant-loop-i l = record {
  positions : l.positions.items ≡ filter (feed.is_closing l.ended l.items) (range_with_len 1 l.i);
  few : l.run ≤ l.i;
  run : l.run ≡ suffix_len feed.is_update (take l.i l.items);
}
