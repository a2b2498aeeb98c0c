use Rattle.std.proofs.Common.{◌≡◌, take}
use Rattle.std.specs.List.{filter_map}
use Rattle.ty_base.specs.Feed as feed
use Rattle.ty_plain.proofs.change.changes.Given as goal

abbrev pub invariant-loop-i : goal.invariant-loop-i
invariant-loop-i l = l.out.items ≡ feed.changes (feed.folded l.before).pairs (feed.folded l.after).pairs (feed.firsts (filter_map feed.key_of (take l.i l.batch)))
