use Rattle.std.proofs.Common.{◌≡◌, ◌≤◌, ◌++◌, ◌∷◌, drop, get_or}
use Rattle.ty_base.specs.Feed as feed
use Rattle.ty_plain.proofs.cut.cuts_among.Given as goal

abbrev pub invariant-loop-p : goal.invariant-loop-p
invariant-loop-p l = record {
  told : l.cuts.items ++ feed.cuts_after l.items l.last (drop l.p-index l.closings) ≡ feed.cuts_after l.items 0 l.closings;
  behind : l.last ≤ get_or (0 ∷ l.closings) l.p-index 0;
}
