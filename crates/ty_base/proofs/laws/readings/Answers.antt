use Rattle.std.proofs.Common.{List, [], ◌∷◌}
use Rattle.std.specs.List.{fold}
use Rattle.ty_base.specs.declared.entry.Entry.{Entry}
use Rattle.ty_base.specs.Feed.{World, start, published, replay, folded}
use Rattle.ty_base.proofs.Pairs.{IsInOrder, in_order-after, in_order-changed, same_pairs}
use Rattle.ty_base.proofs.Reading.{value_is, status_is, closing_either, cuts_are}
use Rattle.ty_base.proofs.laws.readings.Goals as goal

in_order-published : (es : List Entry) (w : World) → IsInOrder w.pairs → IsInOrder (fold published w es).pairs
in_order-published [] w h = h
in_order-published (e ∷ es) w h = in_order-published es (published w e) (in_order-changed e.deltas w.pairs h)

in_order-replay : (es : List Entry) → IsInOrder (replay es).pairs
unfolding replay
in_order-replay es = in_order-published es start tt

pub returns : goal.returns
returns c = record {
  value = value_is;
  status = status_is;
  closings = closing_either;
  cuts = cuts_are;
  ascending = λ items. in_order-after items start tt;
  replayed = in_order-replay;
  one = λ a b h. same_pairs (folded a).pairs (folded b).pairs (in_order-after a start tt) (in_order-after b start tt) h;
}
