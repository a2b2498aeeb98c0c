use Rattle.ty_base.proofs.More.{last_more, cut_more, same_world_more, deltas_more}
use Rattle.ty_base.proofs.laws.growth_changes_nothing_earlier.Goals as goal

pub returns : goal.returns
returns c = record { last = last_more; cut = cut_more; world = same_world_more; deltas = deltas_more }
