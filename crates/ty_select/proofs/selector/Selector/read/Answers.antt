use Rattle.std.proofs.Common.{ap, length}
use Rattle.ty_select.specs.Expressions.{selector_of, from_the_front, whole_text}
use Rattle.ty_select.proofs.Loops.{fault_placed}
use Rattle.ty_select.proofs.selector.Selector.read.Goals as goal

pub returns-in-Ok-clause-reads : goal.returns-in-Ok-clause-reads
unfolding selector_of
returns-in-Ok-clause-reads c = ap (from_the_front (length c.args.text.now)) c.in-Ok.ensures

pub returns-in-Err-clause-fault : goal.returns-in-Err-clause-fault
unfolding selector_of
returns-in-Err-clause-fault c = fault_placed (length c.args.text.now) c.in-Err.stop (whole_text c.args.text.now) c.placed.result c.placed.ensures c.in-Err.ensures
