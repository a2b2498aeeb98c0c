use Rattle.ty_group.proofs.Filled.{begins_where_ok}
use Rattle.ty_group.proofs.filling.Filling.send.Goals as goal

pub returns-clause-begins : goal.returns-clause-begins
returns-clause-begins c =
    begins_where_ok c.append_to-written.result c.self.inside.encoded c.args.self.now c.self.inside.weight c.args.out.now.items c.append_to-written.new.out.items
    c.self.view_is c.self.invariant c.append_to-written.ensures.ok
