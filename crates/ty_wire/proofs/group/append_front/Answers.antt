use Rattle.std.proofs.Common.{rules}
use Rattle.ty_wire.proofs.Parts.{front-fits}
use Rattle.ty_wire.proofs.Sent.{sent-front}
use Rattle.ty_wire.proofs.group.append_front.Goals as goal

pub write_deltas-requires : goal.write_deltas-requires
write_deltas-requires c = front-fits c.args.deltas.now c.front_len-len.result c.requires.limits c.front_len-len.ensures.cut

pub returns-clause-sent : goal.returns-clause-sent
returns-clause-sent c = sent-front c.args.deltas.now c.front_len-len.result c.args.out.now.items c.write_deltas.new.out.items c.front_len-len.ensures.cut (search rules) (search rules)
