use Rattle.ty_group.proofs.Fronts.{short, rest_encoded, front_written}
use Rattle.ty_group.proofs.messages.append_front.Goals as goal

pub append_kvs-requires : goal.append_kvs-requires
append_kvs-requires c = short c.args.text.now c.args.marks.now c.front_of-front.result c.requires.encoded c.front_of-front.ensures.front

pub returns-clause-rest : goal.returns-clause-rest
returns-clause-rest c = rest_encoded c.args.text.now c.args.marks.now c.front_of-front.result c.requires.encoded c.front_of-front.ensures.front

pub returns-clause-written : goal.returns-clause-written
returns-clause-written c = front_written c.args.text.now c.args.marks.now c.front_of-front.result c.args.out.now.items c.append_kvs.new.out.items c.requires.encoded c.front_of-front.ensures.front c.in_ok-append_kvs.ensures.ok
