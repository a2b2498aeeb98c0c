use Rattle.ty_wire.proofs.Utf8.{is_wire}
use Rattle.ty_wire.specs.declared.message.Msg.TheVariants.{Kvs}
use Rattle.ty_wire.proofs.encode.write_deltas.Goals as goal

pub returns-clause-wire : goal.returns-clause-wire
returns-clause-wire c = is_wire (Kvs c.args.deltas.now) c.room.ensures.utf8 c.requires
