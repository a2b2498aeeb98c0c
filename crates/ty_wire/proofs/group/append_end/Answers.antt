use Rattle.std.proofs.Common.{[], ◌∷◌}
use Rattle.ty_wire.specs.Talk.{status_messages}
use Rattle.ty_wire.specs.declared.message.Msg.TheVariants.{Crumb}
use Rattle.ty_wire.proofs.Sent.{appends-join, appends-one}
use Rattle.ty_wire.proofs.Short.{crumb-fits}
use Rattle.ty_wire.proofs.group.append_end.Goals as goal

pub write-requires : goal.write-requires
write-requires c = crumb-fits c.args.n c.ranges.n.fits

pub returns-clause-ok : goal.returns-clause-ok
returns-clause-ok c = appends-join c.args.out.now.items c.append_status.new.out.items c.write.new.out.items (status_messages c.args.status) (Crumb c.args.n ∷ []) c.in_ok-append_status.ensures.ok (appends-one c.append_status.new.out.items c.write.new.out.items (Crumb c.args.n) c.in_ok-write.ensures.ok c.in_ok-write.ensures.wire)
