use Rattle.std.proofs.Common.{lit<}
use Rattle.ty_base.specs.declared.status.Status.TheVariants.{Wait}
use Rattle.ty_wire.proofs.Short.{server_hello-fits}
use Rattle.ty_top.proofs.Published.{opened}
use Rattle.ty_top.proofs.publisher.opening.Goals as goal

pub write-requires : goal.write-requires
write-requires c = server_hello-fits 1 (lit< tt)

pub returns : goal.returns
returns c = opened c.args.from Wait c.args.crumb.now c.new-out.result.items c.write.new.out.items c.append_crumb.new.out.items c.requires c.new-out.ensures.items c.in_ok-write.ensures.ok c.in_ok-append_crumb.ensures
