use Rattle.std.proofs.Common.{◌++◌, ◌∙◌, ap, lit<}
use Rattle.std.specs.Prelude.{Some}
use Rattle.ty_base.specs.declared.status.Status.TheVariants.{Wait}
use Rattle.ty_wire.specs.Wire.{frames}
use Rattle.ty_wire.specs.Talk.{group_messages}
use Rattle.ty_wire.proofs.Short.{server_hello-fits}
use Rattle.ty_top.proofs.Books.{opening_whole}
use Rattle.ty_top.proofs.plain.opening.Goals as goal

pub write-requires : goal.write-requires
write-requires c = server_hello-fits 1 (lit< tt)

pub returns : goal.returns
returns c = opening_whole c.new-out.result.items c.write.new.out.items c.write_group-2.new.out.items c.new-out.ensures.items c.in_ok-write.ensures.ok
    (c.in_ok-write_group.ensures.ok ∙ ap (λ ds. c.write.new.out.items ++ frames (group_messages ds (Some Wait) 0)) c.new.ensures)
