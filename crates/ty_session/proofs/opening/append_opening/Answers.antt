use Rattle.std.proofs.Common.{List, ◌++◌, ◌∙◌, ap, refl, []}
use Rattle.std.specs.Prelude.{Some}
use Rattle.ty_base.specs.declared.delta.Delta.{Delta}
use Rattle.ty_map.specs.Shape.{pairs}
use Rattle.ty_crumb.specs.Crumbs.{snapshot_of}
use Rattle.ty_wire.specs.Wire.{frame, frames}
use Rattle.ty_wire.specs.Talk.{kvs_messages, group_messages}
use Rattle.ty_wire.specs.declared.message.Msg.TheVariants.{ServerHello}
use Rattle.ty_session.proofs.Snapshots.{opened}
use Rattle.ty_session.proofs.opening.append_opening.Goals as goal

pub returns-clause-ok : goal.returns-clause-ok
returns-clause-ok c =
    opened c.args.out.now.items c.write.new.out.items c.append_pairs.new.out.items c.write_group-2.new.out.items (frame (ServerHello 1))
    (kvs_messages (snapshot_of (pairs c.args.crumb.now.pairs))) (group_messages [] (Some c.args.crumb.now.status) c.args.crumb.now.number) _
    c.in_ok-write.ensures.ok c.in_ok-append_pairs.ensures.ok (
    c.in_ok-write_group.ensures.ok ∙ ap (λ (l : List Delta). c.append_pairs.new.out.items ++ frames (group_messages l (Some c.args.crumb.now.status) c.args.crumb.now.number)) c.new.ensures) refl
