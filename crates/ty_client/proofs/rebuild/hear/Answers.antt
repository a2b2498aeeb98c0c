use Rattle.std.proofs.Common.{List, sym, subst}
use Rattle.std.specs.Prelude.{Option}
use Rattle.std.specs.List.{AllByRecursion}
use Rattle.ty_wire.specs.Wire.{IsWire}
use Rattle.ty_wire.specs.declared.message.Msg.{Msg}
use Rattle.ty_client.specs.declared.fault.StreamFault.{StreamFault}
use Rattle.ty_client.specs.steps.Stage.{IsHeard, IsJudged}
use Rattle.ty_client.proofs.Connections.{history_wire, heard_on}
use Rattle.ty_client.proofs.rebuild.hear.Goals as goal

pub hear_all-requires : goal.hear_all-requires
hear_all-requires c =
    subst (λ (l : List Msg). AllByRecursion IsWire l) (sym c.as_slice.ensures)
    (history_wire c.args.unread.now c.feed.new.self c.args.piece.now c.in_ok-got.got.msgs c.requires c.in_ok-got.ensures.stands)

pub returns-clause-heard : goal.returns-clause-heard
returns-clause-heard c = λ bytes ms o.
    subst (λ (f : Option StreamFault). IsHeard c.feed.new.self c.hear_all.new.stage bytes c.args.piece.now ms c.in_ok-heard.heard.ats f c.args.up.now.items c.hear_all.new.up.items) (sym c.first_fault.ensures)
    (heard_on c.args.unread.now c.feed.new.self c.args.stage.now c.hear_all.new.stage bytes c.args.piece.now ms c.in_ok-got.got.msgs c.in_ok-heard.heard.ats c.in_ok-heard.heard.fault c.in_ok-got.got.fault c.args.up.now.items c.hear_all.new.up.items
    o (c.in_ok-got.ensures.stands bytes ms o.frames_stand) c.in_ok-got.ensures.fault
    (subst (λ (l : List Msg). IsJudged ms l c.in_ok-heard.heard.ats c.in_ok-heard.heard.fault c.hear_all.new.stage c.args.up.now.items c.hear_all.new.up.items) c.as_slice.ensures (c.in_ok-heard.ensures ms o.stage_is)))
