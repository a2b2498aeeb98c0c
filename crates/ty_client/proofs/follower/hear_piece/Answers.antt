use Rattle.std.proofs.Common.{◌++◌, List, subst, sym, rules}
use Rattle.std.specs.Prelude.{Option, Ok, Err}
use Rattle.std.specs.List.{AllByRecursion}
use Rattle.ty_wire.specs.Wire.{IsWire}
use Rattle.ty_wire.specs.declared.message.Msg.{Msg}
use Rattle.ty_client.specs.declared.fault.StreamFault.{StreamFault}
use Rattle.ty_client.specs.steps.Pieces.{IsJudgedAndTold, GivenAll}
use Rattle.ty_client.proofs.Connections.{wire_behind}
use Rattle.ty_client.proofs.Followed.{piece_heard, given_all, given_part, given_none, goes_by}
use Rattle.ty_client.proofs.follower.hear_piece.Goals as goal

pub give_all_heard-requires : goal.give_all_heard-requires
give_all_heard-requires g c =
    subst (λ (l : List Msg). AllByRecursion IsWire l) (sym c.as_slice.ensures)
    (wire_behind c.feed.new.self (c.requires.0 ++ c.args.piece.now) c.requires.1 c.in-Ok.got.msgs (c.in-Ok.ensures.stands c.requires.0 c.requires.1 c.requires.2.frames_stand))

pub returns-in_default-clause-heard : goal.returns-in_default-clause-heard
returns-in_default-clause-heard g c = λ bytes ms h o. given_none c.args.brief bytes c.args.piece.now ms _ h

pub returns-in-Ok-give_all_heard-clause-heard : goal.returns-in-Ok-give_all_heard-clause-heard
returns-in-Ok-give_all_heard-clause-heard g c = λ bytes ms h o.
    let old = g.K.Sink.seen c.args.sink.now in
    let new = g.K.Sink.seen c.give_all_heard.new.sink in
    let heard = piece_heard c.args.unread.now c.feed.new.self c.args.stage.now bytes c.args.piece.now ms c.in-Ok.got.msgs c.in-Ok.got.fault o (c.in-Ok.ensures.stands bytes ms o.frames_stand) c.in-Ok.ensures.fault in
    let told = subst (λ (l : List Msg). IsJudgedAndTold c.args.brief (Ok c.in-Ok-give_all_heard.fault) ms l c.give_all_heard.new.stage old new) c.as_slice.ensures (c.in-Ok-give_all_heard.ensures ms o.stage_is) in
    goes_by c.go_on.result c.args.brief c.feed.new.self c.give_all_heard.new.stage _ bytes c.args.piece.now ms old new c.go_on.ensures.ok c.go_on.ensures.err
    (subst (λ (f : Option StreamFault). GivenAll c.args.brief f c.feed.new.self c.give_all_heard.new.stage (bytes ++ c.args.piece.now) ms old.held new.held) (sym c.first_fault.ensures)
    (given_all c.args.brief c.feed.new.self c.give_all_heard.new.stage c.in-Ok-give_all_heard.fault bytes c.args.piece.now ms c.in-Ok.got.msgs c.in-Ok.got.fault old new heard told))

pub returns-in-Err-Sink-clause-heard : goal.returns-in-Err-Sink-clause-heard
returns-in-Err-Sink-clause-heard g c = λ bytes ms h o.
    let old = g.K.Sink.seen c.args.sink.now in
    let new = g.K.Sink.seen c.give_all_heard.new.sink in
    let heard = piece_heard c.args.unread.now c.feed.new.self c.args.stage.now bytes c.args.piece.now ms c.in-Ok.got.msgs c.in-Ok.got.fault o (c.in-Ok.ensures.stands bytes ms o.frames_stand) c.in-Ok.ensures.fault in
    let told = subst (λ (l : List Msg). IsJudgedAndTold c.args.brief (Err c.in-Err-Sink.field-0) ms l c.give_all_heard.new.stage old new) c.as_slice.ensures (c.in-Err-Sink.ensures ms o.stage_is) in
    (given_part c.args.brief c.in-Err-Sink.field-0 c.feed.new.self c.give_all_heard.new.stage bytes c.args.piece.now ms c.in-Ok.got.msgs c.in-Ok.got.fault old new heard told, told.told.cause (search rules))

pub returns-clause-heard : goal.returns-clause-heard
returns-clause-heard g c = λ bytes ms h o.
    let old = g.K.Sink.seen c.args.sink.now in
    let new = g.K.Sink.seen c.give_all_heard.new.sink in
    let heard = piece_heard c.args.unread.now c.feed.new.self c.args.stage.now bytes c.args.piece.now ms c.in-Ok.got.msgs c.in-Ok.got.fault o (c.in-Ok.ensures.stands bytes ms o.frames_stand) c.in-Ok.ensures.fault in
    let told = subst (λ (l : List Msg). IsJudgedAndTold c.args.brief (Err c.in-Err-Memory.field-0) ms l c.give_all_heard.new.stage old new) c.as_slice.ensures (c.in-Err-Memory.ensures ms o.stage_is) in
    (given_part c.args.brief c.in-Err-Memory.field-0 c.feed.new.self c.give_all_heard.new.stage bytes c.args.piece.now ms c.in-Ok.got.msgs c.in-Ok.got.fault old new heard told).0
