use Rattle.std.proofs.Common.{◌≡◌, ◌+◌, List, ◌∷◌, [], ◌++◌, take, drop, get_or, sym, ap, ◌∙◌, subst, refl, add-one, drop-cons}
use Rattle.std.proofs.lemmas.List.{take-append-drop, take_more}
use Rattle.std.specs.Prelude.{Some, Ok, Err}
use Rattle.ty_wire.specs.declared.message.Msg.{Msg}
use Rattle.ty_client.specs.steps.Pieces.{IsJudgedAndTold}
use Rattle.ty_client.proofs.Told.{Told, told-begin, told-step, told-stop, told-cut}
use Rattle.ty_client.proofs.follower.give_all_heard.Goals as goal

pub loop-msg-init : goal.loop-msg-init
loop-msg-init g c = λ before e. told-begin c.args.brief before [] c.args.stage.now (g.K.Sink.seen c.args.sink.now) refl e

pub returns-in-Some : goal.returns-in-Some
returns-in-Some g c = λ before e.
    let msgs : List Msg = c.args.msgs.now in
    let m : Msg = c.msg-item.result in
    let whole : take c.loop-msg.msg-index msgs ++ (m ∷ drop (c.loop-msg.msg-index + 1) msgs) ≡ msgs =
    ap (λ (l : List Msg). take c.loop-msg.msg-index msgs ++ l) (ap (λ (x : Msg). x ∷ drop (c.loop-msg.msg-index + 1) msgs) c.msg-item.is ∙ ap (λ n. get_or msgs c.loop-msg.msg-index m ∷ drop n msgs) (add-one c.loop-msg.msg-index) ∙ sym (drop-cons msgs c.loop-msg.msg-index m c.loop-msg-test.true))
    ∙ take-append-drop c.loop-msg.msg-index msgs in
    subst (λ (l : List Msg). IsJudgedAndTold c.args.brief (Ok (Some c.in-Some.fault)) before l c.loop-msg.stage (g.K.Sink.seen c.args.sink.now) (g.K.Sink.seen c.loop-msg.sink)) whole
    (told-stop c.args.brief before (take c.loop-msg.msg-index msgs) m (drop (c.loop-msg.msg-index + 1) msgs) c.in-Some.fault c.loop-msg.stage (g.K.Sink.seen c.args.sink.now) (g.K.Sink.seen c.loop-msg.sink) (c.loop-msg.invariant before e) (sym c.in-Some.ensures))

pub loop-msg-preserved : goal.loop-msg-preserved
loop-msg-preserved g c = λ before e.
    let msgs : List Msg = c.args.msgs.now in
    let m : Msg = c.msg-item.result in
    let more : take c.loop-msg.msg-index msgs ++ m ∷ [] ≡ take (c.loop-msg.msg-index + 1) msgs =
    ap (λ (x : Msg). take c.loop-msg.msg-index msgs ++ x ∷ []) c.msg-item.is ∙ sym (take_more msgs c.loop-msg.msg-index m c.loop-msg-test.true) in
    subst (λ (l : List Msg). Told c.args.brief before l c.give_heard.new.stage (g.K.Sink.seen c.args.sink.now) (g.K.Sink.seen c.give_heard.new.sink)) more
    (told-step c.args.brief before (take c.loop-msg.msg-index msgs) m c.loop-msg.stage c.give_heard.new.stage (g.K.Sink.seen c.args.sink.now) (g.K.Sink.seen c.loop-msg.sink) (g.K.Sink.seen c.give_heard.new.sink) (c.loop-msg.invariant before e) (sym c.in_default.ensures) c.in-Ok.ensures.stage c.in-Ok.ensures.text.ok c.in-Ok.ensures.text.later)

pub returns-in-Err : goal.returns-in-Err
returns-in-Err g c = λ before e.
    let msgs : List Msg = c.args.msgs.now in
    let m : Msg = c.msg-item.result in
    let whole : take c.loop-msg.msg-index msgs ++ (m ∷ drop (c.loop-msg.msg-index + 1) msgs) ≡ msgs =
    ap (λ (l : List Msg). take c.loop-msg.msg-index msgs ++ l) (ap (λ (x : Msg). x ∷ drop (c.loop-msg.msg-index + 1) msgs) c.msg-item.is ∙ ap (λ n. get_or msgs c.loop-msg.msg-index m ∷ drop n msgs) (add-one c.loop-msg.msg-index) ∙ sym (drop-cons msgs c.loop-msg.msg-index m c.loop-msg-test.true))
    ∙ take-append-drop c.loop-msg.msg-index msgs in
    subst (λ (l : List Msg). IsJudgedAndTold c.args.brief (Err c.in-Err.e) before l c.give_heard.new.stage (g.K.Sink.seen c.args.sink.now) (g.K.Sink.seen c.give_heard.new.sink)) whole
    (told-cut c.args.brief before (take c.loop-msg.msg-index msgs) m (drop (c.loop-msg.msg-index + 1) msgs) c.in-Err.e c.loop-msg.stage c.give_heard.new.stage (g.K.Sink.seen c.args.sink.now) (g.K.Sink.seen c.loop-msg.sink) (g.K.Sink.seen c.give_heard.new.sink) (c.loop-msg.invariant before e) (sym c.in_default.ensures) c.in-Err.ensures.text)
