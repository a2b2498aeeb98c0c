use Rattle.std.proofs.Common.{◌≡◌, ◌+◌, List, ◌∷◌, [], ◌++◌, take, drop, get_or, sym, ap, ◌∙◌, subst, refl, add-one, drop-cons}
use Rattle.std.proofs.lemmas.List.{take-append-drop, take_more}
use Rattle.std.specs.Prelude.{Some}
use Rattle.ty_wire.specs.declared.message.Msg.{Msg}
use Rattle.ty_client.specs.steps.Stage.{IsJudged}
use Rattle.ty_client.proofs.Progress.{Progress, progress-begin, progress-step, progress-stop}
use Rattle.ty_client.proofs.heard.hear_all.Goals as goal

pub loop-msg-init : goal.loop-msg-init
loop-msg-init c = λ before e. progress-begin before [] c.new-ats.result c.args.stage.now c.args.up.now.items refl c.new-ats.ensures e

pub returns-in-Some : goal.returns-in-Some
returns-in-Some c = λ before e.
    let msgs : List Msg = c.args.msgs.now in
    let m : Msg = c.msg-item.result in
    let whole : take c.loop-msg.msg-index msgs ++ (m ∷ drop (c.loop-msg.msg-index + 1) msgs) ≡ msgs =
    ap (λ (l : List Msg). take c.loop-msg.msg-index msgs ++ l) (ap (λ (x : Msg). x ∷ drop (c.loop-msg.msg-index + 1) msgs) c.msg-item.is ∙ ap (λ n. get_or msgs c.loop-msg.msg-index m ∷ drop n msgs) (add-one c.loop-msg.msg-index) ∙ sym (drop-cons msgs c.loop-msg.msg-index m c.loop-msg-test.true))
    ∙ take-append-drop c.loop-msg.msg-index msgs in
    subst (λ (l : List Msg). IsJudged before l c.loop-msg.ats (Some c.in-Some.fault) c.loop-msg.stage c.args.up.now.items c.loop-msg.up.items) whole
    (progress-stop before (take c.loop-msg.msg-index msgs) m (drop (c.loop-msg.msg-index + 1) msgs) c.in-Some.fault c.loop-msg.ats c.loop-msg.stage c.args.up.now.items c.loop-msg.up.items (c.loop-msg.invariant before e) (sym c.in-Some.ensures))

pub loop-msg-preserved : goal.loop-msg-preserved
loop-msg-preserved c = λ before e.
    let msgs : List Msg = c.args.msgs.now in
    let m : Msg = c.msg-item.result in
    let more : take c.loop-msg.msg-index msgs ++ m ∷ [] ≡ take (c.loop-msg.msg-index + 1) msgs =
    ap (λ (x : Msg). take c.loop-msg.msg-index msgs ++ x ∷ []) c.msg-item.is ∙ sym (take_more msgs c.loop-msg.msg-index m c.loop-msg-test.true) in
    subst (λ (l : List Msg). Progress before l c.hear.new.ats c.hear.new.self c.args.up.now.items c.hear.new.up.items) more
    (progress-step before (take c.loop-msg.msg-index msgs) m c.loop-msg.ats c.hear.new.ats c.loop-msg.stage c.hear.new.self c.args.up.now.items c.loop-msg.up.items c.hear.new.up.items (c.loop-msg.invariant before e) (sym c.in_default.ensures) c.in_ok-hear.ensures.stage c.in_ok-hear.ensures.ats c.in_ok-hear.ensures.up)
