use Rattle.std.proofs.Common.{◌∙◌, ◌+◌, refl, subst, List, ℕ}
use Rattle.std.specs.Prelude.{IfOk}
use Rattle.std.proofs.lemmas.List.{take_rest}
use Rattle.ty_wire.specs.steps.Frames.{IsMoved, IsNext}
use Rattle.ty_wire.specs.declared.frame.Next.{Next}
use Rattle.ty_wire.proofs.Moved.{behind_none, ends-bad, completed}
use Rattle.ty_wire.proofs.partial_frame.advance.Goals as goal

pub returns-in-Fault : goal.returns-in-Fault
returns-in-Fault c =
    let P : Next → Type 0 = λ n. IsNext (c.args.count + 1) c.as_slice.result.now n in
    ends-bad c.args.count c.args.rest.now.items c.args.piece.now c.as_slice.result.now c.empty.new.rest.items c.in_ok-used.used c.new-in-Fault.result c.in-Fault.fault
    (c.as_slice.ensures ∙ c.in_ok-used.ensures.items)
    (subst P c.in-Fault.is c.in_ok-next_frame.ensures)
    c.empty.ensures
    c.new-in-Fault.ensures

pub returns-in_ok-push-in-Message : goal.returns-in_ok-push-in-Message
returns-in_ok-push-in-Message c =
    let P : Next → Type 0 = λ n. IsNext (c.args.count + 1) c.complete.new.rest.items n in
    let B : List ℕ → Type 0 = λ b. IfOk c.read_piece-in-Message.result (λ m. IsMoved c.args.count b c.read_piece-in-Message.new.rest.items m) in
    let N : List ℕ → Type 0 = λ b. IsNext (c.args.count + 1) b c.in_ok-next_frame.field-0 in
    subst B (completed c.args.rest.now.items c.args.piece.now c.complete.new.rest.items _ c.in_ok-used.used c.in-Message.len c.in-Message.msg c.push.new.self
    c.in_ok-used.ensures.items
    (subst P c.in-Message.is (subst N c.as_slice.ensures c.in_ok-next_frame.ensures))
    c.in_ok-used.ensures.one
    (behind_none _ _ _ _ c.in_ok-push-in-Message.ensures.ok c.new-msgs.ensures refl)
    (take_rest c.args.piece.now c.in_ok-used.used))
    c.read_piece-in-Message.ensures
