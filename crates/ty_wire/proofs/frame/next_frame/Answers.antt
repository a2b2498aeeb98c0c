use Rattle.std.proofs.Common.{◌≡◌, List, ℕ, take, drop, arith, subst, ap, ◌∙◌}
use Rattle.ty_wire.specs.steps.Bodies.{IsBody}
use Rattle.ty_wire.specs.Wire.{Spells}
use Rattle.ty_wire.specs.declared.decode.Body.{Body}
use Rattle.ty_wire.proofs.Fronts.{first}
use Rattle.ty_wire.proofs.frame.next_frame.Goals as goal

pub returns-in-Message : goal.returns-in-Message
returns-in-Message c =
    let n : ℕ = c.len_at-len.result in
    let text : c.split_at-2.result.0.now ≡ take n (drop 4 c.args.bytes.now) = c.split_at-2.ensures.front ∙ ap (take n) c.split_at.ensures.back in
    let P : Body → Type 0 = λ b. IsBody c.split_at-2.result.0.now b in
    let Q : List ℕ → Type 0 = λ t. Spells t c.in-Message.msg in
    first c.args.bytes.now c.in-Message.msg n (λ i. omega (arith, c.type_inv.bytes i)) (omega arith) c.len_at-len.ensures (subst Q text (subst P c.in-Message.is c.in_ok-msg.ensures))
