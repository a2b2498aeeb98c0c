use Rattle.std.proofs.Common.{◌≡◌, length, ap, arith, subst}
use Rattle.std.proofs.lemmas.Grind.{common_steps}
use Rattle.std.specs.Prelude.{OnSome}
use Rattle.ty_wire.specs.Held.{FramesHeld}
use Rattle.ty_wire.proofs.Stream.{left, left-fault, part-most}
use Rattle.ty_wire.proofs.frames.Frames.left.Goals as goal

pub returns-clause-rest : goal.returns-clause-rest
returns-clause-rest c = λ bytes rest ms e h r. let l : length c.args.self.now.rest ≡ length rest = ap length (left c.args.self.now bytes rest ms e h r) in grind (arith, common_steps)

pub returns-clause-fault : goal.returns-clause-fault
returns-clause-fault c =
    subst (λ (h : FramesHeld). OnSome h.fault (c.len.result ≡ 0)) c.self.view_is (left-fault c.self.inside.fault c.self.inside.rest.items c.len.result c.len.ensures.value c.self.invariant.3)

pub returns-clause-most : goal.returns-clause-most
returns-clause-most c = omega (arith, c.len.ensures.value, part-most c.self.inside.rest.items c.self.invariant.2)
