use Rattle.std.proofs.Common.{◌≡◌, ◌∙◌, ap, sym, arith}
use Rattle.ty_intake.specs.Held.{IntakeHeld}
use Rattle.ty_intake.specs.steps.Progress.{IsSoundProgress}
use Rattle.ty_intake.specs.declared.progress.Progress.{Progress}
use Rattle.ty_intake.proofs.OpenFeeds.{front-bounds}
use Rattle.ty_intake.proofs.intake.Intake.read_front.Goals as goal

pub invariant_of-self-2 : goal.invariant_of-self-2
invariant_of-self-2 c =
    let sound : IsSoundProgress c.read_piece.new.progress = c.in_ok-fault.ensures.read.sound in
    let lines : c.self.inside.lines ≡ c.progress-progress.result.lines = ap (λ (h : IntakeHeld). h.lines) (c.self.view_is ∙ c.progress-progress.ensures.rest) ∙ sym (ap (λ (r : Progress). r.lines) c.progress-progress.ensures.progress) in
    let seen : c.self.inside.seen ≡ c.args.self.now.seen = ap (λ (h : IntakeHeld). h.seen) (c.self.view_is ∙ c.progress-progress.ensures.rest) in (
      omega arith,
      front-bounds c.self.inside.rest.items c.args.front.now c.read_piece.new.rest.items c.progress-progress.result c.read_piece.new.progress c.in_ok-fault.fault c.self.inside.seen c.in_ok-fault.ensures (omega (arith, lines, c.self.invariant.1)),
      sound.few,
      sound.counted,
      sound.fits,
    )
