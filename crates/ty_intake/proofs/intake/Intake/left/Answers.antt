use Rattle.std.proofs.Common.{◌≡◌, ◌≤◌, ◌∙◌, ap, sym, false, length, arith}
use Rattle.std.specs.Prelude.{is_some}
use Rattle.ty_base.specs.declared.limits.TheConstants.{LINE_BYTES}
use Rattle.ty_intake.specs.Held.{IntakeHeld}
use Rattle.ty_intake.proofs.UnfinishedLines.{rest-short}
use Rattle.ty_intake.proofs.intake.Intake.left.Goals as goal

pub returns-clause-within : goal.returns-clause-within
returns-clause-within c = λ feed h.
    let v : IntakeHeld = c.args.self.now in
    let open_now : v.ended ≡ false = sym (ap (λ (k : IntakeHeld). k.ended) c.self.view_is) ∙ c.if-self.false in
    let good : is_some v.fault ≡ false = sym (c.if-is_some.ensures ∙ ap (λ (k : IntakeHeld). is_some k.fault) c.self.view_is) in
    let short : length v.rest ≤ LINE_BYTES = rest-short v feed open_now good h in
    omega (arith, c.len.ensures, ap (λ (k : IntakeHeld). length k.rest) c.self.view_is, short)
