use Rattle.std.proofs.Common.{◌≡◌, ◌<◌, ◌^◌, arith, refl, not, length, ap, sym, subst}
use Rattle.ty_intake.specs.Held.{IntakeHeld}
use Rattle.ty_intake.specs.steps.Progress.{IsFrontRead}
use Rattle.ty_intake.proofs.OpenFeeds.{fed, more-true, more-false}
use Rattle.ty_intake.proofs.intake.Intake.read_within_limit.Goals as goal

pub returns : goal.returns
returns c =
    let seen : c.self.inside.seen ≡ c.args.self.now.seen = ap (λ (h : IntakeHeld). h.seen) c.self.view_is in
    let small : c.self.inside.seen < 2 ^ 40 = c.self.invariant.0 in
    let P : IntakeHeld → Type 0 = λ h. IsFrontRead c.args.self.now h c.split_at.result.0.now c.in_ok-closed.closed in
    fed c.args.self.now _ _ c.split_at.result.0.now c.split_at.result.1.now c.args.piece.now c.in_ok-closed.closed (not c.is_empty.result)
    (search (c.split_at.ensures))
    (omega arith)
    (more-true c.is_empty.result (length c.split_at.result.1.now) (length c.split_at.result.0.now) c.args.self.now.seen (length c.args.piece.now) c.is_empty.ensures (omega arith) (omega arith) (omega arith))
    (more-false c.is_empty.result (length c.split_at.result.1.now) c.is_empty.ensures)
    (subst P (sym c.self-2.view_is) c.in_ok-closed.ensures)
    (record { rest = refl; lines = refl; pending = refl; cut = refl; seen = refl; ended = refl; spent = refl; fault = c.ended-self-inside.ensures })
