use Rattle.std.proofs.Common.{◌≡◌, ◌∙◌, refl, ap, subst, List, ℕ}
use Rattle.ty_intake.specs.Held.{IntakeHeld}
use Rattle.ty_intake.specs.steps.Progress.{IsEnded}
use Rattle.ty_intake.specs.declared.progress.Progress.{Progress}
use Rattle.ty_intake.proofs.OpenFeeds.{finished}
use Rattle.ty_intake.proofs.intake.Intake.finish.Goals as goal

pub returns : goal.returns
returns c =
    let held : c.self.inside.rest.items ≡ c.args.self.now.rest = ap (λ (h : IntakeHeld). h.rest) (c.self.view_is ∙ c.progress-progress.ensures.rest) in
    let P : List ℕ → Type 0 = λ r. IsEnded r c.progress-progress.result c.read_end.new.progress c.in_ok-self-inside.field-0 in
    let Q : Progress → Type 0 = λ r. IsEnded c.args.self.now.rest r c.read_end.new.progress c.in_ok-self-inside.field-0 in
    finished c.args.self.now _ c.read_end.new.progress
    (subst Q c.progress-progress.ensures.progress (subst P (c.deref.ensures.value ∙ held) c.in_ok-self-inside.ensures))
    (ap (λ (h : IntakeHeld). h.spent) (c.self.view_is ∙ c.progress-progress.ensures.rest)) refl
