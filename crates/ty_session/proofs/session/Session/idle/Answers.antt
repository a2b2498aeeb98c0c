use Rattle.std.proofs.Common.{◌≡◌, ap, sym, ◌∙◌}
use Rattle.ty_session.proofs.Held.{idles, on_ok}
use Rattle.ty_session.specs.Held.{SessionHeld}
use Rattle.ty_session.proofs.session.Session.idle.Goals as goal

pub returns-clause-idles : goal.returns-clause-idles
returns-clause-idles c =
    let old : SessionHeld = c.args.self.now in
    let unlike : old.ended ≡ old.number → ⊥ = λ same. c.if-self-2.false (ap (λ (v : SessionHeld). v.ended) c.self.view_is ∙ same ∙ ap (λ (v : SessionHeld). v.number) (sym c.self.view_is)) in
    on_ok c.close.result (λ e s st j. idles old c.close.new.self s j unlike e st) c.close.ensures.ok
