use Rattle.std.proofs.Common.{refl, ap, sym, subst, List, ℕ, [], ◌∷◌, ◌++◌}
use Rattle.ty_client.specs.Rebuild.{RebuildHeld}
use Rattle.ty_client.specs.Heard.{Holds}
use Rattle.ty_client.proofs.Connections.{begins, begins_here, holds_all}
use Rattle.ty_client.proofs.rebuild.Rebuild.lost.Goals as goal

pub returns-clause-stands : goal.returns-clause-stands
returns-clause-stands c = λ before bytes ms s.
    let connections : List (List ℕ) = before ++ bytes ∷ [] in
    begins _ connections refl refl c.new.ensures.fault c.new.ensures.stands c.restart.ensures (subst (Holds connections) (sym (ap (λ (r : RebuildHeld). r.held) c.self.view_is)) (holds_all c.args.self.now before bytes ms s))

pub returns-clause-begins : goal.returns-clause-begins
returns-clause-begins c = λ connections h.
    begins _ connections refl refl c.new.ensures.fault c.new.ensures.stands c.restart.ensures (subst (Holds connections) (sym (ap (λ (r : RebuildHeld). r.held) c.self.view_is)) h)

pub returns-clause-here : goal.returns-clause-here
returns-clause-here c = begins_here _ refl refl c.new.ensures.fault c.new.ensures.stands c.restart.ensures
