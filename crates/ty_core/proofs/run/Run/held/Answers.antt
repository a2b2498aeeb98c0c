use Rattle.std.proofs.Common.{◌∙◌}
use Rattle.ty_core.specs.Run.{client}
use Rattle.ty_core.proofs.Runs.{slot_at, held_same}
use Rattle.ty_core.proofs.run.Run.held.Goals as goal

pub returns : goal.returns
returns c = λ s st.
    let o = slot_at c.args.self.now s c.args.c c.index.result.now st c.requires c.index.ensures in
    c.held.ensures ∙ o.held ∙ held_same s (client s c.args.c).held o.within
