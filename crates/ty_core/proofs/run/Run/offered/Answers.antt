use Rattle.std.proofs.Common.{◌∙◌}
use Rattle.ty_core.specs.Run.{book_of, link}
use Rattle.ty_core.proofs.Runs.{slot_at, offered_is}
use Rattle.ty_core.proofs.run.Run.offered.Goals as goal

pub returns : goal.returns
returns c = λ s st.
    let o = slot_at c.args.self.now s c.args.c c.index.result.now st c.requires c.index.ensures in
    c.offered.ensures ∙ offered_is c.index.result.now.rebuild c.index.result.now.session (book_of s) (link s c.args.c) o.link
