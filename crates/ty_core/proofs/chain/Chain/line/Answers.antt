use Rattle.std.proofs.Common.{List, subst, sym, ◌∙◌}
use Rattle.ty_intake.specs.Lines.{fed_with}
use Rattle.ty_intake.specs.declared.batch.Closed.{Closed}
use Rattle.ty_core.specs.steps.Chains.{AreOwed}
use Rattle.ty_core.proofs.Chains.{owed, moved_line}
use Rattle.ty_core.proofs.chain.Chain.line.Goals as goal

pub publish_all-requires : goal.publish_all-requires
publish_all-requires c =
    let s = c.requires.0 in
    let st = c.requires.1 in
    let P : List Closed → Type 0 = AreOwed c.args.self.now.crumbs.items in
    subst P (sym c.as_slice.ensures) (owed c.args.self.now s (fed_with s.feed c.deref.result.now) c.in_ok-fed.fed.closed st (c.in_ok-fed.ensures.closed s.feed st.intake) c.in_ok-fed.ensures.fits)

pub returns-clause-moved : goal.returns-clause-moved
returns-clause-moved c = λ s st e.
    moved_line c.args.self.now _ s c.args.line.now c.deref.result.now c.in_ok-fed.fed.closed c.as_slice.result.now c.in_ok-news.field-0.items c.newest-newest.result c.args.now c.in_ok-fed.fed.fault st
    (c.deref.ensures.value ∙ c.in_ok-bytes.ensures) (c.in_ok-fed.ensures.closed s.feed st.intake) c.in_ok-fed.ensures.fits c.as_slice.ensures (c.in_ok-fed.ensures.stands s.feed st.intake) (c.in_ok-fed.ensures.fault s.feed st.intake) c.in_ok-go_on.ensures.none
    c.in_ok-publish_all.ensures.ok e c.newest-newest.ensures c.in_ok-news.ensures
