use Rattle.std.proofs.Common.{◌≡◌, ◌-◌, List, ◌++◌, arith, ap, sym, subst, ◌∙◌, true}
use Rattle.ty_base.specs.Feed.{book}
use Rattle.ty_crumb.specs.Batches.{next_entries}
use Rattle.ty_crumb.specs.declared.crumb.Crumb.{Crumb}
use Rattle.ty_crumb.specs.declared.successor.Made.{Made}
use Rattle.ty_crumb.specs.declared.successor.Made.TheVariants.{Unchanged, Crumb as Next}
use Rattle.ty_crumb.specs.Crumbs.{CrumbStands, world_of, entries_of, IfNext}
use Rattle.ty_core.specs.steps.Chains.{ArePublished}
use Rattle.ty_core.proofs.Published.{last_stands, made_here, published_none, published_next}
use Rattle.ty_core.proofs.publisher.publish.Goals as goal

pub returns-in-Unchanged-clause-ok : goal.returns-in-Unchanged-clause-ok
returns-in-Unchanged-clause-ok c = λ before closed next at k.
    let cs = c.args.crumbs.now.items in
    let batch = c.args.batch.now.items in
    let last : CrumbStands c.index-last.result.now (book true before) =
    last_stands cs (book true before) (c.len.result - 1) c.index-last.result.now k.stand (omega (arith, c.len.ensures, c.args.crumbs.now.ok.0, c.requires.some)) c.index-last.ensures in
    published_none before batch closed next cs c.args.now k
    (made_here _ Unchanged c.index-last.result.now before c.as_slice.result.now batch c.args.batch.now.cut c.in-Unchanged.is c.as_slice.ensures c.in_ok-next_crumb.ensures.book closed next at last)

pub returns-in_ok-push-in-Crumb-clause-ok : goal.returns-in_ok-push-in-Crumb-clause-ok
returns-in_ok-push-in-Crumb-clause-ok c = λ before closed next at k.
    let cs = c.args.crumbs.now.items in
    let batch = c.args.batch.now.items in
    let last : CrumbStands c.index-last.result.now (book true before) =
    last_stands cs (book true before) (c.len.result - 1) c.index-last.result.now k.stand (omega (arith, c.len.ensures, c.args.crumbs.now.ok.0, c.requires.some)) c.index-last.ensures in
    let P : List Crumb → Type 0 = λ l. ArePublished cs l c.args.now before (before ++ batch) in
    let Q : Made → Type 0 = λ m. IfNext m (λ x. x.at ≡ c.args.now) in
    subst P (sym c.in_ok-push-in-Crumb.ensures.items)
    (published_next before batch closed next cs c.index-last.result.now c.in-Crumb.next c.args.batch.now.cut c.args.now k at
    (made_here _ (Next c.in-Crumb.next) c.index-last.result.now before c.as_slice.result.now batch c.args.batch.now.cut c.in-Crumb.is c.as_slice.ensures c.in_ok-next_crumb.ensures.book closed next at last)
    (sym (ap entries_of c.in-Crumb.is) ∙ c.in_ok-next_crumb.ensures.entries ∙ ap (next_entries c.args.batch.now.cut (world_of c.index-last.result.now)) c.as_slice.ensures)
    (subst Q c.in-Crumb.is c.in_ok-next_crumb.ensures.at))
