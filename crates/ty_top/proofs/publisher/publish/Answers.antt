use Rattle.std.proofs.Common.{◌≡◌, ◌≤◌, ◌<◌, ◌++◌, ap, sym, subst, ◌∙◌}
use Rattle.std.specs.Prelude.{Ok}
use Rattle.ty_base.specs.declared.limits.TheConstants.{INPUT_BYTES}
use Rattle.ty_crumb.specs.Batches.{next_entries}
use Rattle.ty_crumb.specs.Crumbs.{world_of, entries_of, made_of, IfGivenBack}
use Rattle.ty_crumb.specs.declared.crumb.Crumb.{Crumb}
use Rattle.ty_crumb.specs.declared.successor.Followed.{Followed}
use Rattle.ty_crumb.specs.declared.successor.Made.TheVariants.{Unchanged, Crumb as Next}
use Rattle.ty_top.specs.steps.Publisher.{AreGiven}
use Rattle.ty_top.proofs.Published.{published_short, published_none, published_next, made_in}
use Rattle.ty_top.proofs.publisher.publish.Goals as goal

pub next_crumb_in-requires-clause-later : goal.next_crumb_in-requires-clause-later
next_crumb_in-requires-clause-later g c = let P : Crumb → Type 0 = λ d. d.cut ≤ c.args.batch.cut in subst P (sym c.replace-last.ensures.value) c.requires.later

pub next_crumb_in-requires-clause-few : goal.next_crumb_in-requires-clause-few
next_crumb_in-requires-clause-few g c = let P : Crumb → Type 0 = λ d. d.number < INPUT_BYTES in subst P (sym c.replace-last.ensures.value) c.requires.few

pub returns-in-Ok-Unchanged : goal.returns-in-Ok-Unchanged
returns-in-Ok-Unchanged g c = λ before closed next at k.
    let last : Crumb = c.replace-last.result in
    let items = c.args.batch.items in
    let F : Followed → Type 0 = λ f. IfGivenBack f (λ d. d ≡ last) in
    let back : c.in-Ok-Unchanged.last ≡ last = subst F c.in-Ok-Unchanged.field-0-is c.in-Ok-Unchanged.ensures.given_back in
    let A : Crumb → Type 0 = λ d. AreGiven c.args.from (Ok tt) d before (before ++ items) (g.K.Sink.seen c.args.sink.now) (g.K.Sink.seen c.args.sink.now) in
    subst A (sym (back ∙ c.replace-last.ensures.value)) (published_none c.args.from before items closed next c.args.crumb.now _ k
    (made_in _ Unchanged last c.args.crumb.now before c.into_vec.result.items items c.args.batch.cut c.replace-last.ensures.value (ap made_of c.in-Ok-Unchanged.field-0-is) c.into_vec.ensures c.in-Ok-Unchanged.ensures.book closed next at k))

pub returns-in-Ok-Next : goal.returns-in-Ok-Next
returns-in-Ok-Next g c = λ before closed next at k.
    let last : Crumb = c.replace-last.result in
    let items = c.args.batch.items in
    let cut = c.args.batch.cut in
    published_next c.args.from before items closed next c.give_crumb.result c.args.crumb.now c.in-Ok-Next.next cut _ _ k at
    (made_in _ (Next c.in-Ok-Next.next) last c.args.crumb.now before c.into_vec.result.items items cut c.replace-last.ensures.value (ap made_of c.in-Ok-Next.field-0-is) c.into_vec.ensures c.in-Ok-Next.ensures.book closed next at k)
    (sym (ap (λ f. entries_of (made_of f)) c.in-Ok-Next.field-0-is) ∙ c.in-Ok-Next.ensures.entries ∙ ap (next_entries cut (world_of last)) c.into_vec.ensures ∙ ap (λ (d : Crumb). next_entries cut (world_of d) items) c.replace-last.ensures.value)
    c.give_crumb.ensures

pub returns-in-Err : goal.returns-in-Err
returns-in-Err g c = λ before closed next at k. published_short c.args.from before c.args.batch.items closed next c.args.crumb.now _ _
