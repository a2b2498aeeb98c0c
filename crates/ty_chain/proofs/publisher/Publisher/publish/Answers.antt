use Rattle.std.proofs.Common.{◌≡◌, ◌+◌, length, ap, ◌∙◌, subst, arith}
use Rattle.ty_crumb.specs.declared.crumb.Crumb.{Crumb}
use Rattle.ty_crumb.specs.Batches.{next_entries}
use Rattle.ty_crumb.specs.Crumbs.{world_of, entries_of}
use Rattle.ty_chain.specs.declared.parcel.Parcel.{Parcel}
use Rattle.ty_chain.specs.Publishing.{Issued}
use Rattle.ty_chain.specs.steps.Issued.{IsIssued}
use Rattle.ty_chain.proofs.Publishing.{few, books}
use Rattle.ty_chain.proofs.publisher.Publisher.publish.Goals as goal

pub issue-requires-clause-few : goal.issue-requires-clause-few
issue-requires-clause-few g c =
    let made = c.in_ok-next_crumb.ensures in
    let last = c.deref.result.now.crumb in
    few _ c.in-Crumb.next last c.args.items.now c.self.inside.cut c.in-Crumb.is made.unchanged made.number (omega (arith, ap (λ (p : Parcel). p.crumb.number) c.deref.ensures, c.self.invariant.1.few))

pub returns-in_ok-issue-in-Crumb-clause-book : goal.returns-in_ok-issue-in-Crumb-clause-book
returns-in_ok-issue-in-Crumb-clause-book g c =
    let made = c.in_ok-next_crumb.ensures in
    let items = c.args.items.now in
    let now = c.args.self.now in
    let cut = c.self.inside.cut + length items in
    let kept : IsIssued now = subst IsIssued c.self.view_is c.self.invariant.1 in
    let last : c.deref.result.now.crumb ≡ now.crumb = ap (λ (p : Parcel). p.crumb) c.deref.ensures ∙ ap (λ (i : Issued). i.crumb) c.self.view_is in
    let entry : entries_of c.in_ok-next_crumb.field-0 ≡ next_entries cut (world_of now.crumb) items = made.entries ∙ ap (λ (k : Crumb). next_entries cut (world_of k) items) last in
    let grew = ap (λ (i : Issued). i.known.entries) c.in_ok-issue-in-Crumb.ensures.issued in
    λ ended before closed then at whole. books now.crumb c.in-Crumb.next _ now.known.entries _ ended before items cut kept.stands c.in-Crumb.is entry grew closed then (ap (λ n. n + length items) (ap (λ (i : Issued). i.cut) c.self.view_is ∙ at)) whole
