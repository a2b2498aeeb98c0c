use Rattle.std.proofs.Common.{◌&&◌, ap, sym, subst, ◌∙◌, refl}
use Rattle.std.specs.List.{fold}
use Rattle.ty_base.specs.Feed.{after}
use Rattle.ty_base.proofs.Pairs.{IsInOrder, in_order-after}
use Rattle.ty_base.proofs.Passing.{left}
use Rattle.ty_base.specs.Limits.{key_fits, value_fits, pairs_fit, deltas_fit}
use Rattle.ty_map.specs.Shape.{pairs}
use Rattle.ty_crumb.specs.Crumbs.{world_of}
use Rattle.ty_crumb.specs.steps.Applied.{AreApart}
use Rattle.ty_crumb.proofs.Applied.{pending_apart}
use Rattle.ty_crumb.proofs.Limits.{batch_passes}
use Rattle.ty_crumb.proofs.PendingChanges.{makes}
use Rattle.ty_crumb.proofs.Following.{nothing_made, next_made}
use Rattle.ty_crumb.proofs.successor.made_after.Goals as goal

pub changed_by-requires : goal.changed_by-requires
changed_by-requires c = let items = c.requires.batch.0 in subst AreApart (sym (c.into_vec.ensures ∙ c.requires.batch.1.pairs)) (pending_apart items)

pub returns-then-is_same-clause-made : goal.returns-then-is_same-clause-made
returns-then-is_same-clause-made c = λ held items like left.
    let last = c.args.last in
    let made = makes (world_of last) items _ _ _ _ _ last.ascending (c.into_vec.ensures ∙ left.pairs) left.status c.in_ok-pairs.ensures.deltas refl c.unwrap_or-status.ensures in
    nothing_made held last items c.args.cut c.args.now _ _ _ like made (sym c.if-is_same.true ∙ c.is_same.ensures)

pub invariant_of-result-2 : goal.invariant_of-result-2
invariant_of-result-2 c =
    let last = c.args.last in
    let w = world_of last in
    let items = c.requires.batch.0 in
    let left_by = c.requires.batch.1 in
    let made = makes w items _ _ _ _ _ last.ascending (c.into_vec.ensures ∙ left_by.pairs) left_by.status c.in_ok-pairs.ensures.deltas c.in_ok-pairs.ensures.pairs c.unwrap_or-status.ensures in
    record {
      ascending = subst IsInOrder (sym made.pairs) (in_order-after items w last.ascending);
      within =
          ap (λ x. pairs_fit x && deltas_fit c.in_ok-pairs.deltas) made.pairs
          ∙ ap (λ x. pairs_fit (fold after w items).pairs && deltas_fit x) made.deltas
          ∙ batch_passes key_fits value_fits w items left_by.batch.fits (left (pairs_fit (pairs last.pairs)) (deltas_fit last.deltas) last.within);
    }

pub returns-clause-made : goal.returns-clause-made
returns-clause-made c = λ held items like left.
    let last = c.args.last in
    let keys = c.into_vec.ensures ∙ left.pairs in
    let made = makes (world_of last) items _ _ _ _ _ last.ascending keys left.status c.in_ok-pairs.ensures.deltas c.in_ok-pairs.ensures.pairs c.unwrap_or-status.ensures in
    next_made held last _ items c.args.cut c.args.now _ like made (sym c.if-is_same.false ∙ c.is_same.ensures) refl refl refl c.in_ok-pairs.ensures.pairs c.in_ok-pairs.ensures.few keys
