use Rattle.std.proofs.Common.{◌≡◌, sym, ap, ◌∙◌, ◌++◌, List, [], ◌∷◌, ◌+◌, length, refl}
use Rattle.ty_base.specs.declared.item.Item.{Item}
use Rattle.ty_intake.specs.declared.progress.Progress.{Progress}
use Rattle.ty_intake.proofs.ReadLines.{item-stays, item-closes}
use Rattle.ty_intake.proofs.progress.add_item.Goals as goal

pub returns-in_ok-close-clause-follows : goal.returns-in_ok-close-clause-follows
returns-in_ok-close-clause-follows c =
    let old : Progress = c.args.progress.now in
    let pushed : c.push.new.self ≡ old.pending ++ c.args.item ∷ [] = c.in_ok-push.ensures.ok in
    item-closes old c.close.new.progress c.args.item c.requires.sound.few (sym c.closes_batch-closes.ensures ∙ c.if-closes.true)
    (c.in_ok-close.ensures.cut ∙ ap (λ (xs : List Item). old.cut + length xs) pushed)
    c.in_ok-close.ensures.pending
    (c.in_ok-close.ensures.closed ∙ ap (λ (xs : List Item). old.closed ++ record { items = xs; cut = old.cut + length xs } ∷ []) pushed)

pub returns-else-closes-clause-follows : goal.returns-else-closes-clause-follows
returns-else-closes-clause-follows c =
    let old : Progress = c.args.progress.now in
    item-stays old (record { lines = old.lines + 1; pending = c.push.new.self; cut = old.cut; closed = old.closed }) c.args.item c.requires.sound.few
    (sym c.closes_batch-closes.ensures ∙ c.if-closes.false) refl c.in_ok-push.ensures.ok refl
