use Rattle.std.proofs.Common.{◌≤◌, ◌+◌, ℕ, ap, sym, ◌∙◌, subst}
use Rattle.ty_account.proofs.Rules.{fits_by, weight_small, adds_moves}
use Rattle.ty_account.proofs.pen.add.Goals as goal

pub overflow_add-word : goal.overflow_add-word
overflow_add-word g c = fits_by c.args.word c.args.by (subst (λ (n : ℕ). n ≤ 2) (sym c.requires.by) (weight_small c.args.offer.ask)) c.requires.room

pub compare_exchange-found-requires : goal.compare_exchange-found-requires
compare_exchange-found-requires g c =
    let head = c.requires.head in (
      ap (λ w. w.tracked) head,
      sym (ap (λ w. w.book) head),
      c.no_pen-pen.ensures.0 ∙ sym (ap (λ w. w.book) head),
      c.requires.offer.0,
      rw (ap (λ w. w.key) head, c.no_pen-pen.ensures.1, c.requires.offer.2)
          (adds_moves g.T.Standing.stands c.args.seen.now.log c.args.offer.ask c.args.word (c.args.word + c.args.by) c.requires.legal c.requires.open c.requires.word (ap (λ n. c.args.word + n) c.requires.by) c.requires.fits),
    )
