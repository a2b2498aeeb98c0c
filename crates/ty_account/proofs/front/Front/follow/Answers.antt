use Rattle.std.proofs.Common.{ap, sym, ◌∙◌}
use Rattle.ty_account.proofs.Histories.{knows_more}
use Rattle.ty_account.proofs.Prefixes.{prefix_trans}
use Rattle.ty_account.proofs.Rules.{looks_moves}
use Rattle.ty_account.proofs.front.Front.follow.Goals as goal

pub load-found-requires : goal.load-found-requires
load-found-requires g c =
    let head = c.requires.head in let offer = c.looking-offer.ensures in
    let book = c.learn.ensures.0 ∙ (ap (λ k. k.account.book) c.self.view_is ∙ ap (λ n. n.book) c.requires.same) in (
      ap (λ w. w.tracked) head,
      book ∙ sym (ap (λ w. w.book) head),
      offer.0,
      rw (ap (λ w. w.key) head, offer.1, offer.3) (looks_moves g.T.Standing.stands c.learn.new.self.log),
    )

pub returns-clause-more : goal.returns-clause-more
returns-clause-more g c =
    let e = c.load-found.ensures in let l = c.learn.ensures in
    rw (sym c.self.view_is) (knows_more _ _ _ _ _ _ (λ i. record { book = (e.0 ∙ l.0) i; names = (e.1 ∙ l.1) i }) (prefix_trans _ _ _ l.2 e.5))
