use Rattle.std.proofs.Common.{◌≡◌, ◌/◌, List, length, ap, sym, ◌∙◌, subst, arith}
use Rattle.ty_account.specs.steps.Histories.{Site, entries_in, nodes_in, IsRow}
use Rattle.ty_account.specs.steps.Replies.{Reply}
use Rattle.ty_account.proofs.Chains.{some_is, row_of}
use Rattle.ty_account.proofs.Histories.{nodes_long, word_half}
use Rattle.ty_account.proofs.Rules.{looks_moves}
use Rattle.ty_account.proofs.Steps.{starts_still}
use Rattle.ty_account.proofs.shared.Shared.drop.Goals as goal

pub load-found-requires : goal.load-found-requires
load-found-requires g c =
    let head = c.args.self.word in let offer = c.asking-offer.ensures in (
      ap (λ w. w.tracked) head,
      sym (ap (λ w. w.book) head),
      offer.0,
      rw (ap (λ w. w.key) head, offer.1, offer.3) (looks_moves g.T.Standing.stands c.args.self.seen.log),
    )

pub give_back-requires-clause-count : goal.give_back-requires-clause-count
give_back-requires-clause-count g c =
    let saw = c.load-found.ensures.6.1 in let now = c.load-found.new.seen.log in
    let same : c.into_gain.result.answer ≡ saw.told.0 = some_is (sym c.into_gain.ensures.2 ∙ saw.told.1) in
    let lots = c.end-freed.ensures ∙ (c.deeds.ensures.1 ∙ ap (λ (r : Reply g.row.T.Denot). nodes_in r.all) same ∙ ap nodes_in saw.told.2) in
    let half : c.load-found.result / 2 ≡ length (entries_in now) = ap (λ n. n / 2) saw.word ∙ word_half now in
    omega (arith, half, nodes_long now saw.legal, ap length lots)

pub give_back-requires-clause-row : goal.give_back-requires-clause-row
give_back-requires-clause-row g c =
    let saw = c.load-found.ensures.6.1 in let now = c.load-found.new.seen.log in
    let same : c.into_gain.result.answer ≡ saw.told.0 = some_is (sym c.into_gain.ensures.2 ∙ saw.told.1) in
    let lots = c.end-freed.ensures ∙ (c.deeds.ensures.1 ∙ ap (λ (r : Reply g.row.T.Denot). nodes_in r.all) same ∙ ap nodes_in saw.told.2) in
    subst (λ (ss : List (Site g.row.T.Denot)). IsRow c.args.self.first ss) (sym lots) (row_of g.T.Standing.stands now c.args.self.first (starts_still c.args.self.first c.args.self.seen.log now c.args.self.legal c.load-found.ensures.5 c.args.self.starts) saw.chain)
