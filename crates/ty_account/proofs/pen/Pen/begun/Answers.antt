use Rattle.std.proofs.Common.{◌≡◌, ap, ◌∙◌, arith, length}
use Rattle.ty_account.specs.Known.{Known}
use Rattle.ty_account.specs.steps.Histories.{known_of}
use Rattle.ty_account.proofs.Histories.{even_is_open, word_is}
use Rattle.ty_account.proofs.pen.Pen.begun.Goals as goal

pub invariant_of-result : goal.invariant_of-result
invariant_of-result g c =
    let front = c.of-front.ensures ∙ ap (λ s. known_of s.book s.names s.log) c.again.ensures in let log = c.args.seen.log in
    let none : length (Rattle.ty_account.specs.steps.Histories.entries_in log) ≡ 0 = omega (arith, c.requires.begun.0, word_is log) in (
      c.requires.shared,
      (c.requires.right.0, c.requires.right.1, front, c.requires.begun.1, ap (λ (k : Known). k.closed) front ∙ even_is_open log 0 c.requires.begun.0, omega (arith, ap (λ (k : Known). length k.entries) front, none)),
      c.requires.ends,
    )
