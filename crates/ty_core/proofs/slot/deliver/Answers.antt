use Rattle.std.proofs.Common.{ℕ, List, length, take, min, ap, ◌∙◌}
use Rattle.ty_core.proofs.Linking.{delivered}
use Rattle.ty_core.proofs.Getting.{few_delivered}
use Rattle.ty_core.proofs.slot.deliver.Goals as goal

pub returns-clause-short : goal.returns-clause-short
returns-clause-short c = λ es k before texts few l short.
    delivered c.args.rebuild.now c.feed.new.self c.args.session.now c.given.new.self es k before c.args.n c.min-count.result (take c.min-count.result c.out-out.result.now) c.in_ok-heard.heard.ats c.in_ok-heard.heard.fault
    texts few l short (c.min-count.ensures ∙ ap (λ (l : List ℕ). min c.args.n (length l)) c.out-out.ensures) (ap (take c.min-count.result) c.out-out.ensures) c.in_ok-heard.ensures.heard c.in_ok-heard.ensures.fault c.given.ensures.gives

pub returns-clause-good : goal.returns-clause-good
returns-clause-good c = λ es k before l none.
    few_delivered c.args.rebuild.now c.feed.new.self c.args.session.now es k before c.args.n c.min-count.result (take c.min-count.result c.out-out.result.now) c.in_ok-heard.heard.ats c.in_ok-heard.heard.fault
    l (c.min-count.ensures ∙ ap (λ (l : List ℕ). min c.args.n (length l)) c.out-out.ensures) (ap (take c.min-count.result) c.out-out.ensures) c.in_ok-heard.ensures.heard c.in_ok-heard.ensures.fault none
