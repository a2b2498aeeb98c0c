use Rattle.std.proofs.Common.{arith, ◌≡◌, ◌+◌, ◌++◌, ◌∷◌, [], drop, get_or, ap, sym, ◌∙◌}
use Rattle.ty_base.specs.Feed as feed
use Rattle.ty_plain.proofs.Worlds.{cut_taken, cut_passed, at_more}
use Rattle.ty_plain.proofs.cut.cuts_among.Goals as goal
use Rattle.ty_plain.proofs.cut.cuts_among.Goals.{then-not-same_worlds+in_ok-push, else-not-same_worlds}

pub loop-p-preserved : goal.loop-p-preserved
loop-p-preserved c =
    let items = c.args.items.now in
    let ps = c.args.closings.now in
    let i = c.loop-p.p-index in
    let all = feed.cuts_after items 0 ps in
    let rising = c.requires i c.loop-p-test.true in
    let step : get_or ((0 ∷ ps)) (i + 1) 0 ≡ get_or ps i 0 = at_more 0 ps i in
    record {
      told = elim c.if-not-same_worlds.branch [
        | then-not-same_worlds+in_ok-push w ↦
            ap (λ v. v.items ++ feed.cuts_after items c.if-not-same_worlds.last (drop (i + 1) ps)) w.cuts-is
            ∙ ap (λ xs. xs ++ feed.cuts_after items c.if-not-same_worlds.last (drop (i + 1) ps)) w.in_ok-push.ensures.items
            ∙ ap (λ k. (c.loop-p.cuts.items ++ get_or ps i 0 ∷ []) ++ feed.cuts_after items k (drop (i + 1) ps)) w.last-is
            ∙ cut_taken items c.loop-p.last ps c.loop-p.cuts.items all i c.loop-p-test.true (sym w.if-not-same_worlds.ensures) c.loop-p.invariant.told
        | else-not-same_worlds w ↦
            ap (λ v. v.items ++ feed.cuts_after items c.if-not-same_worlds.last (drop (i + 1) ps)) w.cuts-is
            ∙ ap (λ k. c.loop-p.cuts.items ++ feed.cuts_after items k (drop (i + 1) ps)) w.last-is
            ∙ cut_passed items c.loop-p.last ps c.loop-p.cuts.items all i c.loop-p-test.true (sym w.if-not-same_worlds.ensures) c.loop-p.invariant.told
      ];
      behind = elim c.if-not-same_worlds.branch [
        | then-not-same_worlds+in_ok-push w ↦ omega (arith, step, w.last-is)
        | else-not-same_worlds w ↦ omega (arith, step, w.last-is, rising, c.loop-p.invariant.behind)
      ];
    }
