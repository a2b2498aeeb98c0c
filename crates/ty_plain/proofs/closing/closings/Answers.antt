use Rattle.std.proofs.Common.{arith, ◌+◌, take, cond, ap, ◌∙◌, sym}
use Rattle.std.specs.List.{suffix_len}
use Rattle.ty_base.specs.Feed as feed
use Rattle.ty_plain.proofs.Steps.{closing_pushed, closing_skipped, run_more}
use Rattle.ty_plain.proofs.closing.closings.Goals as goal
use Rattle.ty_plain.proofs.closing.closings.Goals.{then-is_update, else-is_update, then-closes+in_ok-push, else-closes}

pub loop-i-preserved : goal.loop-i-preserved
loop-i-preserved c =
    let test = feed.is_closing c.args.ended c.args.items.now in
    let run = run_more c.args.items.now c.loop-i.i c.index-items-i.result c.loop-i-test.true c.index-items-i.is in
    record {
      positions = elim c.if-closes.branch [
        | then-closes+in_ok-push w ↦ ap (λ p. p.items) w.positions-is ∙ closing_pushed test c.loop-i.i c.loop-i.positions.items _ (sym w.if-closes.ensures) c.loop-i.invariant.positions w.in_ok-push.ensures.items
        | else-closes w ↦ ap (λ p. p.items) w.positions-is ∙ closing_skipped test c.loop-i.i c.loop-i.positions.items (sym w.if-closes.ensures) c.loop-i.invariant.positions
      ];
      few = elim c.if-is_update.branch [ then-is_update w ↦ omega arith | else-is_update w ↦ omega arith ];
      run = elim c.if-is_update.branch [
        | then-is_update w ↦ w.run-is ∙ ap (λ n. n + 1) c.loop-i.invariant.run ∙ sym (run ∙ ap (λ b. cond b (suffix_len feed.is_update (take c.loop-i.i c.args.items.now) + 1) 0) (sym w.if-is_update.ensures))
        | else-is_update w ↦ w.run-is ∙ sym (run ∙ ap (λ b. cond b (suffix_len feed.is_update (take c.loop-i.i c.args.items.now) + 1) 0) (sym w.if-is_update.ensures))
      ];
    }
