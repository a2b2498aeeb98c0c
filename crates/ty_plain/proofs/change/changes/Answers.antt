use Rattle.std.proofs.Common.{◌∙◌, ap, sym, ◌++◌, take}
use Rattle.ty_base.specs.Feed as feed
use Rattle.ty_plain.specs.steps.Scans.{unseen_change}
use Rattle.ty_plain.proofs.Firsts.{step_some, step_none}
use Rattle.ty_plain.proofs.change.changes.Goals as goal
use Rattle.ty_plain.proofs.change.changes.Goals.{in-Some+in_ok-note_change, in_default}

pub loop-i-preserved : goal.loop-i-preserved
loop-i-preserved c =
    let a = (feed.folded c.args.before.now).pairs in
    let b = (feed.folded c.args.after.now).pairs in
    elim c.match-key_of.branch [
      | in-Some+in_ok-note_change w ↦
          ap (λ v. v.items) w.out-is ∙ w.in_ok-note_change.ensures
          ∙ ap (λ ds. ds ++ unseen_change a b (take c.loop-i.i c.args.batch.now) w.in-Some.key.now) c.loop-i.invariant
          ∙ sym (step_some a b c.args.batch.now c.loop-i.i c.index-batch-i.result w.in-Some.key.now c.loop-i-test.true c.index-batch-i.is (sym w.in-Some.ensures))
      | in_default w ↦
          ap (λ v. v.items) w.out-is ∙ c.loop-i.invariant
          ∙ sym (step_none a b c.args.batch.now c.loop-i.i c.index-batch-i.result c.loop-i-test.true c.index-batch-i.is (sym w.in_default.ensures))
    ]
