use Rattle.std.proofs.Common.{◌≡◌, ◌∙◌, ◌||◌, ◌++◌, true, ap, sym, List}
use Rattle.std.specs.Prelude.{is_some}
use Rattle.ty_intake.specs.Held.{IntakeHeld}
use Rattle.ty_intake.specs.Batches.{batches_of}
use Rattle.ty_intake.specs.declared.batch.Closed.{Closed}
use Rattle.ty_intake.proofs.StoppedFeeds.{fed-done, or-left, or-last}
use Rattle.ty_intake.proofs.intake.Intake.feed.Goals.{then-self-2-via-then-self-2, then-self-2-via-else-self-2+then-is_some}
use Rattle.ty_intake.proofs.intake.Intake.feed.Goals as goal

-- the feed has ended, or has a fault
done : (c : goal.After-nothing) → (c.args.self.now.ended || is_some c.args.self.now.fault) ≡ true
done c =
    let v : IntakeHeld = c.args.self.now in
    elim c.then-self-2.branch [
      | then-self-2-via-then-self-2 w ↦ or-left v.ended (is_some v.fault) (sym (ap (λ (k : IntakeHeld). k.ended) c.self.view_is) ∙ w.if-self-2.true)
      | then-self-2-via-else-self-2+then-is_some w ↦ or-last v.ended (is_some v.fault) (sym (w.if-is_some.ensures ∙ ap (λ (k : IntakeHeld). is_some k.fault) c.self.view_is))
    ]

pub returns-then-self-2-clause-stands : goal.returns-then-self-2-clause-stands
returns-then-self-2-clause-stands c = λ feed h. (fed-done c.args.self.now feed c.args.piece.now h (done c)).stands

pub returns-then-self-2-clause-closed : goal.returns-then-self-2-clause-closed
returns-then-self-2-clause-closed c = λ feed h.
    (fed-done c.args.self.now feed c.args.piece.now h (done c)).batched ∙ ap (λ (bs : List Closed). batches_of feed ++ bs) (sym c.nothing.ensures.closed)

pub returns-then-self-2-clause-fault : goal.returns-then-self-2-clause-fault
returns-then-self-2-clause-fault c = λ feed h. c.nothing.ensures.fault ∙ (fed-done c.args.self.now feed c.args.piece.now h (done c)).shown
