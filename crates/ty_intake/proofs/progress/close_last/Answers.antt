use Rattle.std.proofs.Common.{length, sym, ◌∙◌, eqb-true}
use Rattle.ty_intake.proofs.LastBatches.{close-none, close-some, some-length}
use Rattle.ty_intake.proofs.progress.close_last.Goals as goal

pub returns-then-is_empty-clause-batched : goal.returns-then-is_empty-clause-batched
returns-then-is_empty-clause-batched c = λ earlier items h.
    close-none c.args.progress.now earlier items (eqb-true (length c.args.progress.now.pending) 0 (sym c.is_empty.ensures ∙ c.if-is_empty.true)) h

pub returns-clause-batched : goal.returns-clause-batched
returns-clause-batched c = λ earlier items h.
    close-some c.args.progress.now c.close.new.progress earlier items (some-length c.args.progress.now.pending (sym c.is_empty.ensures ∙ c.if-is_empty.false)) c.in_ok-close.ensures.closed h
