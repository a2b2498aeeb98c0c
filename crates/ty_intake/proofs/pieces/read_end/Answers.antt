use Rattle.std.proofs.Common.{length, sym, ◌∙◌, eqb-true}
use Rattle.ty_intake.proofs.LastBatches.{no-last}
use Rattle.ty_intake.proofs.pieces.read_end.Goals as goal

pub returns-then-is_empty : goal.returns-then-is_empty
returns-then-is_empty c =
    no-last c.args.rest.now c.args.progress.now c.close_last.new.progress (eqb-true (length c.args.rest.now) 0 (sym c.is_empty.ensures ∙ c.if-is_empty.true)) c.in_ok-close_last.ensures.batched c.in_ok-close_last.ensures.fits
