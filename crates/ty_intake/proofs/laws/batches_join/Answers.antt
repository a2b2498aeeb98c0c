use Rattle.ty_intake.proofs.JoinedBatches.{few-of, joined-of, whole-of, none-of}
use Rattle.ty_intake.proofs.laws.batches_join.Goals as goal

pub returns : goal.returns
returns c = record { few = few-of; joined = joined-of; whole = whole-of; none = none-of }
