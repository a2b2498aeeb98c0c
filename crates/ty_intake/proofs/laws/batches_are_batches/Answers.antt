use Rattle.ty_intake.proofs.NextBatches.{closed_of, next_batch_of, cut_of_batch, front_of, batch_of}
use Rattle.ty_intake.proofs.laws.batches_are_batches.Goals as goal

pub returns : goal.returns
returns c = record {
  closed = closed_of;
  next = next_batch_of;
  cut = cut_of_batch;
  front = front_of;
  batch = batch_of;
}
