use Rattle.ty_top.proofs.FeedStreams.{written_rebuilds}
use Rattle.ty_top.proofs.laws.whatever_was_written_rebuilds_worlds.Goals as goal

pub returns : goal.returns
returns c = written_rebuilds
