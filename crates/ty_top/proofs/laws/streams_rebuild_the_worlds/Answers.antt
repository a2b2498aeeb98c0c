use Rattle.ty_top.proofs.FeedStreams.{feed_rebuilds, closed_rebuilds}
use Rattle.ty_top.proofs.laws.streams_rebuild_the_worlds.Goals as goal

pub returns : goal.returns
returns c = record { all = feed_rebuilds; closed = closed_rebuilds }
