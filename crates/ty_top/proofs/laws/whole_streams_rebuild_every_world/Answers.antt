use Rattle.ty_top.proofs.FeedStreams.{feed_rebuilds_all, closed_rebuilds_all}
use Rattle.ty_top.proofs.Streams.{last_world}
use Rattle.ty_top.proofs.laws.whole_streams_rebuild_every_world.Goals as goal

pub returns : goal.returns
returns c = record { all = feed_rebuilds_all; closed = closed_rebuilds_all; fold = last_world }
