use Rattle.ty_top.proofs.FeedStreams.{feed_told, feed_good, feed_uncut, closed_told, closed_good, closed_uncut}
use Rattle.ty_top.proofs.laws.followed_streams_tell_every_world.Goals as goal

pub returns : goal.returns
returns c = record {
  told = feed_told;
  good = feed_good;
  uncut = feed_uncut;
  closed_told = closed_told;
  closed_good = closed_good;
  closed_uncut = closed_uncut;
}
