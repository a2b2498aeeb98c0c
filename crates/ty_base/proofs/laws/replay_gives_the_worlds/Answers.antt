use Rattle.ty_base.proofs.Replay.{replays}
use Rattle.ty_base.proofs.laws.replay_gives_the_worlds.Goals as goal

pub returns : goal.returns
returns c = replays
