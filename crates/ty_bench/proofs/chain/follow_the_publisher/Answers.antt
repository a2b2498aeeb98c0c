use denote.Param.Send.{IsSync, given_sync, sendable}
use Rattle.std.proofs.Crossing.{crosses}
use Rattle.ty_chain.proofs.Sent.{sent}
use Rattle.ty_bench.proofs.chain.follow_the_publisher.Goals as goal

pub join-steps-requires-send-F : goal.join-steps-requires-send-F
join-steps-requires-send-F g c κs within = let runtime : IsSync g.row.R = given_sync 1 g.row.R c.type_bounds.sync-R in search (sent, crosses, sendable) depth 60
