use denote.Param.Send.{IsSync, given_sync, sendable}
use Rattle.std.proofs.Crossing.{crosses}
use Rattle.ty_chain.proofs.Sent.{sent}
use Rattle.ty_bench.proofs.chain.follow_in_threads.Goals as goal

pub map_indices-requires-sync-F : goal.map_indices-requires-sync-F
map_indices-requires-sync-F g c κs within = let runtime : IsSync g.row.R = given_sync 1 g.row.R c.type_bounds.sync-R in search (sent, crosses, sendable) depth 60
