use denote.Param.Send.{IsSync, given_sync, sendable}
use Rattle.std.proofs.Crossing.{crosses}
use Rattle.ty_chain.proofs.Sent.{sent}
use Rattle.ty_server.proofs.server.work_all.Goals as goal

pub for_each_mut-requires-sync-F : goal.for_each_mut-requires-sync-F
for_each_mut-requires-sync-F g c κs within =
    let runtime : IsSync g.row.R = given_sync 0 g.row.R c.type_bounds.sync-R in
    let clock : IsSync g.row.C = given_sync 3 g.row.C c.type_bounds.sync-C in
    search (sent, crosses, sendable) depth 60
