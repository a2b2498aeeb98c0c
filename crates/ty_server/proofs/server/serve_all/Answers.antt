use Rattle.std.proofs.Common.{rules}
use denote.Param.{param}
use denote.Param.Send.{IsSend, IsSync, given_sync, sendable}
use Rattle.std.proofs.Crossing.{crosses}
use Rattle.ty_chain.proofs.Sent.{sent}
use Rattle.ty_server.proofs.post.Post.TheSendSync as post
use Rattle.ty_server.proofs.server.serve_all.Goals as goal

pub join_mut-published-requires-send-F : goal.join_mut-published-requires-send-F
join_mut-published-requires-send-F g c κs within =
    let runtime : IsSync g.row.R = given_sync 0 g.row.R c.type_bounds.sync-R in
    let clock : IsSync g.row.C = given_sync 4 g.row.C c.type_bounds.sync-C in
    let door : IsSend (param 3 g.row.D) = c.type_bounds.send-D in
    search (post.the_send, sent, crosses, sendable) depth 60

pub returns-clause-staffed : goal.returns-clause-staffed
returns-clause-staffed g c = search rules
