use denote.Param.Send.{IsSync, given_sync, sendable}
use Rattle.std.proofs.Crossing.{crosses}
use Rattle.ty_account.proofs.Sent.{spot_send}
use Rattle.ty_account.proofs.front.Front.TheSendSync as front
use Rattle.ty_account.proofs.tests.both.Goals as goal

pub join-requires-send-F : goal.join-requires-send-F
join-requires-send-F g c κs within = let runtime : IsSync g.row.R = given_sync 0 g.row.R c.type_bounds.sync-R in search (spot_send, front.the_send, crosses, sendable) depth 60
