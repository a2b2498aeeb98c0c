use Rattle.std.proofs.Common.{◌≡◌, List, take}
use Rattle.ty_wire.specs.declared.message.Msg.{Msg}
use Rattle.ty_client.specs.Rebuild.{staged}
use Rattle.ty_client.proofs.Told.{Told}
use Rattle.ty_client.proofs.follower.give_all_heard.Given as goal

abbrev pub invariant-loop-msg : goal.invariant-loop-msg
invariant-loop-msg g l = (before : List Msg) → l.fn.stage ≡ staged before → Told l.brief before (take l.msg-index l.msgs) l.stage (g.K.Sink.seen l.fn.sink) (g.K.Sink.seen l.sink)
