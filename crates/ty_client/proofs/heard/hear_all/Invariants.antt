use Rattle.std.proofs.Common.{◌≡◌, List, take}
use Rattle.ty_wire.specs.declared.message.Msg.{Msg}
use Rattle.ty_client.specs.Rebuild.{staged}
use Rattle.ty_client.proofs.Progress.{Progress}
use Rattle.ty_client.proofs.heard.hear_all.Given as goal

abbrev pub invariant-loop-msg : goal.invariant-loop-msg
invariant-loop-msg l = (before : List Msg) → l.fn.stage ≡ staged before → Progress before (take l.msg-index l.msgs) l.ats l.stage l.fn.up.items l.up.items
