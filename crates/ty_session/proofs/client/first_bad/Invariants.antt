use Rattle.std.proofs.Common.{◌≡◌, ◌+◌, ◌<◌, ◌^◌, length, drop}
use Rattle.ty_session.specs.Client.{first_client_fault}
use Rattle.ty_session.proofs.client.first_bad.Given as goal

abbrev pub invariant-loop-msg : goal.invariant-loop-msg
invariant-loop-msg l = l.fn.frame + length l.msgs < 2 ^ 64
    → (l.next ≡ l.fn.frame + l.msg-index) × (first_client_fault l.next (drop l.msg-index l.msgs) ≡ first_client_fault l.fn.frame l.msgs)
