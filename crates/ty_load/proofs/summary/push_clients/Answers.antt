use Rattle.std.proofs.Common.{ap, arith}
use Rattle.std.specs.Prelude.{string_bytes}
use Rattle.ty_load.specs.Summary.{held_by, held_line}
use Rattle.ty_load.proofs.Summaries.{next_client, last_client}
use Rattle.ty_load.proofs.summary.push_clients.Goals as goal

pub loop-c-preserved : goal.loop-c-preserved
loop-c-preserved c = λ hs s st e.
    next_client (λ k. held_line k (held_by s k)) c.loop-c.c 9 (string_bytes c.loop-c.out) (string_bytes c.push_held.new.out) _ _ c.loop-c-test.true c.in_ok-push_held.ensures (ap (held_line c.loop-c.c) (c.held.ensures hs s st e)) (c.loop-c.invariant hs s st e)

pub returns : goal.returns
returns c = λ hs s st e.
    last_client (λ k. held_line k (held_by s k)) c.loop-c.c 9 (string_bytes c.loop-c.out) _ (omega arith) (c.loop-c.invariant hs s st e)
