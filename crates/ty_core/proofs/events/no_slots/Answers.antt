use Rattle.std.proofs.Common.{ap, ◌∙◌, ◌+◌, ◌∷◌, [], length, length-append}
use Rattle.ty_core.proofs.Runs.{slots_none, slots_push}
use Rattle.ty_core.proofs.events.no_slots.Goals as goal

pub loop-preserved : goal.loop-preserved
loop-preserved c = record {
  count = ap length c.in_ok-push.ensures.items ∙ length-append c.loop.slots.items (c.new.result ∷ []) ∙ ap (λ n. n + 1) c.loop.invariant.count;
  none = λ es. slots_push c.loop.slots.items c.push.new.self.items es c.new.result c.in_ok-push.ensures.items (c.loop.invariant.none es) (c.new.ensures es);
}

pub returns-clause-none : goal.returns-clause-none
returns-clause-none c = λ es. slots_none c.loop.slots.items es (c.loop.invariant.none es)
