use Rattle.std.proofs.Common.{◌≡◌, ◌-◌, ◌+◌, ◌*◌}
use Rattle.ty_select.specs.declared.token.Kind.TheVariants.{AndAnd, OrOr}
use Rattle.ty_select.specs.Forms.{form}
use Rattle.ty_select.specs.steps.Forms.{forms}
use Rattle.ty_select.specs.Expressions.{unary, conjunction, others, others_from}
use Rattle.ty_select.proofs.Loops.{with_front}
use Rattle.ty_select.proofs.expression.+reading.Given as goal

abbrev pub decreases-alternatives : goal.decreases-alternatives
decreases-alternatives l = 6 * l.levels + 4

abbrev pub decreases-conditions : goal.decreases-conditions
decreases-conditions l = 6 * l.levels + 2

abbrev pub decreases-conjunction : goal.decreases-conjunction
decreases-conjunction l = 6 * l.levels + 3

abbrev pub decreases-disjunction : goal.decreases-disjunction
decreases-disjunction l = 6 * l.levels + 5

abbrev pub decreases-group : goal.decreases-group
decreases-group l = 6 * l.levels

abbrev pub decreases-negation : goal.decreases-negation
decreases-negation l = 6 * l.levels

abbrev pub decreases-unary : goal.decreases-unary
decreases-unary l = 6 * l.levels + 1

abbrev pub invariant-alternatives-loop : goal.invariant-alternatives-loop
invariant-alternatives-loop l =
    with_front (forms l.list.items) (others OrOr (conjunction (unary l.levels)) (l.count - l.counter) l.rest) ≡ others_from OrOr (conjunction (unary l.levels)) (form l.fn.first) l.bytes

abbrev pub invariant-conditions-loop : goal.invariant-conditions-loop
invariant-conditions-loop l =
    with_front (forms l.list.items) (others AndAnd (unary l.levels) (l.count - l.counter) l.rest) ≡ others_from AndAnd (unary l.levels) (form l.fn.first) l.bytes
