use Rattle.std.proofs.Common.{◌≡◌, ◌-◌, ◌+◌, ◌++◌, ◌∷◌, [], length, Ok, sym, ap, ◌∙◌, arith}
use Rattle.std.proofs.lemmas.Result.{err_from_is_err_and}
use Rattle.std.proofs.lemmas.List.{map_push}
use Rattle.ty_select.specs.declared.token.Kind.TheVariants.{AndAnd, OrOr}
use Rattle.ty_select.specs.Forms.{form, negated}
use Rattle.ty_select.specs.steps.Forms.{forms}
use Rattle.ty_select.specs.Tokens.{same_kind}
use Rattle.ty_select.specs.Expressions.{unary, conjunction, grouped, negation, others, others_from}
use Rattle.ty_select.proofs.Loops.{with_front, goes_on, stops, ends, is_done, too_deep, negation_read, negation_stops, group_read, group_stops, group_unclosed}
use Rattle.ty_select.proofs.Shapes.{form-Not}
use Rattle.ty_select.proofs.expression.+reading.Goals as goal

pub alternatives-returns-then-not-same_kind : goal.alternatives-returns-then-not-same_kind
alternatives-returns-then-not-same_kind t c =
    let other = ap (λ k. same_kind k OrOr) (sym c.next-token.ensures.kind) ∙ sym c.same_kind.ensures ∙ c.if-not-same_kind.true in
    ends OrOr (conjunction (unary c.args.levels)) (forms c.loop.list.items) (length c.args.bytes.now) c.loop.counter c.loop.rest.now (others_from OrOr (conjunction (unary c.args.levels)) (form c.args.first) c.args.bytes.now) c.loop-test.true other c.loop.invariant

pub alternatives-returns-in_err-operand : goal.alternatives-returns-in_err-operand
alternatives-returns-in_err-operand t c =
    let p = err_from_is_err_and c.from_residual-in_err-operand.result c.from_residual-in_err-operand.ensures.1 in
    let found = ap (λ k. same_kind k OrOr) (sym c.next-token.ensures.kind) ∙ sym c.same_kind.ensures ∙ c.if-not-same_kind.false in
    rw (p.1, p.2) (stops OrOr (conjunction (unary c.args.levels)) (forms c.loop.list.items) (length c.args.bytes.now) c.loop.counter c.loop.rest.now (others_from OrOr (conjunction (unary c.args.levels)) (form c.args.first) c.args.bytes.now) c.in_err-operand.field-0.0 c.next-token.result.rest.now c.loop-test.true found c.next-token.ensures.rest c.in_err-operand.ensures c.loop.invariant)

pub alternatives-loop-preserved : goal.alternatives-loop-preserved
alternatives-loop-preserved t c =
    let x = c.in_ok-operand.operand in
    let found = ap (λ k. same_kind k OrOr) (sym c.next-token.ensures.kind) ∙ sym c.same_kind.ensures ∙ c.if-not-same_kind.false in
    let e : forms c.push-in-loop.new.self.items ≡ forms c.loop.list.items ++ form x ∷ [] = rw c.in_ok-push-2.ensures.items (map_push form c.loop.list.items x) in
    ap (λ fs. with_front fs (others OrOr (conjunction (unary c.args.levels)) (length c.args.bytes.now - (c.loop.counter + 1)) c.in_ok-operand.after.now)) e
    ∙ goes_on OrOr (conjunction (unary c.args.levels)) (forms c.loop.list.items) (length c.args.bytes.now) c.loop.counter c.loop.rest.now (others_from OrOr (conjunction (unary c.args.levels)) (form c.args.first) c.args.bytes.now) (form x) c.next-token.result.rest.now c.in_ok-operand.after.now c.loop-test.true found c.next-token.ensures.rest c.in_ok-operand.ensures c.loop.invariant

pub alternatives-returns : goal.alternatives-returns
alternatives-returns t c = is_done OrOr (conjunction (unary c.args.levels)) (forms c.loop.list.items) (length c.args.bytes.now) c.loop.counter c.loop.rest.now (others_from OrOr (conjunction (unary c.args.levels)) (form c.args.first) c.args.bytes.now) c.loop-test.false c.loop.invariant

pub conditions-returns-then-not-same_kind : goal.conditions-returns-then-not-same_kind
conditions-returns-then-not-same_kind t c =
    let other = ap (λ k. same_kind k AndAnd) (sym c.next-token.ensures.kind) ∙ sym c.same_kind.ensures ∙ c.if-not-same_kind.true in
    ends AndAnd (unary c.args.levels) (forms c.loop.list.items) (length c.args.bytes.now) c.loop.counter c.loop.rest.now (others_from AndAnd (unary c.args.levels) (form c.args.first) c.args.bytes.now) c.loop-test.true other c.loop.invariant

pub conditions-returns-in_err-operand : goal.conditions-returns-in_err-operand
conditions-returns-in_err-operand t c =
    let p = err_from_is_err_and c.from_residual-in_err-operand.result c.from_residual-in_err-operand.ensures.1 in
    let found = ap (λ k. same_kind k AndAnd) (sym c.next-token.ensures.kind) ∙ sym c.same_kind.ensures ∙ c.if-not-same_kind.false in
    rw (p.1, p.2) (stops AndAnd (unary c.args.levels) (forms c.loop.list.items) (length c.args.bytes.now) c.loop.counter c.loop.rest.now (others_from AndAnd (unary c.args.levels) (form c.args.first) c.args.bytes.now) c.in_err-operand.field-0.0 c.next-token.result.rest.now c.loop-test.true found c.next-token.ensures.rest c.in_err-operand.ensures c.loop.invariant)

pub conditions-loop-preserved : goal.conditions-loop-preserved
conditions-loop-preserved t c =
    let x = c.in_ok-operand.operand in
    let found = ap (λ k. same_kind k AndAnd) (sym c.next-token.ensures.kind) ∙ sym c.same_kind.ensures ∙ c.if-not-same_kind.false in
    let e : forms c.push-in-loop.new.self.items ≡ forms c.loop.list.items ++ form x ∷ [] = rw c.in_ok-push-2.ensures.items (map_push form c.loop.list.items x) in
    ap (λ fs. with_front fs (others AndAnd (unary c.args.levels) (length c.args.bytes.now - (c.loop.counter + 1)) c.in_ok-operand.after.now)) e
    ∙ goes_on AndAnd (unary c.args.levels) (forms c.loop.list.items) (length c.args.bytes.now) c.loop.counter c.loop.rest.now (others_from AndAnd (unary c.args.levels) (form c.args.first) c.args.bytes.now) (form x) c.next-token.result.rest.now c.in_ok-operand.after.now c.loop-test.true found c.next-token.ensures.rest c.in_ok-operand.ensures c.loop.invariant

pub conditions-returns : goal.conditions-returns
conditions-returns t c = is_done AndAnd (unary c.args.levels) (forms c.loop.list.items) (length c.args.bytes.now) c.loop.counter c.loop.rest.now (others_from AndAnd (unary c.args.levels) (form c.args.first) c.args.bytes.now) c.loop-test.false c.loop.invariant

pub group-returns-then-levels-eq0 : goal.group-returns-then-levels-eq0
group-returns-then-levels-eq0 t c = too_deep grouped c.args.levels c.args.here.now c.args.bytes.now c.if-levels-eq0.true

pub group-returns-in_err-selector : goal.group-returns-in_err-selector
group-returns-in_err-selector t c =
    let p = err_from_is_err_and c.from_residual.result c.from_residual.ensures.1 in
    rw (p.1, p.2) (group_stops c.args.levels c.args.here.now c.args.bytes.now (omega arith) c.in_err-selector.field-0.0 c.in_err-selector.ensures)

pub group-returns-in_err-rest : goal.group-returns-in_err-rest
group-returns-in_err-rest t c =
    let p = err_from_is_err_and c.from_residual-in_err-rest.result c.from_residual-in_err-rest.ensures.1 in
    rw (p.1, p.2) (group_unclosed c.args.levels c.args.here.now c.args.bytes.now (omega arith) c.in_err-rest.field-0.0 (form c.in_ok-selector.selector) c.in_ok-selector.rest.now c.in_ok-selector.ensures c.in_err-rest.ensures)

pub group-returns : goal.group-returns
group-returns t c =
    group_read c.args.levels c.args.here.now c.args.bytes.now (omega arith) (form c.in_ok-selector.selector) c.in_ok-selector.rest.now c.in_ok-rest.rest.now c.in_ok-selector.ensures c.in_ok-rest.ensures

pub negation-returns-then-levels-eq0 : goal.negation-returns-then-levels-eq0
negation-returns-then-levels-eq0 t c = too_deep negation c.args.levels c.args.here.now c.args.bytes.now c.if-levels-eq0.true

pub negation-returns-in_err-operand : goal.negation-returns-in_err-operand
negation-returns-in_err-operand t c =
    let p = err_from_is_err_and c.from_residual.result c.from_residual.ensures.1 in
    rw (p.1, p.2) (negation_stops c.args.levels c.args.here.now c.args.bytes.now (omega arith) c.in_err-operand.field-0.0 c.in_err-operand.ensures)

pub negation-returns : goal.negation-returns
negation-returns t c =
    negation_read c.args.levels c.args.here.now c.args.bytes.now (omega arith) (form c.in_ok-operand.operand) c.in_ok-operand.rest.now c.in_ok-operand.ensures
    ∙ ap (λ f. Ok (f, c.in_ok-operand.rest.now)) (sym (form-Not c.in_ok-new.field-0 ∙ ap (λ s. negated (form s)) c.in_ok-new.ensures.ok))
