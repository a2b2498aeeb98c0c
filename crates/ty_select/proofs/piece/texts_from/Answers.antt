use Rattle.std.proofs.Common.{length, sym, ap, ◌∙◌}
use Rattle.std.proofs.lemmas.Result.{err_from_is_err_and}
use Rattle.ty_select.specs.declared.fault.Wanted.TheVariants.{CommaOrBrace}
use Rattle.ty_select.specs.declared.token.Kind.TheVariants.{RightBrace, Comma}
use Rattle.ty_select.specs.Tokens.{same_kind}
use Rattle.ty_select.specs.Expressions.{texts_from}
use Rattle.ty_select.proofs.Loops.{texts_end, texts_bad, texts_go_on, texts_stop, texts_run_out, bad_at}
use Rattle.ty_select.proofs.piece.texts_from.Goals as goal

pub returns-then-same_kind : goal.returns-then-same_kind
returns-then-same_kind c =
    let brace = ap (λ k. same_kind k RightBrace) (sym c.next-token.ensures.kind) ∙ sym c.same_kind.ensures ∙ c.if-same_kind.true in
    texts_end c.loop.list.items (length c.args.bytes.now) c.loop.counter c.loop.rest.now (texts_from c.args.first c.args.bytes.now) c.next-token.result.rest.now c.loop-test.true brace c.next-token.ensures.rest c.loop.invariant

pub returns-then-not-same_kind : goal.returns-then-not-same_kind
returns-then-not-same_kind c =
    let brace = ap (λ k. same_kind k RightBrace) (sym c.next-token.ensures.kind) ∙ sym c.same_kind.ensures ∙ c.if-same_kind.false in
    let comma = ap (λ k. same_kind k Comma) (sym c.next-token.ensures.kind) ∙ sym c.same_kind-in-loop.ensures ∙ c.if-not-same_kind.true in
    bad_at c.bad.result c.next-token.result.here.now c.loop.rest.now CommaOrBrace (texts_from c.args.first c.args.bytes.now) c.bad.ensures c.next-token.ensures.here
    (texts_bad c.loop.list.items (length c.args.bytes.now) c.loop.counter c.loop.rest.now (texts_from c.args.first c.args.bytes.now) c.loop-test.true brace comma c.loop.invariant)

pub returns-in_err-another : goal.returns-in_err-another
returns-in_err-another c =
    let p = err_from_is_err_and c.from_residual-in_err-another.result c.from_residual-in_err-another.ensures.1 in
    let brace = ap (λ k. same_kind k RightBrace) (sym c.next-token.ensures.kind) ∙ sym c.same_kind.ensures ∙ c.if-same_kind.false in
    let comma = ap (λ k. same_kind k Comma) (sym c.next-token.ensures.kind) ∙ sym c.same_kind-in-loop.ensures ∙ c.if-not-same_kind.false in
    rw (p.1, p.2) (texts_stop c.loop.list.items (length c.args.bytes.now) c.loop.counter c.loop.rest.now (texts_from c.args.first c.args.bytes.now) c.in_err-another.field-0.0 c.next-token.result.rest.now c.loop-test.true brace comma c.next-token.ensures.rest c.in_err-another.ensures c.loop.invariant)

pub loop-preserved : goal.loop-preserved
loop-preserved c =
    let brace = ap (λ k. same_kind k RightBrace) (sym c.next-token.ensures.kind) ∙ sym c.same_kind.ensures ∙ c.if-same_kind.false in
    let comma = ap (λ k. same_kind k Comma) (sym c.next-token.ensures.kind) ∙ sym c.same_kind-in-loop.ensures ∙ c.if-not-same_kind.false in
    rw c.in_ok-push-2.ensures.items
    (texts_go_on c.loop.list.items (length c.args.bytes.now) c.loop.counter c.loop.rest.now (texts_from c.args.first c.args.bytes.now) c.in_ok-another.another c.next-token.result.rest.now c.in_ok-another.after.now c.loop-test.true brace comma c.next-token.ensures.rest c.in_ok-another.ensures c.loop.invariant)

pub returns : goal.returns
returns c =
    bad_at c.bad-2.result c.next.result.here.now c.loop.rest.now CommaOrBrace (texts_from c.args.first c.args.bytes.now) c.bad-2.ensures c.next.ensures.here
    (texts_run_out c.loop.list.items (length c.args.bytes.now) c.loop.counter c.loop.rest.now (texts_from c.args.first c.args.bytes.now) c.loop-test.false c.loop.invariant)
