use Rattle.std.proofs.Common.{List, ℕ, ◌++◌, ◌≡◌, arith, ap, sym, ◌∙◌, append-nil}
use Rattle.ty_client.specs.Text.{pair_line, pair_lines}
use Rattle.ty_client.proofs.Printed.{gives_in, gives_cut, next_line, wrote_after, same_cause}
use Rattle.ty_client.specs.declared.text.Unwritten.TheVariants.{Sink}
use Rattle.ty_client.proofs.text.give_pairs.Goals as goal

pub loop-key-preserved : goal.loop-key-preserved
loop-key-preserved g c =
    let p : List ℕ × List ℕ = (c.in-Some.key.now, c.in-Some.value.now) in
    record {
      gives = gives_in _ _ _ c.in-Ok-put_pair.next.items (c.loop-key.out.items ++ pair_line p) _ (pair_lines c.next.new.self) _ c.loop-key.invariant.gives c.in-Ok-put_pair.ensures.ok (next_line c.loop-key.out.items p c.loop-key.key-iterator c.next.new.self c.in-Some.ensures.steps);
      later = omega (arith, c.loop-key.invariant.later, c.in-Ok-put_pair.ensures.later);
    }

pub returns-in-Err : goal.returns-in-Err
returns-in-Err g c =
    let p : List ℕ × List ℕ = (c.in-Some.key.now, c.in-Some.value.now) in
    record {
      ok = tt;
      err = gives_cut _ _ _ (c.loop-key.out.items ++ pair_line p) _ (pair_lines c.next.new.self) _ c.loop-key.invariant.gives c.in-Err.ensures.err (next_line c.loop-key.out.items p c.loop-key.key-iterator c.next.new.self c.in-Some.ensures.steps);
      cause = λ h. omega (arith, c.in-Err.ensures.cause (same_cause c.in-Err.e Sink h), c.loop-key.invariant.later);
      later = omega (arith, c.loop-key.invariant.later, c.in-Err.ensures.later);
    }

pub returns : goal.returns
returns g c =
    let e : c.loop-key.out.items ++ pair_lines c.loop-key.key-iterator ≡ c.deref.result.now = ap (λ (m : List (List ℕ × List ℕ)). c.loop-key.out.items ++ pair_lines m) c.in-None.ensures.steps.0 ∙ (append-nil c.loop-key.out.items ∙ sym c.deref.ensures.value) in
    wrote_after c.give.result _ _ _ _ _ _ _ _ _ c.loop-key.invariant.gives e c.loop-key.invariant.later c.give.ensures
