use Rattle.std.proofs.Common.{List, ℕ, ◌++◌, ap, sym, ◌∙◌, append-nil, string_bytes}
use Rattle.ty_client.specs.Text.{pair_lines}
use Rattle.ty_client.proofs.Printed.{next_line}
use Rattle.ty_core.proofs.text.push_pairs.Goals as goal

pub loop-key-preserved : goal.loop-key-preserved
loop-key-preserved c =
    ap (λ (l : List ℕ). l ++ pair_lines c.next.new.self) c.in_ok-push_pair.ensures
    ∙ next_line (string_bytes c.loop-key.out) (c.in-Some.key.now, c.in-Some.value.now) c.loop-key.key-iterator c.next.new.self c.in-Some.ensures.steps
    ∙ c.loop-key.invariant

pub returns : goal.returns
returns c =
    sym (append-nil (string_bytes c.loop-key.out))
    ∙ sym (ap (λ (m : List (List ℕ × List ℕ)). string_bytes c.loop-key.out ++ pair_lines m) c.in-None.ensures.steps.0)
    ∙ c.loop-key.invariant
