use Rattle.std.proofs.Common.{not, length, ◌==◌, sym, ap, ◌∙◌}
use Rattle.ty_rules.proofs.Lists.{items_length}
use Rattle.ty_rules.proofs.test.has_items.Goals as goal

pub returns : goal.returns
returns c =
    let n = sym (ap (λ n. not (n == 0)) (items_length c.args.items.now.items)) in
    ap not c.is_empty.ensures ∙ (ap (λ s. not (length s == 0)) c.as_slice.ensures.value ∙ n)
