use Rattle.std.proofs.Common.{◌∙◌}
use Rattle.std.specs.Prelude.{codes, flat_map, string_bytes}
use Rattle.ty_load.specs.Load.{clients}
use Rattle.ty_load.specs.Summary.{named_number, held_by, held_line}
use Rattle.ty_load.proofs.Summaries.{in_order, pairs_are, summary_is}
use Rattle.ty_load.proofs.summary.tell.Goals as goal

pub returns : goal.returns
returns c = λ hs s st e.
    let a = c.crumb-crumb.ensures hs s st e in
    c.from_string.ensures
    ∙ in_order (named_number (codes "load") c.args.number) (named_number (codes "crumbs") c.crumb-crumb.result.now.number) (named_number (codes "pairs") c.len.result) (flat_map (λ k. held_line k (held_by s k)) clients)
    (string_bytes c.new-out.result) (string_bytes c.push_number.new.out) (string_bytes c.push_number-2.new.out) (string_bytes c.push_number-3.new.out) (string_bytes c.push_clients.new.out) c.new-out.ensures.bytes c.in_ok-push_number.ensures c.in_ok-push_number-2.ensures c.in_ok-push_number-3.ensures (c.in_ok-push_clients.ensures hs s st e)
    ∙ summary_is c.args.number s c.crumb-crumb.result.now.number c.len.result a.number (c.len.ensures.count ∙ pairs_are s c.crumb-crumb.result.now a)
