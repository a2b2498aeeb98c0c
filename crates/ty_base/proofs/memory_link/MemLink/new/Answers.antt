use Rattle.std.proofs.Common.{rules, ◌≡◌, ◌∙◌, ap}
use Rattle.std.specs.List.{filter}
use Rattle.std.proofs.lemmas.List.Elements.{filter_from_retain}
use Rattle.ty_base.specs.steps.Places.{is_real, coming_from, has_left}
use Rattle.ty_base.proofs.Places.{from_zero, kept_real, kept_coming, all_left}
use Rattle.ty_base.proofs.memory_link.MemLink.new.Goals as goal

pub invariant_of-result : goal.invariant_of-result
invariant_of-result c =
    let e : c.retain.new.self.items ≡ filter is_real c.args.coming.items = filter_from_retain _ is_real (λ p x b q k. search rules) _ _ _ c.retain.ensures.filtered in
    (search rules, ap (has_left 0) e ∙ all_left (filter is_real c.args.coming.items) (kept_real c.args.coming.items))

pub returns-clause-coming : goal.returns-clause-coming
returns-clause-coming c =
    let e : c.retain.new.self.items ≡ filter is_real c.args.coming.items = filter_from_retain _ is_real (λ p x b q k. search rules) _ _ _ c.retain.ensures.filtered in
    ap (coming_from 0) e ∙ from_zero (filter is_real c.args.coming.items) ∙ kept_coming c.args.coming.items
