-- What a selector says, level by level.
use Rattle.std.proofs.Common.{◌≡◌, List, sym, ap, ◌∙◌, Vec, Box, Global}
use Rattle.ty_select.specs.declared.selector.Selector.{Selector}
use Rattle.ty_select.specs.declared.selector.Selector.TheFolds.{fold-roll-Selector, fold-roll-Selectors}
use Rattle.ty_select.specs.declared.selector.Selector.TheOpen.{Selector-F}
use Rattle.ty_select.specs.declared.selector.Selector.TheVariants.{rolls-Not, rolls-And, rolls-Or}
use Rattle.ty_select.specs.declared.selector.Selector.TheViews as views
use Rattle.ty_select.specs.Forms.{Form, form, forms_of, form_step, negated, both, either}
use Rattle.ty_select.specs.steps.Forms.{forms}

pub form-Not : (b : Box Selector Global) → form (views.Not b) ≡ negated (form b.value)
form-Not b = ap form (sym (rolls-Not b)) ∙ fold-roll-Selector Form (List Form) form_step (λ ss. ss.list.items) (Selector-F.Not b)

pub form-And : (ss : Vec Selector Global) → form (views.And (views.roll-Selectors record { list = ss })) ≡ both (forms_of (forms ss.items))
form-And ss =
    ap form (sym (rolls-And (views.roll-Selectors record { list = ss })))
    ∙ fold-roll-Selector Form (List Form) form_step (λ l. l.list.items) (Selector-F.And (views.roll-Selectors record { list = ss }))
    ∙ ap (λ l. both (forms_of l)) (fold-roll-Selectors Form (List Form) form_step (λ l. l.list.items) (record { list = ss }))

pub form-Or : (ss : Vec Selector Global) → form (views.Or (views.roll-Selectors record { list = ss })) ≡ either (forms_of (forms ss.items))
form-Or ss =
    ap form (sym (rolls-Or (views.roll-Selectors record { list = ss })))
    ∙ fold-roll-Selector Form (List Form) form_step (λ l. l.list.items) (Selector-F.Or (views.roll-Selectors record { list = ss }))
    ∙ ap (λ l. either (forms_of l)) (fold-roll-Selectors Form (List Form) form_step (λ l. l.list.items) (record { list = ss }))
