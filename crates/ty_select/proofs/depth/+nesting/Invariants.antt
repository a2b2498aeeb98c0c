use Rattle.std.proofs.Common.{◌≡◌, max, drop}
use Rattle.ty_select.specs.Forms.{forms_of}
use Rattle.ty_select.specs.steps.Forms.{forms}
use Rattle.ty_select.specs.Text.{capped, deepest}
use Rattle.ty_select.proofs.depth.+nesting.Given as goal

abbrev pub invariant-deepest-loop-selector : goal.invariant-deepest-loop-selector
invariant-deepest-loop-selector l =
    max l.most (capped (deepest (forms_of (forms (drop l.selector-index l.selectors))))) ≡ capped (deepest (forms_of (forms l.selectors)))
