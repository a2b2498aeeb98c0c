-- What several selectors say.
use Rattle.std.specs.Prelude.{List, map}
use Rattle.ty_select.specs.declared.selector.Selector.{Selector}
use Rattle.ty_select.specs.Forms.{Form, form}

abbrev pub forms : List Selector → List Form
forms ss = map form ss
