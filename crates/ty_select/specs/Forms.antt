-- What a selector says, without where it lies in memory.
use Rattle.std.specs.Prelude.{ℕ, List, [], ◌∷◌}
use Rattle.ty_select.specs.declared.selector.Selector.{Selector}
use Rattle.ty_select.specs.declared.selector.Selector.TheOpen.{Selector-F}
use Rattle.ty_select.specs.declared.selector.Selector.TheFolds.{fold-Selector}

mutual
  pub data Form : Type 0 where
    all : Form
    global : Form
    has : List ℕ → Form
    equal : List ℕ → List ℕ → Form
    unequal : List ℕ → List ℕ → Form
    among : List ℕ → List (List ℕ) → Form
    not_among : List ℕ → List (List ℕ) → Form
    contains : List ℕ → List ℕ → Form
    starts : List ℕ → List ℕ → Form
    ends : List ℕ → List ℕ → Form
    negated : Form → Form
    both : Forms → Form
    either : Forms → Form

  pub data Forms : Type 0 where
    none : Forms
    more : Form → Forms → Forms

abbrev pub forms_of : List Form → Forms
forms_of [] = none
forms_of (f ∷ fs) = more f (forms_of fs)

-- one level, with each selector inside already seen as its form
abbrev pub form_step : Selector-F Form (List Form) → Form
form_step Selector-F.All = all
form_step Selector-F.Global = global
form_step (Selector-F.Has l) = has l
form_step (Selector-F.Eq l v) = equal l v
form_step (Selector-F.Ne l v) = unequal l v
form_step (Selector-F.In l vs) = among l vs
form_step (Selector-F.NotIn l vs) = not_among l vs
form_step (Selector-F.Contains l v) = contains l v
form_step (Selector-F.Starts l v) = starts l v
form_step (Selector-F.Ends l v) = ends l v
form_step (Selector-F.Not s) = negated s.value
form_step (Selector-F.And ss) = both (forms_of ss)
form_step (Selector-F.Or ss) = either (forms_of ss)

-- what a selector says
abbrev pub form : Selector → Form
form = fold-Selector Form (List Form) form_step (λ ss. ss.list.items)
