-- The selectors whose printed text is one: what every selector is that was read.
use Rattle.std.specs.Prelude.{◌≡◌, ℕ, true, false, List, ◌==◌, ◌⊎◌}
use Rattle.std.specs.List.{list_any, AllByRecursion}
use Rattle.std.specs.Str.{is_utf8}
use Rattle.ty_select.specs.Forms.{Form, all, global, has, equal, unequal, among, not_among, contains, starts, ends, negated, both, either, Forms, none, more}
use Rattle.ty_select.specs.Words.{is_word}

abbrev pub IsLabel : List ℕ → Type 0
IsLabel l = is_word l ≡ true

-- a text that holds not both quotes
abbrev pub IsQuotable : List ℕ → Type 0
IsQuotable v = (is_utf8 v ≡ true) × ((list_any (λ b. b == 39) v ≡ false) ⊎ (list_any (λ b. b == 34) v ≡ false))

abbrev mutual
  pub IsPrintable : Form → Type 0
  IsPrintable all = Unit {0}
  IsPrintable global = Unit {0}
  IsPrintable (has l) = IsLabel l
  IsPrintable (equal l v) = IsLabel l × IsQuotable v
  IsPrintable (unequal l v) = IsLabel l × IsQuotable v
  IsPrintable (among l vs) = IsLabel l × AllByRecursion IsQuotable vs
  IsPrintable (not_among l vs) = IsLabel l × AllByRecursion IsQuotable vs
  IsPrintable (contains l v) = IsLabel l × IsQuotable v
  IsPrintable (starts l v) = IsLabel l × IsQuotable v
  IsPrintable (ends l v) = IsLabel l × IsQuotable v
  IsPrintable (negated f) = IsPrintable f
  IsPrintable (both fs) = AreTwoOrMore fs × ArePrintable fs
  IsPrintable (either fs) = AreTwoOrMore fs × ArePrintable fs

  pub ArePrintable : Forms → Type 0
  ArePrintable none = Unit {0}
  ArePrintable (more f fs) = IsPrintable f × ArePrintable fs

  pub AreTwoOrMore : Forms → Type 0
  AreTwoOrMore none = ⊥
  AreTwoOrMore (more f none) = ⊥
  AreTwoOrMore (more f (more g fs)) = Unit {0}
