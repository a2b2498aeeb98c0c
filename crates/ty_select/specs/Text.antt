-- A selector's printed text, and how deep it nests.
use Rattle.std.specs.Prelude.{ℕ, suc, ◌-◌, ◌^◌, min, max, List, [], ◌∷◌, ◌++◌, ◌==◌, if◌then◌else◌, codes}
use Rattle.std.specs.List.{list_any}
use Rattle.ty_select.specs.Forms.{Form, all, global, has, equal, unequal, among, not_among, contains, starts, ends, negated, both, either, Forms, none, more}

-- in ", where it holds a ', else in '
unfoldable pub quoted_text : List ℕ → List ℕ
quoted_text v = if list_any (λ b. b == 39) v then 34 ∷ (v ++ 34 ∷ []) else 39 ∷ (v ++ 39 ∷ [])

-- quoted texts, with `before` in front of the first and a comma in front of each other
abbrev pub quoted_texts : List ℕ → List (List ℕ) → List ℕ
quoted_texts before [] = []
quoted_texts before (v ∷ vs) = before ++ (quoted_text v ++ quoted_texts (codes ", ") vs)

unfoldable pub set_text : List (List ℕ) → List ℕ
set_text vs = codes "{" ++ (quoted_texts [] vs ++ codes "}")

abbrev mutual
  pub printed : Form → List ℕ
  printed all = codes "all()"
  printed global = codes "global()"
  printed (has l) = codes "has(" ++ (l ++ codes ")")
  printed (equal l v) = l ++ (codes " == " ++ quoted_text v)
  printed (unequal l v) = l ++ (codes " != " ++ quoted_text v)
  printed (among l vs) = l ++ (codes " in " ++ set_text vs)
  printed (not_among l vs) = l ++ (codes " not in " ++ set_text vs)
  printed (contains l v) = l ++ (codes " contains " ++ quoted_text v)
  printed (starts l v) = l ++ (codes " starts with " ++ quoted_text v)
  printed (ends l v) = l ++ (codes " ends with " ++ quoted_text v)
  printed (negated f) = codes "!" ++ printed f
  printed (both fs) = codes "(" ++ (parted [] (codes " && ") fs ++ codes ")")
  printed (either fs) = codes "(" ++ (parted [] (codes " || ") fs ++ codes ")")

  -- the operands, with `before` in front of the first and the mark in front of each other
  pub parted : List ℕ → List ℕ → Forms → List ℕ
  parted before mark none = []
  parted before mark (more f fs) = before ++ (printed f ++ parted mark mark fs)

-- what a `u64` tells of a number
abbrev pub capped : ℕ → ℕ
capped n = min n (2 ^ 64 - 1)

-- the most `!` and `(` of grouping that are open at once in the printed text
abbrev mutual
  pub depth : Form → ℕ
  depth (negated f) = suc (depth f)
  depth (both fs) = suc (deepest fs)
  depth (either fs) = suc (deepest fs)
  depth f = 0

  pub deepest : Forms → ℕ
  deepest none = 0
  deepest (more f fs) = max (depth f) (deepest fs)
