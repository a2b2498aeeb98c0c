-- Several tests by one rule are one row.
use Rattle.std.proofs.Common.{◌≡◌, Bool, true, false, ◌&&◌, List, [], ◌∷◌, ℕ, map, refl, ap, ◌∙◌, Option, Some, None, option_and_then}
use Rattle.std.specs.Prelude.{codes}
use Rattle.serde_json.specs.Data.{Data, null}
use Rattle.ty_rules.specs.declared.rule.Rule.{Rule}
use Rattle.ty_rules.specs.declared.rule.Rule.TheVariants as R
use Rattle.ty_rules.specs.Tests.{Test, given, optional, if_there, all_of}
use Rattle.ty_rules.specs.Checks.{row, or_later, in_order, if_given}
use Rattle.ty_values.specs.Nets.{selector}
use Rattle.ty_values.specs.PolicyRules.{v1_selectors, side_selectors, both_sides}

-- the row of a test whose answer is known
abbrev pub answered : Rule → Bool → Option Rule
answered r b = row r (λ d. b) null

when_passed : (r : Rule) (t u : Bool) (rest : Option Rule) → rest ≡ answered r u → or_later (answered r t) rest ≡ answered r (t && u)
when_passed r true u rest e = e
when_passed r false u rest e = refl

pub rows_are_one : (r : Rule) (ts : List Test) (d : Data) → in_order (map (row r) ts) d ≡ row r (all_of ts) d
rows_are_one r [] d = refl
rows_are_one r (t ∷ ts) d = when_passed r (t d) (all_of ts d) (in_order (map (row r) ts) d) (rows_are_one r ts d)

of_given : (r : Rule) (t : Test) (member : Option Data) → option_and_then (row r t) member ≡ answered r (if_there t member)
of_given r t None = refl
of_given r t (Some d) = refl

-- a row of a member is a row of the whole
pub row_of_member : (k : List ℕ) (r : Rule) (t : Test) (d : Data) → if_given k (row r t) d ≡ row r (optional k t) d
row_of_member k r t d = of_given r t (given k d)

pub v1_rows : (d : Data) →
    in_order (
    row R.Selector (optional (codes "src_selector") selector)
    ∷ row R.Selector (optional (codes "dst_selector") selector)
    ∷ row R.Selector (optional (codes "not_src_selector") selector)
    ∷ row R.Selector (optional (codes "not_dst_selector") selector)
    ∷ []) d
    ≡ row R.Selector v1_selectors d
v1_rows d =
    rows_are_one R.Selector (
    optional (codes "src_selector") selector
    ∷ optional (codes "dst_selector") selector
    ∷ optional (codes "not_src_selector") selector
    ∷ optional (codes "not_dst_selector") selector
    ∷ []) d

pub side_rows : (d : Data) →
    in_order (
    row R.Selector (optional (codes "selector") selector)
    ∷ row R.Selector (optional (codes "notSelector") selector)
    ∷ row R.Selector (optional (codes "namespaceSelector") selector)
    ∷ []) d
    ≡ row R.Selector side_selectors d
side_rows d =
    rows_are_one R.Selector (
    optional (codes "selector") selector
    ∷ optional (codes "notSelector") selector
    ∷ optional (codes "namespaceSelector") selector
    ∷ []) d

-- a row of either side is a row of both
pub rows_of_sides : (r : Rule) (t : Test) (d : Data) →
    in_order (if_given (codes "source") (row r t) ∷ if_given (codes "destination") (row r t) ∷ []) d ≡ row r (both_sides t) d
rows_of_sides r t d =
    ap (λ o. or_later o (or_later (if_given (codes "destination") (row r t) d) None)) (row_of_member (codes "source") r t d)
    ∙ ap (λ o. or_later (row r (optional (codes "source") t) d) (or_later o None)) (row_of_member (codes "destination") r t d)
    ∙ rows_are_one r (optional (codes "source") t ∷ optional (codes "destination") t ∷ []) d
