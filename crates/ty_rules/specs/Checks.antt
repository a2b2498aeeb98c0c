-- Rules in their order: which one a value breaks first, if any.
use Rattle.std.specs.Prelude.{◌≡◌, ℕ, List, [], ◌∷◌, Option, Some, None, option_and_then, Result, Ok, Err, ⊤, if◌then◌else◌}
use Rattle.serde_json.specs.Data.{Data, Items}
use Rattle.serde_json.specs.Find.{as_array}
use Rattle.ty_rules.specs.declared.rule.Rule.{Rule}
use Rattle.ty_rules.specs.declared.rule.ValueFault.{ValueFault}
use Rattle.ty_rules.specs.declared.rule.ValueFault.TheVariants.{Broken, NoMemory}
use Rattle.ty_rules.specs.Tests.{Test, items, given}

-- the rule that a value breaks
abbrev pub Check : Type 0
Check = Data → Option Rule

-- this rule is broken where the test isn't passed
abbrev pub row : Rule → Test → Check
row r test d = if test d then None else Some r

-- the first broken rule, or else the other
abbrev pub or_later : Option Rule → Option Rule → Option Rule
or_later None later = later
or_later (Some r) later = Some r

-- the first that is broken of these
abbrev pub in_order : List Check → Check
in_order [] d = None
in_order (c ∷ cs) d = or_later (c d) (in_order cs d)

-- the first that is broken by one of the values, which are tried one after another
abbrev pub first_in : Check → List Data → Option Rule
first_in c [] = None
first_in c (d ∷ ds) = or_later (c d) (first_in c ds)

abbrev pub in_list : Rule → Check → Option Items → Option Rule
in_list r c None = Some r
in_list r c (Some ds) = first_in c (items ds)

-- an array, or else this rule is broken; and what its members break
abbrev pub list_of : Rule → Check → Check
list_of r c d = in_list r c (as_array d)

-- what the member breaks, where it is there and is not null
abbrev pub if_given : List ℕ → Check → Check
if_given k c d = option_and_then c (given k d)

-- what a fault says of the first broken rule; want of memory says nothing
abbrev pub Names : ValueFault → Option Rule → Type 0
Names NoMemory first = Unit {0}
Names (Broken r) first = first ≡ Some r

-- what an answer says of it
abbrev pub Tells : Result ⊤ ValueFault → Option Rule → Type 0
Tells (Ok u) first = first ≡ None
Tells (Err e) first = Names e first
