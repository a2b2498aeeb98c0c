-- Tests of JSON values, and how they are joined.
use Rattle.std.specs.Prelude.{ℕ, Bool, true, false, not, ◌&&◌, ◌||◌, ◌==◌, nat_le, length, List, [], ◌∷◌, Option, Some, None, option_and_then, is_some, if◌then◌else◌}
use Rattle.std.specs.List.{list_all, list_any}
use Rattle.serde_json.specs.Data.{Data, Items, no_items, item, Members, no_members, member}
use Rattle.serde_json.specs.Find.{get, as_null, as_bool, as_str, as_array, as_object, as_number, as_u64, as_integer}

abbrev pub Test : Type 0
Test = Data → Bool

-- what is there passes
abbrev pub if_there : {A : Type 0} → (A → Bool) → Option A → Bool
if_there p None = true
if_there p (Some x) = p x

-- something is there, and passes
abbrev pub there_and : {A : Type 0} → (A → Bool) → Option A → Bool
there_and p None = false
there_and p (Some x) = p x

abbrev pub items : Items → List Data
items no_items = []
items (item d ds) = d ∷ items ds

abbrev pub members : Members → List (List ℕ × Data)
members no_members = []
members (member k d ms) = (k, d) ∷ members ms

-- Members of an object

-- null counts as absent
abbrev pub unless_null : Data → Option Data
unless_null d = if is_some (as_null d) then None else Some d

-- the member of this name, where it is there and is not null
abbrev pub given : List ℕ → Data → Option Data
given k d = option_and_then unless_null (get k d)

-- the member is absent or null, or passes
abbrev pub optional : List ℕ → Test → Test
optional k p d = if_there p (given k d)

-- the member is there, is not null and passes
abbrev pub required : List ℕ → Test → Test
required k p d = there_and p (given k d)

-- What a value is

abbrev pub boolean : Test
boolean d = is_some (as_bool d)

abbrev pub object : Test
object d = is_some (as_object d)

abbrev pub text : Test
text d = is_some (as_str d)

-- a string that passes
abbrev pub text_of : (List ℕ → Bool) → Test
text_of p d = there_and p (as_str d)

-- an array of what passes
abbrev pub array_of : Test → Test
array_of p d = there_and (λ ds. list_all p (items ds)) (as_array d)

abbrev pub has_items : Items → Bool
has_items ds = not (length (items ds) == 0)

-- an array that has a member
abbrev pub filled_array : Test
filled_array d = there_and has_items (as_array d)

-- a whole number from low to high
abbrev pub whole_within : ℕ → ℕ → Test
whole_within low high d = there_and (λ n. nat_le low n && nat_le n high) (option_and_then as_u64 (as_number d))

-- a whole number from -2^63 to 2^64 - 1
abbrev pub whole : Test
whole d = is_some (option_and_then as_integer (as_number d))

-- an object whose members pass, by their names and their values
abbrev pub object_of : (List ℕ → Bool) → Test → Test
object_of name p d = there_and (λ ms. list_all (λ m. name m.0 && p m.1) (members ms)) (as_object d)

-- Several tests

-- passes them all
abbrev pub all_of : List Test → Test
all_of ts d = list_all (λ t. t d) ts

-- passes one of them
abbrev pub any_of : List Test → Test
any_of ts d = list_any (λ t. t d) ts

-- passes the second where it passes the first
abbrev pub where_also : Test → Test → Test
where_also p q d = not (p d) || q d
