-- The item of a line.
use Rattle.std.specs.Prelude.{◌≡◌, ℕ, List, Option, Some, None, option_and_then, if◌then◌else◌}
use Rattle.std.specs.Option.{option_map}
use Rattle.std.specs.Result.{result_ok}
use Rattle.serde_json.specs.Data.{Data}
use Rattle.serde_json.specs.View.{view}
use Rattle.serde_json.specs.Written.{compact_text}
use Rattle.ty_base.specs.declared.item.Item.{Item}
use Rattle.ty_base.specs.declared.item.Item.TheVariants.{Put, Del, State, Mark}
use Rattle.ty_base.specs.declared.status.Status.{Status}
use Rattle.ty_keys.specs.declared.key.Key.{Key}
use Rattle.ty_keys.specs.Forms.{read_key}
use Rattle.ty_rules.specs.declared.rule.Rule.{Rule}
use Rattle.ty_rules.specs.Tests.{unless_null}
use Rattle.ty_rules.specs.Tree.{Ascends}
use Rattle.ty_values.specs.declared.line.Line.{Line}
use Rattle.ty_values.specs.declared.line.Line.TheVariants as L
use Rattle.ty_values.specs.Keys.{broken, valid}

-- what a line says: a value or none for a key, a status, or nothing
pub data Said : Type 0 where
  update : List ℕ → Option Data → Said
  status : Status → Said
  blank : Said

abbrev pub said : Line → Said
said (L.Update key value) = update key (option_map view value)
said (L.Status s) = status s
said L.Blank = blank

-- the value of an update; null counts as none
abbrev pub value_given : Option Data → Option Data
value_given value = option_and_then unless_null value

-- the key that a text reads as
abbrev pub key_named : List ℕ → Option Key
key_named text = result_ok (read_key text)

-- a valid value is put as its compact text; without a value, or with an invalid one, the key is deleted
abbrev pub item_under : Key → List ℕ → Option Data → Item
item_under k key None = Del key
item_under k key (Some d) = if valid k d then Put key (compact_text d) else Del key

-- the item of a line, if it has one
abbrev pub item_of : Said → Option Item
item_of (update key value) = option_map (λ k. item_under k key (value_given value)) (key_named key)
item_of (status s) = Some (State s)
item_of blank = Some Mark

-- the rule that the value of a line breaks under a key that reads
abbrev pub broken_in : Said → Option Rule
broken_in (update key value) = option_and_then (λ k. option_and_then (broken k) (value_given value)) (key_named key)
broken_in (status s) = None
broken_in blank = None

-- the data that a line gives for its key
abbrev pub data_given : Said → Option Data
data_given (update key value) = value_given value
data_given s = None

-- what is put is the compact text of this data, whose objects have their members in ascending order
abbrev pub IsOrdered : Option Data → Item → Type 0
IsOrdered (Some d) (Put key value) = (value ≡ compact_text d) × Ascends d
IsOrdered None (Put key value) = ⊥
IsOrdered given x = Unit {0}
