-- What a line of a feed says.
use Rattle.std.specs.Prelude.{ℕ, Bool, true, List, codes, Option, None, Some, is_some, option_map, option_and_then, if◌then◌else◌}
use Rattle.std.specs.Str.{is_utf8}
use Rattle.serde_json.specs.Data.{Data}
use Rattle.serde_json.specs.Read.{read}
use Rattle.serde_json.specs.Find.{get, as_str}
use Rattle.ty_base.specs.Statuses.{status_of}
use Rattle.ty_base.specs.declared.item.Item.{Item}
use Rattle.ty_values.specs.Items.{Said, update, status, blank, item_of}
use Rattle.ty_intake.specs.Lines.{is_blank_line}

-- the status that a string names
abbrev pub status_said : Data → Option Said
status_said s = option_map status (option_and_then status_of (as_str s))

-- the member isn't there, or is a string
abbrev pub is_absent_or_text : Option Data → Bool
is_absent_or_text None = true
is_absent_or_text (Some d) = is_some (as_str d)

abbrev pub update_in : List ℕ → Data → Option Said
update_in key line = if is_absent_or_text (get (codes "revision") line) then Some (update key (get (codes "value") line)) else None

-- an update where there is a key, or a status, and not both
abbrev pub by_members : Option Data → Option Data → Data → Option Said
by_members None None line = None
by_members None (Some s) line = status_said s
by_members (Some k) None line = option_and_then (λ key. update_in key line) (as_str k)
by_members (Some k) (Some s) line = None

unfoldable pub said_in : Data → Option Said
said_in line = by_members (get (codes "key") line) (get (codes "status") line) line

-- what the value of a JSON text (RFC 8259) in UTF-8 says
unfoldable pub said_by_json : List ℕ → Option Said
said_by_json line = if is_utf8 line then option_and_then said_in (read line) else None

-- what a line says, or none where it is a bad line
unfoldable pub said_by : List ℕ → Option Said
said_by line = if is_blank_line line then Some blank else said_by_json line

-- the item of a line, if it has one
unfoldable pub item_by : List ℕ → Option Item
item_by line = option_and_then item_of (said_by line)
