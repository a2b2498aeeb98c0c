-- What the words give each argument.
use Rattle.std.specs.Prelude.{Bool, false, not, ◌||◌, List, [], ◌∷◌, Option, Some, None, codes, is_some, if◌then◌else◌}
use Rattle.std.specs.List.{list_all, list_any}
use Rattle.std.specs.Str.{bytes_eq}
use Rattle.clap.specs.Words.{Kinds, Row, Text, fault_of, first_of, matches_of}
use Rattle.ty_words.specs.Cli.{cli, options}

abbrev pub where_taken : Kinds → List Row → Option (List Row)
where_taken [] rows = Some rows
where_taken (k ∷ ks) rows = None

-- what was found for each argument, where the command takes the words. Shut, so that no goal computes the command
unfoldable pub rows_at : List Text → Option (List Row)
rows_at words = where_taken (fault_of cli words) (matches_of cli words)

-- the value of the mode, or of an option
abbrev pub value_of : Text → List Row → Option Text
value_of = first_of

abbrev pub is_set : Option Text → Bool
is_set None = false
is_set (Some value) = bytes_eq value (codes "true")

-- an option is given where it has a value, and the flag where its value is `true`
abbrev pub is_given : List Row → Text → Bool
is_given rows name =
    if bytes_eq name (codes "brief") then is_set (value_of name rows) else is_some (value_of name rows)

-- an argument that isn't given passes, and one that is given must be among these
abbrev pub passes : List Row → List Text → Text → Bool
passes rows taken name = not (is_given rows name) || list_any (λ t. bytes_eq t name) taken

-- nothing is given beside the mode but what is among these
abbrev pub gives_only : List Text → List Row → Bool
gives_only taken rows = list_all (passes rows taken) (codes "brief" ∷ options)
