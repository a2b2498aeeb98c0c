-- The command as a value: what the words mean is a function of it.
use Rattle.std.specs.Prelude.{true, List, [], ◌∷◌, Some, codes, fold, map}
use Rattle.clap.specs.Words.{App, Rule, Text, new_app, new_rule, with_rule}
use Rattle.clap.specs.Simple.{on_top}
use Rattle.clap.specs.declared.builder.action.ArgAction.TheVariants.{Set, SetTrue}

-- the one positional, which must be there
abbrev pub mode_rule : Rule
mode_rule = record (new_rule (codes "mode")) { required = true; action = Some Set }

abbrev pub flag_rule : Text → Rule
flag_rule name = record (new_rule name) { long = Some name; action = Some SetTrue }

-- an option has one value
abbrev pub option_rule : Text → Rule
option_rule name = record (new_rule name) { long = Some name; action = Some Set }

-- the options' names
abbrev pub options : List Text
options = codes "from" ∷ codes "at" ∷ codes "host" ∷ codes "tries" ∷ codes "number" ∷ codes "workers" ∷ []

-- neither the program's name, nor a flag for help, nor one for the version
abbrev pub bare : App
bare = on_top (λ s. record s { no_binary_name = true; disable_help_flag = true }) (new_app (codes "typha"))

abbrev pub cli : App
cli = fold with_rule bare (mode_rule ∷ flag_rule (codes "brief") ∷ map option_rule options)
