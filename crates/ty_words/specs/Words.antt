-- The command line's words.
use Rattle.std.specs.Prelude.{Bool, ℕ, nat_le, List, [], ◌∷◌, length, codes, Option, None, Some, option_and_then, option_map, unwrap_or, if◌then◌else◌}
use Rattle.std.specs.Str.{bytes_eq}
use Rattle.clap.specs.Words.{Row, Text}
use Rattle.ty_base.specs.Numbers.{read_number}
use Rattle.ty_base.specs.declared.limits.TheConstants.{HOST_BYTES, INPUT_BYTES}
use Rattle.ty_words.specs.Given.{gives_only, is_given, rows_at, value_of}
use Rattle.ty_words.specs.declared.words.Command.{Command}
use Rattle.ty_words.specs.declared.words.Command.TheVariants.{Stream, Follow, FollowAt, Sim, Load, Serve}
use Rattle.ty_words.specs.declared.words.TheConstants.{ADDRESS_BYTES, GREATEST_TRIES, GREATEST_WORKERS, USUAL_WORKERS}

-- the number that an option's value writes, and n where the option isn't given
abbrev pub number_or : ℕ → Option Text → Option ℕ
number_or n None = Some n
number_or n (Some value) = read_number value

-- a number from 1 to the greatest
abbrev pub in_range : ℕ → ℕ → Option ℕ
in_range greatest n = if nat_le 1 n then (if nat_le n greatest then Some n else None) else None

-- the number from 1 to the greatest that an option's value writes, and n where the option isn't given
abbrev pub count_or : ℕ → ℕ → Option Text → Option ℕ
count_or greatest n value = option_and_then (in_range greatest) (number_or n value)

-- a text of 1 to so many bytes
abbrev pub of_length : ℕ → Text → Option Text
of_length most text = if nat_le 1 (length text) then (if nat_le (length text) most then Some text else None) else None

-- a breadcrumb's number is at most `INPUT_BYTES`
abbrev pub stream_from : ℕ → Option Command
stream_from n = if nat_le n INPUT_BYTES then Some (Stream n) else None

-- `stream` takes `--from` and a number
abbrev pub stream_with : List Row → Option Command
stream_with rows =
    if gives_only (codes "from" ∷ []) rows
    then option_and_then stream_from (number_or 0 (value_of (codes "from") rows)) else None

-- the address that is given
abbrev pub address_in : List Row → Option Text
address_in rows = option_and_then (of_length ADDRESS_BYTES) (value_of (codes "at") rows)

-- the host that is given, which is `follower` where none is
abbrev pub host_in : List Row → Option Text
host_in rows = of_length HOST_BYTES (unwrap_or (value_of (codes "host") rows) (codes "follower"))

-- of a connection that is the source `follow` takes `--brief`
abbrev pub follow_source : List Row → Option Command
follow_source rows =
    if gives_only (codes "brief" ∷ []) rows then Some (Follow (is_given rows (codes "brief"))) else None

abbrev pub following : Text → Text → Bool → ℕ → Command
following at host brief tries = FollowAt (record { at = at; host = host; tries = tries; brief = brief })

abbrev pub follow_at_as : List Row → Text → Text → Option Command
follow_at_as rows at host =
    option_map (following at host (is_given rows (codes "brief"))) (count_or GREATEST_TRIES 1 (value_of (codes "tries") rows))

-- of a server `follow` takes `--at`, `--host`, `--tries` and a number, and `--brief`
abbrev pub follow_at : List Row → Option Command
follow_at rows =
    if gives_only (codes "at" ∷ codes "host" ∷ codes "tries" ∷ codes "brief" ∷ []) rows
    then option_and_then (λ at. option_and_then (follow_at_as rows at) (host_in rows)) (address_in rows) else None

-- `follow` follows a server where it is given an address
abbrev pub follow_with : List Row → Option Command
follow_with rows = if is_given rows (codes "at") then follow_at rows else follow_source rows

-- `sim` takes nothing
abbrev pub sim_with : List Row → Option Command
sim_with rows = if gives_only [] rows then Some Sim else None

-- `load` takes `--number` and a number
abbrev pub load_with : List Row → Option Command
load_with rows =
    if gives_only (codes "number" ∷ []) rows
    then option_map Load (number_or 1 (value_of (codes "number") rows)) else None

abbrev pub serving : Text → ℕ → Command
serving at workers = Serve (record { at = at; workers = workers })

abbrev pub serve_at : List Row → Text → Option Command
serve_at rows at = option_map (serving at) (count_or GREATEST_WORKERS USUAL_WORKERS (value_of (codes "workers") rows))

-- `serve` takes `--at`, which must be there, and `--workers` and a number
abbrev pub serve_with : List Row → Option Command
serve_with rows =
    if gives_only (codes "at" ∷ codes "workers" ∷ []) rows then option_and_then (serve_at rows) (address_in rows) else None

abbrev pub mode_with : List Row → Text → Option Command
mode_with rows mode =
    if bytes_eq mode (codes "stream") then stream_with rows else (
    if bytes_eq mode (codes "follow") then follow_with rows else (
    if bytes_eq mode (codes "sim") then sim_with rows else (
    if bytes_eq mode (codes "load") then load_with rows else (
    if bytes_eq mode (codes "serve") then serve_with rows else None))))

-- what the rows ask for
abbrev pub asked_by : List Row → Option Command
asked_by rows = option_and_then (mode_with rows) (value_of (codes "mode") rows)

-- what the words ask for, where the command takes them
unfoldable pub command_of : List (List ℕ) → Option Command
command_of words = option_and_then asked_by (rows_at words)
