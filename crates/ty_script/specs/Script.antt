-- What a line of a script says. A line is without the byte 10 that ends it.
use Rattle.std.specs.Prelude.{ℕ, List, [], ◌∷◌, length, filter, Bool, true, not, ◌==◌, ◌||◌, ◌&&◌, nat_le, codes, Option, Some, None, if◌then◌else◌, option_map, option_and_then}
use Rattle.std.specs.List.{slice_split}
use Rattle.std.specs.Str.{bytes_eq, is_utf8}
use Rattle.ty_base.specs.Numbers.{read_number}
use Rattle.ty_script.specs.declared.event.Event.{Event}
use Rattle.ty_script.specs.declared.event.Event.TheVariants.{Line, Join, Step, Get, Hear, Cut, Tick}
use Rattle.ty_script.specs.declared.event.TheConstants.{CLIENTS, GET_BYTES, TICK_MILLISECONDS}

-- a space or a tab, which part words
abbrev pub parts_words : ℕ → Bool
parts_words b = (b == 32) || (b == 9)

-- a space, a tab or a carriage return, which may stand before a feed line's `{`
abbrev pub may_lead : ℕ → Bool
may_lead b = parts_words b || (b == 13)

-- the first other byte is `{`, or there is none
abbrev pub is_like_feed : List ℕ → Bool
is_like_feed [] = true
is_like_feed (b ∷ bs) = if may_lead b then is_like_feed bs else (b == 123)

-- what stands between spaces and tabs
abbrev pub words : List ℕ → List (List ℕ)
words line = filter (λ word. not (length word == 0)) (slice_split parts_words line)

-- the number from 1 to the most that a text writes
abbrev pub number_to : ℕ → List ℕ → Option ℕ
number_to most text = option_and_then (λ n. if nat_le 1 n && nat_le n most then Some n else None) (read_number text)

-- what a name says of one number
abbrev pub event_of_one : List ℕ → List ℕ → Option Event
event_of_one name number =
    if bytes_eq name (codes "join") then option_map Join (number_to CLIENTS number) else (
    if bytes_eq name (codes "step") then option_map Step (number_to CLIENTS number) else (
    if bytes_eq name (codes "hear") then option_map Hear (number_to CLIENTS number) else (
    if bytes_eq name (codes "cut") then option_map Cut (number_to CLIENTS number) else (
    if bytes_eq name (codes "tick") then option_map Tick (number_to TICK_MILLISECONDS number) else None))))

-- what a name says of a client and a number of bytes
abbrev pub event_of_two : List ℕ → List ℕ → List ℕ → Option Event
event_of_two name client count =
    if bytes_eq name (codes "get")
    then option_and_then (λ c. option_map (λ n. Get c n) (number_to GET_BYTES count)) (number_to CLIENTS client)
    else None

abbrev pub event_of_words : List (List ℕ) → Option Event
event_of_words (name ∷ number ∷ []) = event_of_one name number
event_of_words (name ∷ client ∷ count ∷ []) = event_of_two name client count
event_of_words _ = None

-- what a line says, or none where it says nothing
unfoldable pub event_of : List ℕ → Option Event
event_of line =
    if is_like_feed line then (if is_utf8 line then Some (Line line) else None)
    else event_of_words (words line)
