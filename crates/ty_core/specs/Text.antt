-- The lines of a report.
use Rattle.std.specs.Prelude.{ℕ, List, ◌++◌, codes, decimal, flat_map, Option, None, Some}
use Rattle.ty_client.specs.Rebuilt.{Rebuilt}
use Rattle.ty_client.specs.Text.{standing, pair_lines}
use Rattle.ty_core.specs.declared.told.Told.{Told}
use Rattle.ty_core.specs.declared.told.Told.TheVariants.{Published, Ended, Opened, Present, Heard, Joined, Stepped, Pending, Waiting, TooSlow, Rebuilt as AtEnd, Still, Lost, NoHello, NoPong, Absent}

-- `client C`, and what is said of it
abbrev pub client_text : ℕ → List ℕ → List ℕ
client_text c what = codes "client " ++ (decimal c ++ (codes " " ++ what))

abbrev pub client_line : ℕ → List ℕ → List ℕ
client_line c what = client_text c (what ++ codes "\n")

abbrev pub number_line : ℕ → List ℕ → ℕ → List ℕ
number_line c what n = client_text c (what ++ (codes " " ++ (decimal n ++ codes "\n")))

-- since when, and when
abbrev pub drop_line : ℕ → List ℕ → ℕ → ℕ → List ℕ
drop_line c why since now =
    client_text c (codes "dropped " ++ (why ++ (codes " " ++ (decimal since ++ (codes " " ++ (decimal now ++ codes "\n"))))))

-- the line of a breadcrumb, and a line for each of its pairs
abbrev pub map_lines : ℕ → List ℕ → Rebuilt → List ℕ
map_lines c what a = client_text c (what ++ (codes " " ++ (standing a ++ pair_lines a.pairs)))

abbrev pub still_lines : ℕ → Option Rebuilt → List ℕ
still_lines c None = client_line c (codes "still none")
still_lines c (Some a) = map_lines c (codes "still") a

abbrev pub lines : Told → List ℕ
lines (Published a) = codes "crumb " ++ standing a
lines (Ended n) = codes "end " ++ (decimal n ++ codes "\n")
lines (Opened c) = client_line c (codes "open")
lines (Present c) = client_line c (codes "present")
lines (Heard c n) = number_line c (codes "heard") n
lines (Joined c n) = number_line c (codes "joined") n
lines (Stepped c n) = number_line c (codes "step") n
lines (Pending c n) = number_line c (codes "pending") n
lines (Waiting c) = client_line c (codes "waiting")
lines (TooSlow c since now) = drop_line c (codes "too-slow") since now
lines (AtEnd c a) = map_lines c (codes "at") a
lines (Still c held) = still_lines c held
lines (Lost c) = client_line c (codes "cut")
lines (NoHello c since now) = drop_line c (codes "no-hello") since now
lines (NoPong c since now) = drop_line c (codes "no-pong") since now
lines (Absent c) = client_line c (codes "absent")

abbrev pub report_text : List Told → List ℕ
report_text ts = flat_map lines ts
