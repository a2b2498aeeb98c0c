-- The printed text of what a client has rebuilt.
use Rattle.std.specs.Prelude.{ℕ, List, [], ◌++◌, length, codes, decimal, flat_map, Bool, if◌then◌else◌}
use Rattle.json.specs.Print.{quoted}
use Rattle.ty_base.specs.Feed.{Pairs}
use Rattle.ty_base.specs.Statuses.{status_text}
use Rattle.ty_client.specs.Rebuilt.{Rebuilt}

-- number, status and count of pairs, and the end of the line
abbrev pub standing : Rebuilt → List ℕ
standing a = decimal a.number ++ (codes " " ++ (status_text a.status ++ (codes " " ++ (decimal (length a.pairs) ++ codes "\n"))))

abbrev pub pair_line : List ℕ × List ℕ → List ℕ
pair_line p = codes "{\"key\":" ++ (quoted p.0 ++ (codes ",\"value\":" ++ (quoted p.1 ++ codes "}\n")))

-- in the order of the keys
abbrev pub pair_lines : Pairs → List ℕ
pair_lines m = flat_map pair_line m

abbrev pub at_text : Bool → Rebuilt → List ℕ
at_text brief a = codes "at " ++ (standing a ++ (if brief then [] else pair_lines a.pairs))

abbrev pub rebuilt_text : Bool → List Rebuilt → List ℕ
rebuilt_text brief ats = flat_map (at_text brief) ats
