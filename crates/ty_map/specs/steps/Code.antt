-- A tree's shape as it is stored: its nodes, each before its sides.
use Rattle.std.specs.Prelude.{◌≡◌, ℕ, List, [], ◌∷◌, ◌++◌, Option, Some, None, refl}
use Rattle.std.proofs.Common.{ap, sym, ◌∙◌, append_assoc}
use Rattle.std.specs.Coded.{Coded, code_by, coded×, coded_ℕ, coded_list, coded_option}
use Rattle.ty_map.specs.Shape.{Shape, Empty, Fork}

abbrev Node : Type 0
Node = Option ((List ℕ × List ℕ) × ℕ)

abbrev nodes_of : Shape → List Node
nodes_of Empty = None ∷ []
nodes_of (Fork l e r h) = Some (e, h) ∷ nodes_of l ++ nodes_of r

abbrev forked : List ℕ × List ℕ → ℕ → List Shape → List Shape
forked e h [] = []
forked e h (l ∷ []) = []
forked e h (l ∷ r ∷ s) = Fork l e r h ∷ s

abbrev read : List Node → List Shape
read [] = []
read (None ∷ ns) = Empty ∷ read ns
read (Some n ∷ ns) = forked n.0 n.1 (read ns)

abbrev first : List Shape → Shape
first [] = Empty
first (t ∷ ts) = t

read_nodes : (t : Shape) (ns : List Node) → read (nodes_of t ++ ns) ≡ t ∷ read ns
read_nodes Empty ns = refl
read_nodes (Fork l e r h) ns =
    ap (λ xs. forked e h (read xs)) (append_assoc (nodes_of l) (nodes_of r) ns) ∙ ap (forked e h) (read_nodes l (nodes_of r ++ ns) ∙ ap (λ s. l ∷ s) (read_nodes r ns))

append_nil : (xs : List Node) → xs ++ [] ≡ xs
append_nil [] = refl
append_nil (x ∷ xs) = ap (λ z. x ∷ z) (append_nil xs)

pub read_back : (t : Shape) → first (read (nodes_of t)) ≡ t
read_back t = ap (λ xs. first (read xs)) (sym (append_nil (nodes_of t))) ∙ ap first (read_nodes t [])

abbrev pub shape_code : Coded Shape
shape_code = code_by (List Node) (coded_list (coded_option (coded× (coded× (coded_list coded_ℕ) (coded_list coded_ℕ)) coded_ℕ))) nodes_of (λ ns. first (read ns)) read_back
