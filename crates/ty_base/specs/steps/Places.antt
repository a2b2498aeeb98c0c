-- A link in memory that stands at a place of its pieces.
use Rattle.std.specs.Prelude.{ℕ, Bool, true, ◌&&◌, nat_lt, List, [], ◌∷◌, ◌++◌, length, take, drop, flat_map}
use Rattle.std.specs.List.{list_all}
use Rattle.ty_base.specs.Links.{Coming, rests, ends, pieces_left}
use Rattle.ty_base.specs.MemoryLinks.{coming_of}
use Rattle.ty_base.specs.declared.piece.Piece.{Piece}
use Rattle.ty_base.specs.declared.piece.Piece.TheVariants.{Bytes, Quiet, End}

-- the bytes of a piece
abbrev pub piece_bytes : Piece → List ℕ
piece_bytes (Bytes v) = v.items
piece_bytes Quiet = []
piece_bytes End = []

-- a piece that isn't dropped at the making
abbrev pub is_real : Piece → Bool
is_real (Bytes v) = nat_lt 0 (length v.items)
is_real Quiet = true
is_real End = true

-- what the pieces will bring after so many bytes of the first
abbrev pub coming_from : ℕ → List Piece → List Coming
coming_from at [] = []
coming_from at (Bytes v ∷ rest) = pieces_left (drop at v.items) (coming_of rest)
coming_from at (Quiet ∷ rest) = rests ∷ coming_of rest
coming_from at (End ∷ rest) = ends ∷ coming_of rest

-- so many bytes of the first piece
abbrev pub front_of : ℕ → List Piece → List ℕ
front_of at [] = []
front_of at (p ∷ rest) = take at (piece_bytes p)

-- the bytes of all pieces before one, and so many bytes of that one
abbrev pub brought_at : List Piece → ℕ → ℕ → List ℕ
brought_at pieces next at = flat_map piece_bytes (take next pieces) ++ front_of at (drop next pieces)

-- the first piece has bytes left, and those behind it have some
abbrev pub has_left : ℕ → List Piece → Bool
has_left at [] = true
has_left at (Bytes v ∷ rest) = nat_lt at (length v.items) && list_all is_real rest
has_left at (Quiet ∷ rest) = list_all is_real rest
has_left at (End ∷ rest) = list_all is_real rest
