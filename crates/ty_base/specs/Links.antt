-- What a link tells, and what a take and a give do to it.
use Rattle.std.specs.Prelude.{◌≡◌, ◌<◌, ◌≤◌, ℕ, Bool, true, List, [], ◌∷◌, ◌++◌, take, ⊤}
use Rattle.ty_base.specs.declared.link.Took.{Took}
use Rattle.ty_base.specs.declared.link.Took.TheVariants.{Bytes, Quiet, End}

-- one piece of what a link will bring: bytes, a rest, or the end
pub data Coming : Type 0 where
  brings : List ℕ → Coming
  rests : Coming
  ends : Coming

-- what a link was given, what it brought and will bring, and whether its end was taken
pub record Sight : Type 0 where
  pub given : List ℕ
  pub brought : List ℕ
  pub coming : List Coming
  pub ended : Bool

-- what is left of a piece of which bytes were taken, if anything is, and then the other pieces
abbrev pub pieces_left : List ℕ → List Coming → List Coming
pieces_left [] rest = rest
pieces_left (x ∷ xs) rest = brings (x ∷ xs) ∷ rest

-- nothing comes any more
abbrev pub IsOver : List Coming → Type 0
IsOver [] = ⊤
IsOver (ends ∷ rest) = ⊤
IsOver (rests ∷ rest) = ⊥
IsOver (brings bytes ∷ rest) = ⊥

-- what was taken is the front of a buffer: bytes of the first piece, or a rest, or the end, which stays
abbrev pub Takes : Took → List ℕ → Sight → Sight → Type 0
Takes (Bytes n) buf a b =
    (more : List ℕ) × (rest : List Coming)
    × (a.coming ≡ brings (take n buf ++ more) ∷ rest)
    × (b ≡ record a { brought = a.brought ++ take n buf; coming = pieces_left more rest })
Takes Quiet buf a b = (rest : List Coming) × (a.coming ≡ rests ∷ rest) × (b ≡ record a { coming = rest })
Takes End buf a b = IsOver a.coming × (b ≡ record a { ended = true })

-- the bytes that were taken fit into so much room, and there is one
abbrev pub FitsIn : ℕ → Took → Type 0
FitsIn room (Bytes n) = (0 < n) × (n ≤ room)
FitsIn room Quiet = ⊤
FitsIn room End = ⊤

-- so many bytes of the front of a piece were given
abbrev pub IsGiven : ℕ → List ℕ → Sight → Sight → Type 0
IsGiven n piece a b = b ≡ record a { given = a.given ++ take n piece }
