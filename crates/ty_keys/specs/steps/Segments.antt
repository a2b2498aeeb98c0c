-- The segments that the code holds as stretches of a text.
use Rattle.std.specs.Prelude.{ℕ, Bool, false, ◌==◌, List, [], ◌∷◌}
use Rattle.std.specs.Borrow.{Bor}
use Rattle.ty_keys.specs.declared.span.Span.{Span}
use Rattle.ty_keys.specs.Faults.{Segment, segments}

-- the segment that a stretch is
abbrev pub segment : Span → Segment
segment s = (s.at, s.bytes.now)

-- the segments in a stretch
abbrev pub segments_in : Span → List Segment
segments_in s = segments s.at s.bytes.now

-- the text begins with a slash
abbrev pub begins : List ℕ → Bool
begins [] = false
begins (b ∷ bs) = b == 47

abbrev pub net_view : Bor (List ℕ) × ℕ → List ℕ × ℕ
net_view n = (n.0.now, n.1)
