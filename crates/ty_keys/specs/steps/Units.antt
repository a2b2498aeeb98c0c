-- The bytes of a part, one after another.
use Rattle.std.specs.Prelude.{ℕ, ◌+◌, ◌&&◌, ◌==◌, [], ◌∷◌, Result, Ok, Err, if◌then◌else◌}
use Rattle.ty_keys.specs.declared.key.KeyFault.{KeyFault}
use Rattle.ty_keys.specs.declared.key.KeyFault.TheVariants.{EmptyPart, BadByte, BadEscape}
use Rattle.ty_keys.specs.Faults.{Segment}
use Rattle.ty_keys.specs.Grammar.{is_plain}

-- the byte that an escape stands for, of which the segment stands behind the %, and what follows
abbrev pub escape_at : ℕ → Segment → Result (ℕ × Segment) KeyFault
escape_at percent (at, []) = Err (BadEscape percent)
escape_at percent (at, b ∷ []) = Err (BadEscape percent)
escape_at percent (at, b ∷ c ∷ bs) =
    if (b == 50) && (c == 53) then Ok (37, (at + 2, bs)) else (
    if (b == 50) && (c == 102) then Ok (47, (at + 2, bs)) else Err (BadEscape percent))

-- the byte that the next bytes stand for, and what follows
abbrev pub unit_at : Segment → Result (ℕ × Segment) KeyFault
unit_at (at, []) = Err (EmptyPart at)
unit_at (at, b ∷ bs) =
    if b == 37 then escape_at at (at + 1, bs) else (
    if is_plain b then Ok (b, (at + 1, bs)) else Err (BadByte at))
