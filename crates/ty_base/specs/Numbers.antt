-- Numbers as decimal digits.
use Rattle.std.specs.Prelude.{ℕ, ◌+◌, ◌-◌, ◌*◌, ◌^◌, Bool, false, not, ◌&&◌, ◌==◌, ◌≡◌, ◌<◌, length, slice_index, nat_lt, List, [], ◌∷◌, Option, None, Some, if◌then◌else◌}
use Rattle.std.specs.Char.{is_ascii_digit}
use Rattle.std.specs.Str.{all_ascii_digits}

-- the number that digits write behind those of n
abbrev pub value_after : ℕ → List ℕ → ℕ
value_after n [] = n
value_after n (d ∷ ds) = value_after (10 * n + (d - 48)) ds

-- decimal digits, at least one, and no 0 before another
abbrev pub is_numeral : List ℕ → Bool
is_numeral [] = false
is_numeral (d ∷ []) = is_ascii_digit d
is_numeral (d ∷ e ∷ ds) = not (d == 48) && all_ascii_digits (d ∷ e ∷ ds)

-- n where it is below 2^64
abbrev pub within_64_bits : ℕ → Option ℕ
within_64_bits n = if nat_lt n (2 ^ 64) then Some n else None

-- the number below 2^64 that a numeral writes
unfoldable pub read_number : List ℕ → Option ℕ
read_number text = if is_numeral text then within_64_bits (value_after 0 text) else None

-- for a private clause: a text may be a numeral as far as its first byte and its length say
abbrev pub BeginsNumeral : List ℕ → Type 0
BeginsNumeral text = (0 < length text) × (slice_index text 0 ≡ 48 → length text ≡ 1)
