-- How high a tree of so many pairs may be.
use Rattle.std.specs.Prelude.{ℕ, zero, suc, ◌+◌, ◌^◌, cond, leb}

-- the greatest number up to a limit whose power of 2 is at most n, or 0
abbrev pub greatest_power : ℕ → ℕ → ℕ
greatest_power n zero = 0
greatest_power n (suc k) = cond (leb (2 ^ suc k) n) (suc k) (greatest_power n k)

-- the greatest h with 2^h at most (count + 1)^2
unfoldable pub greatest_height : ℕ → ℕ
greatest_height count = greatest_power ((count + 1) ^ 2) ((count + 1) ^ 2)
