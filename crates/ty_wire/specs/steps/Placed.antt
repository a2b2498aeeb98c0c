-- For private clauses: a text that is put into a buffer part by part.
use Rattle.std.specs.Prelude.{◌≡◌, ℕ, ◌+◌, ◌≤◌, List, ◌++◌, length, take, drop}
use Rattle.json.specs.Filled.{Placed}
use Rattle.json.specs.Print.{escape}

-- `whole` is to stand from `at` on: it is put as far as `end`, and what is left of it is `rest`
pub record PlacedSoFar (old new : List ℕ) (at end : ℕ) (whole rest : List ℕ) : Type 0 where
  pub bytes : take end new ++ rest ≡ take at old ++ whole
  pub moved : end + length rest ≡ at + length whole
  pub len : length new ≡ length old

-- the first n bytes of a text are put as they stand in a string
pub record PlacesPart (old new : List ℕ) (at : ℕ) (text : List ℕ) (n end : ℕ) : Type 0 where
  pub piece : List ℕ
  pub split : escape text ≡ piece ++ escape (drop n text)
  pub placed : Placed old new at piece end

-- a text is put that is at the front of the bytes as it stands in a string, and the rest is behind it
pub record ReadsPart (old new : List ℕ) (at : ℕ) (bytes rest : List ℕ) (end : ℕ) : Type 0 where
  pub text : List ℕ
  pub split : bytes ≡ escape text ++ rest
  pub placed : Placed old new at text end
  pub less : end + length rest ≤ at + length bytes

-- new, which may be longer than old, has xs behind the first `at` bytes of old, up to `end`
pub record Continued (old new : List ℕ) (at : ℕ) (xs : List ℕ) (end : ℕ) : Type 0 where
  pub bytes : take end new ≡ take at old ++ xs
  pub moved : end ≡ at + length xs
  pub within : end ≤ length new

-- `whole` is to stand there: it is put as far as `end`, and what is left of it is `rest`
pub record ContinuedSoFar (old new : List ℕ) (at end : ℕ) (whole rest : List ℕ) : Type 0 where
  pub bytes : take end new ++ rest ≡ take at old ++ whole
  pub moved : end + length rest ≡ at + length whole
  pub within : end ≤ length new
