-- What an object of the outside tells of itself, if it tells anything.
use Rattle.std.specs.Prelude.{◌≡◌, ⊤, Option, None, Some}

-- where the object tells, it still tells afterwards, and what it told and tells are in this relation
abbrev pub Told : {S : Type 0} → (S → S → Type 0) → Option S → Option S → Type 0
Told relates None after = ⊤
Told relates (Some a) None = ⊥
Told relates (Some a) (Some b) = relates a b

-- it tells what it told
abbrev pub IsSame : {S : Type 0} → S → S → Type 0
IsSame a b = b ≡ a
