-- When what all holders share, and a right, belong to what was seen.
use Rattle.ty_base.specs.declared.limits.TheConstants.{INPUT_BYTES}
use Rattle.std.specs.Prelude.{ℕ, ◌≡◌, ◌≤◌, true, false, List, length, Option, Some}
use Rattle.logbook.specs.Pages.{Book}
use Rattle.ty_account.specs.Known.{Known}
use Rattle.ty_account.specs.declared.history.Mark.{Mark}
use Rattle.ty_account.specs.declared.shared.Shared.{Shared}
use Rattle.ty_account.specs.steps.Histories.{known_of, is_legal}

-- it is what the holders of this account share
abbrev pub IsOf : {X : Type 0} → Shared X → Book → List ℕ → Type 0
IsOf shared book names = (shared.seen.book ≡ book) × (shared.seen.names ≡ names)

-- the right is held over a list that is known whole, and is open and not too long
abbrev pub HoldsWhole : {X : Type 0} → List ℕ → Option ℕ → Book → List ℕ → List (Mark X) → Known → Type 0
HoldsWhole right held book names log front = (right ≡ names) × (held ≡ Some (length log)) × (front ≡ known_of book names log) × (is_legal log ≡ true) × (front.closed ≡ false) × (length front.entries ≤ INPUT_BYTES)
