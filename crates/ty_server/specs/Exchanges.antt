-- What is seen of a link, and what a call did to it.
use Rattle.std.specs.Prelude.{◌≡◌, ◌<◌, ◌≤◌, ◌⊎◌, ℕ, ◌+◌, true, List, [], ◌∷◌, ◌++◌, length, Option}
use Rattle.ty_base.specs.Causes.{Rose}
use Rattle.ty_base.specs.Links.{Coming, brings, rests, ends, Sight}
use Rattle.ty_base.specs.Told.{Told}

-- what a link tells, if anything, and how often it has failed
pub record LinkSeen : Type 0 where
  pub sight : Option Sight
  pub faults : ℕ

abbrev pub link_seen : Option Sight → ℕ → LinkSeen
link_seen sight faults = record { sight = sight; faults = faults }

-- how much a link will bring: each byte counts one, and each rest. Behind the end nothing comes
unfoldable pub left_in : List Coming → ℕ
left_in [] = 0
left_in (brings bytes ∷ rest) = length bytes + left_in rest
left_in (rests ∷ rest) = 1 + left_in rest
left_in (ends ∷ rest) = 0

-- the link was given `sent` and brought `heard`; no more is left than before, and an end that was taken stays taken
pub record Exchanges (sent heard : List ℕ) (a b : Sight) : Type 0 where
  pub gave : b.given ≡ a.given ++ sent
  pub came : b.brought ≡ a.brought ++ heard
  pub no_more : left_in b.coming ≤ left_in a.coming
  pub closed : a.ended ≡ true → b.ended ≡ true

-- the same where the link tells, and its count of faults hasn't fallen
pub record Exchanged (sent heard : List ℕ) (a b : LinkSeen) : Type 0 where
  pub told : Told (Exchanges sent heard) a.sight b.sight
  pub later : a.faults ≤ b.faults

-- the link's end was taken, where it tells
abbrev pub EndTaken : LinkSeen → LinkSeen → Type 0
EndTaken a b = Told (λ _ y. y.ended ≡ true) a.sight b.sight

-- the link's end was taken, or less is left
abbrev pub IsLess : Sight → Sight → Type 0
IsLess x y = (y.ended ≡ true) ⊎ (left_in y.coming < left_in x.coming)

-- less is left, but where the end was taken or the count rose
abbrev pub HasLess : LinkSeen → LinkSeen → Type 0
HasLess a b = Rose a.faults b.faults ⊎ Told IsLess a.sight b.sight
