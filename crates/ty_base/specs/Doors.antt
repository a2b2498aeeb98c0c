-- What a door tells, and what an accept and a return do to it.
use Rattle.std.specs.Prelude.{◌≡◌, ℕ, List, [], ◌∷◌, ◌++◌, Option, Some, Result, Ok, Err}
use Rattle.ty_base.specs.declared.outside.Failed.{Failed}
use Rattle.ty_base.specs.declared.door.Came.{Came}
use Rattle.ty_base.specs.declared.door.Came.TheVariants.{Link, Quiet, End}

-- the last answer, the link that was given last, as it was then, and the links that came back, each behind the link that
-- had been given last before, as it was then
pub record DoorSight (L : Type 0) : Type 0 where
  pub last : Option (Result (Came L) Failed)
  pub lent : Option L
  pub backs : List (L × L)

module _ {L : Type 0} where
  -- how many links an answer gives
  abbrev pub links_in : Result (Came L) Failed → ℕ
  links_in (Ok (Link l)) = 1
  links_in (Ok Quiet) = 0
  links_in (Ok End) = 0
  links_in (Err e) = 0

  -- the link that was given last, after an answer
  abbrev pub lent_after : Result (Came L) Failed → Option L → Option L
  lent_after (Ok (Link l)) lent = Some l
  lent_after (Ok Quiet) lent = lent
  lent_after (Ok End) lent = lent
  lent_after (Err e) lent = lent

  -- this was answered
  abbrev pub Accepts : Result (Came L) Failed → DoorSight L → DoorSight L → Type 0
  Accepts result a b = b ≡ record a { last = Some result; lent = lent_after result a.lent }

  -- this link came back
  abbrev pub TakesBack : L → DoorSight L → DoorSight L → Type 0
  TakesBack link a b = (first : L) × (a.lent ≡ Some first) × (b ≡ record a { backs = a.backs ++ (first, link) ∷ [] })
