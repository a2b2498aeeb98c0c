-- What a worker's run does to its door.
use Rattle.std.specs.Prelude.{◌≡◌, ◌≤◌, ◌⊎◌, ⊤, ℕ, suc, Bool, true, List, [], ◌∷◌, ◌++◌, Option, Some, Ok}
use Rattle.std.specs.List.{All}
use Rattle.ty_account.specs.Known.{Known}
use Rattle.ty_base.specs.Doors.{DoorSight}
use Rattle.ty_base.specs.Links.{Sight}
use Rattle.ty_base.specs.Told.{Told}
use Rattle.ty_base.specs.declared.door.Came.TheVariants.{Quiet, End}
use Rattle.ty_server.specs.Exchanges.{link_seen}
use Rattle.ty_server.specs.Served.{GivenFront, HasEnded}
use Rattle.ty_server.specs.declared.worker.TheConstants.{MOST_LINKS}

-- P holds of all but at most n of the elements
abbrev pub AllBut : {X : Type 0} → (X → Type 0) → ℕ → List X → Type 0
AllBut P n [] = ⊤
AllBut P n (x ∷ xs) = (P x × AllBut P n xs) ⊎ ((m : ℕ) × (n ≡ suc m) × AllBut P m xs)

-- of what the links tell and how often they failed, over the clock's moments and what is known of the account
module _ {L : Type 0} (sight : L → Option Sight) (count : L → ℕ) (gives : ℕ → Type 0) (known : Known) where
  -- a link as it was given and as it came back: it was given the first bytes of a talk over the list, and its count hasn't fallen
  pub record WasServed (back : L × L) : Type 0 where
    pub later : count back.0 ≤ count back.1
    pub given : Told (GivenFront known.entries) (sight back.0) (sight back.1)

  -- and its connection has ended
  abbrev pub WasEnded : L × L → Type 0
  WasEnded back = HasEnded gives known (link_seen (sight back.0) (count back.0)) (link_seen (sight back.1) (count back.1))

  -- each link that came back in between was served, and all but at most so many have ended
  pub record WorksAt (short : ℕ) (x y : DoorSight L) : Type 0 where
    pub more : List (L × L)
    pub backs : y.backs ≡ x.backs ++ more
    pub served : All WasServed more
    pub ended : AllBut WasEnded short more

-- why a run ends: nothing more comes, nothing came and the list is known to be closed, or so many links came back
abbrev pub IsRunOver : {L : Type 0} → Bool → ℕ → DoorSight L → DoorSight L → Type 0
IsRunOver closed n x y =
    (y.last ≡ Some (Ok End)) ⊎ ((y.last ≡ Some (Ok Quiet)) × (closed ≡ true)) ⊎ (n ≡ MOST_LINKS)
