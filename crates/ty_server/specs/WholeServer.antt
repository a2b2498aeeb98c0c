-- What serving at all doors comes to.
use Rattle.std.specs.Prelude.{◌≡◌, ◌≤◌, ◌+◌, ⊤, ℕ, Bool, true, false, List, [], ◌∷◌, sum_by, Option, None, Some, if◌then◌else◌}
use Rattle.ty_account.specs.Known.{Known}
use Rattle.ty_base.specs.Causes.{Rose}
use Rattle.ty_base.specs.Doors.{DoorSight}
use Rattle.ty_base.specs.Links.{Sight}
use Rattle.ty_base.specs.Told.{Told}
use Rattle.ty_server.specs.Workers.{WorksAt, IsRunOver}
use Rattle.ty_server.specs.declared.worker.TheConstants.{MOST_LINKS}
use Rattle.ty_server.specs.declared.server.Served.{Served}

-- what a worker's run came to: how many connections it dropped for want of memory, and whether its door failed
pub record Run : Type 0 where
  pub short : ℕ
  pub failed : Bool

-- the place of the first run whose door failed, behind so many others
abbrev pub first_failed : ℕ → List Run → Option ℕ
first_failed before [] = None
first_failed before (r ∷ rs) = if r.failed then Some before else first_failed (before + 1) rs

-- of what doors and links tell and count, over the clock's moments
module _ {D L : Type 0} (gave got count : D → ℕ) (sight : D → Option (DoorSight L)) (link : L → Option Sight) (faults : L → ℕ) (gives : ℕ → Type 0) where
  -- what a run did to its door: each link that the door gave came back, was given the first bytes of a talk over this list, and
  -- has ended, but for so many
  pub record IsManned (known : Known) (run : Run) (a b : D) : Type 0 where
    pub back : gave b + got a ≡ gave a + got b
    pub few : got a + run.short ≤ got b
    pub most : got b ≤ got a + MOST_LINKS
    pub later : count a ≤ count b
    pub cause : run.failed ≡ true → Rose (count a) (count b)
    pub ends : run.failed ≡ false → (n : ℕ) × (got a + n ≡ got b) × Told (IsRunOver known.closed n) (sight a) (sight b)
    pub served : Told (WorksAt link faults gives known run.short) (sight a) (sight b)

  -- a run at each of these doors, which stand in the same order as before
  abbrev pub AreManned : Known → List Run → List D → List D → Type 0
  AreManned known [] [] [] = ⊤
  AreManned known (r ∷ rs) (x ∷ xs) (y ∷ ys) = IsManned known r x y × AreManned known rs xs ys
  AreManned known [] [] (y ∷ ys) = ⊥
  AreManned known [] (x ∷ xs) ys = ⊥
  AreManned known (r ∷ rs) [] ys = ⊥
  AreManned known (r ∷ rs) (x ∷ xs) [] = ⊥

  -- what the whole server did to its doors, over the list that it knows at last
  pub record IsServedByAll (served : Served) (xs ys : List D) : Type 0 where
    pub runs : List Run
    pub manned : AreManned served.front runs xs ys
    pub door : served.door ≡ first_failed 0 runs
    pub short : served.short ≡ sum_by (λ r. r.short) runs
