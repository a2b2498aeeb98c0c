-- What the definitions of Feed come to.
use Rattle.std.specs.Prelude.{◌≡◌, ◌≢◌, ◌<◌, ◌≤◌, ℕ, Bool, true, false, List, [], ◌∷◌, length, Option, None, Some, reverse}
use Rattle.std.specs.List.{find}
use Rattle.std.specs.Str.{bytes_eq}
use Rattle.ty_base.specs.declared.item.Item.{Item}
use Rattle.ty_base.specs.declared.item.Item.TheVariants.{Put, Del, State, Mark}
use Rattle.ty_base.specs.declared.status.Status.{Status}
use Rattle.ty_base.specs.declared.status.Status.TheVariants.{Wait}
use Rattle.ty_base.specs.Feed.{is_closing, world_at}

-- the item puts or removes this key
abbrev pub is_about : List ℕ → Item → Bool
is_about q (Put k v) = bytes_eq q k
is_about q (Del k) = bytes_eq q k
is_about q (State s) = false
is_about q Mark = false

abbrev pub put_by : Option Item → Option (List ℕ)
put_by (Some (Put k v)) = Some v
put_by _ = None

-- the value of the last item about a key, if that is a put
abbrev pub last_put : List ℕ → List Item → Option (List ℕ)
last_put q items = put_by (find (is_about q) (reverse items))

abbrev pub is_state : Item → Bool
is_state (State s) = true
is_state (Put k v) = false
is_state (Del k) = false
is_state Mark = false

abbrev pub status_by : Option Item → Status
status_by (Some (State s)) = s
status_by _ = Wait

-- the status of the last status item, or `wait-for-ready` where there is none
abbrev pub last_state : List Item → Status
last_state items = status_by (find is_state (reverse items))

-- p is the first closing after c at which the world differs from that at c
pub record IsNextCut (ended : Bool) (items : List Item) (c p : ℕ) : Type 0 where
  pub later : c < p
  pub closes : is_closing ended items p ≡ true
  pub differs : world_at items c ≢ world_at items p
  pub first : (q : ℕ) → c < q → q < p → is_closing ended items q ≡ true → world_at items c ≡ world_at items q

-- each cut of the list is the next one, and after the last no closing differs
abbrev pub AllNext : Bool → List Item → ℕ → List ℕ → Type 0
AllNext ended items c [] = (q : ℕ) → c < q → q ≤ length items → is_closing ended items q ≡ true → world_at items c ≡ world_at items q
AllNext ended items c (p ∷ ps) = IsNextCut ended items c p × AllNext ended items p ps
