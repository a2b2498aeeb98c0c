-- Which entries a crumb stands for, what the next one adds, and the snapshot.
use Rattle.std.specs.Prelude.{◌≡◌, ◌≢◌, ℕ, ◌+◌, ◌*◌, Bool, true, false, List, [], ◌∷◌, length, map, Some, refl}
use Rattle.std.specs.List.{fold}
use Rattle.ty_base.specs.declared.entry.Entry.{Entry}
use Rattle.ty_base.specs.declared.delta.Delta.{Delta}
use Rattle.ty_base.specs.declared.delta.Kind.TheVariants.{New}
use Rattle.ty_base.specs.Feed.{Pairs, World, replay}
use Rattle.ty_map.specs.Heights.{greatest_height}
use Rattle.ty_map.specs.Shape.{pairs}
use Rattle.ty_crumb.specs.declared.crumb.Crumb.{Crumb}
use Rattle.ty_crumb.specs.declared.successor.Made.{Made}
use Rattle.ty_crumb.specs.declared.successor.Made.TheVariants.{Unchanged, Crumb as Next}
use Rattle.ty_crumb.specs.declared.successor.Followed.{Followed}
use Rattle.ty_crumb.specs.declared.successor.Followed.TheVariants.{Unchanged as GivenBack, Next as Following}

abbrev pub world_of : Crumb → World
world_of c = record { pairs = pairs c.pairs; status = c.status }

-- the cut and the deltas of the last entry, or 0 and none
abbrev pub last_cut : List Entry → ℕ
last_cut entries = fold (λ _ e. e.cut) 0 entries

abbrev pub last_deltas : List Entry → List Delta
last_deltas entries = fold (λ _ e. e.deltas) [] entries

-- the crumb stands for these entries: their number, the last one's cut and deltas, and the world that they leave
pub record CrumbStands (crumb : Crumb) (entries : List Entry) : Type 0 where
  pub number : crumb.number ≡ length entries
  pub cut : crumb.cut ≡ last_cut entries
  pub deltas : crumb.deltas ≡ last_deltas entries
  pub world : world_of crumb ≡ replay entries

-- What was made

abbrev pub is_unchanged : Made → Bool
is_unchanged Unchanged = true
is_unchanged (Next c) = false

abbrev pub IfNext : Made → (Crumb → Type 0) → Type 0
IfNext Unchanged P = Unit {0}
IfNext (Next c) P = P c

-- the entry of the new crumb, if there is one
abbrev pub entries_of : Made → List Entry
entries_of Unchanged = []
entries_of (Next c) = record { cut = c.cut; status = c.status; deltas = c.deltas } ∷ []

-- from the old entries to the new: nothing was made where they are the same, else the crumb stands for the new
abbrev pub IsMadeFor : List Entry → List Entry → Made → Type 0
IsMadeFor old new Unchanged = new ≡ old
IsMadeFor old new (Next c) = CrumbStands c new × (new ≢ old)

-- What was made of a crumb that was given up

abbrev pub made_of : Followed → Made
made_of (GivenBack c) = Unchanged
made_of (Following c) = Next c

abbrev pub IfGivenBack : Followed → (Crumb → Type 0) → Type 0
IfGivenBack (GivenBack c) P = P c
IfGivenBack (Following c) P = Unit {0}

-- how many nodes may be fresh behind so many updates of a map with so many pairs: for each update three for each level of the
-- highest tree that all these pairs allow, and three more
abbrev pub most_fresh : ℕ → ℕ → ℕ
most_fresh size updates = 3 * updates * (greatest_height (size + updates) + 1)

-- The snapshot

abbrev pub added : List ℕ → List ℕ → Delta
added k v = record { key = k; kind = New; value = Some v; told = refl }

-- all pairs, in the order of their keys, each as new
abbrev pub snapshot_of : Pairs → List Delta
snapshot_of m = map (λ p. added p.0 p.1) m
