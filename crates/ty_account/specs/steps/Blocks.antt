-- What a block owns, and what is had of one that is lent.
use Rattle.std.specs.Prelude.{ℕ, ◌≡◌, List, [], ◌∷◌}
use base.Fml.{Fml, ftrue, fsep, flent}
use denote.RattleType.{RattleType}
use denote.RawPtr.{Ptr}
use denote.Struct.Lending.{lent_at}
use Rattle.std.specs.Box.Ownership.{box_owns}
use Rattle.std.specs.declared.alloc.Global.{Global}
use Rattle.std.specs.contracts.impls.GlobalAllocator.TheImpl.{ghosts}

-- the handle of the heap, which is one value
abbrev pub heap : Global
heap = record { memory = record { seal = tt } }

-- the value x in a block at p, with the right to give it back to the heap
abbrev pub owned_block : (R : RattleType) → Ptr → R.Denot → Fml
owned_block R p x = box_owns (ghosts.dealloc_token heap) R p x

-- for this life a value may be read at p
abbrev pub lent : (R : RattleType) → ℕ → Ptr → R.Denot → Fml
lent R life p x = lent_at R p x (life ∷ [])

-- once this life is over the block at p is owned
abbrev pub deed : (R : RattleType) → ℕ → Ptr → R.Denot → Fml
deed R life p x = flent (life ∷ []) (owned_block R p x)

-- one thing for each of a row of values with their addresses
abbrev pub all_of : {X : Type 0} → (Ptr → X → Fml) → List (Ptr × X) → Fml
all_of F [] = ftrue
all_of F (l ∷ ls) = fsep (F l.0 l.1) (all_of F ls)

abbrev pub all_lent : (R : RattleType) → ℕ → List (Ptr × R.Denot) → Fml
all_lent R life = all_of (lent R life)

abbrev pub all_deeds : (R : RattleType) → ℕ → List (Ptr × R.Denot) → Fml
all_deeds R life = all_of (deed R life)

abbrev pub all_blocks : (R : RattleType) → List (Ptr × R.Denot) → Fml
all_blocks R = all_of (owned_block R)

-- the first of these blocks lies at p
abbrev pub IsFirst : {X : Type 0} → Ptr → List (Ptr × X) → Type 0
IsFirst p [] = ⊥
IsFirst p (l ∷ ls) = l.0 ≡ p
