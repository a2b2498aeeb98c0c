-- What the book keeps beside the history, and what is had of it.
-- The right to enter is a ghost number, the history's length, of which the book keeps one part and the pen the other. Nobody
-- changes it without both. The right to read a node can be had twice. The deeds to the nodes are there once: the book keeps
-- them until the last holder takes them, and leaves the last right for them.
use Rattle.std.specs.Prelude.{ℕ, ◌≡◌, Bool, true, false, List, [], ◌∷◌, length, Option, None, Some}
use base.Fraction.{full_share}
use base.Share.{quarter, three_quarters}
use base.Fml.{Fml, ftrue, fsep, fex}
use denote.RattleType.{RattleType}
use Rattle.logbook.specs.Kept.{part, fact}
use Rattle.ty_account.specs.contracts.node.Place as Place
use Rattle.ty_account.specs.declared.history.Mark.{Mark}
use Rattle.ty_account.specs.steps.Replies.{Reply}
use Rattle.ty_account.specs.steps.Blocks.{all_lent, all_deeds}
use Rattle.ty_account.specs.steps.Histories.{nodes_in}

-- clients keep two names: that of the ghost numbers, and the life for which the nodes are lent
abbrev pub number_of : List ℕ → ℕ
number_of [] = 0
number_of (n ∷ ns) = n

abbrev pub life_of : List ℕ → ℕ
life_of [] = 0
life_of (n ∷ ns) = number_of ns

-- the pen's part
abbrev pub right_owns : List ℕ → Option ℕ → Fml
right_owns names None = ftrue
right_owns names (Some n) = part (number_of names) 0 three_quarters n

-- the right of the last holder
abbrev pub last_owns : List ℕ → Fml
last_owns names = part (number_of names) 1 full_share 0

module _ (R : RattleType) where
  abbrev pub Marks : Type 0
  Marks = List (Mark R.Denot)

  -- the right to read each node
  abbrev pub rights : List ℕ → Marks → Fml
  rights names h = all_lent (Place.the_row R) (life_of names) (nodes_in h)

  -- the deed to each node
  abbrev pub deeds : List ℕ → Marks → Fml
  deeds names h = all_deeds (Place.the_row R) (life_of names) (nodes_in h)

  -- the deeds, or what was left for them
  abbrev pub owed : List ℕ → Marks → Bool → Fml
  owed names h true = last_owns names
  owed names h false = deeds names h

  abbrev pub kept : List ℕ → Marks → Fml
  kept names h = fsep (part (number_of names) 0 quarter (length h)) (fsep (rights names h) (fex Bool (owed names h)))

  -- a look gains the right to read each node that is there
  abbrev pub reading : List ℕ → Reply R.Denot → Fml
  reading names reply = rights names reply.all

  -- the last holder gains the deeds
  abbrev pub taking : List ℕ → Reply R.Denot → Fml
  taking names reply = deeds names reply.all

-- a step that was made with the right found the history as long as the right says, and leaves the right at its new length
abbrev pub entering : {X : Type 0} → List ℕ → List (Mark X) → Reply X → Fml
entering names about reply = fsep (fact (reply.found ≡ length about)) (right_owns names (Some (length reply.all)))
