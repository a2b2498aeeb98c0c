-- What a follower's step comes to, and two followers that meet.
use Rattle.std.specs.Prelude.{◌≡◌, ◌+◌, ◌++◌, ◌∷◌, [], true, false, List, length}
use mathlib.Core.List.{IsPrefix}
use Rattle.ty_base.specs.declared.entry.Entry.{Entry}
use Rattle.ty_account.specs.Known.{KnowsMore}
use Rattle.ty_crumb.specs.declared.crumb.Crumb.{Crumb}
use Rattle.ty_crumb.specs.Crumbs.{CrumbStands, world_of}
use Rattle.ty_chain.specs.declared.follower.Step.{Step}
use Rattle.ty_chain.specs.declared.follower.Step.TheVariants.{Stepped, Pending, Ended}
use Rattle.ty_chain.specs.Shown.{Shown}

-- the follower stays at its breadcrumb, and may come to know more
abbrev pub Stays : Shown → Shown → Type 0
Stays old new = KnowsMore old.known new.known × (new.crumb ≡ old.crumb)

-- the breadcrumb stands for all entries that are known
abbrev pub IsAtEnd : Shown → Type 0
IsAtEnd new = length new.known.entries ≡ new.crumb.number

-- the follower stands one number on, at a breadcrumb that stands for exactly one entry more of the account's list
pub record Moves (old new : Shown) : Type 0 where
  pub more : KnowsMore old.known new.known
  pub number : new.crumb.number ≡ old.crumb.number + 1
  pub entries : List Entry
  pub entry : Entry
  pub before : CrumbStands old.crumb entries
  pub now : CrumbStands new.crumb (entries ++ entry ∷ [])
  pub begins : IsPrefix (entries ++ entry ∷ []) new.known.entries

abbrev pub StepDone : Shown → Shown → Step → Type 0
StepDone old new Stepped = Moves old new
StepDone old new Pending = Stays old new × IsAtEnd new × (new.known.closed ≡ false)
StepDone old new Ended = Stays old new × IsAtEnd new × (new.known.closed ≡ true)

-- two breadcrumbs say the same, but for the time when they were made
pub record Alike (one two : Crumb) : Type 0 where
  pub number : one.number ≡ two.number
  pub cut : one.cut ≡ two.cut
  pub deltas : one.deltas ≡ two.deltas
  pub world : world_of one ≡ world_of two
