-- Breadcrumbs that are published as a feed is read.
use Rattle.std.specs.Prelude.{◌≡◌, ℕ, ◌<◌, List, ◌++◌, length, map, replicate, Bool, true}
use Rattle.std.specs.List.{list_all}
use Rattle.ty_base.specs.declared.item.Item.{Item}
use Rattle.ty_base.specs.declared.entry.Entry.{Entry}
use Rattle.ty_base.specs.declared.limits.TheConstants.{INPUT_BYTES}
use Rattle.ty_base.specs.Feed.{book}
use Rattle.ty_crumb.specs.declared.crumb.Crumb.{Crumb}
use Rattle.ty_intake.specs.declared.batch.Closed.{Closed}
use Rattle.ty_intake.specs.Batches.{batches, batch_fits, joined}
use Rattle.ty_core.specs.declared.chain.Chain.{Chain}
use Rattle.ty_core.specs.declared.told.Told.{Told}
use Rattle.ty_core.specs.Run.{State, book_of}
use Rattle.ty_core.specs.Report.{news}
use Rattle.ty_core.specs.Held.{AreCrumbs, LastWithin, ChainStands}

-- the breadcrumbs stand for the book of these items
pub record CrumbsOf (crumbs : List Crumb) (items : List Item) : Type 0 where
  pub stand : AreCrumbs crumbs (book true items)
  pub cut : LastWithin crumbs (length items)

-- the batches are the last ones of a list of items, behind those that the breadcrumbs stand for
pub record AreOwed (crumbs : List Crumb) (closed : List Closed) : Type 0 where
  pub ended : Bool
  pub items : List Item
  pub done : List Closed
  pub whole : batches ended items ≡ done ++ closed
  pub few : length items < INPUT_BYTES
  pub fits : list_all batch_fits closed ≡ true
  pub crumbs_of : CrumbsOf crumbs (joined done)

-- more breadcrumbs, made at this time, stand for the longer book of more items
pub record ArePublished (old new : List Crumb) (now : ℕ) (before items : List Item) : Type 0 where
  pub crumbs_of : CrumbsOf new items
  pub entries : List Entry
  pub grown : book true items ≡ book true before ++ entries
  pub more : List Crumb
  pub whole : new ≡ old ++ more
  pub times : map (λ c. c.at) more ≡ replicate (length more) now

-- some run is behind a chain
abbrev pub HasChain : Chain → Type 0
HasChain chain = (s : State) × ChainStands chain s

-- the chain stands for a later state, and its new breadcrumbs were told
pub record ChainMoved (chain : Chain) (old new : State) (told : List Told) : Type 0 where
  pub stands : ChainStands chain new
  pub more : List Entry
  pub grown : book_of new ≡ book_of old ++ more
  pub told_is : told ≡ news old new
