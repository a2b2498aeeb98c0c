-- What an opening and a publisher are, and what a batch comes to.
use Rattle.std.specs.Prelude.{ℕ, ◌≡◌, ◌+◌, Bool, true, false, List}
use Rattle.std.specs.List.{fold}
use Rattle.ty_base.specs.declared.item.Item.{Item}
use Rattle.ty_base.specs.Feed.{after}
use Rattle.ty_account.specs.Known.{Name, Known}
use Rattle.ty_crumb.specs.declared.crumb.Crumb.{Crumb}
use Rattle.ty_crumb.specs.Crumbs.{world_of}
use Rattle.ty_chain.specs.declared.publisher.Published.{Published}
use Rattle.ty_chain.specs.declared.publisher.Published.TheVariants.{Crumb as Next, Unchanged}

-- which account was opened, and when breadcrumb 0 was made
pub record Opened : Type 0 where
  pub account : Name
  pub at : ℕ

abbrev pub opened : Name → ℕ → Opened
opened account at = record { account = account; at = at }

-- the last breadcrumb, the whole list, and how many items were published
pub record Issued : Type 0 where
  pub crumb : Crumb
  pub known : Known
  pub cut : ℕ

abbrev pub issued : Crumb → Known → ℕ → Issued
issued crumb known cut = record { crumb = crumb; known = known; cut = cut }

abbrev pub is_nothing_new : Published → Bool
is_nothing_new (Next number) = false
is_nothing_new Unchanged = true

-- the breadcrumb with this number is the next one, of that time, and its world is the fold of the items over the last one's; or it is the last one
abbrev pub IsPublished : Published → List Item → ℕ → Crumb → Crumb → Type 0
IsPublished (Next number) items now old new = (new.number ≡ number) × (number ≡ old.number + 1) × (new.at ≡ now) × (world_of new ≡ fold after (world_of old) items)
IsPublished Unchanged items now old new = new ≡ old
