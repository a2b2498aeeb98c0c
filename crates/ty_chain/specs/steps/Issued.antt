-- What a publisher keeps.
use Rattle.std.specs.Prelude.{ℕ, ◌≡◌, ◌≤◌, ◌++◌, ◌∷◌, [], false}
use Rattle.ty_account.specs.Known.{Known, Standpoint, known}
use Rattle.ty_crumb.specs.declared.crumb.Crumb.{Crumb}
use Rattle.ty_crumb.specs.Crumbs.{CrumbStands}
use Rattle.ty_chain.specs.Shown.{entry_by}
use Rattle.ty_chain.specs.Publishing.{Issued, issued}

-- the breadcrumb stands for the whole list, which is open, and it counts no more items and entries than were published
pub record IsIssued (i : Issued) : Type 0 where
  pub stands : CrumbStands i.crumb i.known.entries
  pub is_open : i.known.closed ≡ false
  pub behind : i.crumb.cut ≤ i.cut
  pub few : i.crumb.number ≤ i.cut

-- what is issued once the list grew by the entry of the next breadcrumb
abbrev pub grown : Crumb → Known → ℕ → Issued
grown next k cut = issued next (known k.account (k.entries ++ entry_by next ∷ []) false) cut

-- the spot is at the end of the list
abbrev pub IsAtEnd : {X : Type 0} → Known → Standpoint X → Type 0
IsAtEnd k spot = (spot.account ≡ k.account) × (spot.entries ≡ k.entries)
