-- A breadcrumb beside what is known of the account.
use Rattle.std.specs.Prelude.{List}
use mathlib.Core.List.{IsPrefix}
use Rattle.ty_base.specs.declared.entry.Entry.{Entry}
use Rattle.ty_account.specs.Known.{Known}
use Rattle.ty_crumb.specs.declared.crumb.Crumb.{Crumb}
use Rattle.ty_crumb.specs.Crumbs.{CrumbStands}

pub record Shown : Type 0 where
  pub crumb : Crumb
  pub known : Known

abbrev pub shown_at : Crumb → Known → Shown
shown_at crumb known = record { crumb = crumb; known = known }

-- the breadcrumb stands for a prefix of what is known
pub record Within (crumb : Crumb) (known : Known) : Type 0 where
  pub entries : List Entry
  pub begins : IsPrefix entries known.entries
  pub stands : CrumbStands crumb entries

-- the entry that a breadcrumb adds
abbrev pub entry_by : Crumb → Entry
entry_by c = record { cut = c.cut; status = c.status; deltas = c.deltas }
