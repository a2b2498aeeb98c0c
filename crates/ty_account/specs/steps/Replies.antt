-- What a step on an account's word tells.
use Rattle.ty_account.specs.declared.history.Mark.{Mark}
use Rattle.ty_account.specs.declared.history.Report.{Report}

abbrev pub Reply : Type 0 → Type 0
Reply X = Report (Mark X)
