use Rattle.ty_select.proofs.Places.{bad_is_placed, too_deep_is_placed}
use Rattle.ty_select.proofs.laws.faults_stand_where_no_selector_goes_on.Goals as goal

pub returns-clause-bad : goal.returns-clause-bad
returns-clause-bad c = bad_is_placed

pub returns-clause-too_deep : goal.returns-clause-too_deep
returns-clause-too_deep c = too_deep_is_placed
