use Rattle.ty_select.proofs.Printable.{read_is_printable}
use Rattle.ty_select.proofs.laws.what_is_read_is_printable.Goals as goal

pub returns : goal.returns
returns c = read_is_printable
