use Rattle.ty_select.proofs.Back.{read_back}
use Rattle.ty_select.proofs.laws.printed_reads_back.Goals as goal

pub returns : goal.returns
returns c = read_back
