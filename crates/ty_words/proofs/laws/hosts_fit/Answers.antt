use Rattle.ty_words.proofs.Fits.{command_fits}
use Rattle.ty_words.proofs.laws.hosts_fit.Goals as goal

pub returns : goal.returns
returns c = command_fits
