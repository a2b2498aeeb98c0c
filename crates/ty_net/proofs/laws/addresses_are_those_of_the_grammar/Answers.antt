use Rattle.ty_net.proofs.Readings.{read_is, every_is_read, one_reading}
use Rattle.ty_net.proofs.laws.addresses_are_those_of_the_grammar.Goals as goal

pub returns : goal.returns
returns c = record { read = read_is; every = every_is_read; one = one_reading }
