use Rattle.ty_net.proofs.Grammars.{network_is, network_read, network_once}
use Rattle.ty_net.proofs.laws.networks_are_those_of_the_grammar.Goals as goal

pub returns : goal.returns
returns c = record { read = network_is; every = network_read; one = network_once }
