use Rattle.ty_net.proofs.Grammars.{ports_are, ports_read, ports_once, reversed_is, reversed_read}
use Rattle.ty_net.proofs.laws.ports_are_those_of_the_grammar.Goals as goal

pub returns : goal.returns
returns c = record { read = ports_are; every = ports_read; one = ports_once; reversed_read = reversed_is; reversed_every = reversed_read }
