use Rattle.std.proofs.Common.{sym, ◌∙◌}
use Rattle.ty_net.proofs.Networks.{two_ports, one_port}
use Rattle.ty_net.proofs.ports.read_ports.Goals as goal

pub returns-then-contains : goal.returns-then-contains
returns-then-contains c =
    c.ports_between.ensures
    ∙ two_ports c.args.text.now _ _ (sym c.contains.ensures.value ∙ c.if-contains.true) c.before-then-contains.ensures c.after.ensures

pub returns-else-contains : goal.returns-else-contains
returns-else-contains c = c.ports_between-else-contains.ensures ∙ one_port c.args.text.now (sym c.contains.ensures.value ∙ c.if-contains.false)
