use Rattle.std.proofs.lemmas.Result.{err_from_is_err_and}
use Rattle.ty_net.proofs.Networks.{bad_address, by_length}
use Rattle.ty_net.proofs.cidr.read_cidr.Goals as goal

pub returns-in_err-ip : goal.returns-in_err-ip
returns-in_err-ip c =
    let p = err_from_is_err_and c.from_residual.result c.from_residual.ensures.1 in
    rw (p.1, p.2) (bad_address c.args.text.now _ _ c.before-2.ensures c.in_err-ip.ensures)

pub returns-in_default : goal.returns-in_default
returns-in_default c = by_length c.args.text.now _ _ _ _ c.before-2.ensures c.after.ensures c.in_ok-ip.ensures c.in_default.ensures

pub returns : goal.returns
returns c = by_length c.args.text.now _ _ _ _ c.before-2.ensures c.after.ensures c.in_ok-ip.ensures c.in-Some.ensures
