use Rattle.std.proofs.Common.{ℕ, ◌≤◌, List, [], length, take, subst, arith}
use Rattle.std.proofs.lemmas.List.{length-take}
use Rattle.ty_session.specs.declared.reason.Reason.TheVariants.{LinkFault}
use Rattle.ty_server.specs.Exchanges.{LinkSeen, link_seen, Exchanged}
use Rattle.ty_server.proofs.Given.{given_part}
use Rattle.ty_server.proofs.Taking.{exchanged_given, exchanged_same}
use Rattle.ty_server.proofs.Working.{leaves}
use Rattle.ty_server.proofs.giving.give_piece.Goals as goal

few : (n end : ℕ) (out : List ℕ) → n ≤ length (take end out) → n ≤ end
few n end out h = omega (arith, h, length-take end out)

pub returns-in-Ok-clause-part : goal.returns-in-Ok-clause-part
returns-in-Ok-clause-part g c =
    let n : ℕ = c.in-Ok.count in
    let end : ℕ = c.min-end.result in
    let a : LinkSeen = link_seen (g.L.Link.sight c.args.link.now) (g.L.Link.count c.args.link.now) in
    let b : LinkSeen = link_seen (g.L.Link.sight c.give.new.self) (g.L.Link.count c.give.new.self) in
    let ex : Exchanged (take n (take end c.args.session.now.out)) [] a b =
    subst (λ (o : List ℕ). Exchanged (take n (take end o)) [] a b) c.out-out.ensures
    (exchanged_given n (take end c.out-out.result.now) (g.L.Link.sight c.args.link.now) (g.L.Link.sight c.give.new.self) _ _ c.in-Ok.ensures.given c.in-Ok.ensures.cause.later) in
    λ now. given_part {A = Unit {0}} now a b c.args.session.now c.given.new.self tt n end (few n end c.out-out.result.now c.in-Ok.ensures.bound.0) ex c.given.ensures.gives

pub returns-in-Err-clause-part : goal.returns-in-Err-clause-part
returns-in-Err-clause-part g c = λ now. (
  [],
  leaves {A = Unit {0}} now _ _ c.args.session.now c.leave.new.session LinkFault c.leave.result
      (exchanged_same (g.L.Link.sight c.args.link.now) (g.L.Link.sight c.give.new.self) _ _ c.in-Err.ensures.kept c.in-Err.ensures.cause.later)
      (λ _. c.in-Err.ensures.cause.failed) c.leave.ensures.gone c.leave.ensures.leaves,
)
