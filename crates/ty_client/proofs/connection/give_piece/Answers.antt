use Rattle.std.proofs.Common.{ℕ, ◌≤◌, List, length, take, subst, arith}
use Rattle.std.proofs.lemmas.List.{length-take}
use Rattle.std.specs.Prelude.{Option}
use Rattle.ty_base.specs.Links.{Sight, IsGiven}
use Rattle.ty_base.specs.Told.{Told}
use Rattle.ty_client.specs.steps.Links.{opened_with}
use Rattle.ty_client.proofs.Linked.{gives_piece, link_fails}
use Rattle.ty_client.proofs.connection.give_piece.Goals as goal

few : (n end : ℕ) (up : List ℕ) → n ≤ length (take end up) → n ≤ end
few n end up h = omega (arith, h, length-take end up)

pub returns-in-Ok-clause-came : goal.returns-in-Ok-clause-came
returns-in-Ok-clause-came g c = λ brief sink.
    let n : ℕ = c.in-Ok.count in
    let end : ℕ = c.min-end.result in
    let x : Option Sight = g.L.Link.sight c.args.link.now in
    let y : Option Sight = g.L.Link.sight c.give.new.self in
    let given = subst (λ (u : List ℕ). Told (IsGiven n (take end u)) x y) c.up-up.ensures c.in-Ok.ensures.given in
    gives_piece brief c.args.rebuild.now c.up_given.new.self x y _ _ sink n end (few n end c.up-up.result.now c.in-Ok.ensures.bound.0) given c.in-Ok.ensures.cause.later c.up_given.ensures

pub returns-in-Err-clause-came : goal.returns-in-Err-clause-came
returns-in-Err-clause-came g c = λ brief sink host old goes.
    link_fails (Unit {0}) (opened_with host brief old) c.args.rebuild.now (g.L.Link.sight c.args.link.now) (g.L.Link.sight c.give.new.self) _ _ sink _ goes c.in-Err.ensures.kept c.in-Err.ensures.cause.later c.in-Err.ensures.cause.failed
