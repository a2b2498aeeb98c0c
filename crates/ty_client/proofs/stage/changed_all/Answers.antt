use Rattle.std.proofs.Common.{◌≡◌, true, sym, subst, arith}
use Rattle.std.proofs.lemmas.Grind.{common_steps}
use Rattle.std.specs.List.{fold}
use Rattle.ty_base.specs.Feed.{Pairs, changed}
use Rattle.ty_base.specs.Limits.{key_fits, value_fits, pairs_fit}
use Rattle.ty_map.specs.Shape.{pairs}
use Rattle.ty_wire.proofs.Changed.{changes-pass}
use Rattle.ty_client.proofs.stage.changed_all.Goals as goal

pub returns-clause-small : goal.returns-clause-small
returns-clause-small c =
    let e : pairs c.loop-delta.staged ≡ fold changed (pairs c.args.pairs) c.args.deltas.now = grind (arith, common_steps) in
    subst (λ (m : Pairs). pairs_fit m ≡ true) (sym e) (changes-pass key_fits value_fits c.args.deltas.now (pairs c.args.pairs) c.requires.limits c.requires.small)
