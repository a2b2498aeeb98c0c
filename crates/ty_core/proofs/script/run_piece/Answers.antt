use Rattle.std.proofs.Common.{◌++◌, refl}
use Rattle.ty_base.specs.Devices.{Output}
use Rattle.ty_core.specs.steps.Scripts.{still}
use Rattle.ty_core.specs.declared.script.Script.{Script}
use Rattle.ty_core.proofs.ScriptFeeds.{settled, settled_on}
use Rattle.ty_core.proofs.script.run_piece.Goals as goal

pub returns-clause-told : goal.returns-clause-told
returns-clause-told g c = λ bytes start o.
    let old : Output = g.K.Sink.seen c.args.sink.now in
    let now : Output = g.K.Sink.seen c.run_within_limit-run.new.sink in
    let new : Output = g.K.Sink.seen c.settle.new.sink in
    settled c.run_within_limit-run.result c.settle.result c.run_within_limit-run.new.world c.run_within_limit-run.new.script.owed.items start old now new (still (bytes ++ c.args.piece.now))
    c.run_within_limit-run.ensures.later (c.run_within_limit-run.ensures.run bytes start o) c.settle.ensures.settles

pub returns-clause-goes_on : goal.returns-clause-goes_on
returns-clause-goes_on g c =
    let script : Script = record c.run_within_limit-run.new.script { owed = c.settle.new.owed } in
    settled_on c.run_within_limit-run.result c.settle.result c.args.world.now c.run_within_limit-run.new.world c.args.script.now c.run_within_limit-run.new.script script (g.K.Sink.seen c.args.sink.now) (g.K.Sink.seen c.run_within_limit-run.new.sink)
    (g.K.Sink.seen c.settle.new.sink) c.args.piece.now refl refl refl c.settle.ensures.none c.settle.ensures.settles c.run_within_limit-run.ensures.goes_on
