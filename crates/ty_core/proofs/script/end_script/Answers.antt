use Rattle.std.proofs.Common.{arith}
use Rattle.ty_base.specs.Devices.{Output}
use Rattle.ty_core.specs.steps.Scripts.{finished_feed}
use Rattle.ty_core.proofs.ScriptFeeds.{settled}
use Rattle.ty_core.proofs.script.end_script.Goals as goal

pub returns-clause-told : goal.returns-clause-told
returns-clause-told g c = λ bytes start o.
    let sink : Output = g.K.Sink.seen c.args.sink.now in
    settled c.finish-run.result c.settle.result c.finish-run.new.world c.finish-run.new.script.owed.items start sink sink (g.K.Sink.seen c.settle.new.sink) (finished_feed bytes) (omega arith)
    (c.finish-run.ensures bytes start sink o) c.settle.ensures.settles
