use Rattle.std.proofs.Common.{◌<◌, ◌+◌, ◌∙◌, sym, arith}
use Rattle.ty_base.specs.declared.limits.TheConstants.{INPUT_BYTES}
use Rattle.ty_core.proofs.ScriptFeeds.{last_few}
use Rattle.ty_core.proofs.script.run_last.Goals as goal

pub overflow_add-script : goal.overflow_add-script
overflow_add-script c =
    let few : c.args.script.now.lines + 1 < INPUT_BYTES = last_few c.args.world.now c.args.script.now c.requires.1 c.requires.2 c.requires.0 c.requires.3 (sym c.is_empty.ensures ∙ c.if-is_empty.false) in
    omega (arith, few)

pub run_line-requires-clause-few : goal.run_line-requires-clause-few
run_line-requires-clause-few c = last_few c.args.world.now c.args.script.now c.requires.1 c.requires.2 c.requires.0 c.requires.3 (sym c.is_empty.ensures ∙ c.if-is_empty.false)
