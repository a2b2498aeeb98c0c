use Rattle.std.proofs.Common.{◌∙◌, refl, sym, rules}
use Rattle.clap.specs.Walk.{texts}
use Rattle.ty_words.specs.Given.{passes}
use Rattle.ty_words.proofs.Options.{none_left, one_fails, one_passes}
use Rattle.ty_words.proofs.given.Given.options_pass.Goals as goal

pub loop-name-init : goal.loop-name-init
loop-name-init c = refl

pub loop-name-preserved : goal.loop-name-preserved
loop-name-preserved c =
    one_passes (passes c.args.self.now (texts c.args.taken.now)) _ c.loop-name.name-index _ c.loop-name-test.true (sym c.passes.ensures ∙ search rules) c.loop-name.invariant

pub returns-then-not-passes : goal.returns-then-not-passes
returns-then-not-passes c =
    one_fails (passes c.args.self.now (texts c.args.taken.now)) _ c.loop-name.name-index _ c.loop-name-test.true (sym c.passes.ensures ∙ search rules) c.loop-name.invariant

pub returns : goal.returns
returns c =
    none_left (passes c.args.self.now (texts c.args.taken.now)) _ c.loop-name.name-index c.loop-name-test.false c.loop-name.invariant
