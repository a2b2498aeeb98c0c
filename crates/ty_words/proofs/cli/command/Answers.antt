use Rattle.std.proofs.Common.{◌∙◌, ap, ap₂, map}
use Rattle.std.specs.Prelude.{fold}
use Rattle.clap.specs.Words.{App, with_rule}
use Rattle.ty_words.specs.Cli.{option_rule, options}
use Rattle.ty_words.proofs.Options.{no_option_left, one_option_more}
use Rattle.ty_words.proofs.cli.command.Goals as goal

pub loop-name-init : goal.loop-name-init
loop-name-init c =
    let mode = c.in_ok-arg.ensures.shape c.mode.ensures.local ∙ ap₂ with_rule c.bare_command.ensures c.mode.ensures.rule in
    let brief = c.in_ok-command.ensures.shape c.flag.ensures.local ∙ ap₂ with_rule mode c.flag.ensures.rule in
    ap (λ (a : App). fold with_rule a (map option_rule options)) brief

pub loop-name-preserved : goal.loop-name-preserved
loop-name-preserved c =
    one_option_more _ _ _ _ _ _ c.loop-name-test.true (c.in_ok-command-2.ensures.shape c.option.ensures.local) c.option.ensures.rule c.loop-name.invariant

pub returns : goal.returns
returns c = no_option_left _ _ c.loop-name.name-index c.loop-name-test.false c.loop-name.invariant
