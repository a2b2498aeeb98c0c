use Rattle.std.specs.Prelude.{◌≡◌, drop}
use Rattle.clap.specs.Words.{app_of}
use Rattle.ty_words.specs.Cli.{cli}
use Rattle.ty_words.proofs.Options.{with_options}
use Rattle.ty_words.proofs.cli.command.Given as goal

abbrev pub invariant-loop-name : goal.invariant-loop-name
invariant-loop-name l = with_options (app_of l.command) (drop l.name-index l.name-items) ≡ cli
