use Rattle.std.specs.Prelude.{◌≡◌, drop}
use Rattle.std.specs.List.{list_all}
use Rattle.clap.specs.Walk.{texts}
use Rattle.ty_words.specs.Cli.{options}
use Rattle.ty_words.specs.Given.{passes}
use Rattle.ty_words.proofs.Options.{all_pass}
use Rattle.ty_words.proofs.given.Given.options_pass.Given as goal

abbrev pub invariant-loop-name : goal.invariant-loop-name
invariant-loop-name l =
    all_pass (passes l.self (texts l.taken)) (drop l.name-index l.name-items) ≡ list_all (passes l.self (texts l.taken)) options
