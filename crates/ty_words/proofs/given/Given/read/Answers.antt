use Rattle.clap.specs.Words.{app_of}
use Rattle.std.proofs.Common.{◌∙◌}
use Rattle.ty_words.proofs.Parsing.{none_at, rows_taken, simple, simple_and_free}
use Rattle.ty_words.proofs.given.Given.read.Goals as goal

pub returns-in-Ok : goal.returns-in-Ok
returns-in-Ok c =
    let a = app_of c.in_ok-command.field-0 in
    rows_taken a _ _ c.in_ok-command.ensures (c.in-Ok.ensures.matches (simple a c.in_ok-command.ensures)).0 (c.in-Ok.ensures.kinds (simple_and_free a c.in_ok-command.ensures))

pub returns : goal.returns
returns c =
    let a = app_of c.in_ok-command.field-0 in
    none_at a _ c.in-Err.error c.in_ok-command.ensures (c.in-Err.ensures.kinds (simple_and_free a c.in_ok-command.ensures)) (λ e. c.in_default.not-OutOfMemory (c.kind.ensures ∙ e))
