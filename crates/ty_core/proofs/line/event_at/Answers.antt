use Rattle.std.proofs.Common.{rules}
use Rattle.ty_core.proofs.ScriptLines.{says_broken}
use Rattle.ty_core.proofs.line.event_at.Goals as goal

pub returns-in-Err-NotUtf8-clause-none : goal.returns-in-Err-NotUtf8-clause-none
returns-in-Err-NotUtf8-clause-none c =
    let world_shown = c.in-Err-NotUtf8.ensures.not_utf8 (search rules) in
    says_broken c.args.n c.args.line.now c.if-line-gt-LINE_BYTES.false world_shown.0 world_shown.1
