use Rattle.std.proofs.Common.{ℕ}
use Rattle.ty_server.proofs.Working.{heard, hear_ends, keeps_heard}
use Rattle.ty_server.proofs.listening.hear.Goals as goal

pub returns-in-Err-clause-works : goal.returns-in-Err-clause-works
returns-in-Err-clause-works c = hear_ends ℕ (Unit {0}) c.args.now c.args.bytes.now c.args.session.now c.hear.new.self c.in-Err.gone c.in-Err.ensures.shows c.in-Err.ensures.leaves c.in-Err.ensures.short

pub returns-in-Ok-clause-works : goal.returns-in-Ok-clause-works
returns-in-Ok-clause-works c = heard (Unit {0}) c.args.now c.args.bytes.now c.args.session.now c.hear.new.self c.in-Ok.field-0 tt c.in-Ok.ensures.hears

pub returns-in-Ok-clause-kept : goal.returns-in-Ok-clause-kept
returns-in-Ok-clause-kept c = keeps_heard c.args.now c.args.bytes.now c.args.session.now c.hear.new.self c.in-Ok.field-0 c.in-Ok.ensures.hears
