use Rattle.std.proofs.Common.{◌≡◌, drop}
use Rattle.ty_script.specs.Script.{is_like_feed}
use Rattle.ty_script.proofs.script.is_like_feed.Given as goal

abbrev pub invariant-loop-b : goal.invariant-loop-b
invariant-loop-b l = is_like_feed (drop l.b-index l.line) ≡ is_like_feed l.line
