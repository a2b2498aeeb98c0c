use Rattle.std.proofs.Common.{subst, ◌≡◌, option_map}
use Rattle.std.specs.Prelude.{IfOk, Option}
use Rattle.serde_json.specs.View.{view}
use Rattle.ty_values.specs.Items.{Said, said}
use Rattle.ty_intake.proofs.LineFaults.{json-read, json-unread}
use Rattle.ty_intake.proofs.line.json_line.Goals as goal

pub returns-in-Ok : goal.returns-in-Ok
returns-in-Ok c =
    let P : Option Said → Type 0 = λ o. IfOk c.line_in.result (λ l. option_map said l ≡ o) in
    subst P (json-read c.args.line.now (view c.in-Ok.value) c.in-Ok.ensures.ok.0 c.in-Ok.ensures.ok.1) c.line_in.ensures

pub returns-in_default : goal.returns-in_default
returns-in_default c = json-unread c.args.line.now (c.in-Err.ensures.err (λ m. c.in_default.not-Memory (c.classify.ensures.memory.1 m)))
