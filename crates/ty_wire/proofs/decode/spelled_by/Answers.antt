use Rattle.std.proofs.Common.{◌≡◌, sym, ◌∙◌}
use Rattle.std.specs.Prelude.{None, Some}
use Rattle.serde_json.specs.View.{view}
use Rattle.ty_wire.specs.steps.Members.{msg_of}
use Rattle.ty_wire.proofs.Read.{told, not_spelled}
use Rattle.ty_wire.proofs.decode.spelled_by.Goals as goal

pub returns-else-branch : goal.returns-else-branch
returns-else-branch c = (
  (c.requires.utf8, (view c.args.value.now, c.requires.value)),
  λ m s. not_spelled c.args.bytes.now (view c.args.value.now) c.in-Some.msg m _ c.requires.value (sym c.in-Some.is ∙ c.in_ok-msg.ensures) c.in_ok-is_spelled-in-Some.ensures c.if-branch.false s,
)

pub returns-in-None : goal.returns-in-None
returns-in-None c = (
  (c.requires.utf8, (view c.args.value.now, c.requires.value)),
  λ m s. let e : msg_of (view c.args.value.now) ≡ Some m = told c.args.bytes.now (view c.args.value.now) m c.requires.value s in
      let f : None ≡ msg_of (view c.args.value.now) = sym c.in-None.is ∙ c.in_ok-msg.ensures in cc,
)
