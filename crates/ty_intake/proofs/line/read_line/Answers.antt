use Rattle.std.proofs.Common.{ap, sym, ◌∙◌, ◌≡◌, option_map}
use Rattle.std.specs.Prelude.{Some}
use Rattle.ty_values.specs.Items.{said}
use Rattle.ty_intake.specs.Line.{said_by}
use Rattle.ty_intake.proofs.LineFaults.{told-long, told-utf8, told-bad, told-good, item-good}
use Rattle.ty_intake.proofs.line.read_line.Goals as goal

pub returns-then-bytes-gt-LINE_BYTES : goal.returns-then-bytes-gt-LINE_BYTES
returns-then-bytes-gt-LINE_BYTES c = told-long c.args.line c.args.bytes.now c.if-bytes-gt-LINE_BYTES.true

pub returns-then-not-is_utf8 : goal.returns-then-not-is_utf8
returns-then-not-is_utf8 c = told-utf8 c.args.line c.args.bytes.now c.if-bytes-gt-LINE_BYTES.false (c.is_utf8.ensures.no c.if-not-is_utf8.true)

pub returns-in_ok-clean-in-Some : goal.returns-in_ok-clean-in-Some
returns-in_ok-clean-in-Some c =
    let e : Some (said c.in-Some.said) ≡ said_by c.args.bytes.now = sym (ap (option_map said) c.in-Some.is) ∙ c.in_ok-said.ensures in (
      told-good c.args.line c.args.bytes.now (said c.in-Some.said) c.if-bytes-gt-LINE_BYTES.false (c.is_utf8.ensures.yes c.if-not-is_utf8.false) e,
      item-good c.args.bytes.now (said c.in-Some.said) c.in_ok-clean-in-Some.field-0.item e c.in_ok-clean-in-Some.ensures.item,
      c.in_ok-clean-in-Some.ensures.limits,
    )

pub returns-in-None : goal.returns-in-None
returns-in-None c =
    told-bad c.args.line c.args.bytes.now c.if-bytes-gt-LINE_BYTES.false (c.is_utf8.ensures.yes c.if-not-is_utf8.false) (sym (ap (option_map said) c.in-None.is) ∙ c.in_ok-said.ensures)
