use Rattle.std.proofs.Common.{[], ap, ◌∙◌}
use Rattle.ty_client.proofs.Printed.{written_quoted}
use Rattle.ty_core.proofs.text.quoted.Goals as goal

pub returns : goal.returns
returns c =
    ap (λ v. v.items) c.in-Ok.ensures.ok
    ∙ written_quoted c.into_inner-bytes.result.items [] c.string.new.self.before c.as_str.result.now c.args.text.now c.string.new.self.tokens c.new-writer.result.tokens
    c.into_inner-bytes.ensures.items (c.in_ok-string.ensures.room.0 ∙ c.new-writer.ensures.before ∙ c.new.ensures.items) c.in_ok-string.ensures.ok c.new-writer.ensures.tokens c.as_str.ensures
