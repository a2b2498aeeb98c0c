use Rattle.std.proofs.Common.{◌∙◌}
use Rattle.ty_client.proofs.Printed.{written_quoted}
use Rattle.ty_client.proofs.text.with_quoted.Goals as goal

pub returns : goal.returns
returns c =
    written_quoted c.into_inner.result.items c.args.bytes.items c.string.new.self.before c.as_str.result.now c.args.text.now c.string.new.self.tokens c.new-writer.result.tokens
    c.into_inner.ensures.items (c.in_ok-string.ensures.room.0 ∙ c.new-writer.ensures.before) c.in_ok-string.ensures.ok c.new-writer.ensures.tokens c.as_str.ensures
