use Rattle.std.proofs.Common.{◌≡◌, subst}
use Rattle.std.specs.Str.{IsUtf8}
use Rattle.json.specs.Print.{print}
use Rattle.ty_wire.specs.Wire.{body}
use Rattle.ty_wire.proofs.Spelling.{print-msg_tokens}
use Rattle.ty_wire.proofs.encode.body_of.Goals as goal

pub returns : goal.returns
returns c = record {
  body = simp (c.into_inner.ensures.items, c.in_ok-put_msg.ensures.before, c.in_ok-put_msg.ensures.tokens, c.new-writer.ensures.before, c.new-writer.ensures.tokens, c.new.ensures.items, print-msg_tokens c.args.msg.now);
  utf8 =
      let e : print c.put_msg.new.writer.tokens ≡ body c.args.msg.now = simp (c.in_ok-put_msg.ensures.tokens, c.new-writer.ensures.tokens, print-msg_tokens c.args.msg.now) in
      subst IsUtf8 e c.into_inner.ensures.utf8;
}
