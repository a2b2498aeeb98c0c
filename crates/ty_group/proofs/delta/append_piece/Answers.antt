use Rattle.std.proofs.Common.{◌∙◌}
use Rattle.ty_group.proofs.Texts.{piece_behind}
use Rattle.ty_group.proofs.delta.append_piece.Goals as goal

pub returns : goal.returns
returns c = piece_behind c.args.delta.now c.args.text.items c.put_delta.new.writer.before c.into_inner-text.result.items c.push.new.self.items c.put_delta.new.writer.tokens
    (c.in_ok-put_delta.ensures.before ∙ c.new-writer.ensures.before)
    (c.in_ok-put_delta.ensures.tokens ∙ simp (c.new-writer.ensures.tokens))
    c.into_inner-text.ensures.items
    c.in_ok-push.ensures.items
