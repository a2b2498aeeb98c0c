use Rattle.std.proofs.Common.{sym, ap, ◌∙◌}
use Rattle.std.specs.Prelude.{is_some}
use Rattle.ty_wire.specs.Held.{FramesHeld}
use Rattle.ty_wire.proofs.Stream.{still}
use Rattle.ty_wire.proofs.frames.Frames.feed.Goals as goal

pub returns-then-is_some-clause-stands : goal.returns-then-is_some-clause-stands
returns-then-is_some-clause-stands c = λ bytes ms h. still c.args.self.now bytes c.args.piece.now ms c.new.result (sym (c.if-is_some.ensures ∙ ap (λ (h : FramesHeld). is_some h.fault) c.self.view_is)) c.new.ensures h
