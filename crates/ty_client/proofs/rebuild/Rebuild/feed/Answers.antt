use Rattle.std.proofs.Common.{◌≡◌, refl, sym, ap, length, ◌∙◌}
use Rattle.std.specs.Prelude.{None}
use Rattle.ty_client.proofs.Connections.{brought_from, brought_all, nothing_from, none_of, none_left}
use Rattle.ty_client.proofs.Bounds.{grows_within, stays_within}
use Rattle.ty_client.proofs.rebuild.Rebuild.feed.Goals as goal

pub returns-then-is_some-clause-heard : goal.returns-then-is_some-clause-heard
returns-then-is_some-clause-heard c = λ before so_far ms s.
    brought_all _ c.args.self.now _ before so_far c.args.bytes.now ms c.new.result c.self.view_is
    (nothing_from _ c.args.self.now so_far c.args.bytes.now ms c.new.result c.self.view_is (sym c.is_some.ensures ∙ c.if-is_some.true) c.new.ensures)
    (ap (λ r. r.held) (sym c.self.view_is) ∙ none_left _ c.new.result (ap length c.new.ensures)) s

pub returns-then-is_some-clause-here : goal.returns-then-is_some-clause-here
returns-then-is_some-clause-here c = λ so_far ms s.
    nothing_from _ c.args.self.now so_far c.args.bytes.now ms c.new.result c.self.view_is (sym c.is_some.ensures ∙ c.if-is_some.true) c.new.ensures s

pub returns-in-Ok-clause-heard : goal.returns-in-Ok-clause-heard
returns-in-Ok-clause-heard c = λ before so_far ms s.
    let n : c.self.inside.fault ≡ None = none_of c.self.inside.fault (sym c.is_some.ensures ∙ c.if-is_some.false) in
    brought_all _ c.args.self.now _ before so_far c.args.bytes.now ms c.in-Ok.heard.ats c.self.view_is
    (brought_from _ c.args.self.now _ so_far c.args.bytes.now ms c.in-Ok.heard.ats c.in-Ok.heard.fault c.self.view_is n c.in-Ok.ensures.heard refl c.if-self.false) c.in-Ok.ensures.held s

pub returns-in-Ok-clause-here : goal.returns-in-Ok-clause-here
returns-in-Ok-clause-here c = λ so_far ms s.
    let n : c.self.inside.fault ≡ None = none_of c.self.inside.fault (sym c.is_some.ensures ∙ c.if-is_some.false) in
    brought_from _ c.args.self.now _ so_far c.args.bytes.now ms c.in-Ok.heard.ats c.in-Ok.heard.fault c.self.view_is n c.in-Ok.ensures.heard refl c.if-self.false s

pub returns-then-is_some-clause-held : goal.returns-then-is_some-clause-held
returns-then-is_some-clause-held c = none_left _ c.new.result (ap length c.new.ensures)

pub returns-then-is_some-clause-up : goal.returns-then-is_some-clause-up
returns-then-is_some-clause-up c = λ so_far ms s. stays_within c.args.self.now c.args.bytes.now

pub returns-in-Ok-clause-up : goal.returns-in-Ok-clause-up
returns-in-Ok-clause-up c = λ so_far ms s.
    grows_within _ c.args.self.now _ so_far c.args.bytes.now ms c.in-Ok.heard.ats c.self.view_is (none_of c.self.inside.fault (sym c.is_some.ensures ∙ c.if-is_some.false)) s
    (returns-in-Ok-clause-here c so_far ms s)
