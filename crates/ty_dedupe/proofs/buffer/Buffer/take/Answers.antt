use Rattle.std.proofs.Common.{ap, sym, refl, ◌∙◌, ◌++◌, ◌∷◌, []}
use Rattle.std.specs.Prelude.{None}
use Rattle.ty_base.specs.declared.item.Item.TheVariants.{Put, Del, State, Mark}
use Rattle.ty_dedupe.specs.Pending.{last_status}
use Rattle.ty_dedupe.proofs.Pending.{pairs_more, pairs_kept, status_kept, new_status}
use Rattle.ty_dedupe.proofs.buffer.Buffer.take.Goals as goal

pub returns-in_ok-note-in-Put-clause-ok : goal.returns-in_ok-note-in-Put-clause-ok
returns-in_ok-note-in-Put-clause-ok c items s =
    let x = Put c.in-Put.key c.in-Put.value in
    let held = ap (λ b. b.0) c.self.view_is ∙ s.0 in (
      c.in_ok-note-in-Put.ensures.ok ∙ pairs_more _ items c.args.item x c.in-Put.key _ held c.in-Put.is refl (λ q. refl) refl,
      status_kept _ items c.args.item x (ap (λ b. b.1) c.self.view_is ∙ s.1) c.in-Put.is refl,
    )

pub returns-in_ok-note-in-Del-clause-ok : goal.returns-in_ok-note-in-Del-clause-ok
returns-in_ok-note-in-Del-clause-ok c items s =
    let x = Del c.in-Del.key in
    let held = ap (λ b. b.0) c.self.view_is ∙ s.0 in (
      c.in_ok-note-in-Del.ensures.ok ∙ pairs_more _ items c.args.item x c.in-Del.key None held c.in-Del.is refl (λ q. refl) refl,
      status_kept _ items c.args.item x (ap (λ b. b.1) c.self.view_is ∙ s.1) c.in-Del.is refl,
    )

pub returns-in-State-clause-ok : goal.returns-in-State-clause-ok
returns-in-State-clause-ok c items s =
    let x = State c.in-State.status in (
      pairs_kept _ items c.args.item x (ap (λ b. b.0) c.self.view_is ∙ s.0) c.in-State.is refl (λ q. refl),
      new_status items c.in-State.status ∙ ap (λ z. last_status (items ++ z ∷ [])) (sym c.in-State.is),
    )

pub returns-in-Mark-clause-ok : goal.returns-in-Mark-clause-ok
returns-in-Mark-clause-ok c items s = (
  pairs_kept _ items c.args.item Mark s.0 c.in-Mark.is refl (λ q. refl),
  status_kept _ items c.args.item Mark s.1 c.in-Mark.is refl,
)
