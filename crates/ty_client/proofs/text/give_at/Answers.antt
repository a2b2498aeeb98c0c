use Rattle.std.proofs.Common.{List, ℕ, ◌++◌, ◌∙◌, ap, sym, Bool}
use Rattle.ty_map.specs.Shape.{pairs}
use Rattle.ty_client.specs.Rebuilt.{Rebuilt}
use Rattle.std.specs.Prelude.{codes}
use Rattle.ty_client.specs.Text.{standing, at_text, pair_lines}
use Rattle.ty_client.proofs.Printed.{wrote_same, brief_text, full_text}
use Rattle.ty_client.proofs.text.give_at.Goals as goal

pub returns-then-brief : goal.returns-then-brief
returns-then-brief g c =
    wrote_same _ _ _ _ _ _ _ (c.deref.ensures.value ∙ c.in-Ok.ensures ∙ brief_text c.args.at.now ∙ ap (λ (b : Bool). at_text b c.args.at.now) (sym c.if-brief.true)) c.give.ensures

pub returns : goal.returns
returns g c =
    wrote_same _ _ _ _ _ _ _ (
    ap (λ (l : List ℕ). l ++ pair_lines (pairs c.at.inside.pairs)) c.in-Ok.ensures
    ∙ ap (λ (a : Rebuilt). (codes "at " ++ standing c.args.at.now) ++ pair_lines a.pairs) c.at.view_is
    ∙ full_text c.args.at.now ∙ ap (λ (b : Bool). at_text b c.args.at.now) (sym c.if-brief.false)) c.give_pairs.ensures
