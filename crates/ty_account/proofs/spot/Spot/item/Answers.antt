use Rattle.std.proofs.Common.{◌≡◌, refl, ap, sym, ◌∙◌, subst, take}
use Rattle.std.specs.Prelude.{Option, None, Some}
use Rattle.ty_account.specs.Known.{Standpoint}
use Rattle.ty_account.specs.declared.node.Node.{Node}
use Rattle.ty_account.specs.declared.node.Place.{Place}
use Rattle.ty_account.specs.steps.Histories.{entries_in, HasItem, Stands}
use Rattle.ty_account.proofs.Chains.{item_is, item_stands}
use Rattle.ty_account.proofs.spot.Spot.item.Goals as goal

pub unreachable-requires : goal.unreachable-requires
unreachable-requires g c =
    let inv = c.self.invariant in let log = c.self.inside.seen.log in let n = c.self.inside.place in let k = c.self.inside.known in
    let none : k.value.node ≡ None = ap (λ (z : Place g.row.T.Denot). z.node) (sym c.get-place.ensures) ∙ c.in-None.is in
    subst (λ (z : Option (Node g.row.T.Denot)). Stands g.T.Standing.stands z (take n (entries_in log))) none (inv.5.items n (k.at, k.value) inv.3)

pub returns : goal.returns
returns g c =
    let inv = c.self.invariant in let log = c.self.inside.seen.log in let n = c.self.inside.place in let k = c.self.inside.known in
    let here : k.value.node ≡ Some c.in-Some.node = ap (λ (z : Place g.row.T.Denot). z.node) (sym c.get-place.ensures) ∙ c.in-Some.is in
    let has : HasItem k.value.node c.in-Some.node.item = subst (λ (z : Option (Node g.row.T.Denot)). HasItem z c.in-Some.node.item) (sym here) refl in
    let stood = item_stands g.T.Standing.stands k.value.node c.self.inside.held (take n (entries_in log)) (inv.5.items n (k.at, k.value) inv.3) in
    record {
      item = sym (item_is k.value.node c.self.inside.held c.in-Some.node.item has) ∙ ap (λ (s : Standpoint g.row.T.Denot). s.item) c.self.view_is;
      stands = subst (λ (s : Standpoint g.row.T.Denot). g.T.Standing.stands s.item s.entries) c.self.view_is stood;
    }
