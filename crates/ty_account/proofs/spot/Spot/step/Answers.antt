use Rattle.std.proofs.Common.{◌≡◌, ◌+◌, ◌<◌, ◌≤◌, ℕ, suc, List, [], ◌∷◌, ◌++◌, length, take, refl, ap, sym, ◌∙◌, subst, arith}
use Rattle.std.specs.Prelude.{Option, None, Some}
use mathlib.Core.List.{IsPrefix}
use Rattle.ty_account.specs.Known.{Known, Standpoint, name_of, HasWalked}
use Rattle.ty_account.specs.declared.spot.Walked.{Walked}
use Rattle.ty_account.specs.steps.Rights.{life_of}
use Rattle.ty_account.specs.declared.history.Mark.{Mark}
use Rattle.ty_account.specs.declared.node.Node.{Node}
use Rattle.ty_account.specs.declared.node.Place.{Place}
use Rattle.ty_account.specs.steps.Histories.{entries_in, nodes_in, site_at, next_in, HasNode-prop, Stands}
use Rattle.ty_account.specs.steps.Replies.{Reply}
use Rattle.ty_account.proofs.Chains.{some_is, still, stands_there, item_stands}
use Rattle.ty_account.proofs.Histories.{nodes_long}
use Rattle.ty_account.proofs.Steps.{take_begins, at_end, comes_next, rests}
use Rattle.ty_account.proofs.spot.Spot.step.Goals as goal

pub returns-then-look-self-clause-walked : goal.returns-then-look-self-clause-walked
returns-then-look-self-clause-walked g c =
    let f = c.follow-offer.ensures in let inv = c.self.invariant in let log = c.self.inside.seen.log in let n = c.self.inside.place in let k = c.self.inside.known in let now = c.follow-offer.result.1.log in
    let less : length (entries_in now) ≤ n = omega (arith, c.if-look-self.true, c.look-look.ensures.count, ap (λ (m : Known). length m.entries) f.new) in
    let entries = ap (λ (m : Known). m.entries) f.new ∙ (at_end log now n (k.at, k.value) inv.4 f.seen.2 inv.3 less ∙ ap (λ (s : Standpoint g.row.T.Denot). s.entries) c.self.view_is) in
    subst (λ (w : Walked). HasWalked w c.args.self.now c.args.self.now c.follow-offer.new.self) (sym c.resting.ensures) (rests c.look-look.result.closed c.args.self.now c.args.self.now c.follow-offer.new.self (refl, entries, sym c.look-look.ensures.closed))

pub pick-known-requires : goal.pick-known-requires
pick-known-requires g c =
    let f = c.follow-offer.ensures in let told = f.told.1 in
    let same : c.into_gain.result.answer ≡ told.0 = some_is (sym c.into_gain.ensures.2 ∙ told.1) in
    let all : c.into_gain.result.answer.all ≡ c.follow-offer.result.1.log = ap (λ (r : Reply g.row.T.Denot). r.all) same ∙ told.2 in
    let count = ap (λ (k : Known). length k.entries) f.new in
    omega (arith, ap (λ (h : List (Mark g.row.T.Denot)). length (nodes_in h)) all, nodes_long c.follow-offer.result.1.log f.rule.0, c.if-look-self.false, c.look-look.ensures.count, count)

pub invariant_of-self : goal.invariant_of-self
invariant_of-self g c =
    let f = c.follow-offer.ensures in let inv = c.self.invariant in let log = c.self.inside.seen.log in let n = c.self.inside.place in let k = c.self.inside.known in let now = c.follow-offer.result.1.log in let m = c.pick-known.result in
    let told = f.told.1 in
    let same : c.into_gain.result.answer ≡ told.0 = some_is (sym c.into_gain.ensures.2 ∙ told.1) in
    let all : c.into_gain.result.answer.all ≡ now = ap (λ (r : Reply g.row.T.Denot). r.all) same ∙ told.2 in
    let there : site_at (nodes_in now) (n + 1) ≡ Some (m.at, m.value) = subst (λ (h : List (Mark g.row.T.Denot)). site_at (nodes_in h) (n + 1) ≡ Some (m.at, m.value)) all c.pick-known.ensures.1 in
    let up : n + 1 ≡ suc n = omega arith in
    let link = f.rule.1.links n (k.at, k.value) (m.at, m.value) (still log now n (k.at, k.value) f.seen.2 inv.3) (subst (λ (i : ℕ). site_at (nodes_in now) i ≡ Some (m.at, m.value)) up there) in
    let here : next_in k.value.node ≡ c.in-Some.node.next = ap (λ (z : Place g.row.T.Denot). next_in z.node) (sym c.get-here.ensures) ∙ ap next_in c.in-Some.is in (
      (inv.0.0 ∙ sym f.seen.0, inv.0.1 ∙ sym f.seen.1),
      c.pick-known.ensures.0 ∙ ap life_of (c.into_gain.ensures.0 ∙ (f.told.0 ∙ sym f.seen.1)),
      link ∙ here,
      there,
      f.rule.0,
      f.rule.1,
    )

pub unreachable-requires : goal.unreachable-requires
unreachable-requires g c =
    let inv = c.self.invariant in let log = c.self.inside.seen.log in let n = c.self.inside.place in let k = c.self.inside.known in
    let none : k.value.node ≡ None = ap (λ (z : Place g.row.T.Denot). z.node) (sym c.get-here.ensures) ∙ c.in-None.is in
    subst (λ (z : Option (Node g.row.T.Denot)). Stands g.T.Standing.stands z (take n (entries_in log))) none (inv.5.items n (k.at, k.value) inv.3)

pub returns-clause-walked : goal.returns-clause-walked
returns-clause-walked g c =
    let f = c.follow-offer.ensures in let inv = c.self.invariant in let log = c.self.inside.seen.log in let n = c.self.inside.place in let k = c.self.inside.known in let now = c.follow-offer.result.1.log in
    let less : n < length (entries_in now) = omega (arith, c.if-look-self.false, c.look-look.ensures.count, ap (λ (m : Known). length m.entries) f.new) in
    let on = comes_next log now n (k.at, k.value) inv.4 f.seen.2 inv.3 less in
    let account = (λ i. name_of (f.seen.0 i) (f.seen.1 i)) ∙ ap (λ (s : Standpoint g.row.T.Denot). s.account) c.self.view_is in
    let entries = on.1 ∙ ap (λ (s : Standpoint g.row.T.Denot). s.entries ++ on.0 ∷ []) c.self.view_is in
    record { entry = on.0; account = account; on = entries; known = subst (λ (m : Known). IsPrefix (take (n + 1) (entries_in now)) m.entries) (sym f.new) (take_begins (n + 1) (entries_in now)) }

pub returns-then-look-self-clause-stands : goal.returns-then-look-self-clause-stands
returns-then-look-self-clause-stands g c =
    let inv = c.self.invariant in let log = c.self.inside.seen.log in let n = c.self.inside.place in let k = c.self.inside.known in
    let stood = item_stands g.T.Standing.stands k.value.node c.self.inside.held (take n (entries_in log)) (inv.5.items n (k.at, k.value) inv.3) in
    subst (λ (s : Standpoint g.row.T.Denot). g.T.Standing.stands s.item s.entries) c.self.view_is stood

pub invariant_of-self-inside-in-Some : goal.invariant_of-self-inside-in-Some
invariant_of-self-inside-in-Some g c =
    let f = c.follow-offer.ensures in let now = c.follow-offer.result.1.log in let m = c.pick-known.result in let told = f.told.1 in
    let same : c.into_gain.result.answer ≡ told.0 = some_is (sym c.into_gain.ensures.2 ∙ told.1) in
    let all : c.into_gain.result.answer.all ≡ now = ap (λ (r : Reply g.row.T.Denot). r.all) same ∙ told.2 in
    let n = c.self.inside.place + 1 in
    let there : site_at (nodes_in now) n ≡ Some (m.at, m.value) = subst (λ (h : List (Mark g.row.T.Denot)). site_at (nodes_in h) n ≡ Some (m.at, m.value)) all c.pick-known.ensures.1 in
    (stands_there g.T.Standing.stands m.value.node (take n (entries_in now)) (f.rule.1.items n (m.at, m.value) there), tt)

pub returns-clause-stands : goal.returns-clause-stands
returns-clause-stands g c =
    let f = c.follow-offer.ensures in let now = c.follow-offer.result.1.log in let m = c.pick-known.result in let told = f.told.1 in
    let same : c.into_gain.result.answer ≡ told.0 = some_is (sym c.into_gain.ensures.2 ∙ told.1) in
    let all : c.into_gain.result.answer.all ≡ now = ap (λ (r : Reply g.row.T.Denot). r.all) same ∙ told.2 in
    let n = c.self.inside.place + 1 in
    let there : site_at (nodes_in now) n ≡ Some (m.at, m.value) = subst (λ (h : List (Mark g.row.T.Denot)). site_at (nodes_in h) n ≡ Some (m.at, m.value)) all c.pick-known.ensures.1 in
    item_stands g.T.Standing.stands m.value.node _ (take n (entries_in now)) (f.rule.1.items n (m.at, m.value) there)

-- that a node is there is said in one way
pub same-self : goal.same-self
same-self g c = let s = c.self.inside in λ i. record { shared = s.shared; seen = s.seen; known = s.known; at = s.at; place = s.place; held = HasNode-prop s.known.value.node c.self-1.given.0 s.held i }
