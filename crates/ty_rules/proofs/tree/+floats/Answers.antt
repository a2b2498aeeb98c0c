use Rattle.std.proofs.Common.{◌≡◌, ◌∷◌, false, sym, ap, ◌∙◌, subst, refl, string_cmp}
use Rattle.std.specs.List.Sorted.{IsStrictlySortedBy}
use Rattle.std.specs.Map.{keys_of}
use Rattle.serde_json.specs.View.{view, members_view}
use Rattle.serde_json.specs.Written.{has_float, members_have_float}
use Rattle.serde_json.proofs.Views.{Entry}
use Rattle.ty_rules.specs.Tree.{Ascends, MembersAscend}
use Rattle.ty_rules.proofs.Below.{Below-from_keys}
use Rattle.ty_rules.proofs.tree.+floats.Goals as goal

pub members_have_float-loop-name-preserved : goal.members_have_float-loop-name-preserved
unfolding IsStrictlySortedBy
members_have_float-loop-name-preserved t c =
    let l = c.loop-name in
    let e : Entry = (c.in-Some._name.now, c.in-Some.member.now) in
    let left = c.next.new.self in
    let steps : l._name-iterator ≡ e ∷ left = c.in-Some.ensures.steps in
    let whole : has_float (view e.1) ≡ false = sym c.has_float.ensures.value ∙ c.if-has_float.false in
    let below : Ascends (view e.1) = c.has_float.ensures.ascends c.if-has_float.false in
    let sorted : IsStrictlySortedBy string_cmp (keys_of (e ∷ left)) = subst (λ es. IsStrictlySortedBy string_cmp (keys_of es)) steps l.invariant.2 in (
      l.invariant.0 ∙ ap (λ es. members_have_float (members_view es)) steps ∙ rw whole refl,
      λ h. l.invariant.1 (subst (λ es. MembersAscend (members_view es)) (sym steps) (Below-from_keys e.0 left sorted.0, below, h)),
      sorted.1,
    )
