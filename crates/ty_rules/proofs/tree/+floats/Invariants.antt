use Rattle.std.proofs.Common.{◌≡◌, drop, string_cmp}
use Rattle.std.specs.List.Sorted.{IsStrictlySortedBy}
use Rattle.std.specs.Map.{keys_of}
use Rattle.serde_json.specs.View.{items_view, members_view}
use Rattle.serde_json.specs.Written.{items_have_float, members_have_float}
use Rattle.ty_rules.specs.Tree.{ItemsAscend, MembersAscend}
use Rattle.ty_rules.proofs.tree.+floats.Given as goal

-- the items that are left have the answer of all
abbrev pub invariant-items_have_float-loop-item : goal.invariant-items_have_float-loop-item
invariant-items_have_float-loop-item l =
    (items_have_float (items_view l.item-items) ≡ items_have_float (items_view (drop l.item-index l.item-items)))
    × (ItemsAscend (items_view (drop l.item-index l.item-items)) → ItemsAscend (items_view l.item-items))

abbrev pub invariant-members_have_float-loop-name : goal.invariant-members_have_float-loop-name
invariant-members_have_float-loop-name l =
    (members_have_float (members_view l.members.entries) ≡ members_have_float (members_view l._name-iterator))
    × (MembersAscend (members_view l._name-iterator) → MembersAscend (members_view l.members.entries))
    × IsStrictlySortedBy string_cmp (keys_of l._name-iterator)
