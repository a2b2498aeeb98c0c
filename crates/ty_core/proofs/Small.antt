-- Items within the limits.
use Rattle.std.proofs.Common.{◌≡◌, true, List, [], ◌∷◌, refl}
use Rattle.std.specs.Str.{is_utf8}
use Rattle.ty_base.specs.declared.item.Item.{Item}
use Rattle.ty_base.specs.declared.item.Item.TheVariants.{Put, Del, State, Mark}
use Rattle.ty_base.specs.Passing.{item_passes}
use Rattle.ty_base.specs.Limits.{key_fits, value_fits, items_fit, is_key_text, is_value_text, is_small, AreSmall}
use Rattle.ty_base.proofs.Passing.{both, left, right}

item_within : (x : Item) → is_small x ≡ true → item_passes key_fits value_fits x ≡ true
item_within (Put key value) h =
    let k : is_key_text key ≡ true = left (is_key_text key) (is_value_text value) h in
    let v : is_value_text value ≡ true = right (is_key_text key) (is_value_text value) h in
    both (left (key_fits key) (is_utf8 key) k) (left (value_fits value) (is_utf8 value) v)
item_within (Del key) h = left (key_fits key) (is_utf8 key) h
item_within (State s) h = refl
item_within Mark h = refl

pub items_within : (items : List Item) → AreSmall items → items_fit items ≡ true
items_within [] h = refl
items_within (x ∷ items) h = both (item_within x (left (is_small x) _ h)) (items_within items (right (is_small x) _ h))
