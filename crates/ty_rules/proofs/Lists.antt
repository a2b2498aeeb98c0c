-- The lists that arrays and objects are seen as.
use Rattle.std.proofs.Common.{◌≡◌, ℕ, List, [], ◌∷◌, ◌&&◌, Bool, length, suc, refl, ap, String, Global, string_bytes}
use Rattle.std.specs.List.{list_all}
use Rattle.serde_json.specs.Data.{Data}
use Rattle.serde_json.specs.View.{view, items_view, members_view}
use Rattle.serde_json.specs.declared.value.Value.{Value}
use Rattle.ty_rules.specs.Tests.{items, members}

pub list_all-items : (p : Data → Bool) (vs : List Value) → list_all p (items (items_view vs)) ≡ list_all (λ v. p (view v)) vs
list_all-items p [] = refl
list_all-items p (v ∷ vs) = ap (λ b. p (view v) && b) (list_all-items p vs)

pub list_all-members : (p : List ℕ × Data → Bool) (es : List (String Global × Value))
    → list_all p (members (members_view es)) ≡ list_all (λ e. p (string_bytes e.0, view e.1)) es
list_all-members p [] = refl
list_all-members p (e ∷ es) = ap (λ b. p (string_bytes e.0, view e.1) && b) (list_all-members p es)

pub items_length : (vs : List Value) → length (items (items_view vs)) ≡ length vs
items_length [] = refl
items_length (v ∷ vs) = ap suc (items_length vs)
