use Rattle.std.proofs.Common.{◌≡◌, List, [], ◌∷◌, String, Global, string_bytes, string_cmp, Less}
use Rattle.std.specs.List.{AllByRecursion}
use Rattle.std.specs.Map.{keys_of}
use Rattle.serde_json.specs.View.{members_view}
use Rattle.serde_json.proofs.Views.{Entry}
use Rattle.ty_rules.specs.Tree.{Below}

pub Below-from_keys : (k : String Global) (es : List Entry) → AllByRecursion (λ y. string_cmp k y ≡ Less) (keys_of es) → Below (string_bytes k) (members_view es)
Below-from_keys k [] h = tt
Below-from_keys k (e ∷ es) h = (h.0, Below-from_keys k es h.1)
