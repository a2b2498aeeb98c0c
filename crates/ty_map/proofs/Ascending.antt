-- Where keys ascend, none stands twice.
use Rattle.std.proofs.Common.{◌≡◌, ℕ, false, T, ◌||◌, List, [], ◌∷◌, map, refl, ap, ◌∙◌}
use Rattle.std.specs.List.{list_any}
use Rattle.std.specs.Ordering.{nat_cmp, is_lt, is_eq}
use Rattle.std.specs.Str.{bytes_eq}
use Rattle.std.specs.Cmp.Lexicographic.{slice_cmp, texts_ties}
use Rattle.std.specs.FinMap.Entries.{below_all}
use Rattle.ty_base.specs.Feed.{Pairs}
use Rattle.ty_map.specs.Ascending.{IsAscending}
use Rattle.ty_map.specs.Fresh.{AllDiffer, HasNoKeyTwice}
use Rattle.ty_map.specs.Shape.{Shape, pairs}
use Rattle.ty_map.proofs.Order.{first, second, less}

-- of two texts the one before the other isn't the other
differ : (x y : List ℕ) → T (is_lt (slice_cmp nat_cmp x y)) → bytes_eq x y ≡ false
differ x y h = texts_ties x y ∙ ap is_eq (less _ h)

none_of : (k : List ℕ) (m : Pairs) → T (below_all (slice_cmp nat_cmp) k m) → list_any (bytes_eq k) (map (λ e. e.0) m) ≡ false
none_of k [] h = refl
none_of k (e ∷ m) h = ap (λ b. b || list_any (bytes_eq k) (map (λ x. x.0) m)) (differ k e.0 (first _ _ h)) ∙ none_of k m (second _ _ h)

all_differ : (m : Pairs) → IsAscending m → AllDiffer (map (λ e. e.0) m)
all_differ [] h = tt
all_differ (e ∷ m) h = (none_of e.0 m (first _ _ h), all_differ m (second _ _ h))

pub no_key_twice : (t : Shape) → IsAscending (pairs t) → HasNoKeyTwice t
no_key_twice t h = all_differ (pairs t) h
