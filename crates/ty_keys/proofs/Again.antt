-- Every key's segments are read as that key.
use Rattle.std.proofs.Common.{◌≡◌, ℕ, Bool, true, false, cond, ◌&&◌, List, map, Some, None, Ok, refl, sym, ap, ◌∙◌}
use Rattle.std.specs.List.{list_all}
use Rattle.ty_keys.specs.declared.key.Key.{Key}
use Rattle.ty_keys.specs.declared.key.Key.TheVariants.{Ready, Global, HostConfig, HostIp, HostEndpoint, Workload, Policy, ProfileRules, ProfileLabels, NetSet, Pool, Resource}
use Rattle.ty_keys.specs.Grammar.{pieces, printed, is_piece, is_part, escaped}
use Rattle.ty_keys.specs.Faults.{Segment, placed}
use Rattle.ty_keys.specs.Nets.{is_net}
use Rattle.ty_keys.specs.Plurals.{kind_of, is_plural}
use Rattle.ty_keys.specs.Forms.{◌>>=◌, part_at, one_part, two_parts, four_parts, last_part, namespaced, of_kind, pool_of, read_segments}
use Rattle.ty_keys.proofs.Units.{part_again, and_left, and_right}
use Rattle.ty_keys.proofs.Networks.{net_again}
use Rattle.ty_keys.proofs.Named.{Named, named_by}

one_again : (make : List ℕ → Key) (at : ℕ) (x : List ℕ) → is_part x ≡ true → one_part make (at, escaped x) ≡ Ok (make x)
one_again make at x h = ap (λ r. r >>= λ x. Ok (make x)) (part_again at x h)

two_again : (make : List ℕ → List ℕ → Key) (at bt : ℕ) (x y : List ℕ) → is_part x ≡ true → is_part y ≡ true → two_parts make (at, escaped x) (bt, escaped y) ≡ Ok (make x y)
two_again make at bt x y h g = ap (λ r. r >>= λ x. part_at (bt, escaped y) >>= λ y. Ok (make x y)) (part_again at x h) ∙ one_again (make x) bt y g

four_again : (make : List ℕ → List ℕ → List ℕ → List ℕ → Key) (at bt ct dt : ℕ) (x y z w : List ℕ) → is_part x ≡ true → is_part y ≡ true → is_part z ≡ true → is_part w ≡ true
    → four_parts make (at, escaped x) (bt, escaped y) (ct, escaped z) (dt, escaped w) ≡ Ok (make x y z w)
four_again make at bt ct dt x y z w h g k l =
    ap (λ r. r >>= λ x. part_at (bt, escaped y) >>= λ y. part_at (ct, escaped z) >>= λ z. part_at (dt, escaped w) >>= λ w. Ok (make x y z w)) (part_again at x h)
    ∙ ap (λ r. r >>= λ y. part_at (ct, escaped z) >>= λ z. part_at (dt, escaped w) >>= λ w. Ok (make x y z w)) (part_again bt y g)
    ∙ two_again (make x y) ct dt z w k l

-- the tests of two and of four parts
two_left : (a b : Bool) → (a && (b && true)) ≡ true → (a ≡ true) × (b ≡ true)
two_left a b h = (and_left a (b && true) h, and_left b true (and_right a (b && true) h))

four_left : (a b c d : Bool) → (a && (b && (c && (d && true)))) ≡ true → (a ≡ true) × (b ≡ true) × (c ≡ true) × (d ≡ true)
four_left a b c d h =
    let r = and_right a (b && (c && (d && true))) h in
    let q = two_left c d (and_right b (c && (d && true)) r) in
    (and_left a (b && (c && (d && true))) h, and_left b (c && (d && true)) r, q.0, q.1)

kind_again : (n : Bool) (p : List ℕ) (ss : List Segment) (named : Named n p)
    → of_kind (kind_of p) ss ≡ cond n (namespaced p ss) (last_part (λ name. Resource p None name) ss)
kind_again n p ss k =
    ap (λ o. of_kind o ss) k.named
    ∙ ap (λ v. cond v (namespaced k.kind.plural ss) (last_part (λ name. Resource k.kind.plural None name) ss)) k.due
    ∙ ap (λ q. cond n (namespaced q ss) (last_part (λ name. Resource q None name) ss)) (sym k.plural)

pub all_again : (at : ℕ) (k : Key) → list_all is_piece (pieces k) ≡ true → read_segments (placed at (map printed (pieces k))) ≡ Ok k
unfolding read_segments
all_again at Ready h = refl
all_again at (Global name) h = one_again Global _ name (and_left (is_part name) true h)
all_again at (HostConfig host name) h = let q = two_left (is_part host) (is_part name) h in two_again HostConfig _ _ host name q.0 q.1
all_again at (HostIp host) h = one_again HostIp _ host (and_left (is_part host) true h)
all_again at (HostEndpoint host endpoint) h = let q = two_left (is_part host) (is_part endpoint) h in two_again HostEndpoint _ _ host endpoint q.0 q.1
all_again at (Workload host orchestrator workload endpoint) h =
    let q = four_left (is_part host) (is_part orchestrator) (is_part workload) (is_part endpoint) h in
    four_again Workload _ _ _ _ host orchestrator workload endpoint q.0 q.1 q.2 q.3
all_again at (Policy tier policy) h = let q = two_left (is_part tier) (is_part policy) h in two_again Policy _ _ tier policy q.0 q.1
all_again at (ProfileRules profile) h = one_again ProfileRules _ profile (and_left (is_part profile) true h)
all_again at (ProfileLabels profile) h = one_again ProfileLabels _ profile (and_left (is_part profile) true h)
all_again at (NetSet name) h = one_again NetSet _ name (and_left (is_part name) true h)
all_again at (Pool false addr len) h = ap (pool_of false) (net_again false addr len (and_left (is_net false addr len) true h))
all_again at (Pool true addr len) h = ap (pool_of true) (net_again true addr len (and_left (is_net true addr len) true h))
all_again at (Resource plural None name) h =
    let q = two_left (is_plural false plural) (is_part name) h in
    kind_again false plural _ (named_by false plural q.0) ∙ one_again (λ name. Resource plural None name) _ name q.1
all_again at (Resource plural (Some space) name) h =
    let a = and_left (is_plural true plural) (is_part space && (is_part name && true)) h in
    let q = two_left (is_part space) (is_part name) (and_right (is_plural true plural) (is_part space && (is_part name && true)) h) in
    kind_again true plural _ (named_by true plural a) ∙ two_again (λ s t. Resource plural (Some s) t) _ _ space name q.0 q.1
