-- What reading gives is the grammar's key with no fault, or the text's first fault.
use Rattle.std.proofs.Common.{◌≡◌, ℕ, Bool, true, false, cond, ◌&&◌, List, [], ◌∷◌, map, codes, Option, Some, None, Result, Ok, Err, refl, sym, ap, subst, ◌∙◌}
use Rattle.std.specs.List.{list_all}
use Rattle.std.specs.Str.{bytes_eq}
use Rattle.ty_keys.specs.declared.key.Key.{Key}
use Rattle.ty_keys.specs.declared.key.Key.TheVariants.{Ready, Global, HostConfig, HostIp, HostEndpoint, Workload, Policy, ProfileRules, ProfileLabels, NetSet, Pool, Resource}
use Rattle.ty_keys.specs.declared.key.KeyFault.{KeyFault}
use Rattle.ty_keys.specs.declared.key.KeyFault.TheVariants.{NoForm}
use Rattle.ty_keys.specs.Grammar.{Piece, Word, Part, Net, Plural, pieces, printed, is_piece}
use Rattle.ty_keys.specs.Faults.{Segment, fault_in, or_else, part_fault}
use Rattle.ty_keys.specs.Nets.{net_of}
use Rattle.ty_keys.specs.Plurals.{Kind, kind_of, is_plural, is_due}
use Rattle.ty_keys.specs.Forms.{◌>>=◌, part_at, no_form, next_segment, one_part, four_parts, last_part, and_last_part, host_ip, host_workload, under_host, hosts, of_tier, of_profile, policies, pool_of, pools, ready, of_v1, namespaced, of_kind, resources, of_root, read_segments}
use Rattle.ty_keys.proofs.Units.{part_takes, part_fails}
use Rattle.ty_keys.proofs.Networks.{net_takes}
use Rattle.ty_keys.proofs.Named.{same_text, plural_is, due_again}

abbrev pub texts : List Segment → List (List ℕ)
texts ss = map (λ s. s.1) ss

abbrev pub prints : Key → List (List ℕ)
prints k = map printed (pieces k)

-- a piece as it is read from a segment
abbrev pub MatchesAt : Piece → Segment → Type 0
MatchesAt (Word w) s = s.1 ≡ w
MatchesAt (Part p) s = part_at s ≡ Ok p
MatchesAt (Net v6 addr len) s = net_of v6 s.1 ≡ Some (addr, len)
MatchesAt (Plural namespaced plural) s = (plural ≡ s.1) × (is_plural namespaced plural ≡ true)

abbrev pub Matches : List Piece → List Segment → Type 0
Matches [] [] = Unit {0}
Matches [] (s ∷ ss) = ⊥
Matches (p ∷ ps) [] = ⊥
Matches (p ∷ ps) (s ∷ ss) = MatchesAt p s × Matches ps ss

piece_text : (p : Piece) (s : Segment) → MatchesAt p s → printed p ≡ s.1
piece_text (Word w) s m = sym m
piece_text (Part p) s m = (part_takes s p m).text
piece_text (Net v6 addr len) s m = sym (net_takes v6 s.1 addr len m).0
piece_text (Plural namespaced plural) s m = m.0

piece_good : (p : Piece) (s : Segment) → MatchesAt p s → is_piece p ≡ true
piece_good (Word w) s m = refl
piece_good (Part p) s m = (part_takes s p m).part
piece_good (Net v6 addr len) s m = (net_takes v6 s.1 addr len m).1
piece_good (Plural namespaced plural) s m = m.1

pub match_text : (ps : List Piece) (ss : List Segment) → Matches ps ss → map printed ps ≡ texts ss
match_text [] [] m = refl
match_text [] (s ∷ ss) m = absurd m
match_text (p ∷ ps) [] m = absurd m
match_text (p ∷ ps) (s ∷ ss) m = ap (λ t. t ∷ map printed ps) (piece_text p s m.0) ∙ ap (λ ts. s.1 ∷ ts) (match_text ps ss m.1)

pub match_good : (ps : List Piece) (ss : List Segment) → Matches ps ss → list_all is_piece ps ≡ true
match_good [] [] m = refl
match_good [] (s ∷ ss) m = absurd m
match_good (p ∷ ps) [] m = absurd m
match_good (p ∷ ps) (s ∷ ss) m = ap (λ v. v && list_all is_piece ps) (piece_good p s m.0) ∙ match_good ps ss m.1

pub record Reads (ss : List Segment) (k : Key) : Type 0 where
  pub text : prints k ≡ texts ss
  pub pieces : list_all is_piece (pieces k) ≡ true
  pub clean : fault_in ss ≡ None

abbrev pub Sound : List Segment → Result Key KeyFault → Type 0
Sound ss (Ok k) = Reads ss k
Sound ss (Err f) = fault_in ss ≡ Some f

found : (ss : List Segment) (k : Key) → fault_in ss ≡ None → Matches (pieces k) ss → Reads ss k
found ss k c m = record { text = match_text (pieces k) ss m; pieces = match_good (pieces k) ss m; clean = c }

-- one part after another
part_then : (ss : List Segment) (a : Segment) (go : List ℕ → Result Key KeyFault) (rest : Option KeyFault) → fault_in ss ≡ or_else (part_fault a) rest
    → ((x : List ℕ) → part_at a ≡ Ok x → fault_in ss ≡ rest → Sound ss (go x)) → Sound ss (part_at a >>= go)
part_then ss a go rest f g =
    elim (part_at a) as (λ r. part_at a ≡ r → Sound ss (r >>= go)) [
      | Ok x ↦ λ e. g x e (f ∙ ap (λ o. or_else o rest) (part_takes a x e).clean)
      | Err d ↦ λ e. f ∙ ap (λ o. or_else o rest) (part_fails a d e)
    ] refl

one_then : (ss : List Segment) (make : List ℕ → Key) (a : Segment) → fault_in ss ≡ or_else (part_fault a) None
    → ((x : List ℕ) → part_at a ≡ Ok x → Matches (pieces (make x)) ss) → Sound ss (one_part make a)
one_then ss make a f m = part_then ss a _ None f (λ x e c. found ss (make x) c (m x e))

two_then : (ss : List Segment) (make : List ℕ → List ℕ → Key) (a b : Segment) → fault_in ss ≡ or_else (part_fault a) (or_else (part_fault b) None)
    → ((x y : List ℕ) → part_at a ≡ Ok x → part_at b ≡ Ok y → Matches (pieces (make x y)) ss)
    → Sound ss (part_at a >>= λ x. part_at b >>= λ y. Ok (make x y))
two_then ss make a b f m =
    part_then ss a _ (or_else (part_fault b) None) f (λ x e c.
    part_then ss b _ None c (λ y g d.
    found ss (make x y) d (m x y e g)))

-- a segment that may be this word
by_word : (w s : List ℕ) (P : List ℕ → Type 0) → P w → (bytes_eq s w ≡ false → P s) → P s
by_word w s P is isn't =
    elim (bytes_eq s w) as (λ v. bytes_eq s w ≡ v → P s) [
      | true ↦ λ h. subst P (sym (same_text s w h)) is
      | false ↦ λ h. isn't h
    ] refl

abbrev in_v1 : ℕ → ℕ → List Segment → List Segment
in_v1 a b ss = (a, codes "calico") ∷ (b, codes "v1") ∷ ss

-- ---- hosts

abbrev in_host : ℕ → ℕ → ℕ → Segment → ℕ → List ℕ → List Segment → List Segment
in_host a b c h d w ss = in_v1 a b ((c, codes "host") ∷ h ∷ (d, w) ∷ ss)

config_sound : (a b c : ℕ) (h : Segment) (d : ℕ) (ss : List Segment) → Sound (in_host a b c h d (codes "config") ss) (and_last_part HostConfig h ss)
config_sound a b c h d [] = refl
config_sound a b c h d (n ∷ []) = two_then _ HostConfig h n refl (λ x y e g. (refl, (refl, (refl, (e, (refl, (g, tt)))))))
config_sound a b c h d (n ∷ t ∷ ss) = refl

endpoint_sound : (a b c : ℕ) (h : Segment) (d : ℕ) (ss : List Segment) → Sound (in_host a b c h d (codes "endpoint") ss) (and_last_part HostEndpoint h ss)
endpoint_sound a b c h d [] = refl
endpoint_sound a b c h d (n ∷ []) = two_then _ HostEndpoint h n refl (λ x y e g. (refl, (refl, (refl, (e, (refl, (g, tt)))))))
endpoint_sound a b c h d (n ∷ t ∷ ss) = refl

ip_sound : (a b c : ℕ) (h : Segment) (d : ℕ) (ss : List Segment) → Sound (in_host a b c h d (codes "bird_ip") ss) (host_ip h ss)
ip_sound a b c h d [] = one_then _ HostIp h refl (λ x e. (refl, (refl, (refl, (e, (refl, tt))))))
ip_sound a b c h d (n ∷ ss) = refl

workload_no : (a b c : ℕ) (h : Segment) (d : ℕ) (o l p : Segment) (i : ℕ) (e : List ℕ) → bytes_eq e (codes "endpoint") ≡ false
    → fault_in (in_host a b c h d (codes "workload") (o ∷ l ∷ (i, e) ∷ p ∷ [])) ≡ Some NoForm
workload_no a b c h d o l p i e n = rw n refl

workload_sound : (a b c : ℕ) (h : Segment) (d : ℕ) (ss : List Segment) → Sound (in_host a b c h d (codes "workload") ss) (host_workload h ss)
workload_sound a b c h d [] = refl
workload_sound a b c h d (o ∷ []) = refl
workload_sound a b c h d (o ∷ l ∷ []) = refl
workload_sound a b c h d (o ∷ l ∷ (i, e) ∷ []) =
    by_word (codes "endpoint") e (λ w. Sound (in_host a b c h d (codes "workload") (o ∷ l ∷ (i, w) ∷ [])) no_form) refl (λ n. rw n refl)
workload_sound a b c h d (o ∷ l ∷ (i, e) ∷ p ∷ []) =
    by_word (codes "endpoint") e (λ w. Sound (in_host a b c h d (codes "workload") (o ∷ l ∷ (i, w) ∷ p ∷ [])) (host_workload h (o ∷ l ∷ (i, w) ∷ p ∷ [])))
    (let ss = in_host a b c h d (codes "workload") (o ∷ l ∷ (i, codes "endpoint") ∷ p ∷ []) in
    part_then ss h _ (or_else (part_fault o) (or_else (part_fault l) (or_else (part_fault p) None))) refl (λ x ex cx.
    part_then ss o _ (or_else (part_fault l) (or_else (part_fault p) None)) cx (λ y ey cy.
    part_then ss l _ (or_else (part_fault p) None) cy (λ z ez cz.
    part_then ss p _ None cz (λ u eu cu.
    found ss (Workload x y z u) cu (refl, (refl, (refl, (ex, (refl, (ey, (ez, (refl, (eu, tt))))))))))))))
    (λ n. subst (Sound (in_host a b c h d (codes "workload") (o ∷ l ∷ (i, e) ∷ p ∷ []))) (sym (ap (λ v. cond v (four_parts Workload h o l p) no_form) n)) (workload_no a b c h d o l p i e n))
workload_sound a b c h d (o ∷ l ∷ (i, e) ∷ p ∷ q ∷ ss) =
    by_word (codes "endpoint") e (λ w. Sound (in_host a b c h d (codes "workload") (o ∷ l ∷ (i, w) ∷ p ∷ q ∷ ss)) no_form) refl (λ n. rw n refl)

host_sound : (a b c : ℕ) (h : Segment) (d : ℕ) (w : List ℕ) (ss : List Segment) → Sound (in_host a b c h d w ss) (under_host h (d, w) ss)
host_sound a b c h d w ss =
    let P : List ℕ → Type 0 = λ w. Sound (in_host a b c h d w ss) (under_host h (d, w) ss) in
    by_word (codes "config") w P (config_sound a b c h d ss) (λ n1.
    by_word (codes "bird_ip") w P (ip_sound a b c h d ss) (λ n2.
    by_word (codes "endpoint") w P (endpoint_sound a b c h d ss) (λ n3.
    by_word (codes "workload") w P (workload_sound a b c h d ss) (λ n4.
    rw (n1, n2, n3, n4) (rw (n1, n2, n3, n4) refl)))))

pub hosts_sound : (a b c : ℕ) (ss : List Segment) → Sound (in_v1 a b ((c, codes "host") ∷ ss)) (hosts ss)
hosts_sound a b c [] = refl
hosts_sound a b c (h ∷ []) = refl
hosts_sound a b c (h ∷ (d, w) ∷ ss) = host_sound a b c h d w ss

-- ---- policies and profiles

abbrev in_policy : ℕ → ℕ → ℕ → ℕ → List ℕ → Segment → List Segment → List Segment
in_policy a b c d w owner ss = in_v1 a b ((c, codes "policy") ∷ (d, w) ∷ owner ∷ ss)

tier_sound : (a b c d : ℕ) (t : Segment) (ss : List Segment) → Sound (in_policy a b c d (codes "tier") t ss) (of_tier t ss)
tier_sound a b c d t [] = refl
tier_sound a b c d t ((i, w) ∷ []) =
    by_word (codes "policy") w (λ w. Sound (in_policy a b c d (codes "tier") t ((i, w) ∷ [])) no_form) refl (λ n. rw n refl)
tier_sound a b c d t ((i, w) ∷ p ∷ []) =
    by_word (codes "policy") w (λ w. Sound (in_policy a b c d (codes "tier") t ((i, w) ∷ p ∷ [])) (of_tier t ((i, w) ∷ p ∷ [])))
    (two_then _ Policy t p refl (λ x y e g. (refl, (refl, (refl, (refl, (e, (refl, (g, tt)))))))))
    (λ n. rw n (rw n refl))
tier_sound a b c d t ((i, w) ∷ p ∷ q ∷ ss) =
    by_word (codes "policy") w (λ w. Sound (in_policy a b c d (codes "tier") t ((i, w) ∷ p ∷ q ∷ ss)) no_form) refl (λ n. rw n refl)

profile_sound : (a b c d : ℕ) (p : Segment) (ss : List Segment) → Sound (in_policy a b c d (codes "profile") p ss) (of_profile p ss)
profile_sound a b c d p [] = refl
profile_sound a b c d p ((i, w) ∷ []) =
    let P : List ℕ → Type 0 = λ w. Sound (in_policy a b c d (codes "profile") p ((i, w) ∷ [])) (of_profile p ((i, w) ∷ [])) in
    by_word (codes "rules") w P (one_then _ ProfileRules p refl (λ x e. (refl, (refl, (refl, (refl, (e, (refl, tt)))))))) (λ n1.
    by_word (codes "labels") w P (one_then _ ProfileLabels p refl (λ x e. (refl, (refl, (refl, (refl, (e, (refl, tt)))))))) (λ n2.
    rw (n1, n2) (rw (n1, n2) refl)))
profile_sound a b c d p ((i, w) ∷ q ∷ ss) =
    let P : List ℕ → Type 0 = λ w. Sound (in_policy a b c d (codes "profile") p ((i, w) ∷ q ∷ ss)) no_form in
    by_word (codes "rules") w P refl (λ n1.
    by_word (codes "labels") w P refl (λ n2.
    rw (n1, n2) refl))

policies_sound : (a b c : ℕ) (ss : List Segment) → Sound (in_v1 a b ((c, codes "policy") ∷ ss)) (policies ss)
policies_sound a b c [] = refl
policies_sound a b c ((d, w) ∷ []) =
    let P : List ℕ → Type 0 = λ w. Sound (in_v1 a b ((c, codes "policy") ∷ (d, w) ∷ [])) no_form in
    by_word (codes "tier") w P refl (λ n1. by_word (codes "profile") w P refl (λ n2. rw (n1, n2) refl))
policies_sound a b c ((d, w) ∷ o ∷ ss) =
    let P : List ℕ → Type 0 = λ w. Sound (in_policy a b c d w o ss) (policies ((d, w) ∷ o ∷ ss)) in
    by_word (codes "tier") w P (tier_sound a b c d o ss) (λ n1.
    by_word (codes "profile") w P (profile_sound a b c d o ss) (λ n2.
    rw (n1, n2) (rw (n1, n2) refl)))

-- ---- pools

abbrev in_pool : ℕ → ℕ → ℕ → ℕ → List ℕ → ℕ → List ℕ → List Segment → List Segment
in_pool a b c d v e w ss = in_v1 a b ((c, codes "ipam") ∷ (d, v) ∷ (e, w) ∷ ss)

net_of_4 : (a b c d e : ℕ) (n : Segment) → Sound (in_pool a b c d (codes "v4") e (codes "pool") (n ∷ [])) (pool_of false (net_of false n.1))
net_of_4 a b c d e n =
    elim (net_of false n.1) as (λ o. net_of false n.1 ≡ o → Sound (in_pool a b c d (codes "v4") e (codes "pool") (n ∷ [])) (pool_of false o)) [
      | None ↦ λ h. rw h refl
      | Some x ↦ λ h. found _ (Pool false x.0 x.1) (rw h refl) (refl, (refl, (refl, (refl, (refl, (h, tt))))))
    ] refl

net_of_6 : (a b c d e : ℕ) (n : Segment) → Sound (in_pool a b c d (codes "v6") e (codes "pool") (n ∷ [])) (pool_of true (net_of true n.1))
net_of_6 a b c d e n =
    elim (net_of true n.1) as (λ o. net_of true n.1 ≡ o → Sound (in_pool a b c d (codes "v6") e (codes "pool") (n ∷ [])) (pool_of true o)) [
      | None ↦ λ h. rw h refl
      | Some x ↦ λ h. found _ (Pool true x.0 x.1) (rw h refl) (refl, (refl, (refl, (refl, (refl, (h, tt))))))
    ] refl

-- a form that doesn't fit whatever the two words are
two_words : (v w x y z : List ℕ) (P : List ℕ → List ℕ → Type 0) → ((s : List ℕ) → bytes_eq s x ≡ false → bytes_eq s y ≡ false → P s w)
    → (bytes_eq w z ≡ false → P x w) → (bytes_eq w z ≡ false → P y w) → P x z → P y z → P v w
two_words v w x y z P none x_no y_no x_yes y_yes =
    by_word x v (λ s. P s w) (by_word z w (P x) x_yes x_no) (λ n1.
    by_word y v (λ s. P s w) (by_word z w (P y) y_yes y_no) (λ n2.
    none v n1 n2))

four_more : (a b c d e : ℕ) (n m : Segment) (ss : List Segment) → Sound (in_pool a b c d (codes "v4") e (codes "pool") (n ∷ m ∷ ss)) no_form
four_more a b c d e n m ss =
    elim (net_of false n.1) as (λ o. net_of false n.1 ≡ o → Sound (in_pool a b c d (codes "v4") e (codes "pool") (n ∷ m ∷ ss)) no_form) [
      | None ↦ λ h. rw h refl
      | Some x ↦ λ h. rw h refl
    ] refl

six_more : (a b c d e : ℕ) (n m : Segment) (ss : List Segment) → Sound (in_pool a b c d (codes "v6") e (codes "pool") (n ∷ m ∷ ss)) no_form
six_more a b c d e n m ss =
    elim (net_of true n.1) as (λ o. net_of true n.1 ≡ o → Sound (in_pool a b c d (codes "v6") e (codes "pool") (n ∷ m ∷ ss)) no_form) [
      | None ↦ λ h. rw h refl
      | Some x ↦ λ h. rw h refl
    ] refl

pools_sound : (a b c : ℕ) (ss : List Segment) → Sound (in_v1 a b ((c, codes "ipam") ∷ ss)) (pools ss)
pools_sound a b c [] = refl
pools_sound a b c ((d, v) ∷ []) =
    let P : List ℕ → Type 0 = λ v. Sound (in_v1 a b ((c, codes "ipam") ∷ (d, v) ∷ [])) no_form in
    by_word (codes "v4") v P refl (λ n1. by_word (codes "v6") v P refl (λ n2. rw (n1, n2) refl))
pools_sound a b c ((d, v) ∷ (e, w) ∷ []) =
    two_words v w (codes "v4") (codes "v6") (codes "pool") (λ v w. Sound (in_pool a b c d v e w []) no_form)
    (λ s n1 n2. rw (n1, n2) refl) (λ n. rw n refl) (λ n. rw n refl) refl refl
pools_sound a b c ((d, v) ∷ (e, w) ∷ n ∷ []) =
    let Q : List ℕ → List ℕ → Type 0 = λ v w. Sound (in_pool a b c d v e w (n ∷ [])) (pools ((d, v) ∷ (e, w) ∷ n ∷ [])) in
    two_words v w (codes "v4") (codes "v6") (codes "pool") Q
    (λ s n1 n2. by_word (codes "pool") w (Q s) (rw (n1, n2) (rw (n1, n2) refl)) (λ n3. rw n3 (rw (n1, n2) refl)))
    (λ m. rw m (rw m refl)) (λ m. rw m (rw m refl)) (net_of_4 a b c d e n) (net_of_6 a b c d e n)
pools_sound a b c ((d, v) ∷ (e, w) ∷ n ∷ m ∷ ss) =
    two_words v w (codes "v4") (codes "v6") (codes "pool") (λ v w. Sound (in_pool a b c d v e w (n ∷ m ∷ ss)) no_form)
    (λ s n1 n2. rw (n1, n2) refl) (λ k. rw k refl) (λ k. rw k refl) (four_more a b c d e n m ss) (six_more a b c d e n m ss)

-- ---- all of v1

config_only : (a b c : ℕ) (ss : List Segment) → Sound (in_v1 a b ((c, codes "config") ∷ ss)) (last_part Global ss)
config_only a b c [] = refl
config_only a b c (n ∷ []) = one_then _ Global n refl (λ x e. (refl, (refl, (refl, (e, tt)))))
config_only a b c (n ∷ m ∷ ss) = refl

netset_sound : (a b c : ℕ) (ss : List Segment) → Sound (in_v1 a b ((c, codes "netset") ∷ ss)) (last_part NetSet ss)
netset_sound a b c [] = refl
netset_sound a b c (n ∷ []) = one_then _ NetSet n refl (λ x e. (refl, (refl, (refl, (e, tt)))))
netset_sound a b c (n ∷ m ∷ ss) = refl

ready_sound : (a b c : ℕ) (ss : List Segment) → Sound (in_v1 a b ((c, codes "Ready") ∷ ss)) (ready ss)
ready_sound a b c [] = found _ Ready refl (refl, (refl, (refl, tt)))
ready_sound a b c (n ∷ ss) = refl

pub v1_sound : (a b c : ℕ) (w : List ℕ) (ss : List Segment) → Sound (in_v1 a b ((c, w) ∷ ss)) (of_v1 (c, w) ss)
v1_sound a b c w ss =
    let P : List ℕ → Type 0 = λ w. Sound (in_v1 a b ((c, w) ∷ ss)) (of_v1 (c, w) ss) in
    by_word (codes "host") w P (hosts_sound a b c ss) (λ n1.
    by_word (codes "config") w P (config_only a b c ss) (λ n2.
    by_word (codes "policy") w P (policies_sound a b c ss) (λ n3.
    by_word (codes "netset") w P (netset_sound a b c ss) (λ n4.
    by_word (codes "ipam") w P (pools_sound a b c ss) (λ n5.
    by_word (codes "Ready") w P (ready_sound a b c ss) (λ n6.
    rw (n1, n2, n3, n4, n5, n6) (rw (n1, n2, n3, n4, n5, n6) refl)))))))

v1_any : (a b : ℕ) (ss : List Segment) → Sound (in_v1 a b ss) (next_segment ss >>= λ v. of_v1 v.0 v.1)
v1_any a b [] = refl
v1_any a b ((c, w) ∷ ss) = v1_sound a b c w ss

-- ---- resources

abbrev in_resources : ℕ → ℕ → ℕ → List ℕ → ℕ → List ℕ → List Segment → List Segment
in_resources a b c v d g ss = (a, codes "calico") ∷ (b, codes "resources") ∷ (c, v) ∷ (d, g) ∷ ss

abbrev in_v3 : ℕ → ℕ → ℕ → ℕ → List Segment → List Segment
in_v3 a b c d ss = in_resources a b c (codes "v3") d (codes "projectcalico.org") ss

due_cases : (k : Kind) (P : Bool → Type 0) → (k.namespaced ≡ true → P true) → (k.namespaced ≡ false → P false) → P k.namespaced
due_cases k P p q = elim k.namespaced as (λ v. k.namespaced ≡ v → P v) [ true ↦ λ h. p h | false ↦ λ h. q h ] refl

wide_sound : (a b c d e : ℕ) (p : List ℕ) (k : Kind) (ss : List Segment) → kind_of p ≡ Some k → k.namespaced ≡ false
    → Sound (in_v3 a b c d ((e, p) ∷ ss)) (last_part (λ name. Resource k.plural None name) ss)
wide_sound a b c d e p k [] h n = rw (h, n) refl
wide_sound a b c d e p k (x ∷ []) h n =
    one_then _ (λ name. Resource k.plural None name) x (rw (h, n) refl)
    (λ y ey. (refl, (refl, (refl, (refl, ((sym (plural_is p k h), ap (is_due false) (ap kind_of (sym (plural_is p k h)) ∙ h) ∙ due_again false k n), (ey, tt)))))))
wide_sound a b c d e p k (x ∷ y ∷ ss) h n = rw (h, n) refl

spaced_sound : (a b c d e : ℕ) (p : List ℕ) (k : Kind) (ss : List Segment) → kind_of p ≡ Some k → k.namespaced ≡ true
    → Sound (in_v3 a b c d ((e, p) ∷ ss)) (namespaced k.plural ss)
spaced_sound a b c d e p k [] h n = rw (h, n) refl
spaced_sound a b c d e p k (x ∷ []) h n = rw (h, n) refl
spaced_sound a b c d e p k (x ∷ y ∷ []) h n =
    two_then _ (λ s t. Resource k.plural (Some s) t) x y (rw (h, n) refl)
    (λ s t es et. (refl, (refl, (refl, (refl, ((sym (plural_is p k h), ap (is_due true) (ap kind_of (sym (plural_is p k h)) ∙ h) ∙ due_again true k n), (es, (et, tt))))))))
spaced_sound a b c d e p k (x ∷ y ∷ z ∷ ss) h n = rw (h, n) refl

kind_sound : (a b c d e : ℕ) (p : List ℕ) (ss : List Segment) → Sound (in_v3 a b c d ((e, p) ∷ ss)) (of_kind (kind_of p) ss)
kind_sound a b c d e p ss =
    elim (kind_of p) as (λ o. kind_of p ≡ o → Sound (in_v3 a b c d ((e, p) ∷ ss)) (of_kind o ss)) [
      | None ↦ λ h. rw h refl
      | Some k ↦ λ h. due_cases k (λ v. Sound (in_v3 a b c d ((e, p) ∷ ss)) (cond v (namespaced k.plural ss) (last_part (λ name. Resource k.plural None name) ss)))
          (λ n. spaced_sound a b c d e p k ss h n) (λ n. wide_sound a b c d e p k ss h n)
    ] refl

resources_none : (a b c : ℕ) (v : List ℕ) (d : ℕ) (g : List ℕ) (ss : List Segment) → (bytes_eq v (codes "v3") && bytes_eq g (codes "projectcalico.org")) ≡ false
    → fault_in (in_resources a b c v d g ss) ≡ Some NoForm
resources_none a b c v d g ss h =
    by_word (codes "v3") v (λ v. (bytes_eq v (codes "v3") && bytes_eq g (codes "projectcalico.org")) ≡ false → fault_in (in_resources a b c v d g ss) ≡ Some NoForm)
    (λ k. rw k refl) (λ n k. rw n refl) h

both : (v g : List ℕ) (P : List ℕ → List ℕ → Type 0) → P (codes "v3") (codes "projectcalico.org")
    → ((bytes_eq v (codes "v3") && bytes_eq g (codes "projectcalico.org")) ≡ false → P v g) → P v g
both v g P p q =
    elim (bytes_eq v (codes "v3")) as (λ t. bytes_eq v (codes "v3") ≡ t → P v g) [
      | true ↦ λ h.
          elim (bytes_eq g (codes "projectcalico.org")) as (λ u. bytes_eq g (codes "projectcalico.org") ≡ u → P v g) [
            | true ↦ λ k. subst (λ (x : List ℕ). P x g) (sym (same_text v (codes "v3") h)) (subst (P (codes "v3")) (sym (same_text g (codes "projectcalico.org") k)) p)
            | false ↦ λ k. q (ap (λ t. t && bytes_eq g (codes "projectcalico.org")) h ∙ k)
          ] refl
      | false ↦ λ h. q (ap (λ t. t && bytes_eq g (codes "projectcalico.org")) h)
    ] refl

resources_sound : (a b : ℕ) (ss : List Segment) → Sound ((a, codes "calico") ∷ (b, codes "resources") ∷ ss) (resources ss)
resources_sound a b [] = refl
resources_sound a b ((c, v) ∷ []) =
    by_word (codes "v3") v (λ v. Sound ((a, codes "calico") ∷ (b, codes "resources") ∷ (c, v) ∷ []) no_form) refl (λ n. rw n refl)
resources_sound a b ((c, v) ∷ (d, g) ∷ []) =
    by_word (codes "v3") v (λ v. Sound (in_resources a b c v d g []) no_form)
    (by_word (codes "projectcalico.org") g (λ g. Sound (in_resources a b c (codes "v3") d g []) no_form) refl (λ n. rw n refl))
    (λ n. rw n refl)
resources_sound a b ((c, v) ∷ (d, g) ∷ (e, p) ∷ ss) =
    let P : List ℕ → List ℕ → Type 0 = λ v g. Sound (in_resources a b c v d g ((e, p) ∷ ss)) (resources ((c, v) ∷ (d, g) ∷ (e, p) ∷ ss)) in
    let none : (bytes_eq v (codes "v3") && bytes_eq g (codes "projectcalico.org")) ≡ false → P v g = λ h.
    subst (Sound (in_resources a b c v d g ((e, p) ∷ ss))) (sym (ap (λ t. cond t (of_kind (kind_of p) ss) no_form) h)) (resources_none a b c v d g ((e, p) ∷ ss) h) in
    both v g P (kind_sound a b c d e p ss) none

-- ---- all of it

root_sound : (a b : ℕ) (w : List ℕ) (ss : List Segment) → Sound ((a, codes "calico") ∷ (b, w) ∷ ss) (of_root (b, w) ss)
root_sound a b w ss =
    let P : List ℕ → Type 0 = λ w. Sound ((a, codes "calico") ∷ (b, w) ∷ ss) (of_root (b, w) ss) in
    by_word (codes "v1") w P (v1_any a b ss) (λ n1.
    by_word (codes "resources") w P (resources_sound a b ss) (λ n2.
    rw (n1, n2) (rw (n1, n2) refl)))

pub all_sound : (ss : List Segment) → Sound ss (read_segments ss)
unfolding read_segments
all_sound [] = refl
all_sound ((a, r) ∷ []) = by_word (codes "calico") r (λ r. Sound ((a, r) ∷ []) no_form) refl (λ n. rw n refl)
all_sound ((a, r) ∷ (b, w) ∷ ss) =
    let P : List ℕ → Type 0 = λ r. Sound ((a, r) ∷ (b, w) ∷ ss) (cond (bytes_eq r (codes "calico")) (of_root (b, w) ss) no_form) in
    by_word (codes "calico") r P (root_sound a b w ss) (λ n. rw n (rw n refl))
