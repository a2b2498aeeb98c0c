-- The first `::` of a text: no part of groups before it holds one.
use Rattle.std.proofs.Common.{◌≡◌, ◌≢◌, ℕ, ◌<◌, ◌==◌, ◌&&◌, inl, inr, Bool, true, false, cond, List, [], ◌∷◌, ◌++◌, length, refl, sym, ap, subst, ◌∙◌, arith, append_assoc, append-nil, ne_eqb, eqb-true, Option, Some, None}
use Rattle.std.proofs.lemmas.Bool.{and_parts}
use Rattle.std.proofs.lemmas.Option.{none-some}
use Rattle.std.proofs.NetLemmas.Options.{map_some, same_parts}
use Rattle.std.specs.Option.{option_map}
use Rattle.std.specs.Net.Grammar.{IsDotted, IsGroup, IsGroupsAfter, IsGroups}
use Rattle.ty_net.specs.Addresses.{halves}
use Rattle.ty_net.proofs.Pieces.{Lacks}
use Rattle.ty_net.proofs.Octets.{dotted_lacks_colon, dotted_has_dot}
use Rattle.ty_net.proofs.Groups.{group_lacks, without_lead}

-- two halves, with a text before the first
abbrev pub behind : List ℕ → List ℕ × List ℕ → List ℕ × List ℕ
behind text h = (text ++ h.0, h.1)

pub halves_sound : (text h t : List ℕ) → halves text ≡ Some (h, t) → text ≡ h ++ (58 ∷ 58 ∷ t)
halves_sound [] h t e = absurd (none-some _ e)
halves_sound (a ∷ []) h t e = absurd (none-some _ e)
halves_sound (a ∷ b ∷ text) h t e =
    elim ((a == 58) && (b == 58)) as (λ v. ((a == 58) && (b == 58)) ≡ v → cond {A = Option (List ℕ × List ℕ)} v (Some ([], text)) (option_map (behind (a ∷ [])) (halves (b ∷ text))) ≡ Some (h, t) → a ∷ b ∷ text ≡ h ++ (58 ∷ 58 ∷ t)) [
      | true ↦ λ test k.
          let (first, second) = and_parts _ _ test in
          let (none, rest) = same_parts [] h text t k in
          let ea = eqb-true a 58 first in
          let eb = eqb-true b 58 second in
          ap (λ x. x ∷ b ∷ text) ea ∙ ap (λ x. 58 ∷ x ∷ text) eb ∙ ap (λ x. 58 ∷ 58 ∷ x) rest ∙ ap (λ x. x ++ (58 ∷ 58 ∷ t)) none
      | false ↦ λ test k. map_some _ (halves (b ∷ text)) (h, t) k λ x found same.
          let later = halves_sound (b ∷ text) x.0 x.1 found in
          ap (λ y. a ∷ y) later ∙ ap (λ y. y.0 ++ (58 ∷ 58 ∷ y.1)) same
    ] refl e

-- the first `::` of a text that begins with this one lies past it
abbrev pub Skips : List ℕ → Type 0
Skips text = (rest : List ℕ) → halves (text ++ rest) ≡ option_map (behind text) (halves rest)

fuse : (p q : List ℕ) (o : Option (List ℕ × List ℕ)) → option_map (behind p) (option_map (behind q) o) ≡ option_map (behind (p ++ q)) o
fuse p q None = refl
fuse p q (Some h) = ap (λ x. Some (x, h.1)) (sym (append_assoc p q h.0))

map_nothing : (o : Option (List ℕ × List ℕ)) → o ≡ option_map (behind []) o
map_nothing None = refl
map_nothing (Some h) = refl

pub skips_nil : Skips []
skips_nil rest = map_nothing (halves rest)

skips_both : (p q : List ℕ) → Skips p → Skips q → Skips (p ++ q)
skips_both p q hp hq rest = ap halves (append_assoc p q rest) ∙ hp (q ++ rest) ∙ ap (option_map (behind p)) (hq rest) ∙ fuse p q (halves rest)

skips_byte : (b : ℕ) → b ≢ 58 → Skips (b ∷ [])
skips_byte b h [] = refl
skips_byte b h (c ∷ rest) = rw (ne_eqb b 58 h)

skips_lacks : (p : List ℕ) → Lacks 58 p → Skips p
skips_lacks [] h = skips_nil
skips_lacks (b ∷ p) h = skips_both (b ∷ []) p (skips_byte b h.0) (skips_lacks p h.1)

-- a first byte, which is no colon
abbrev Starts : List ℕ → Type 0
Starts text = (c : ℕ) × (t : List ℕ) × (text ≡ c ∷ t) × (c ≢ 58)

starts_lacks : (p q : List ℕ) → 0 < length p → Lacks 58 p → Starts (p ++ q)
starts_lacks [] q h k = absurd (omega arith)
starts_lacks (b ∷ p) q h k = (b, p ++ q, refl, k.0)

skip_colon : (c : ℕ) (rest : List ℕ) → c ≢ 58 → halves (58 ∷ c ∷ rest) ≡ option_map (behind (58 ∷ [])) (halves (c ∷ rest))
skip_colon c rest h = rw (ne_eqb c 58 h)

skips_colon : (t : List ℕ) → Starts t → Skips t → Skips (58 ∷ t)
skips_colon t s h =
    let (c, more, is, other) = s in
    let P : List ℕ → Type 0 = λ x. Skips x → Skips (58 ∷ x) in
    subst P (sym is) (λ k rest. skip_colon c (more ++ rest) other ∙ ap (option_map (behind (58 ∷ []))) (k rest) ∙ fuse (58 ∷ []) (c ∷ more) (halves rest)) h

group_starts : (g rest : List ℕ) (s : ℕ) → IsGroup g s → Starts (g ++ rest)
group_starts g rest s h = starts_lacks g rest h.0.0.0 (group_lacks g s h)

dotted_some : (text o : List ℕ) → IsDotted text o → 0 < length text
dotted_some [] o h = absurd (dotted_has_dot [] o h tt)
dotted_some (b ∷ text) o h = omega arith

abbrev Passes : List ℕ → Type 0
Passes text = Skips text × Starts text

groups_pass : (dotted : Bool) (segments : List ℕ) (s : ℕ) (text : List ℕ) → IsGroupsAfter dotted [] text (s ∷ segments) → Passes text
groups_pass dotted [] s text (inl h) =
    let (g, rest, split, is_group, none) = h in
    let shown : text ≡ g ++ [] = split ∙ ap (λ r. g ++ r) none in
    subst Passes (sym shown) (skips_both g [] (skips_lacks g (group_lacks g s is_group)) skips_nil, group_starts g [] s is_group)
groups_pass dotted (s' ∷ segments) s text (inl h) =
    let (g, rest, split, is_group, more) = h in
    let (t, led, later) = without_lead dotted s' segments rest more in
    let (skips, starts) = groups_pass dotted segments s' t later in
    let shown : text ≡ g ++ (58 ∷ t) = split ∙ ap (λ r. g ++ r) led in
    subst Passes (sym shown) (skips_both g (58 ∷ t) (skips_lacks g (group_lacks g s is_group)) (skips_colon t starts skips), group_starts g (58 ∷ t) s is_group)
groups_pass dotted segments s text (inr h) =
    let (last, o, allowed, split, is_dotted, value) = h in
    let lacks = dotted_lacks_colon last o is_dotted in
    let shown : text ≡ last ++ [] = split ∙ sym (append-nil last) in
    subst Passes (sym shown) (skips_both last [] (skips_lacks last lacks) skips_nil, starts_lacks last [] (dotted_some last o is_dotted) lacks)

pub side_skips : (dotted : Bool) (segments text : List ℕ) → IsGroups dotted text segments → Skips text
side_skips dotted [] text h = subst Skips (sym h) skips_nil
side_skips dotted (s ∷ segments) text h = (groups_pass dotted segments s text h).0

-- groups alone have no `::`, and what groups stand before is cut at its first `::`
pub halves_none : (dotted : Bool) (segments text : List ℕ) → IsGroups dotted text segments → halves text ≡ None
halves_none dotted segments text h = ap halves (sym (append-nil text)) ∙ side_skips dotted segments text h []

pub halves_complete : (dotted : Bool) (segments text rest : List ℕ) → IsGroups dotted text segments → halves (text ++ (58 ∷ 58 ∷ rest)) ≡ Some (text, rest)
halves_complete dotted segments text rest h = side_skips dotted segments text h (58 ∷ 58 ∷ rest) ∙ ap (λ x. Some (x, rest)) (append-nil text)
