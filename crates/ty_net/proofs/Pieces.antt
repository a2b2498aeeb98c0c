-- Texts cut at a byte, and put together again.
use Rattle.std.proofs.Common.{◌≡◌, ◌≢◌, ℕ, ◌<◌, ◌≤◌, ◌==◌, true, false, cond, List, [], ◌∷◌, ◌++◌, refl, sym, ap, ◌∙◌, arith, eq-eqb, ne_eqb, eqb-true, Option, Some, None}
use Rattle.std.proofs.lemmas.Option.{none-some}
use Rattle.std.specs.Char.{digit_value}
use Rattle.std.specs.Str.Parse.{AllDigits}
use Rattle.std.specs.List.{onto_first}
use Rattle.ty_net.specs.Addresses.{◌>>=◌, split_at}

-- the byte c stands nowhere in the text
abbrev pub Lacks : ℕ → List ℕ → Type 0
Lacks c [] = Unit {0}
Lacks c (b ∷ text) = (b ≢ c) × Lacks c text

pub lacks_both : (c : ℕ) (p q : List ℕ) → Lacks c p → Lacks c q → Lacks c (p ++ q)
lacks_both c [] q h k = k
lacks_both c (b ∷ p) q h k = (h.0, lacks_both c p q h.1 k)

pub lacks_none : (c : ℕ) (p q : List ℕ) → Lacks c (p ++ c ∷ q) → ⊥
lacks_none c [] q h = h.0 refl
lacks_none c (b ∷ p) q h = lacks_none c p q h.1

pub lacks_digits : (radix c : ℕ) (ds : List ℕ) → radix ≤ digit_value c → AllDigits radix ds → Lacks c ds
lacks_digits radix c [] h k = tt
lacks_digits radix c (d ∷ ds) h k = (
  λ e. (let same : digit_value d ≡ digit_value c = ap digit_value e in let low : digit_value d < radix = k.0 in absurd (not_below (digit_value d) (digit_value c) radix same low h)),
  lacks_digits radix c ds h k.1,
)
  where
    not_below : (v w r : ℕ) → v ≡ w → v < r → r ≤ w → ⊥
    not_below v w r e l g = omega arith

-- a text that lacks c is one piece, and goes up to the first c
pub pieces_one : (c : ℕ) (p : List ℕ) → Lacks c p → split_at c p ≡ p ∷ []
pieces_one c [] h = refl
pieces_one c (b ∷ p) h = rw (ne_eqb b c h.0, pieces_one c p h.1)

pub pieces_more : (c : ℕ) (p rest : List ℕ) → Lacks c p → split_at c (p ++ c ∷ rest) ≡ p ∷ split_at c rest
pieces_more c [] rest h = rw (eq-eqb c c refl)
pieces_more c (b ∷ p) rest h = rw (ne_eqb b c h.0, pieces_more c p rest h.1)

-- there is a first piece
on_first_some : (b : ℕ) (ps : List (List ℕ)) → (q : List ℕ) × (qs : List (List ℕ)) × (onto_first b ps ≡ q ∷ qs)
on_first_some b [] = (b ∷ [], [], refl)
on_first_some b (p ∷ ps) = (b ∷ p, ps, refl)

pub some_piece : (c : ℕ) (text : List ℕ) → (q : List ℕ) × (qs : List (List ℕ)) × (split_at c text ≡ q ∷ qs)
some_piece c [] = ([], [], refl)
some_piece c (b ∷ text) =
    elim (b == c) as (λ v. (q : List ℕ) × (qs : List (List ℕ)) × (cond v ([] ∷ split_at c text) (onto_first b (split_at c text)) ≡ q ∷ qs)) [
      | true ↦ ([], split_at c text, refl)
      | false ↦ on_first_some b (split_at c text)
    ]

-- pieces with c between each two
abbrev pub tails : ℕ → List (List ℕ) → List ℕ
tails c [] = []
tails c (p ∷ ps) = c ∷ (p ++ tails c ps)

abbrev pub joined : ℕ → List (List ℕ) → List ℕ
joined c [] = []
joined c (p ∷ ps) = p ++ tails c ps

joined-on_first : (c b : ℕ) (ps : List (List ℕ)) → joined c (onto_first b ps) ≡ b ∷ joined c ps
joined-on_first c b [] = refl
joined-on_first c b (p ∷ ps) = refl

joined_empty : (c : ℕ) (ps qs : List (List ℕ)) (q : List ℕ) → ps ≡ q ∷ qs → joined c ([] ∷ ps) ≡ c ∷ joined c ps
joined_empty c ps qs q e = rw e refl

pub joined-pieces : (c : ℕ) (text : List ℕ) → joined c (split_at c text) ≡ text
joined-pieces c [] = refl
joined-pieces c (b ∷ text) =
    elim (b == c) as (λ v. (b == c) ≡ v → joined c (cond v ([] ∷ split_at c text) (onto_first b (split_at c text))) ≡ b ∷ text) [
      | true ↦ λ t.
          let s = some_piece c text in
          joined_empty c (split_at c text) s.1 s.0 s.2 ∙ ap (λ x. c ∷ x) (joined-pieces c text) ∙ ap (λ x. x ∷ text) (sym (eqb-true b c t))
      | false ↦ λ t. joined-on_first c b (split_at c text) ∙ ap (λ x. b ∷ x) (joined-pieces c text)
    ] refl

-- what a chain went through
pub bind_some : {A B : Type 0} (o : Option A) (f : A → Option B) (y : B) → (o >>= f) ≡ Some y → (x : A) × (o ≡ Some x) × (f x ≡ Some y)
bind_some None f y e = absurd (none-some y e)
bind_some (Some x) f y e = (x, refl, e)
