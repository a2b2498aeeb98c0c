-- Numerals, digit by digit.
use Rattle.std.proofs.Common.{◌≡◌, ℕ, ◌+◌, ◌-◌, ◌*◌, ◌^◌, ◌<◌, ◌≤◌, Bool, true, false, cond, not, ◌&&◌, ◌==◌, nat_lt, List, [], ◌∷◌, length, get_or, decimal, refl, sym, ap, subst, ◌∙◌, arith, true≢false, rules, lt-ltb, le-ltb, eq-or-lt_of_le, inl, inr, ◌≢◌, lit<, ne_eqb, eq-eqb, drop, drop-cons, add-one}
use Rattle.std.proofs.lemmas.Bool.{ltb-true, ltb-false}
use Rattle.std.specs.Prelude.{Option, None, Some}
use Rattle.std.specs.Char.{is_ascii_digit}
use Rattle.std.specs.Str.{all_ascii_digits}
use Rattle.std.proofs.lemmas.Str.Parse.{IsNumeralModel, numerals_by_fold}
use Rattle.std.proofs.lemmas.Fmt.{digits_decimal, digits_value-decimal, decimal-digits_value, decimal_nonempty, first_decimal, decimal_digit}
use Rattle.std.proofs.lemmas.List.{drop_all}
use Rattle.ty_base.specs.Numbers.{BeginsNumeral, value_after, is_numeral, within_64_bits, read_number}

-- what digits write behind those of n, where they are digits and the number is below 2^64
abbrev pub owed : ℕ → List ℕ → Option ℕ
owed n ds = cond (all_ascii_digits ds) (within_64_bits (value_after n ds)) None

abbrev pub with_digit : ℕ → ℕ → Option ℕ
with_digit n d = cond (is_ascii_digit d) (within_64_bits (10 * n + (d - 48))) None

pub value_grows : (ds : List ℕ) (n : ℕ) → n ≤ value_after n ds
value_grows [] n = omega arith
value_grows (d ∷ ds) n = omega (arith, value_grows ds (10 * n + (d - 48)))

too_large : (n : ℕ) → 2 ^ 64 ≤ n → within_64_bits n ≡ None
too_large n h = ap (λ b. cond b (Some n) None) (le-ltb n (2 ^ 64) h)

none_either : (b : Bool) → cond {A = Option ℕ} b None None ≡ None
none_either true = refl
none_either false = refl

within_some : (k m : ℕ) → within_64_bits k ≡ Some m → k ≡ m
within_some k m h = elim (nat_lt k (2 ^ 64)) as (λ b. cond b (Some k) None ≡ Some m → k ≡ m) [ true ↦ λ e. cc | false ↦ λ e. cc ] h

within_none : (k : ℕ) → within_64_bits k ≡ None → 2 ^ 64 ≤ k
within_none k h =
    elim (nat_lt k (2 ^ 64)) as (λ b. nat_lt k (2 ^ 64) ≡ b → cond b (Some k) None ≡ None → 2 ^ 64 ≤ k) [
      | true ↦ λ t e. absurd (cc)
      | false ↦ λ t e. ltb-false k (2 ^ 64) t
    ] refl h

within_bound : (k m : ℕ) → within_64_bits k ≡ Some m → k < 2 ^ 64
within_bound k m h =
    elim (nat_lt k (2 ^ 64)) as (λ b. nat_lt k (2 ^ 64) ≡ b → cond b (Some k) None ≡ Some m → k < 2 ^ 64) [
      | true ↦ λ t e. ltb-true k (2 ^ 64) t
      | false ↦ λ t e. absurd (cc)
    ] refl h

pub with_digit_within : (n d m : ℕ) → with_digit n d ≡ Some m → m < 2 ^ 64
with_digit_within n d m h =
    let k : ℕ = 10 * n + (d - 48) in
    elim (is_ascii_digit d) as (λ v. cond v (within_64_bits k) None ≡ Some m → m < 2 ^ 64) [
      | true ↦ λ e. let P : ℕ → Type 0 = λ x. x < 2 ^ 64 in subst P (within_some k m e) (within_bound k m e)
      | false ↦ λ e. absurd (cc)
    ] h

pub owed_step : (n d : ℕ) (ds : List ℕ) (m : ℕ) → with_digit n d ≡ Some m → owed n (d ∷ ds) ≡ owed m ds
owed_step n d ds m h =
    let k : ℕ = 10 * n + (d - 48) in
    elim (is_ascii_digit d) as (λ v. cond v (within_64_bits k) None ≡ Some m → cond (v && all_ascii_digits ds) (within_64_bits (value_after k ds)) None ≡ owed m ds) [
      | true ↦ λ e. ap (λ x. owed x ds) (within_some k m e)
      | false ↦ λ e. absurd (cc)
    ] h

pub owed_none : (n d : ℕ) (ds : List ℕ) → with_digit n d ≡ None → owed n (d ∷ ds) ≡ None
owed_none n d ds h =
    let k : ℕ = 10 * n + (d - 48) in
    elim (is_ascii_digit d) as (λ v. cond v (within_64_bits k) None ≡ None → cond (v && all_ascii_digits ds) (within_64_bits (value_after k ds)) None ≡ None) [
      | true ↦ λ e.
          let large : 2 ^ 64 ≤ k = within_none k e in
          let more : k ≤ value_after k ds = value_grows ds k in
          ap (λ o. cond (all_ascii_digits ds) o None) (too_large (value_after k ds) (omega arith)) ∙ none_either (all_ascii_digits ds)
      | false ↦ λ e. refl
    ] h

pub owed_end : (n : ℕ) → n < 2 ^ 64 → owed n [] ≡ Some n
owed_end n h = ap (λ b. cond b (Some n) None) (lt-ltb n (2 ^ 64) h)

-- one digit of a text
pub owed_at : (text : List ℕ) (i n : ℕ) → i < length text → owed n (drop i text) ≡ owed n (get_or text i 0 ∷ drop (i + 1) text)
owed_at text i n h = ap (owed n) (drop-cons text i 0 h ∙ ap (λ k. get_or text i 0 ∷ drop k text) (sym (add-one i)))

-- the words of std for digits and their number
own : IsNumeralModel (λ ds. all_ascii_digits ds ≡ true) (value_after 0)
own = numerals_by_fold _ (search rules) value_after (search rules)

and_left : (a b : Bool) → (a && b) ≡ true → a ≡ true
and_left true b h = refl
and_left false b h = absurd (true≢false (sym h))

and_right : (a b : Bool) → (a && b) ≡ true → b ≡ true
and_right true b h = h
and_right false b h = absurd (true≢false (sym h))

-- a text of two bytes or more, whose first is no 0
pub numeral_long : (d e : ℕ) (ds : List ℕ) → d ≢ 48 → is_numeral (d ∷ e ∷ ds) ≡ all_ascii_digits (d ∷ e ∷ ds)
numeral_long d e ds h = ap (λ b. not b && all_ascii_digits (d ∷ e ∷ ds)) (ne_eqb d 48 h)

pub numeral_one : (d : ℕ) → is_numeral (d ∷ []) ≡ all_ascii_digits (d ∷ [])
numeral_one d = elim (is_ascii_digit d) as (λ b. b ≡ (b && true)) [ true ↦ refl | false ↦ refl ]

numeral_from : (ds : List ℕ) → all_ascii_digits ds ≡ true → 0 < length ds → (get_or ds 0 0 ≡ 48 → length ds ≡ 1) → is_numeral ds ≡ true
numeral_from [] a l z = absurd (omega arith)
numeral_from (d ∷ []) a l z = numeral_one d ∙ a
numeral_from (d ∷ e ∷ ds) a l z = numeral_long d e ds (λ h. let one : length (d ∷ e ∷ ds) ≡ 1 = z h in omega arith) ∙ a

numeral_digits : (ds : List ℕ) → is_numeral ds ≡ true → (all_ascii_digits ds ≡ true) × (0 < length ds) × (get_or ds 0 0 ≡ 48 → length ds ≡ 1)
numeral_digits [] h = absurd (true≢false (sym h))
numeral_digits (d ∷ []) h = (sym (numeral_one d) ∙ h, omega arith, λ z. refl)
numeral_digits (d ∷ e ∷ ds) h = (
  and_right (not (d == 48)) (all_ascii_digits (d ∷ e ∷ ds)) h,
  omega arith,
  λ z. absurd (true≢false (sym (and_left (not (d == 48)) (all_ascii_digits (d ∷ e ∷ ds)) h) ∙ ap not (eq-eqb d 48 z))),
)

first_of_one : (n : ℕ) → n < 2 ^ 64 → get_or (decimal n) 0 0 ≡ 48 → length (decimal n) ≡ 1
first_of_one n h z =
    elim (eq-or-lt_of_le (let l : 0 ≤ n = omega arith in l)) [
      | inl e ↦ ap (λ k. length (decimal k)) (sym e) ∙ ap length (decimal_digit 0 (lit< tt))
      | inr l ↦ absurd (omega (arith, first_decimal n l h))
    ]

pub read_decimal : (n : ℕ) → n < 2 ^ 64 → read_number (decimal n) ≡ Some n
unfolding read_number
read_decimal n h =
    ap (λ b. cond b (within_64_bits (value_after 0 (decimal n))) None) (numeral_from (decimal n) (digits_decimal own n h) (decimal_nonempty n h) (first_of_one n h))
    ∙ ap within_64_bits (digits_value-decimal own n h)
    ∙ owed_end n h

pub decimal_of_read : (text : List ℕ) (n : ℕ) → read_number text ≡ Some n → text ≡ decimal n
unfolding read_number
decimal_of_read text n h =
    let v : ℕ = value_after 0 text in
    elim (is_numeral text) as (λ b. is_numeral text ≡ b → cond b (within_64_bits v) None ≡ Some n → text ≡ decimal n) [
      | true ↦ λ t e.
          let same : v ≡ n = within_some v n e in
          let parts = numeral_digits text t in
          sym (decimal-digits_value own text parts.0 parts.1 parts.2 (within_bound v n e)) ∙ ap decimal same
      | false ↦ λ t e. absurd (cc)
    ] refl h

pub begun : (text : List ℕ) → BeginsNumeral text → is_numeral text ≡ all_ascii_digits text
begun [] h = absurd (omega (arith, h.0))
begun (d ∷ []) h = numeral_one d
begun (d ∷ e ∷ ds) h = numeral_long d e ds (λ z. let one : length (d ∷ e ∷ ds) ≡ 1 = h.1 z in omega arith)

pub not_begun : (text : List ℕ) → ¬ (BeginsNumeral text) → is_numeral text ≡ false
not_begun text h = elim (is_numeral text) as (λ b. is_numeral text ≡ b → b ≡ false) [
  | true ↦ λ t. let parts = numeral_digits text t in absurd (h (parts.1, parts.2))
  | false ↦ λ t. refl
] refl

pub read_begun : (text : List ℕ) → BeginsNumeral text → owed 0 text ≡ read_number text
unfolding read_number
read_begun text h = ap (λ b. cond b (within_64_bits (value_after 0 text)) None) (sym (begun text h))

pub read_not_begun : (text : List ℕ) → ¬ (BeginsNumeral text) → None ≡ read_number text
unfolding read_number
read_not_begun text h = ap (λ b. cond b (within_64_bits (value_after 0 text)) None) (sym (not_begun text h))

pub owed_past : (text : List ℕ) (i n : ℕ) → length text ≤ i → n < 2 ^ 64 → owed n (drop i text) ≡ Some n
owed_past text i n h l = ap (owed n) (drop_all i text h) ∙ owed_end n l
