-- A balanced tree is low: 2 to its height is at most the square of one more than its pairs; and no lower than it must be:
-- its pairs are fewer than 2 to its height. And the greatest height that so many pairs allow.
use Rattle.std.proofs.Common.{◌≡◌, ℕ, zero, suc, true, false, cond, leb, refl, ◌<◌, ◌+◌, ◌*◌, ◌^◌, ◌≤◌, ◌∷◌, ◌++◌, length, max, sym, ap, subst, ◌∙◌, inl, inr, arith, length-append, pow_mono, pow-add}
use Rattle.std.proofs.Math.Nat.{mul_comm, add-mul, pow-suc, pow-zero}
use Rattle.std.proofs.lemmas.Nat.{mul-le}
use Rattle.std.proofs.lemmas.Bool.{cases_lt, leb-true, leb-false}
use Rattle.ty_map.specs.Shape.{Shape, Empty, Fork, pairs, height, IsBalanced, DifferByAtMost}
use Rattle.ty_map.specs.Heights.{greatest_power, greatest_height}
use Rattle.ty_map.specs.Nodes.{shape_of}
use Rattle.ty_map.specs.steps.Tree.{IsAvl}
use Rattle.ty_map.specs.declared.tree.Root.{Root}
use Rattle.ty_map.specs.declared.tree.Root.TheVariants.{Leaf, Node}

pub square : (a : ℕ) → a ^ 2 ≡ a * a
square a = pow-suc a 1 ∙ ap (λ x. x * a) (pow-suc a 0 ∙ ap (λ x. x * a) (pow-zero a) ∙ omega arith)

-- the square of a sum
squared : (a b : ℕ) → (a + b) ^ 2 ≡ a * a + 2 * (a * b) + b * b
squared a b =
    let whole : (a + b) ^ 2 ≡ a * (a + b) + b * (a + b) = square (a + b) ∙ add-mul a b (a + b) in
    let first : a * (a + b) ≡ a * a + b * a = mul_comm a (a + b) ∙ add-mul a b a in
    let second : b * (a + b) ≡ a * b + b * b = mul_comm b (a + b) ∙ add-mul a b b in
    let turned : b * a ≡ a * b = mul_comm b a in omega arith

-- one higher than the higher side, on the left
step : (h k a b : ℕ) → k ≤ h → h ≤ k + 1 → 2 ^ h ≤ a ^ 2 → 2 ^ k ≤ b ^ 2 → 2 ^ (h + 1) ≤ (a + b) ^ 2
step h k a b below near p q =
    let top : 2 ^ (h + 1) ≡ 2 ^ h * 2 = pow-add 2 h 1 in
    let low : 2 ^ (k + 1) ≡ 2 ^ k * 2 = pow-add 2 k 1 in
    let mono : 2 ^ h ≤ 2 ^ (k + 1) = pow_mono near in
    let pa : 2 ^ h ≤ a * a = subst (λ x. 2 ^ h ≤ x) (square a) p in
    let qb : 2 ^ k ≤ b * b = subst (λ x. 2 ^ k ≤ x) (square b) q in
    subst (λ x. 2 ^ (h + 1) ≤ x) (sym (squared a b)) (
    elim (cases_lt a b) [
      | inl l ↦ let m : a * a ≤ a * b = mul-le a a a b (omega arith) (omega arith) in omega arith
      | inr g ↦ let m : b * b ≤ a * b = mul-le b b a b (omega arith) (omega arith) in omega arith
    ])

pub node_is_low : (hl hr a b : ℕ) → DifferByAtMost 1 hl hr → 2 ^ hl ≤ (a + 1) ^ 2 → 2 ^ hr ≤ (b + 1) ^ 2 → 2 ^ (max hl hr + 1) ≤ (a + (1 + b) + 1) ^ 2
node_is_low hl hr a b d p q =
    elim (cases_lt hl hr) [
      | inl l ↦
          let e : max hl hr ≡ hr = omega arith in
          let f : (b + 1) + (a + 1) ≡ a + (1 + b) + 1 = omega arith in
          subst (λ x. 2 ^ (x + 1) ≤ (a + (1 + b) + 1) ^ 2) (sym e) (subst (λ x. 2 ^ (hr + 1) ≤ x ^ 2) f (step hr hl (b + 1) (a + 1) (omega arith) (omega arith) q p))
      | inr g ↦
          let e : max hl hr ≡ hl = omega arith in
          let f : (a + 1) + (b + 1) ≡ a + (1 + b) + 1 = omega arith in
          subst (λ x. 2 ^ (x + 1) ≤ (a + (1 + b) + 1) ^ 2) (sym e) (subst (λ x. 2 ^ (hl + 1) ≤ x ^ 2) f (step hl hr (a + 1) (b + 1) (omega arith) (omega arith) p q))
    ]

pub balanced_is_low : (t : Shape) → IsBalanced t → 2 ^ height t ≤ (length (pairs t) + 1) ^ 2
balanced_is_low Empty b = omega arith
balanced_is_low (Fork l e r h) b =
    let counted : length (pairs l ++ e ∷ pairs r) ≡ length (pairs l) + (1 + length (pairs r)) = omega (arith, length-append (pairs l) (e ∷ pairs r)) in
    subst (λ n. 2 ^ h ≤ (n + 1) ^ 2) (sym counted)
    (subst (λ x. 2 ^ x ≤ (length (pairs l) + (1 + length (pairs r)) + 1) ^ 2) (sym b.2)
    (node_is_low (height l) (height r) (length (pairs l)) (length (pairs r)) b.3 (balanced_is_low l b.0) (balanced_is_low r b.1)))

pub balanced_is_no_lower : (t : Shape) → IsBalanced t → length (pairs t) + 1 ≤ 2 ^ height t
balanced_is_no_lower Empty b = omega arith
balanced_is_no_lower (Fork l e r h) b =
    let counted : length (pairs l ++ e ∷ pairs r) ≡ length (pairs l) + (1 + length (pairs r)) = omega (arith, length-append (pairs l) (e ∷ pairs r)) in
    let top : 2 ^ (max (height l) (height r) + 1) ≡ 2 ^ max (height l) (height r) * 2 = pow-add 2 (max (height l) (height r)) 1 in
    let on_left : 2 ^ height l ≤ 2 ^ max (height l) (height r) = pow_mono (omega arith) in
    let on_right : 2 ^ height r ≤ 2 ^ max (height l) (height r) = pow_mono (omega arith) in
    let few : length (pairs l) + 1 ≤ 2 ^ height l = balanced_is_no_lower l b.0 in
    let few_too : length (pairs r) + 1 ≤ 2 ^ height r = balanced_is_no_lower r b.1 in
    subst (λ n. n + 1 ≤ 2 ^ h) (sym counted)
    (subst (λ x. length (pairs l) + (1 + length (pairs r)) + 1 ≤ 2 ^ x) (sym b.2) (omega (arith, top, on_left, on_right, few, few_too)))

pub root_is_balanced : (r : Root) → IsAvl r → IsBalanced (shape_of r)
root_is_balanced Leaf g = tt
root_is_balanced (Node n) g = (g.4, g.5, g.1, g.2)

-- a number is below its power of 2
below_power : (k : ℕ) → k + 1 ≤ 2 ^ k
below_power zero = omega arith
below_power (suc k) =
    let more : 2 ^ suc k ≡ 2 ^ k * 2 = pow-suc 2 k in
    omega (arith, more, below_power k)

power_within : (n b : ℕ) → 1 ≤ n → 2 ^ greatest_power n b ≤ n
power_within n zero h = omega (arith, pow-zero 2)
power_within n (suc b) h =
    elim (leb (2 ^ suc b) n) as (λ v. leb (2 ^ suc b) n ≡ v → 2 ^ cond v (suc b) (greatest_power n b) ≤ n) [
      | true ↦ λ e. leb-true (2 ^ suc b) n e
      | false ↦ λ e. power_within n b h
    ] refl

power_greatest : (n b k : ℕ) → k ≤ b → 2 ^ k ≤ n → k ≤ greatest_power n b
power_greatest n zero k h p = h
power_greatest n (suc b) k h p =
    elim (leb (2 ^ suc b) n) as (λ v. leb (2 ^ suc b) n ≡ v → k ≤ cond v (suc b) (greatest_power n b)) [
      | true ↦ λ e. h
      | false ↦ λ e.
          elim (cases_lt k (suc b)) [
            | inl l ↦ power_greatest n b k (omega arith) p
            | inr g ↦ let over : 2 ^ suc b ≤ 2 ^ k = pow_mono g in let under : n < 2 ^ suc b = leb-false (2 ^ suc b) n e in omega arith
          ]
    ] refl

pub height_within : (count : ℕ) → 2 ^ greatest_height count ≤ (count + 1) ^ 2
unfolding greatest_height
height_within count =
    let some : 1 ≤ (count + 1) ^ 2 = omega (arith, squared count 1) in
    power_within ((count + 1) ^ 2) ((count + 1) ^ 2) some

pub height_greatest : (count h : ℕ) → 2 ^ h ≤ (count + 1) ^ 2 → h ≤ greatest_height count
unfolding greatest_height
height_greatest count h p = power_greatest ((count + 1) ^ 2) ((count + 1) ^ 2) h (omega (arith, below_power h)) p
