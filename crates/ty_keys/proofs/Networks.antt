-- ADDR-LEN, read and written.
use Rattle.std.proofs.Common.{◌≡◌, ℕ, ◌+◌, ◌^◌, ◌<◌, ◌≤◌, Bool, true, false, cond, not, ◌&&◌, ◌==◌, List, [], ◌∷◌, ◌++◌, length, get_or, take, drop, decimal, nat_lt, nat_le, Option, Some, None, refl, sym, ap, subst, ◌∙◌, arith, inl, inr, true≢false, IsTrue, add-one, suc}
use borrow.Author.Tests.{eqb-true, leb-true}
use Rattle.std.specs.List.{All, list_all, before_first, after_first, position, position_or_len}
use Rattle.std.specs.Option.{option_and_then}
use Rattle.std.specs.Str.{IsAscii}
use Rattle.std.proofs.lemmas.Bool.{cases_lt}
use Rattle.std.proofs.lemmas.Option.{option_and_then_some, cond_some}
use Rattle.std.proofs.lemmas.List.{take_at, take_all, drop_all}
use Rattle.std.proofs.lemmas.List.Sums.{passes_at_first, split_at_first}
use Rattle.std.proofs.lemmas.List.Elements.{All-cons}
use Rattle.std.proofs.lemmas.Str.Ascii.{IsAscii-from_all}
use Rattle.ty_base.specs.Numbers.{read_number}
use Rattle.ty_base.proofs.Digits.{read_decimal, decimal_of_read}
use Rattle.ty_keys.specs.Nets.{is_addr, is_addr_byte, is_net, is_dash, longest, net_text, net_of}
use Rattle.ty_keys.proofs.Segments.{position_or_len-le, past_end}
use Rattle.ty_keys.proofs.Units.{and_left, and_right}

-- ---- bytes of an address

addr_byte_small : (b : ℕ) → is_addr_byte b ≡ true → b < 128
addr_byte_small b h = grind arith

all_below : (bs : List ℕ) → list_all is_addr_byte bs ≡ true → All (λ b. b < 128) bs
all_below [] h = λ k d l. absurd (omega arith)
all_below (b ∷ bs) h = All-cons (λ x. x < 128) b bs (addr_byte_small b (and_left (is_addr_byte b) (list_all is_addr_byte bs) h)) (all_below bs (and_right (is_addr_byte b) (list_all is_addr_byte bs) h))

all_small : (bs : List ℕ) → list_all is_addr_byte bs ≡ true → IsAscii bs
all_small bs h = IsAscii-from_all bs (all_below bs h)

pub addr_ascii : (bs : List ℕ) → IsTrue (is_addr bs) → IsAscii bs
addr_ascii bs h = all_small bs (and_right (nat_lt 0 (length bs) && nat_le (length bs) 45) (list_all is_addr_byte bs) h)

no_dash : (b : ℕ) → is_addr_byte b ≡ true → is_dash b ≡ false
no_dash b h =
    elim (b == 45) as (λ v. (b == 45) ≡ v → v ≡ false) [
      | true ↦ λ e. absurd (true≢false (sym (subst (λ (k : ℕ). is_addr_byte k ≡ true) (eqb-true b 45 e) h)))
      | false ↦ λ e. refl
    ] refl

-- ---- read

read_nothing : (n : ℕ) → read_number [] ≡ Some n → ⊥
unfolding read_number
read_nothing n h = cc

pub net_takes : (v6 : Bool) (s a : List ℕ) (n : ℕ) → net_of v6 s ≡ Some (a, n) → (s ≡ net_text a n) × (is_net v6 a n ≡ true)
unfolding net_of
net_takes v6 s a n h =
    let addr = before_first is_dash s in
    let after = after_first is_dash s in
    option_and_then_some (λ m. cond (is_net v6 addr m) (Some (addr, m)) None) (read_number after) (a, n) h (λ m r e.
    let q = cond_some (is_net v6 addr m) (addr, m) (a, n) e in
    let pos = position_or_len is_dash s in
    let text : s ≡ net_text addr m =
    elim (cases_lt pos (length s)) [
      | inl lt ↦
          split_at_first is_dash s 0 lt
          ∙ ap (λ b. addr ++ b ∷ after) (eqb-true (get_or s pos 0) 45 (passes_at_first is_dash s 0 lt))
          ∙ ap (λ ds. addr ++ 45 ∷ ds) (decimal_of_read after m r)
      | inr le ↦ absurd (read_nothing m (sym (ap read_number (drop_all (pos + 1) s (omega arith))) ∙ r))
    ] in
    let P : List ℕ × ℕ → Type 0 = λ p. (s ≡ net_text p.0 p.1) × (is_net v6 p.0 p.1 ≡ true) in
    subst P q.1 (text, q.0))

-- ---- and read again

one_more : (n : ℕ) → 1 + n ≡ suc n
one_more n = omega arith

past : (a ds : List ℕ) → drop (suc (length a)) (a ++ 45 ∷ ds) ≡ ds
past [] ds = refl
past (b ∷ a) ds = past a ds

after_dash : (a ds : List ℕ) → drop (length a + 1) (a ++ 45 ∷ ds) ≡ ds
after_dash a ds = ap (λ k. drop k (a ++ 45 ∷ ds)) (add-one (length a)) ∙ ap (λ l. drop (suc (length a)) l) refl ∙ past a ds

dash_at : (a ds : List ℕ) → list_all is_addr_byte a ≡ true → position_or_len is_dash (a ++ 45 ∷ ds) ≡ length a
dash_at [] ds h = refl
dash_at (b ∷ a) ds h =
    ap (λ v. cond (not v) (1 + position_or_len is_dash (a ++ 45 ∷ ds)) 0) (no_dash b (and_left (is_addr_byte b) (list_all is_addr_byte a) h))
    ∙ ap (λ n. 1 + n) (dash_at a ds (and_right (is_addr_byte b) (list_all is_addr_byte a) h)) ∙ one_more (length a)

pub len_small : (v6 : Bool) (n : ℕ) → nat_le n (longest v6) ≡ true → n < 2 ^ 64
len_small true n h = let l : n ≤ 128 = leb-true n 128 h in omega arith
len_small false n h = let l : n ≤ 32 = leb-true n 32 h in omega arith

pub net_again : (v6 : Bool) (a : List ℕ) (n : ℕ) → is_net v6 a n ≡ true → net_of v6 (net_text a n) ≡ Some (a, n)
unfolding net_of
net_again v6 a n h =
    let s = net_text a n in
    let all : list_all is_addr_byte a ≡ true = and_right (nat_lt 0 (length a) && nat_le (length a) 45) (list_all is_addr_byte a) (and_left (is_addr a) (nat_le n (longest v6)) h) in
    let pos : position_or_len is_dash s ≡ length a = dash_at a (decimal n) all in
    let front : before_first is_dash s ≡ a = ap (λ k. take k s) pos ∙ take_at a (45 ∷ decimal n) (length a) refl in
    let back : after_first is_dash s ≡ decimal n = ap (λ k. drop (k + 1) s) pos ∙ after_dash a (decimal n) in
    let small : n < 2 ^ 64 = len_small v6 n (and_right (is_addr a) (nat_le n (longest v6)) h) in
    ap (λ x. option_and_then (λ m. cond (is_net v6 x m) (Some (x, m)) None) (read_number (after_first is_dash s))) front
    ∙ ap (λ t. option_and_then (λ m. cond (is_net v6 a m) (Some (a, m)) None) (read_number t)) back
    ∙ ap (option_and_then (λ m. cond (is_net v6 a m) (Some (a, m)) None)) (read_decimal n small)
    ∙ ap (λ v. cond v (Some (a, n)) None) h

-- ---- as the code cuts it

pub net_is : (v6 : Bool) (s addr after : List ℕ) (r : Option (List ℕ × ℕ)) → r ≡ option_and_then (λ len. cond (is_net v6 addr len) (Some (addr, len)) None) (read_number after)
    → addr ≡ before_first is_dash s → after ≡ after_first is_dash s → r ≡ net_of v6 s
unfolding net_of
net_is v6 s addr after r h p q =
    h ∙ ap (λ a. option_and_then (λ len. cond (is_net v6 a len) (Some (a, len)) None) (read_number after)) p
    ∙ ap (λ t. option_and_then (λ len. cond (is_net v6 (before_first is_dash s) len) (Some (before_first is_dash s, len)) None) (read_number t)) q

pub dash_some : (s : List ℕ) (d : ℕ) → Some d ≡ position is_dash s → d ≡ position_or_len is_dash s
dash_some s d h = sym (cond_some (nat_lt (position_or_len is_dash s) (length s)) (position_or_len is_dash s) d (sym h)).1

pub dash_none : (s : List ℕ) → None ≡ position is_dash s → (s ≡ before_first is_dash s) × ([] ≡ after_first is_dash s)
dash_none s h =
    let n = position_or_len is_dash s in
    let same : length s ≡ n = past_end n (length s) (position_or_len-le is_dash s) h in
    (sym (take_all n s (omega arith)), sym (drop_all (n + 1) s (omega arith)))
