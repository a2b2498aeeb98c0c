-- The faults and the items of lines, and of more lines behind them.
use Rattle.std.proofs.Common.{◌≡◌, ◌∙◌, ap, sym, refl, ℕ, ◌+◌, ◌++◌, Bool, true, false, cond, not, List, [], ◌∷◌, length, arith}
use Rattle.std.specs.Prelude.{Option, None, Some, is_some}
use Rattle.std.specs.Option.{option_or}
use Rattle.std.specs.Str.{is_utf8}
use Rattle.std.specs.List.{filter_map, cons_option, take_while}
use Rattle.std.proofs.lemmas.List.Sums.{take_while-cons}
use Rattle.ty_base.specs.declared.item.Item.{Item}
use Rattle.ty_intake.specs.Line.{said_by, item_by}
use Rattle.ty_intake.specs.Faults.{is_too_long, line_fault, first_line_fault}
use Rattle.ty_intake.specs.Batches.{is_good}
use Rattle.ty_intake.specs.steps.Progress.{items_in}
use Rattle.ty_intake.specs.declared.intake.IntakeFault.{IntakeFault}
use Rattle.ty_intake.specs.declared.intake.IntakeFault.TheVariants.{LongLine, BadUtf8, BadLine}

-- ---- whether a line is good, whatever its number

fault-by : (n : ℕ) (a b c : Bool) → Option IntakeFault
fault-by n true b c = Some (LongLine n)
fault-by n false false c = Some (BadUtf8 n)
fault-by n false true true = None
fault-by n false true false = Some (BadLine n)

fault-is : (n : ℕ) (l : List ℕ) (a b c : Bool) → is_too_long l ≡ a → is_utf8 l ≡ b → is_some (said_by l) ≡ c → line_fault n l ≡ fault-by n a b c
unfolding line_fault fault-by
fault-is n l true b c p q r = rw p refl
fault-is n l false false c p q r = rw (p, q) refl
fault-is n l false true true p q r = rw (p, q, r) refl
fault-is n l false true false p q r = rw (p, q, r) refl

same-by : (n m : ℕ) (a b c : Bool) → is_some (fault-by n a b c) ≡ is_some (fault-by m a b c)
unfolding fault-by
same-by n m true b c = refl
same-by n m false false c = refl
same-by n m false true true = refl
same-by n m false true false = refl

pub any-number : (n m : ℕ) (l : List ℕ) → is_some (line_fault n l) ≡ is_some (line_fault m l)
any-number n m l =
    ap is_some (fault-is n l (is_too_long l) (is_utf8 l) (is_some (said_by l)) refl refl refl)
    ∙ same-by n m (is_too_long l) (is_utf8 l) (is_some (said_by l))
    ∙ ap is_some (sym (fault-is m l (is_too_long l) (is_utf8 l) (is_some (said_by l)) refl refl refl))

good-line : (n : ℕ) (l : List ℕ) → line_fault n l ≡ None → is_good l ≡ true
good-line n l e = ap not (any-number 0 n l ∙ ap is_some e)

bad-line : (n : ℕ) (l : List ℕ) (f : IntakeFault) → line_fault n l ≡ Some f → is_good l ≡ false
bad-line n l f e = ap not (any-number 0 n l ∙ ap is_some e)

-- ---- the first fault

pub fault-cons : (n : ℕ) (l : List ℕ) (ls : List (List ℕ)) → first_line_fault n (l ∷ ls) ≡ option_or (line_fault (n + 1) l) (first_line_fault (n + 1) ls)
unfolding first_line_fault
fault-cons n l ls = refl

pub fault-nil : (n : ℕ) → first_line_fault n [] ≡ None
unfolding first_line_fault
fault-nil n = refl

or-none : {A : Type 0} (o : Option A) → option_or o None ≡ o
or-none {A} None = refl
or-none {A} (Some x) = refl

or-or : {A : Type 0} (o p q : Option A) → option_or o (option_or p q) ≡ option_or (option_or o p) q
or-or {A} None p q = refl
or-or {A} (Some x) p q = refl

pub fault-one : (n : ℕ) (l : List ℕ) → first_line_fault n (l ∷ []) ≡ line_fault (n + 1) l
fault-one n l = fault-cons n l [] ∙ ap (option_or (line_fault (n + 1) l)) (fault-nil (n + 1)) ∙ or-none (line_fault (n + 1) l)

pub fault-append : (n : ℕ) (ls ms : List (List ℕ)) → first_line_fault n (ls ++ ms) ≡ option_or (first_line_fault n ls) (first_line_fault (n + length ls) ms)
fault-append n [] ms =
    let e : n ≡ n + 0 = omega arith in
    ap (λ k. first_line_fault k ms) e ∙ sym (ap (λ o. option_or o (first_line_fault (n + 0) ms)) (fault-nil n))
fault-append n (l ∷ ls) ms =
    let e : n + 1 + length ls ≡ n + length (l ∷ ls) = omega arith in
    fault-cons n l (ls ++ ms)
    ∙ ap (option_or (line_fault (n + 1) l)) (fault-append (n + 1) ls ms)
    ∙ ap (λ k. option_or (line_fault (n + 1) l) (option_or (first_line_fault (n + 1) ls) (first_line_fault k ms))) e
    ∙ or-or (line_fault (n + 1) l) (first_line_fault (n + 1) ls) (first_line_fault (n + length (l ∷ ls)) ms)
    ∙ sym (ap (λ o. option_or o (first_line_fault (n + length (l ∷ ls)) ms)) (fault-cons n l ls))

pub fault-more : (n : ℕ) (ls ms : List (List ℕ)) (f : IntakeFault) → first_line_fault n ls ≡ Some f → first_line_fault n (ls ++ ms) ≡ Some f
fault-more n ls ms f e = fault-append n ls ms ∙ ap (λ o. option_or o (first_line_fault (n + length ls) ms)) e

pub fault-then : (n : ℕ) (ls ms : List (List ℕ)) → first_line_fault n ls ≡ None → first_line_fault n (ls ++ ms) ≡ first_line_fault (n + length ls) ms
fault-then n ls ms e = fault-append n ls ms ∙ ap (λ o. option_or o (first_line_fault (n + length ls) ms)) e

-- ---- the items before it

items-by : (b : Bool) (l : List ℕ) (ls : List (List ℕ)) → is_good l ≡ b → items_in (l ∷ ls) ≡ cond b (cons_option (item_by l) (items_in ls)) []
items-by true l ls e = ap (filter_map item_by) (take_while-cons is_good l ls ∙ ap (λ v. cond v (l ∷ take_while is_good ls) []) e)
items-by false l ls e = ap (filter_map item_by) (take_while-cons is_good l ls ∙ ap (λ v. cond v (l ∷ take_while is_good ls) []) e)

pub items-good : (n : ℕ) (l : List ℕ) (ls : List (List ℕ)) → line_fault n l ≡ None → items_in (l ∷ ls) ≡ cons_option (item_by l) (items_in ls)
items-good n l ls e = items-by true l ls (good-line n l e)

pub items-bad : (n : ℕ) (l : List ℕ) (ls : List (List ℕ)) (f : IntakeFault) → line_fault n l ≡ Some f → items_in (l ∷ ls) ≡ []
items-bad n l ls f e = items-by false l ls (bad-line n l f e)

pub items-one : (n : ℕ) (l : List ℕ) → line_fault n l ≡ None → items_in (l ∷ []) ≡ cons_option (item_by l) []
items-one n l e = items-good n l [] e

cons-append : (o : Option Item) (xs ys : List Item) → cons_option o (xs ++ ys) ≡ cons_option o xs ++ ys
cons-append None xs ys = refl
cons-append (Some x) xs ys = refl

-- a fault of the first line, or of the others
both-none : (o p : Option IntakeFault) → option_or o p ≡ None → (o ≡ None) × (p ≡ None)
both-none None p e = (refl, e)
both-none (Some x) p e = cc

pub items-then : (n : ℕ) (ls ms : List (List ℕ)) → first_line_fault n ls ≡ None → items_in (ls ++ ms) ≡ items_in ls ++ items_in ms
items-then n [] ms e = refl
items-then n (l ∷ ls) ms e =
    let h : (line_fault (n + 1) l ≡ None) × (first_line_fault (n + 1) ls ≡ None) = both-none _ _ (sym (fault-cons n l ls) ∙ e) in
    items-good (n + 1) l (ls ++ ms) h.0
    ∙ ap (cons_option (item_by l)) (items-then (n + 1) ls ms h.1)
    ∙ cons-append (item_by l) (items_in ls) (items_in ms)
    ∙ sym (ap (λ xs. xs ++ items_in ms) (items-good (n + 1) l ls h.0))

pub items-stop : (n : ℕ) (ls ms : List (List ℕ)) (f : IntakeFault) → first_line_fault n ls ≡ Some f → items_in (ls ++ ms) ≡ items_in ls
items-stop n [] ms f e = absurd (let z : None ≡ Some f = sym (fault-nil n) ∙ e in cc)
items-stop n (l ∷ ls) ms f e =
    elim (line_fault (n + 1) l) as (λ o. line_fault (n + 1) l ≡ o → items_in (l ∷ (ls ++ ms)) ≡ items_in (l ∷ ls)) [
      | None ↦ λ h.
          let r : first_line_fault (n + 1) ls ≡ Some f = ap (λ o. option_or o (first_line_fault (n + 1) ls)) (sym h) ∙ sym (fault-cons n l ls) ∙ e in
          items-good (n + 1) l (ls ++ ms) h ∙ ap (cons_option (item_by l)) (items-stop (n + 1) ls ms f r) ∙ sym (items-good (n + 1) l ls h)
      | Some g ↦ λ h. items-bad (n + 1) l (ls ++ ms) g h ∙ sym (items-bad (n + 1) l ls g h)
    ] refl
