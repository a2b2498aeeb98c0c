-- What a history's word, and its beginnings, say of its entries and closing.
use Rattle.std.proofs.Common.{◌≡◌, ℕ, suc, ◌+◌, ◌*◌, ◌/◌, ◌%◌, nat_eq, ◌≤◌, Bool, true, false, List, [], ◌∷◌, ◌++◌, length, refl, ap, sym, ◌∙◌, subst, arith}
use mathlib.Core.List.{IsPrefix}
use Rattle.logbook.specs.Pages.{Book}
use Rattle.ty_base.specs.declared.entry.Entry.{Entry}
use Rattle.ty_account.specs.declared.history.Mark.{Mark}
use Rattle.ty_account.specs.declared.history.Mark.TheVariants.{Opened, Entered, Closed}
use Rattle.ty_account.specs.Known.{KnowsMore, name_of}
use Rattle.ty_account.specs.steps.Histories.{bit, entries_in, is_closed, goes_on, is_legal, word_of, word_weight, nodes_in, known_of}
use Rattle.ty_account.proofs.Prefixes.{prefix_shorter}

order : (n m x y : ℕ) (b c : Bool) → 2 * n + bit b ≤ 2 * m + bit c → x ≡ suc (n + bit b) → y ≡ suc (m + bit c) → x ≤ y
order n m x y true true le p q = omega arith
order n m x y true false le p q = omega arith
order n m x y false true le p q = omega arith
order n m x y false false le p q = omega arith

half : (n w : ℕ) (b : Bool) → w ≡ 2 * n + bit b → w / 2 ≡ n
half n w true p = omega arith
half n w false p = omega arith

odd : (n w : ℕ) (b : Bool) → w ≡ 2 * n + bit b → nat_eq (w % 2) 1 ≡ b
odd n w true p = let r : w % 2 ≡ 1 = omega arith in rw r refl
odd n w false p = let r : w % 2 ≡ 0 = omega arith in rw r refl

open_by : (n k : ℕ) (b : Bool) → 2 * n + bit b ≡ 2 * k → b ≡ false
open_by n k true p = absurd (omega arith)
open_by n k false p = refl

open_sum : (n : ℕ) (b : Bool) → b ≡ false → n + bit b ≡ n
open_sum n true o = absurd cc
open_sum n false o = omega arith

module _ {X : Type 0} where
  pub word_is : (h : List (Mark X)) → word_of h ≡ 2 * length (entries_in h) + bit (is_closed h)
  word_is [] = refl
  word_is (Opened p x ∷ h) = word_is h
  word_is (Entered e p x ∷ h) = let r = word_is h in omega arith
  word_is (Closed ∷ h) = refl

  goes_long : (h : List (Mark X)) → goes_on h ≡ true → length h ≡ length (entries_in h) + bit (is_closed h)
  goes_long [] l = refl
  goes_long (Opened p x ∷ h) l = absurd cc
  goes_long (Entered e p x ∷ h) l = let r = goes_long h l in omega (arith, r)
  goes_long (Closed ∷ []) l = refl
  goes_long (Closed ∷ m ∷ h) l = absurd cc

  -- a history has its entries, its opening and perhaps a close
  pub long : (h : List (Mark X)) → is_legal h ≡ true → length h ≡ suc (length (entries_in h) + bit (is_closed h))
  long [] l = absurd cc
  long (Opened p x ∷ h) l = ap suc (goes_long h l)
  long (Entered e p x ∷ h) l = absurd cc
  long (Closed ∷ h) l = absurd cc

  goes_nodes : (h : List (Mark X)) → goes_on h ≡ true → length (nodes_in h) ≡ length (entries_in h)
  goes_nodes [] l = refl
  goes_nodes (Opened p x ∷ h) l = absurd cc
  goes_nodes (Entered e p x ∷ h) l = ap suc (goes_nodes h l)
  goes_nodes (Closed ∷ []) l = refl
  goes_nodes (Closed ∷ m ∷ h) l = absurd cc

  -- a node for each entry, and one before
  pub nodes_long : (h : List (Mark X)) → is_legal h ≡ true → length (nodes_in h) ≡ suc (length (entries_in h))
  nodes_long [] l = absurd cc
  nodes_long (Opened p x ∷ h) l = ap suc (goes_nodes h l)
  nodes_long (Entered e p x ∷ h) l = absurd cc
  nodes_long (Closed ∷ h) l = absurd cc

  -- of two beginnings of one history the one with the smaller word begins the other
  pub word_order : (h g both : List (Mark X)) → is_legal h ≡ true → is_legal g ≡ true → IsPrefix h both → IsPrefix g both → word_of h ≤ word_of g → IsPrefix h g
  word_order h g both lh lg ph pg le = prefix_shorter h g both ph pg (order (length (entries_in h)) (length (entries_in g)) (length h) (length g) (is_closed h) (is_closed g) (omega (arith, word_is h, word_is g)) (long h lh) (long g lg))

  pub word_half : (h : List (Mark X)) → word_of h / 2 ≡ length (entries_in h)
  word_half h = half (length (entries_in h)) (word_of h) (is_closed h) (word_is h)

  pub word_odd : (h : List (Mark X)) → nat_eq (word_of h % 2) 1 ≡ is_closed h
  word_odd h = odd (length (entries_in h)) (word_of h) (is_closed h) (word_is h)

  -- a history whose word is even is not closed
  pub even_is_open : (h : List (Mark X)) (k : ℕ) → word_of h ≡ 2 * k → is_closed h ≡ false
  even_is_open h k p = open_by (length (entries_in h)) k (is_closed h) (sym (word_is h) ∙ p)

  pub open_word : (h : List (Mark X)) → is_closed h ≡ false → word_of h ≡ 2 * length (entries_in h)
  open_word h o = word_is h ∙ open_sum (2 * length (entries_in h)) (is_closed h) o

  -- two legal histories with one word, of which one begins the other, have one length
  pub same_length : (h g : List (Mark X)) → is_legal h ≡ true → is_legal g ≡ true → is_closed h ≡ false → word_of g ≡ word_of h → length g ≡ length h
  same_length h g lh lg o e =
      let open_h = open_word h o in
      let open_g = even_is_open g (length (entries_in h)) (e ∙ open_h) in
      omega (arith, long h lh, long g lg, open_h, open_word g open_g, e, ap bit o, ap bit open_g)

  goes_more : (h : List (Mark X)) (m : Mark X) → goes_on h ≡ true → is_closed h ≡ false → goes_on (m ∷ []) ≡ true → goes_on (h ++ m ∷ []) ≡ true
  goes_more [] m l o g = g
  goes_more (Opened p x ∷ h) m l o g = absurd cc
  goes_more (Entered e p x ∷ h) m l o g = goes_more h m l o g
  goes_more (Closed ∷ h) m l o g = absurd cc

  -- an open history may go on by an entry or a close
  pub legal_more : (h : List (Mark X)) (m : Mark X) → is_legal h ≡ true → is_closed h ≡ false → goes_on (m ∷ []) ≡ true → is_legal (h ++ m ∷ []) ≡ true
  legal_more [] m l o g = absurd cc
  legal_more (Opened p x ∷ h) m l o g = goes_more h m l o g
  legal_more (Entered e p x ∷ h) m l o g = absurd cc
  legal_more (Closed ∷ h) m l o g = absurd cc

  pub word_more : (h : List (Mark X)) (m : Mark X) → is_closed h ≡ false → word_of (h ++ m ∷ []) ≡ word_of h + word_weight m
  word_more [] (Opened p x) o = refl
  word_more [] (Entered e p x) o = refl
  word_more [] Closed o = refl
  word_more (Opened p x ∷ h) m o = word_more h m o
  word_more (Entered e p x ∷ h) m o = let r = word_more h m o in omega (arith, r)
  word_more (Closed ∷ h) m o = absurd cc

  pub entered_entries : (h : List (Mark X)) (e : Entry) (p : denote.RawPtr.Ptr) (x : Rattle.ty_account.specs.declared.node.Place.Place X) → is_closed h ≡ false
      → (entries_in (h ++ Entered e p x ∷ []) ≡ entries_in h ++ e ∷ []) × (is_closed (h ++ Entered e p x ∷ []) ≡ false)
  entered_entries [] e p x o = (refl, refl)
  entered_entries (Opened q y ∷ h) e p x o = entered_entries h e p x o
  entered_entries (Entered d q y ∷ h) e p x o = let r = entered_entries h e p x o in (ap (λ es. d ∷ es) r.0, r.1)
  entered_entries (Closed ∷ h) e p x o = absurd cc

  pub closed_entries : (h : List (Mark X)) → is_closed h ≡ false → (entries_in (h ++ Closed ∷ []) ≡ entries_in h) × (is_closed (h ++ Closed ∷ []) ≡ true)
  closed_entries [] o = (refl, refl)
  closed_entries (Opened p x ∷ h) o = closed_entries h o
  closed_entries (Entered d p x ∷ h) o = let r = closed_entries h o in (ap (λ es. d ∷ es) r.0, r.1)
  closed_entries (Closed ∷ h) o = absurd cc

  pub nodes_append : (h g : List (Mark X)) → nodes_in (h ++ g) ≡ nodes_in h ++ nodes_in g
  nodes_append [] g = refl
  nodes_append (Opened p x ∷ h) g = ap (λ ss. (p, x) ∷ ss) (nodes_append h g)
  nodes_append (Entered e p x ∷ h) g = ap (λ ss. (p, x) ∷ ss) (nodes_append h g)
  nodes_append (Closed ∷ h) g = nodes_append h g

  begins : (h rest : List (Mark X)) → IsPrefix (entries_in h) (entries_in (h ++ rest))
  begins [] rest = (entries_in rest, refl)
  begins (Opened p x ∷ h) rest = begins h rest
  begins (Entered e p x ∷ h) rest = let r = begins h rest in (r.0, ap (λ es. e ∷ es) r.1)
  begins (Closed ∷ h) rest = ([], refl)

  ends : (h rest : List (Mark X)) → is_closed h ≡ true → (entries_in (h ++ rest) ≡ entries_in h) × (is_closed (h ++ rest) ≡ true)
  ends [] rest c = absurd cc
  ends (Opened p x ∷ h) rest c = ends h rest c
  ends (Entered e p x ∷ h) rest c = let r = ends h rest c in (ap (λ es. e ∷ es) r.0, r.1)
  ends (Closed ∷ h) rest c = (refl, refl)

  -- the entries of a beginning begin the entries
  pub prefix_begins : (h g : List (Mark X)) → IsPrefix h g → IsPrefix (entries_in h) (entries_in g)
  prefix_begins h g p = subst (λ (l : List (Mark X)). IsPrefix (entries_in h) (entries_in l)) p.1 (begins h p.0)

  -- and a closed beginning has them all
  pub prefix_ends : (h g : List (Mark X)) → IsPrefix h g → is_closed h ≡ true → (entries_in g ≡ entries_in h) × (is_closed g ≡ true)
  prefix_ends h g p c = subst (λ (l : List (Mark X)). (entries_in l ≡ entries_in h) × (is_closed l ≡ true)) p.1 (ends h p.0 c)

  -- the nodes of a beginning begin the nodes
  pub prefix_nodes : (h g : List (Mark X)) → IsPrefix h g → IsPrefix (nodes_in h) (nodes_in g)
  prefix_nodes h g p = (nodes_in p.0, sym (nodes_append h p.0) ∙ ap nodes_in p.1)

  -- a longer history of one account says more
  pub knows_more : (b c : Book) (ns ms : List ℕ) (h g : List (Mark X)) → name_of c ms ≡ name_of b ns → IsPrefix h g → KnowsMore (known_of b ns h) (known_of c ms g)
  knows_more b c ns ms h g same p = record { account = same; begins = prefix_begins h g p; ends = prefix_ends h g p }
