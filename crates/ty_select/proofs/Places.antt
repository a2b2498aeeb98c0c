-- Reading goes on as long as a text agrees with some selector: so with what stands at a fault none begins.
use Rattle.std.proofs.Common.{◌≡◌, ℕ, zero, suc, ◌-◌, ◌≤◌, ◌<◌, List, [], ◌∷◌, ◌++◌, length, take, drop, false, not, ◌==◌, ◌||◌, cond, Ok, Err, Result, Some, codes, refl, sym, ap, ◌∙◌, subst, arith, length-drop, slice_index, ◌⊎◌, inl, inr}
use Rattle.std.specs.List.{prefix_len, position_or_len}
use Rattle.std.specs.Str.{is_utf8}
use Rattle.ty_select.specs.declared.limits.TheConstants.{MOST_OPEN}
use Rattle.ty_select.specs.declared.fault.SelectFault.TheVariants as faults
use Rattle.ty_select.specs.declared.fault.Stop.{Stop}
use Rattle.ty_select.specs.declared.fault.Stop.TheVariants.{Bad, TooDeep, Spent}
use Rattle.ty_select.specs.declared.fault.Wanted.{Wanted}
use Rattle.ty_select.specs.declared.fault.Wanted.TheVariants as wanted
use Rattle.ty_select.specs.declared.term.Operator.TheVariants.{Equal, Unequal, In, NotIn, Contains, Starts, Ends}
use Rattle.ty_select.specs.declared.token.Kind.{Kind}
use Rattle.ty_select.specs.declared.token.Kind.TheVariants as kind
use Rattle.ty_select.specs.Forms.{Form, all, global, has, equal, unequal, among, not_among, contains, starts, ends, negated, Forms, forms_of}
use Rattle.ty_select.specs.Expressions.{◌>>=◌, Read, mark, more_texts, set, with_text, with_set, operand, membership, constant, primary, others, others_from, alone_or, operands, both_of, either_of, conjunction, disjunction, grouped, negation, inside, unary, whole_text, from_the_front, selector_of}
use Rattle.ty_select.specs.Tokens.{Lexeme, lexeme, same_kind, is_blank, is_quote, token_at}
use Rattle.ty_select.specs.Words.{is_word_byte, is_word}
use Rattle.ty_select.specs.Grammar.{AreFurtherTexts, no_text, further_text, IsSet, empty_set, set_of_texts, IsTest, is_equal, is_unequal, is_in, is_not_in, does_contain, starts_with, ends_with, IsOr, or_of, AreOrs, no_or, further_or, IsAnd, and_of, AreAnds, no_and, further_and, IsUnary, negation_of, unary_of, IsPrimary, group_of, all_of, global_of, has_of, test_of, AreTerminals, blank, filled}
use Rattle.ty_select.specs.Terminals.{Terminal, a_word, a_text, paren, end_paren, brace, comma, bang, not_equal_sign, equal_sign, and_sign, or_sign, first_terminal, BeginsWith}
use Rattle.ty_select.specs.Places.{IsFaultPlace}
use Rattle.ty_select.proofs.Expressions.{comma_read, further_read, quoted_then, word_then, word_text_then, set_opened, texts_opened, set_read, text_read, test_by, by_mark, by_word, primary_called, constant_read, unary_seen, word_unary, others_found, and_read, unary_read, primary_read, whole_read, Kept, whole_kept}
use Rattle.ty_select.proofs.Grammar.{Broke, Explains, TextExplains, comma_then, comma_explained, further_explained, set_held, held_explained, set_explained, text_explained, operand_explained, primary_explained, constant_explained, membership_explained, unary_is, ands_explained, ors_explained, whole_at, whole_explained}
use Rattle.ty_select.proofs.Terminals.{token_shorter, shorter, as_many, kind_seen, begins_then}
use Rattle.ty_select.proofs.Loops.{one_more}
use Rattle.ty_select.proofs.PrintedTokens.{is_tested}
use Rattle.ty_select.proofs.Tokens.{by_cases}

-- Places, told by how many bytes are left

abbrev place : List ℕ → ℕ
place b = length (lexeme b).here

token_here : (here : List ℕ) → (token_at here).here ≡ here
token_here here =
    let first : ℕ = slice_index here 0 in
    let body : List ℕ = drop 1 here in
    let n : ℕ = position_or_len (λ b. b == first) body in
    let P : Lexeme → Type 0 = λ t. t.here ≡ here in
    by_cases P (length here == 0) _ _ (λ _. refl) (λ _.
    by_cases P (is_word_byte first) _ _ (λ _. by_cases P (is_word (take (prefix_len is_word_byte here) here)) _ _ (λ _. refl) (λ _. refl)) (λ _.
    by_cases P (is_quote first) _ _ (λ _. by_cases P ((n == length body) || not (is_utf8 (take n body))) _ _ (λ _. refl) (λ _. refl)) (λ _. refl)))

place_le : (b : List ℕ) → place b ≤ length b
unfolding lexeme
place_le b = omega (arith, ap length (token_here (drop (prefix_len is_blank b) b)), length-drop (prefix_len is_blank b) b)

rest_lt : (b : List ℕ) (t : Terminal) → first_terminal b ≡ Some t → length (lexeme b).rest < place b
unfolding lexeme
rest_lt b t h =
    let front = drop (prefix_len is_blank b) b in
    omega (arith, token_shorter front t h, ap length (token_here front))

places : (b : List ℕ) (ts : List Terminal) (c : List ℕ) → BeginsWith b ts c → place c ≤ place b
places b [] c h = omega (arith, ap (λ (x : List ℕ). place x) h)
places b (t ∷ ts) c h = omega (arith, places (lexeme b).rest ts c h.1, place_le (lexeme b).rest, rest_lt b t h.0)

-- Reading got so far

abbrev Reaches : {A : Type 0} → List ℕ → Read A → Type 0
Reaches mid (Ok y) = place y.1 ≤ place mid
Reaches mid (Err (Bad left w)) = left ≤ place mid
Reaches mid (Err (TooDeep left)) = left ≤ place mid
Reaches mid (Err Spent) = Unit {0}

module _ {A : Type 0} (L : List Terminal → A → Type 0) (b : List ℕ) where
  broke_on : (left : ℕ) → Broke L b left → left ≤ place b
  broke_on left e = omega (arith, e.place, places b e.before e.here e.read)

  advanced : (r : Read A) → Explains L b r → Reaches b r
  advanced (Ok y) e = places b e.0 y.1 e.1
  advanced (Err (Bad left w)) e = broke_on left e
  advanced (Err (TooDeep left)) e = broke_on left e
  advanced (Err Spent) e = tt

  at_front : (mid : List ℕ) (r : Read A) → b ≡ mid → Explains L b r → Reaches mid r
  at_front mid r e h = subst (λ x. Reaches x r) e (advanced r h)

reach_is : {A : Type 0} (mid : List ℕ) (r s : Read A) → r ≡ s → Reaches mid s → Reaches mid r
reach_is mid r s e h = subst (Reaches mid) (sym e) h

read_reach : {A : Type 0} (mid : List ℕ) (r : Read A) (x : A) → r ≡ Ok (x, mid) → Reaches mid r
read_reach mid r x e = reach_is mid r (Ok (x, mid)) e (omega arith)

reach_made : {A B : Type 0} (make : A → B) (mid : List ℕ) (r : Read A) → Reaches mid r → Reaches mid (r >>= λ y. Ok (make y.0, y.1))
reach_made make mid (Ok y) h = h
reach_made make mid (Err (Bad left w)) h = h
reach_made make mid (Err (TooDeep left)) h = h
reach_made make mid (Err Spent) h = h

further : {B : Type 0} (mid c : List ℕ) (r : Read B) → place c ≤ place mid → Reaches c r → Reaches mid r
further mid c (Ok y) le h = omega (arith, le, h)
further mid c (Err (Bad left w)) le h = omega (arith, le, h)
further mid c (Err (TooDeep left)) le h = omega (arith, le, h)
further mid c (Err Spent) le h = h

reach_first : {A B : Type 0} (mid : List ℕ) (r : Read A) (k : A × List ℕ → Read B) → Reaches mid r → ((y : A × List ℕ) → Reaches y.1 (k y)) → Reaches mid (r >>= k)
reach_first mid (Ok y) k h go = further mid y.1 (k y) h (go y)
reach_first mid (Err (Bad left w)) k h go = h
reach_first mid (Err (TooDeep left)) k h go = h
reach_first mid (Err Spent) k h go = h

abbrev Any : {A : Type 0} → List Terminal → A → Type 0
Any ts x = Unit {0}

-- A text and tokens agree up to a place

abbrev Along : List ℕ → List Terminal → List ℕ → Type 0
Along b [] mid = b ≡ mid
Along b (t ∷ ts) mid = (b ≡ mid) ⊎ ((first_terminal b ≡ Some t) × Along (lexeme b).rest ts mid)

-- .. which isn't the front
abbrev AlongOn : List ℕ → List Terminal → List ℕ → Type 0
AlongOn b [] mid = ⊥
AlongOn b (t ∷ ts) mid = (first_terminal b ≡ Some t) × Along (lexeme b).rest ts mid

on_along : (b : List ℕ) (ts : List Terminal) (mid : List ℕ) → AlongOn b ts mid → Along b ts mid
on_along b [] mid h = absurd h
on_along b (t ∷ ts) mid h = inr h

along_split : (b : List ℕ) (ts us : List Terminal) (mid : List ℕ) → Along b (ts ++ us) mid → Along b ts mid ⊎ ((c : List ℕ) × BeginsWith b ts c × AlongOn c us mid)
along_split b [] [] mid h = inl h
along_split b [] (u ∷ us) mid (inl e) = inl e
along_split b [] (u ∷ us) mid (inr h) = inr (b, refl, h)
along_split b (t ∷ ts) us mid (inl e) = inl (inl e)
along_split b (t ∷ ts) us mid (inr h) = elim (along_split (lexeme b).rest ts us mid h.1) [ inl a ↦ inl (inr (h.0, a)) | inr s ↦ inr (s.0, (h.0, s.1), s.2) ]

along_front : (b : List ℕ) (ts us : List Terminal) (mid : List ℕ) → BeginsWith b ts mid → Along b (ts ++ us) mid
along_front b [] [] mid h = h
along_front b [] (u ∷ us) mid h = inl h
along_front b (t ∷ ts) us mid h = inr (h.0, along_front (lexeme b).rest ts us mid h.1)

-- Sets and tests

spent_reach : (b mid : List ℕ) → length b ≤ 0 → Reaches mid (more_texts zero b)
unfolding more_texts
spent_reach b mid le = omega (arith, place_le b)

further_reach : {ts : List Terminal} {vs : List (List ℕ)} → AreFurtherTexts ts vs → (n : ℕ) (b mid : List ℕ) → length b ≤ n → Along b ts mid → Reaches mid (more_texts n b)
further_reach no_text zero b mid le h = spent_reach b mid le
further_reach (further_text v d) zero b mid le h = spent_reach b mid le
further_reach no_text (suc n) b mid le (inl e) = at_front AreFurtherTexts b mid _ e (further_explained (suc n) b)
further_reach no_text (suc n) b mid le (inr h) = read_reach mid _ [] (further_read no_text (suc n) b mid (omega arith) h)
further_reach (further_text v d) (suc n) b mid le (inl e) = at_front AreFurtherTexts b mid _ e (further_explained (suc n) b)
further_reach (further_text v d) (suc n) b mid le (inr h) =
    let c = (lexeme b).rest in
    reach_is mid _ _ (comma_read n b h.0)
    (elim h.1 [
      | inl e ↦ at_front (λ ts. AreFurtherTexts (comma ∷ ts)) c mid (comma_then n c) e (comma_explained n c)
      | inr k ↦
          reach_is mid (comma_then n c) _ (quoted_then wanted.Quoted c v (λ t. more_texts n t.1 >>= λ ts. Ok (t.0 ∷ ts.0, ts.1)) k.0)
          (reach_made (λ vs. v ∷ vs) mid (more_texts n (lexeme c).rest) (further_reach d n (lexeme c).rest mid (omega (arith, shorter b comma h.0, shorter c (a_text v) k.0)) k.1))
    ])

set_reach : {ts : List Terminal} {vs : List (List ℕ)} → IsSet ts vs → (b mid : List ℕ) → Along b ts mid → Reaches mid (set b)
set_reach empty_set b mid (inl e) = at_front IsSet b mid _ e (set_explained b)
set_reach empty_set b mid (inr h) = elim h.1 [
  | inl e ↦ reach_is mid _ _ (set_opened b h.0) (at_front (λ ts. IsSet (brace ∷ ts)) (lexeme b).rest mid (set_held (lexeme b).rest) e (held_explained (lexeme b).rest))
  | inr k ↦ read_reach mid _ [] (set_read empty_set b mid (h.0, k))
]
set_reach (set_of_texts v d) b mid (inl e) = at_front IsSet b mid _ e (set_explained b)
set_reach (set_of_texts v d) b mid (inr h) =
    let c = (lexeme (lexeme b).rest).rest in
    elim h.1 [
      | inl e ↦ reach_is mid _ _ (set_opened b h.0) (at_front (λ ts. IsSet (brace ∷ ts)) (lexeme b).rest mid (set_held (lexeme b).rest) e (held_explained (lexeme b).rest))
      | inr k ↦ reach_is mid _ _ (texts_opened v b h.0 k.0) (reach_made (λ vs. v ∷ vs) mid (more_texts (length c) c) (further_reach d (length c) c mid (omega arith) k.1))
    ]

text_reach : (make : List ℕ → Form) (v b mid : List ℕ) → Along b (a_text v ∷ []) mid → Reaches mid (with_text make b)
text_reach make v b mid (inl e) = at_front Any b mid (with_text make b) e (text_explained Any make (λ w. tt) b)
text_reach make v b mid (inr h) = read_reach mid (with_text make b) (make v) (text_read make v b mid h)

choice_reach : {ts : List Terminal} {vs : List (List ℕ)} (make : List (List ℕ) → Form) → IsSet ts vs → (b mid : List ℕ) → Along b ts mid → Reaches mid (with_set make b)
choice_reach make d b mid h = reach_made make mid (set b) (set_reach d b mid h)

begun : (l b mid : List ℕ) → b ≡ mid → Reaches mid (primary l b)
begun l b mid e = at_front (λ ts. IsPrimary 0 (a_word l ∷ ts)) b mid (primary l b) e (primary_explained 0 l b)

test_reach : {l : List ℕ} {ts : List Terminal} {f : Form} → IsTest l ts f → (b mid : List ℕ) → Along b ts mid → Reaches mid (primary l b)
test_reach {l} (is_equal v) b mid (inl e) = begun l b mid e
test_reach {l} (is_equal v) b mid (inr h) =
    reach_is mid _ _ (is_tested l b (kind_seen b equal_sign h.0 kind.Open) ∙ test_by l b Equal (by_mark b equal_sign h.0)) (text_reach (equal l) v (lexeme b).rest mid h.1)
test_reach {l} (is_unequal v) b mid (inl e) = begun l b mid e
test_reach {l} (is_unequal v) b mid (inr h) =
    reach_is mid _ _ (is_tested l b (kind_seen b not_equal_sign h.0 kind.Open) ∙ test_by l b Unequal (by_mark b not_equal_sign h.0)) (text_reach (unequal l) v (lexeme b).rest mid h.1)
test_reach {l} (is_in d) b mid (inl e) = begun l b mid e
test_reach {l} (is_in d) b mid (inr h) =
    reach_is mid _ _ (is_tested l b (kind_seen b (a_word (codes "in")) h.0 kind.Open) ∙ test_by l b In (by_word b (codes "in") h.0)) (choice_reach (among l) d (lexeme b).rest mid h.1)
test_reach {l} (is_not_in d) b mid (inl e) = begun l b mid e
test_reach {l} (is_not_in d) b mid (inr h) =
    let c = (lexeme b).rest in
    reach_is mid _ _ (is_tested l b (kind_seen b (a_word (codes "not")) h.0 kind.Open) ∙ test_by l b NotIn (by_word b (codes "not") h.0)) (elim h.1 [
      | inl e ↦ at_front (λ ts. IsTest l (a_word (codes "not") ∷ ts)) c mid (operand l NotIn c) e (operand_explained l NotIn c)
      | inr k ↦ reach_is mid _ _ (word_then (codes "in") wanted.In c (with_set (not_among l)) refl k.0) (choice_reach (not_among l) d (lexeme c).rest mid k.1)
    ])
test_reach {l} (does_contain v) b mid (inl e) = begun l b mid e
test_reach {l} (does_contain v) b mid (inr h) =
    reach_is mid _ _ (is_tested l b (kind_seen b (a_word (codes "contains")) h.0 kind.Open) ∙ test_by l b Contains (by_word b (codes "contains") h.0)) (text_reach (contains l) v (lexeme b).rest mid h.1)
test_reach {l} (starts_with v) b mid (inl e) = begun l b mid e
test_reach {l} (starts_with v) b mid (inr h) =
    let c = (lexeme b).rest in
    reach_is mid _ _ (is_tested l b (kind_seen b (a_word (codes "starts")) h.0 kind.Open) ∙ test_by l b Starts (by_word b (codes "starts") h.0)) (elim h.1 [
      | inl e ↦ at_front (λ ts. IsTest l (a_word (codes "starts") ∷ ts)) c mid (operand l Starts c) e (operand_explained l Starts c)
      | inr k ↦ reach_is mid _ _ (word_then (codes "with") wanted.With c (with_text (starts l)) refl k.0) (text_reach (starts l) v (lexeme c).rest mid k.1)
    ])
test_reach {l} (ends_with v) b mid (inl e) = begun l b mid e
test_reach {l} (ends_with v) b mid (inr h) =
    let c = (lexeme b).rest in
    reach_is mid _ _ (is_tested l b (kind_seen b (a_word (codes "ends")) h.0 kind.Open) ∙ test_by l b Ends (by_word b (codes "ends") h.0)) (elim h.1 [
      | inl e ↦ at_front (λ ts. IsTest l (a_word (codes "ends") ∷ ts)) c mid (operand l Ends c) e (operand_explained l Ends c)
      | inr k ↦ reach_is mid _ _ (word_then (codes "with") wanted.With c (with_text (ends l)) refl k.0) (text_reach (ends l) v (lexeme c).rest mid k.1)
    ])

-- Terms

constant_reach : (f : Form) (b mid : List ℕ) → Along b (end_paren ∷ []) mid → Reaches mid (constant f b)
constant_reach f b mid (inl e) = at_front Any b mid (constant f b) e (constant_explained Any f tt b)
constant_reach f b mid (inr h) = read_reach mid (constant f b) f (constant_read f b mid h)

membership_reach : (l b mid : List ℕ) → Along b (a_word l ∷ end_paren ∷ []) mid → Reaches mid (membership b)
unfolding membership constant
membership_reach l b mid (inl e) = at_front Any b mid (membership b) e (membership_explained Any (λ w. tt) b)
membership_reach l b mid (inr h) =
    reach_is mid (membership b) (constant (has l) (lexeme b).rest) (word_text_then wanted.Label b l (λ label. mark kind.Close wanted.Close label.1 >>= λ rest. Ok (has label.0, rest)) h.0)
    (constant_reach (has l) (lexeme b).rest mid h.1)

-- `)` behind what stands in parentheses
closes : (y : Form × List ℕ) → Reaches y.1 (mark kind.Close wanted.Close y.1 >>= λ rest. Ok (y.0, rest))
unfolding constant
closes y = advanced Any y.1 (constant y.0 y.1) (constant_explained Any y.0 tt y.1)

-- a function's name before what follows `(`
called_reach : (name b mid : List ℕ) (us : List Terminal) (o : List ℕ → Read Form) → ((c : List ℕ) → first_terminal c ≡ Some paren → primary name c ≡ o (lexeme c).rest)
    → ((c : List ℕ) → Along c us mid → Reaches mid (o c)) → Along b (paren ∷ us) mid → Reaches mid (primary name b)
called_reach name b mid us o is go (inl e) = begun name b mid e
called_reach name b mid us o is go (inr h) = reach_is mid (primary name b) (o (lexeme b).rest) (is b h.0) (go (lexeme b).rest h.1)

-- Operands

module _ (k : Kind) (one : List ℕ → Read Form) (mid : List ℕ) where
  others_front : (m : ℕ) (b : List ℕ) → ((c : List ℕ) → Reaches c (others k one m c)) → Reaches mid (one b) → Reaches mid (one b >>= λ x. others k one m x.1 >>= λ xs. Ok (x.0 ∷ xs.0, xs.1))
  others_front m b go h = reach_first mid (one b) (λ x. others k one m x.1 >>= λ xs. Ok (x.0 ∷ xs.0, xs.1)) h (λ y. reach_made (λ fs. y.0 ∷ fs) y.1 (others k one m y.1) (go y.1))

  others_behind : (m : ℕ) (b c : List ℕ) (f : Form) → one b ≡ Ok (f, c) → Reaches mid (others k one m c) → Reaches mid (one b >>= λ x. others k one m x.1 >>= λ xs. Ok (x.0 ∷ xs.0, xs.1))
  others_behind m b c f e h =
      reach_is mid _ _ (ap (λ q. q >>= λ (x : Form × List ℕ). others k one m x.1 >>= λ xs. Ok (x.0 ∷ xs.0, xs.1)) e) (reach_made (λ fs. f ∷ fs) mid (others k one m c) h)

  operands_front : (make : List Form → Form) (b : List ℕ) → ((m : ℕ) (c : List ℕ) → Reaches c (others k one m c)) → Reaches mid (one b) → Reaches mid (operands k make one b)
  unfolding operands
  operands_front make b go h =
      reach_first mid (one b) (λ x. others_from k one x.0 x.1 >>= λ xs. Ok (alone_or make xs.0, xs.1)) h
      (λ y. reach_made (alone_or make) y.1 (others_from k one y.0 y.1) (reach_made (λ fs. y.0 ∷ fs) y.1 (others k one (length y.1) y.1) (go (length y.1) y.1)))

  operands_behind : (make : List Form → Form) (b c : List ℕ) (f : Form) → one b ≡ Ok (f, c) → Reaches mid (others k one (length c) c) → Reaches mid (operands k make one b)
  unfolding operands
  operands_behind make b c f e h =
      reach_is mid _ _ (ap (λ q. q >>= λ (x : Form × List ℕ). others_from k one x.0 x.1 >>= λ xs. Ok (alone_or make xs.0, xs.1)) e)
      (reach_made (alone_or make) mid (others_from k one f c) (reach_made (λ fs. f ∷ fs) mid (others k one (length c) c) h))

ands_on : (n m : ℕ) (b : List ℕ) → Reaches b (others kind.AndAnd (unary n) m b)
ands_on n m b = advanced (λ ts fs. AreAnds n ts (forms_of fs)) b _ (ands_explained n (unary n) (unary_is n) m b)

ors_on : (n m : ℕ) (b : List ℕ) → Reaches b (others kind.OrOr (conjunction (unary n)) m b)
ors_on n m b = advanced (λ ts fs. AreOrs n ts (forms_of fs)) b _ (ors_explained n (unary n) (unary_is n) m b)

-- what follows an operand of an or isn't `&&`
or_stops : {n : ℕ} {us : List Terminal} {fs : Forms} → AreOrs n us fs → (c mid : List ℕ) → AlongOn c us mid → same_kind (lexeme c).kind kind.AndAnd ≡ false
or_stops no_or c mid h = absurd h
or_stops (further_or d ds) c mid h = kind_seen c or_sign h.0 kind.AndAnd

mutual
  or_reach : {n : ℕ} {ts : List Terminal} {f : Form} → IsOr n ts f → (m : ℕ) (b mid : List ℕ) → n ≤ m → Along b ts mid → Reaches mid (disjunction (unary m) b)
  or_reach (or_of {n} {ts} {us} {f} {fs} d ds) m b mid le h = elim (along_split b ts us mid h) [
    | inl a ↦ operands_front kind.OrOr (conjunction (unary m)) mid either_of b (ors_on m) (and_reach d m b mid le a)
    | inr s ↦ operands_behind kind.OrOr (conjunction (unary m)) mid either_of b s.0 f (and_read d m b s.0 le s.1 (or_stops ds s.0 mid s.2)) (ors_reach ds (length s.0) m s.0 mid le (omega arith) (on_along s.0 us mid s.2))
  ]

  ors_reach : {n : ℕ} {us : List Terminal} {fs : Forms} → AreOrs n us fs → (k m : ℕ) (b mid : List ℕ) → n ≤ m → length b ≤ k → Along b us mid → Reaches mid (others kind.OrOr (conjunction (unary m)) k b)
  ors_reach no_or k m b mid le many h = subst (λ x. Reaches x (others kind.OrOr (conjunction (unary m)) k b)) h (ors_on m k b)
  ors_reach (further_or d ds) k m b mid le many (inl e) = subst (λ x. Reaches x (others kind.OrOr (conjunction (unary m)) k b)) e (ors_on m k b)
  ors_reach (further_or d ds) zero m b mid le many (inr h) = absurd (omega (arith, shorter b or_sign h.0))
  ors_reach (further_or {n} {ts} {us} {f} {fs} d ds) (suc k) m b mid le many (inr h) =
      reach_is mid _ _ (others_found kind.OrOr (conjunction (unary m)) k b (kind_seen b or_sign h.0 kind.OrOr)) (elim (along_split (lexeme b).rest ts us mid h.1) [
        | inl a ↦ others_front kind.OrOr (conjunction (unary m)) mid k (lexeme b).rest (ors_on m k) (and_reach d m (lexeme b).rest mid le a)
        | inr s ↦
            others_behind kind.OrOr (conjunction (unary m)) mid k (lexeme b).rest s.0 f (and_read d m (lexeme b).rest s.0 le s.1 (or_stops ds s.0 mid s.2))
            (ors_reach ds k m s.0 mid le (omega (arith, shorter b or_sign h.0, as_many (lexeme b).rest ts s.0 s.1)) (on_along s.0 us mid s.2))
      ])

  and_reach : {n : ℕ} {ts : List Terminal} {f : Form} → IsAnd n ts f → (m : ℕ) (b mid : List ℕ) → n ≤ m → Along b ts mid → Reaches mid (conjunction (unary m) b)
  and_reach (and_of {n} {ts} {us} {f} {fs} d ds) m b mid le h = elim (along_split b ts us mid h) [
    | inl a ↦ operands_front kind.AndAnd (unary m) mid both_of b (ands_on m) (unary_reach d m b mid le a)
    | inr s ↦ operands_behind kind.AndAnd (unary m) mid both_of b s.0 f (unary_read d m b s.0 le s.1) (ands_reach ds (length s.0) m s.0 mid le (omega arith) (on_along s.0 us mid s.2))
  ]

  ands_reach : {n : ℕ} {us : List Terminal} {fs : Forms} → AreAnds n us fs → (k m : ℕ) (b mid : List ℕ) → n ≤ m → length b ≤ k → Along b us mid → Reaches mid (others kind.AndAnd (unary m) k b)
  ands_reach no_and k m b mid le many h = subst (λ x. Reaches x (others kind.AndAnd (unary m) k b)) h (ands_on m k b)
  ands_reach (further_and d ds) k m b mid le many (inl e) = subst (λ x. Reaches x (others kind.AndAnd (unary m) k b)) e (ands_on m k b)
  ands_reach (further_and d ds) zero m b mid le many (inr h) = absurd (omega (arith, shorter b and_sign h.0))
  ands_reach (further_and {n} {ts} {us} {f} {fs} d ds) (suc k) m b mid le many (inr h) =
      reach_is mid _ _ (others_found kind.AndAnd (unary m) k b (kind_seen b and_sign h.0 kind.AndAnd)) (elim (along_split (lexeme b).rest ts us mid h.1) [
        | inl a ↦ others_front kind.AndAnd (unary m) mid k (lexeme b).rest (ands_on m k) (unary_reach d m (lexeme b).rest mid le a)
        | inr s ↦
            others_behind kind.AndAnd (unary m) mid k (lexeme b).rest s.0 f (unary_read d m (lexeme b).rest s.0 le s.1)
            (ands_reach ds k m s.0 mid le (omega (arith, shorter b and_sign h.0, as_many (lexeme b).rest ts s.0 s.1)) (on_along s.0 us mid s.2))
      ])

  unary_reach : {n : ℕ} {ts : List Terminal} {f : Form} → IsUnary n ts f → (m : ℕ) (b mid : List ℕ) → n ≤ m → Along b ts mid → Reaches mid (unary m b)
  unary_reach (negation_of d) m b mid le (inl e) = at_front (IsUnary m) b mid (unary m b) e (unary_is m b)
  unary_reach (negation_of d) m b mid le (inr h) =
      reach_is mid (unary m b) (negation (unary (m - 1)) (lexeme b).rest) (unary_seen (inside m) b bang h.0 ∙ one_more negation m (lexeme b).here (lexeme b).rest (omega arith))
      (reach_made negated mid (unary (m - 1) (lexeme b).rest) (unary_reach d (m - 1) (lexeme b).rest mid (omega arith) h.1))
  unary_reach (unary_of d) m b mid le h = primary_reach d m b mid le h

  primary_reach : {n : ℕ} {ts : List Terminal} {f : Form} → IsPrimary n ts f → (m : ℕ) (b mid : List ℕ) → n ≤ m → Along b ts mid → Reaches mid (unary m b)
  primary_reach (group_of d) m b mid le (inl e) = at_front (IsUnary m) b mid (unary m b) e (unary_is m b)
  primary_reach (group_of {n} {ts} {f} d) m b mid le (inr h) = elim (along_split (lexeme b).rest ts (end_paren ∷ []) mid h.1) [
    | inl a ↦
        reach_is mid (unary m b) (grouped (unary (m - 1)) (lexeme b).rest) (unary_seen (inside m) b paren h.0 ∙ one_more grouped m (lexeme b).here (lexeme b).rest (omega arith))
        (reach_first mid (disjunction (unary (m - 1)) (lexeme b).rest) (λ x. mark kind.Close wanted.Close x.1 >>= λ rest. Ok (x.0, rest)) (or_reach d (m - 1) (lexeme b).rest mid (omega arith) a) closes)
    | inr s ↦ read_reach mid (unary m b) f (primary_read (group_of d) m b mid le (h.0, begins_then (lexeme b).rest ts (end_paren ∷ []) s.0 mid s.1 s.2))
  ]
  primary_reach all_of m b mid le (inl e) = at_front (IsUnary m) b mid (unary m b) e (unary_is m b)
  primary_reach all_of m b mid le (inr h) =
      reach_is mid (unary m b) _ (word_unary (inside m) b (codes "all") h.0)
      (called_reach (codes "all") (lexeme b).rest mid (end_paren ∷ []) (constant all) (λ c k. primary_called (codes "all") c k) (λ c k. constant_reach all c mid k) h.1)
  primary_reach global_of m b mid le (inl e) = at_front (IsUnary m) b mid (unary m b) e (unary_is m b)
  primary_reach global_of m b mid le (inr h) =
      reach_is mid (unary m b) _ (word_unary (inside m) b (codes "global") h.0)
      (called_reach (codes "global") (lexeme b).rest mid (end_paren ∷ []) (constant global) (λ c k. primary_called (codes "global") c k) (λ c k. constant_reach global c mid k) h.1)
  primary_reach (has_of l) m b mid le (inl e) = at_front (IsUnary m) b mid (unary m b) e (unary_is m b)
  primary_reach (has_of l) m b mid le (inr h) =
      reach_is mid (unary m b) _ (word_unary (inside m) b (codes "has") h.0)
      (called_reach (codes "has") (lexeme b).rest mid (a_word l ∷ end_paren ∷ []) membership (λ c k. primary_called (codes "has") c k) (λ c k. membership_reach l c mid k) h.1)
  primary_reach (test_of l d) m b mid le (inl e) = at_front (IsUnary m) b mid (unary m b) e (unary_is m b)
  primary_reach (test_of l d) m b mid le (inr h) = reach_is mid (unary m b) _ (word_unary (inside m) b l h.0) (test_reach d (lexeme b).rest mid h.1)

-- Whole texts

abbrev StopsBy : ℕ → Result Form Stop → Type 0
StopsBy p (Ok f) = Unit {0}
StopsBy p (Err (Bad left w)) = left ≤ p
StopsBy p (Err (TooDeep left)) = left ≤ p
StopsBy p (Err Spent) = Unit {0}

text_on : (n : ℕ) (b : List ℕ) (r : Result Form Stop) → TextExplains n b r → StopsBy (place b) r
text_on n b (Ok f) e = tt
text_on n b (Err (Bad left w)) e = broke_on (AreTerminals n) b left e
text_on n b (Err (TooDeep left)) e = broke_on (AreTerminals n) b left e
text_on n b (Err Spent) e = tt

joint_reach : (p : ℕ) (mid : List ℕ) (r : Read Form) → p ≡ place mid → Reaches mid r → StopsBy p (r >>= λ x. cond (same_kind (lexeme x.1).kind kind.End) (Ok x.0) (Err (Bad (length (lexeme x.1).here) wanted.Joint)))
joint_reach p mid (Ok y) e h = by_cases (StopsBy p) (same_kind (lexeme y.1).kind kind.End) _ _ (λ _. tt) (λ _. omega (arith, e, h))
joint_reach p mid (Err (Bad left w)) e h = omega (arith, e, h)
joint_reach p mid (Err (TooDeep left)) e h = omega (arith, e, h)
joint_reach p mid (Err Spent) e h = tt

whole_reach : {n : ℕ} {ts : List Terminal} {f : Form} → AreTerminals n ts f → (m : ℕ) (b mid : List ℕ) → n ≤ m → Along b ts mid → StopsBy (place mid) (whole_at m b)
whole_reach blank m b mid le h = subst (λ x. StopsBy (place x) (whole_at m b)) h (text_on m b (whole_at m b) (whole_explained m b))
whole_reach (filled d) m b mid le h =
    by_cases (StopsBy (place mid)) (same_kind (lexeme b).kind kind.End) _ _ (λ _. tt) (λ _. joint_reach (place mid) mid (disjunction (unary m) b) refl (or_reach d m b mid le h))

module _ (n : ℕ) (text : List ℕ) (left : ℕ) (broke : Broke (AreTerminals n) text left) (by : (p : ℕ) → StopsBy p (whole_at n text) → left ≤ p) (no : (f : Form) → whole_at n text ≡ Ok f → ⊥) where
  no_token : (t : Terminal) → first_terminal broke.here ≡ Some t → (us : List Terminal) (f : Form) → AreTerminals n ((broke.before ++ t ∷ []) ++ us) f → ⊥
  no_token t h us f s =
      let mid = (lexeme broke.here).rest in
      let along = along_front text (broke.before ++ t ∷ []) us mid (begins_then text broke.before (t ∷ []) broke.here mid broke.read (h, refl)) in
      let reached = by (place mid) (whole_reach s n text mid (omega arith) along) in
      absurd (omega (arith, reached, place_le mid, rest_lt broke.here t h, broke.place))

  fault_place : IsFaultPlace n text (length text - left)
  fault_place = record {
    before = broke.before;
    rest = broke.here;
    begins = broke.read;
    at_rest = ap (λ l. length text - l) broke.place;
    goes_on = (broke.after, broke.are_terminals, broke.value, broke.goes_on);
    stuck = record {
      token = λ t h g. no_token t h g.0 g.2 g.3;
      ended = λ k f s. no f (whole_read s n text broke.here (omega arith) broke.read k);
    };
  }

bad_at : (n : ℕ) (text : List ℕ) (r : Result Form Stop) → whole_at n text ≡ r → TextExplains n text r → (p : ℕ) (w : Wanted) → from_the_front (length text) r ≡ Err (faults.Bad p w) → IsFaultPlace n text p
bad_at n text (Ok f) is e p w h = absurd (cc)
bad_at n text (Err (Bad left v)) is e p w h =
    (let same : length text - left ≡ p = cc in
    subst (IsFaultPlace n text) same (fault_place n text left e (λ q s. subst (StopsBy q) is s) (λ f k. (let both_are = sym is ∙ k in absurd (cc)))))
bad_at n text (Err (TooDeep left)) is e p w h = absurd (cc)
bad_at n text (Err Spent) is e p w h = absurd e

too_deep_at : (n : ℕ) (text : List ℕ) (r : Result Form Stop) → whole_at n text ≡ r → TextExplains n text r → (p : ℕ) → from_the_front (length text) r ≡ Err (faults.TooDeep p) → IsFaultPlace n text p
too_deep_at n text (Ok f) is e p h = absurd (cc)
too_deep_at n text (Err (Bad left v)) is e p h = absurd (cc)
too_deep_at n text (Err (TooDeep left)) is e p h =
    (let same : length text - left ≡ p = cc in
    subst (IsFaultPlace n text) same (fault_place n text left e (λ q s. subst (StopsBy q) is s) (λ f k. (let both_are = sym is ∙ k in absurd (cc)))))
too_deep_at n text (Err Spent) is e p h = absurd e

bad_kept : (k : ℕ) (r s : Result Form Stop) → Kept r s → (p : ℕ) (w : Wanted) → from_the_front k r ≡ Err (faults.Bad p w) → from_the_front k s ≡ Err (faults.Bad p w)
bad_kept k (Ok f) s e p w h = absurd (cc)
bad_kept k (Err (Bad left v)) s e p w h = ap (from_the_front k) e ∙ h
bad_kept k (Err (TooDeep left)) s e p w h = absurd (cc)
bad_kept k (Err Spent) s e p w h = absurd (cc)

pub bad_is_placed : (text : List ℕ) (p : ℕ) (w : Wanted) → selector_of text ≡ Err (faults.Bad p w) → (n : ℕ) → MOST_OPEN ≤ n → IsFaultPlace n text p
unfolding selector_of whole_text
bad_is_placed text p w h n le =
    bad_at n text (whole_at n text) refl (whole_explained n text) p w (bad_kept (length text) (whole_at MOST_OPEN text) (whole_at n text) (whole_kept MOST_OPEN n le text) p w h)

pub too_deep_is_placed : (text : List ℕ) (p : ℕ) → selector_of text ≡ Err (faults.TooDeep p) → IsFaultPlace MOST_OPEN text p
unfolding selector_of whole_text
too_deep_is_placed text p h = too_deep_at MOST_OPEN text (whole_at MOST_OPEN text) refl (whole_explained MOST_OPEN text) p h
