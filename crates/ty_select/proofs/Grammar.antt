-- What is read is in the grammar, and what stands before a fault begins a selector.
use Rattle.std.proofs.Common.{◌≡◌, ℕ, zero, suc, List, [], ◌∷◌, ◌++◌, length, Bool, true, ◌&&◌, cond, Ok, Err, Result, Option, Some, None, codes, refl, sym, ap, ◌∙◌, subst, append_assoc, inl}
use Rattle.std.proofs.lemmas.List.{append-nil}
use Rattle.std.proofs.lemmas.Bool.{and_parts}
use Rattle.std.proofs.lemmas.Str.{IsUtf8-from_ascii, is_utf8-from_IsUtf8}
use Rattle.std.specs.List.{AllByRecursion}
use Rattle.std.specs.Str.{bytes_eq}
use Rattle.ty_select.specs.declared.limits.TheConstants.{MOST_OPEN}
use Rattle.ty_select.specs.declared.fault.Stop.{Stop}
use Rattle.ty_select.specs.declared.fault.Stop.TheVariants.{Bad, TooDeep, Spent}
use Rattle.ty_select.specs.declared.fault.Wanted.{Wanted}
use Rattle.ty_select.specs.declared.fault.Wanted.TheVariants as wanted
use Rattle.ty_select.specs.declared.term.Operator.{Operator}
use Rattle.ty_select.specs.declared.term.Operator.TheVariants.{Equal, Unequal, In, NotIn, Contains, Starts, Ends}
use Rattle.ty_select.specs.declared.token.Kind.{Kind}
use Rattle.ty_select.specs.declared.token.Kind.TheVariants as kind
use Rattle.ty_select.specs.Forms.{Form, all, global, has, equal, unequal, among, not_among, contains, starts, ends, negated, both, either, Forms, forms_of}
use Rattle.ty_select.specs.Expressions.{◌>>=◌, Read, mark, token_text, word, more_texts, texts, set, with_text, with_set, operator_of, operand, tested, test, membership, constant, primary, others, others_from, alone_or, operands, both_of, either_of, conjunction, disjunction, grouped, negation, one_deeper, unary_by, inside, unary, whole_text, from_the_front, selector_of}
use Rattle.ty_select.specs.Tokens.{lexeme, same_kind}
use Rattle.ty_select.proofs.Tokens.{ascii_nil, by_cases}
use Rattle.ty_select.specs.Grammar.{AreFurtherTexts, no_text, further_text, IsSet, empty_set, set_of_texts, IsTest, is_equal, is_unequal, is_in, is_not_in, does_contain, starts_with, ends_with, joined_by, IsOr, or_of, AreOrs, no_or, further_or, IsAnd, and_of, AreAnds, no_and, further_and, IsUnary, negation_of, unary_of, IsPrimary, group_of, all_of, global_of, has_of, test_of, AreTerminals, blank, filled, IsSelectorWithin}
use Rattle.ty_select.specs.Terminals.{Terminal, a_word, a_text, paren, end_paren, brace, end_brace, comma, bang, not_equal_sign, equal_sign, and_sign, or_sign, IsTerminal, terminal, first_terminal, BeginsWith}
use Rattle.ty_select.proofs.Terminals.{all_then, begins_then, found, kind_is, name_is}

-- What was read is put together so, or it could go on where reading stopped.

pub record Broke {A : Type 0} (L : List Terminal → A → Type 0) (b : List ℕ) (left : ℕ) : Type 0 where
  pub before : List Terminal
  pub here : List ℕ
  pub after : List Terminal
  pub value : A
  pub read : BeginsWith b before here
  pub place : left ≡ length (lexeme here).here
  pub are_terminals : AllByRecursion IsTerminal after
  pub goes_on : L (before ++ after) value

abbrev pub Explains : {A : Type 0} → (List Terminal → A → Type 0) → List ℕ → Read A → Type 0
Explains L b (Ok y) = (ts : List Terminal) × BeginsWith b ts y.1 × L ts y.0
Explains L b (Err (Bad left w)) = Broke L b left
Explains L b (Err (TooDeep left)) = Broke L b left
Explains L b (Err Spent) = ⊥

-- how what was read so far can go on
abbrev GoesOn : {A : Type 0} → (List Terminal → A → Type 0) → Type 0
GoesOn {A} L = (us : List Terminal) × AllByRecursion IsTerminal us × (y : A) × L us y

stopped : {A : Type 0} (L : List Terminal → A → Type 0) (b : List ℕ) → GoesOn L → Broke L b (length (lexeme b).here)
stopped L b g = record { before = []; here = b; after = g.0; value = g.2; read = refl; place = refl; are_terminals = g.1; goes_on = g.3 }

broke_behind : {A : Type 0} (L : List Terminal → A → Type 0) (b : List ℕ) (ts : List Terminal) (c : List ℕ) (left : ℕ) → BeginsWith b ts c → Broke (λ us. L (ts ++ us)) c left → Broke L b left
broke_behind L b ts c left h e =
    record {
      before = ts ++ e.before;
      here = e.here;
      after = e.after;
      value = e.value;
      read = begins_then b ts e.before c e.here h e.read;
      place = e.place;
      are_terminals = e.are_terminals;
      goes_on = subst (λ us. L us e.value) (sym (append_assoc ts e.before e.after)) e.goes_on;
    }

behind : {A : Type 0} (L : List Terminal → A → Type 0) (b : List ℕ) (ts : List Terminal) (c : List ℕ) → BeginsWith b ts c → (r : Read A) → Explains (λ us. L (ts ++ us)) c r → Explains L b r
behind L b ts c h (Ok y) e = (ts ++ e.0, begins_then b ts e.0 c y.1 h e.1, e.2)
behind L b ts c h (Err (Bad left w)) e = broke_behind L b ts c left h e
behind L b ts c h (Err (TooDeep left)) e = broke_behind L b ts c left h e
behind L b ts c h (Err Spent) e = e

shift : {A : Type 0} (L : List Terminal → A → Type 0) (b : List ℕ) (t : Terminal) → first_terminal b ≡ Some t → (r : Read A) → Explains (λ ts. L (t ∷ ts)) (lexeme b).rest r → Explains L b r
shift L b t h r e = behind L b (t ∷ []) (lexeme b).rest (h, refl) r e

abbrev then_one : {A : Type 0} → (List Terminal → A → Type 0) → List Terminal → (List Terminal → A → Type 0)
then_one L ts = λ us y. L (ts ++ us) y

module _ {A B : Type 0} (M : List Terminal → A → Type 0) (L : List Terminal → B → Type 0) where
  broke_first : (b : List ℕ) (left : ℕ) → ((ts : List Terminal) (x : A) → M ts x → GoesOn (then_one L ts)) → Broke M b left → Broke L b left
  broke_first b left fin e =
      let g = fin (e.before ++ e.after) e.value e.goes_on in
      record {
        before = e.before;
        here = e.here;
        after = e.after ++ g.0;
        value = g.2;
        read = e.read;
        place = e.place;
        are_terminals = all_then e.after g.0 e.are_terminals g.1;
        goes_on = subst (λ us. L us g.2) (append_assoc e.before e.after g.0) g.3;
      }

  bind : (b : List ℕ) (r : Read A) (k : A × List ℕ → Read B) → Explains M b r → ((ts : List Terminal) (x : A) → M ts x → GoesOn (then_one L ts))
      → ((ts : List Terminal) (y : A × List ℕ) → M ts y.0 → Explains (then_one L ts) y.1 (k y)) → Explains L b (r >>= k)
  bind b (Ok y) k e fin go = behind L b e.0 y.1 e.1 (k y) (go e.0 y e.2)
  bind b (Err (Bad left w)) k e fin go = broke_first b left fin e
  bind b (Err (TooDeep left)) k e fin go = broke_first b left fin e
  bind b (Err Spent) k e fin go = e

  broke_made : (make : A → B) → ((ts : List Terminal) (x : A) → M ts x → L ts (make x)) → (b : List ℕ) (left : ℕ) → Broke M b left → Broke L b left
  broke_made make h b left e =
      record { before = e.before; here = e.here; after = e.after; value = make e.value; read = e.read; place = e.place; are_terminals = e.are_terminals; goes_on = h (e.before ++ e.after) e.value e.goes_on }

  made : (make : A → B) → ((ts : List Terminal) (x : A) → M ts x → L ts (make x)) → (b : List ℕ) (r : Read A) → Explains M b r → Explains L b (r >>= λ y. Ok (make y.0, y.1))
  made make h b (Ok y) e = (e.0, e.1, h e.0 y.0 e.2)
  made make h b (Err (Bad left w)) e = broke_made make h b left e
  made make h b (Err (TooDeep left)) e = broke_made make h b left e
  made make h b (Err Spent) e = e

-- read as one thing, which is another too
same_made : {A : Type 0} (M L : List Terminal → A → Type 0) → ((ts : List Terminal) (x : A) → M ts x → L ts x) → (b : List ℕ) (r : Read A) → Explains M b r → Explains L b r
same_made M L h b (Ok y) e = (e.0, e.1, h e.0 y.0 e.2)
same_made M L h b (Err (Bad left w)) e = broke_made M L (λ x. x) h b left e
same_made M L h b (Err (TooDeep left)) e = broke_made M L (λ x. x) h b left e
same_made M L h b (Err Spent) e = e

module _ {A : Type 0} (L : List Terminal → A → Type 0) (k : Kind) where
  after_mark : (t : Terminal) → ((l : List ℕ) → terminal k l ≡ Some t) → (w : Wanted) (b : List ℕ) (f : List ℕ → Read A) → GoesOn L → ((c : List ℕ) → Explains (λ ts. L (t ∷ ts)) c (f c)) → Explains L b (mark k w b >>= f)
  unfolding mark
  after_mark t h w b f g go =
      by_cases (λ r. Explains L b (r >>= f)) (same_kind (lexeme b).kind k) (Ok (lexeme b).rest) (Err (Bad (length (lexeme b).here) w))
      (λ e. shift L b t (found b k e ∙ h (lexeme b).text) (f (lexeme b).rest) (go (lexeme b).rest)) (λ _. stopped L b g)

  after_text : (t : List ℕ → Terminal) → ((l : List ℕ) → terminal k l ≡ Some (t l)) → (w : Wanted) (b : List ℕ) (f : List ℕ × List ℕ → Read A) → GoesOn L
      → ((l c : List ℕ) → Explains (λ ts. L (t l ∷ ts)) c (f (l, c))) → Explains L b (token_text k w b >>= f)
  unfolding token_text
  after_text t h w b f g go =
      by_cases (λ r. Explains L b (r >>= f)) (same_kind (lexeme b).kind k) (Ok ((lexeme b).text, (lexeme b).rest)) (Err (Bad (length (lexeme b).here) w))
      (λ e. shift L b (t (lexeme b).text) (found b k e ∙ h (lexeme b).text) (f ((lexeme b).text, (lexeme b).rest)) (go (lexeme b).text (lexeme b).rest)) (λ _. stopped L b g)

pub found_name : (b name : List ℕ) → (same_kind (lexeme b).kind kind.Word && bytes_eq (lexeme b).text name) ≡ true → first_terminal b ≡ Some (a_word name)
found_name b name h =
    let (is, named) = and_parts _ _ h in
    found b kind.Word is ∙ ap (λ w. Some (a_word w)) (name_is (lexeme b).text name named)

after_word : {A : Type 0} (L : List Terminal → A → Type 0) (name : List ℕ) (w : Wanted) (b : List ℕ) (f : List ℕ → Read A) → GoesOn L → ((c : List ℕ) → Explains (λ ts. L (a_word name ∷ ts)) c (f c)) → Explains L b (word name w b >>= f)
unfolding word
after_word L name w b f g go =
    by_cases (λ r. Explains L b (r >>= f)) (same_kind (lexeme b).kind kind.Word && bytes_eq (lexeme b).text name) (Ok (lexeme b).rest) (Err (Bad (length (lexeme b).here) w))
    (λ e. shift L b (a_word name) (found_name b name e) (f (lexeme b).rest) (go (lexeme b).rest)) (λ _. stopped L b g)

-- Sets and tests

any_text : IsTerminal (a_text [])
any_text = (is_utf8-from_IsUtf8 [] (IsUtf8-from_ascii [] ascii_nil), inl refl)

abbrev pub comma_then : ℕ → List ℕ → Read (List (List ℕ))
comma_then n c = token_text kind.Quoted wanted.Quoted c >>= λ t. more_texts n t.1 >>= λ ts. Ok (t.0 ∷ ts.0, ts.1)

-- behind a comma, where what follows the text is explained
comma_with : (n : ℕ) → ((c : List ℕ) → Explains AreFurtherTexts c (more_texts n c)) → (b : List ℕ) → Explains (λ ts. AreFurtherTexts (comma ∷ ts)) b (comma_then n b)
comma_with n rest b =
    after_text (λ ts. AreFurtherTexts (comma ∷ ts)) kind.Quoted a_text (λ l. refl) wanted.Quoted b
    (λ t. more_texts n t.1 >>= λ ts. Ok (t.0 ∷ ts.0, ts.1)) (a_text [] ∷ end_brace ∷ [], (any_text, (tt, tt)), [] ∷ [], further_text [] no_text)
    (λ l c. made AreFurtherTexts (λ ts. AreFurtherTexts (comma ∷ a_text l ∷ ts)) (λ vs. l ∷ vs) (λ ts vs h. further_text l h) c (more_texts n c) (rest c))

pub further_explained : (n : ℕ) (b : List ℕ) → Explains AreFurtherTexts b (more_texts n b)
unfolding more_texts
further_explained zero b = stopped AreFurtherTexts b (end_brace ∷ [], (tt, tt), [], no_text)
further_explained (suc n) b =
    by_cases (Explains AreFurtherTexts b) (same_kind (lexeme b).kind kind.RightBrace) _ _
    (λ e. shift AreFurtherTexts b end_brace (found b kind.RightBrace e) (Ok ([], (lexeme b).rest)) ([], refl, no_text)) (λ _.
    by_cases (Explains AreFurtherTexts b) (same_kind (lexeme b).kind kind.Comma) _ _
    (λ e. shift AreFurtherTexts b comma (found b kind.Comma e) (comma_then n (lexeme b).rest) (comma_with n (λ c. further_explained n c) (lexeme b).rest))
    (λ _. stopped AreFurtherTexts b (end_brace ∷ [], (tt, tt), [], no_text)))

pub comma_explained : (n : ℕ) (b : List ℕ) → Explains (λ ts. AreFurtherTexts (comma ∷ ts)) b (comma_then n b)
comma_explained n b = comma_with n (further_explained n) b

abbrev pub set_held : List ℕ → Read (List (List ℕ))
set_held held = cond (same_kind (lexeme held).kind kind.RightBrace) (Ok ([], (lexeme held).rest)) (texts held)

pub held_explained : (held : List ℕ) → Explains (λ ts. IsSet (brace ∷ ts)) held (set_held held)
unfolding texts
held_explained held =
    by_cases (Explains (λ ts. IsSet (brace ∷ ts)) held) (same_kind (lexeme held).kind kind.RightBrace) _ _
    (λ e. shift (λ ts. IsSet (brace ∷ ts)) held end_brace (found held kind.RightBrace e) (Ok ([], (lexeme held).rest)) ([], refl, empty_set))
    (λ _. after_text (λ ts. IsSet (brace ∷ ts)) kind.Quoted a_text (λ l. refl) wanted.QuotedOrBrace held
    (λ t. more_texts (length t.1) t.1 >>= λ ts. Ok (t.0 ∷ ts.0, ts.1)) (end_brace ∷ [], (tt, tt), [], empty_set)
    (λ l c. made AreFurtherTexts (λ ts. IsSet (brace ∷ a_text l ∷ ts)) (λ vs. l ∷ vs) (λ ts vs h. set_of_texts l h) c (more_texts (length c) c) (further_explained (length c) c)))

pub set_explained : (b : List ℕ) → Explains IsSet b (set b)
unfolding set
set_explained b = after_mark IsSet kind.LeftBrace brace (λ l. refl) wanted.Brace b set_held (brace ∷ end_brace ∷ [], (tt, (tt, tt)), [], empty_set) held_explained

abbrev quoted_empty : List Terminal
quoted_empty = a_text [] ∷ []

pub text_explained : (L : List Terminal → Form → Type 0) (make : List ℕ → Form) → ((v : List ℕ) → L (a_text v ∷ []) (make v)) → (b : List ℕ) → Explains L b (with_text make b)
text_explained L make h b =
    after_text L kind.Quoted a_text (λ l. refl) wanted.Quoted b (λ t. Ok (make t.0, t.1)) (quoted_empty, (any_text, tt), make [], h []) (λ l c. ([], refl, h l))

-- the token of an operator
abbrev sign : Operator → Terminal
sign Equal = equal_sign
sign Unequal = not_equal_sign
sign In = a_word (codes "in")
sign NotIn = a_word (codes "not")
sign Contains = a_word (codes "contains")
sign Starts = a_word (codes "starts")
sign Ends = a_word (codes "ends")

pub operand_explained : (l : List ℕ) (o : Operator) (b : List ℕ) → Explains (λ ts. IsTest l (sign o ∷ ts)) b (operand l o b)
operand_explained l Equal b = text_explained (λ ts. IsTest l (equal_sign ∷ ts)) (equal l) is_equal b
operand_explained l Unequal b = text_explained (λ ts. IsTest l (not_equal_sign ∷ ts)) (unequal l) is_unequal b
operand_explained l In b = made IsSet (λ ts. IsTest l (a_word (codes "in") ∷ ts)) (among l) (λ ts vs h. is_in h) b (set b) (set_explained b)
operand_explained l NotIn b =
    after_word (λ ts. IsTest l (a_word (codes "not") ∷ ts)) (codes "in") wanted.In b (with_set (not_among l))
    (a_word (codes "in") ∷ brace ∷ end_brace ∷ [], (refl, (tt, (tt, tt))), not_among l [], is_not_in empty_set)
    (λ c. made IsSet (λ ts. IsTest l (a_word (codes "not") ∷ a_word (codes "in") ∷ ts)) (not_among l) (λ ts vs h. is_not_in h) c (set c) (set_explained c))
operand_explained l Contains b = text_explained (λ ts. IsTest l (a_word (codes "contains") ∷ ts)) (contains l) does_contain b
operand_explained l Starts b =
    after_word (λ ts. IsTest l (a_word (codes "starts") ∷ ts)) (codes "with") wanted.With b (with_text (starts l))
    (a_word (codes "with") ∷ quoted_empty, (refl, (any_text, tt)), starts l [], starts_with [])
    (λ c. text_explained (λ ts. IsTest l (a_word (codes "starts") ∷ a_word (codes "with") ∷ ts)) (starts l) starts_with c)
operand_explained l Ends b =
    after_word (λ ts. IsTest l (a_word (codes "ends") ∷ ts)) (codes "with") wanted.With b (with_text (ends l))
    (a_word (codes "with") ∷ quoted_empty, (refl, (any_text, tt)), ends l [], ends_with [])
    (λ c. text_explained (λ ts. IsTest l (a_word (codes "ends") ∷ a_word (codes "with") ∷ ts)) (ends l) ends_with c)

abbrev Signs : Kind → List ℕ → Option Operator → Type 0
Signs k name None = Unit {0}
Signs k name (Some o) = terminal k name ≡ Some (sign o)

operator_signs : (k : Kind) (name : List ℕ) → Signs k name (operator_of k name)
operator_signs k name =
    let P : Option Operator → Type 0 = Signs k name in
    by_cases P (same_kind k kind.EqualEqual) _ _ (λ e. at kind.EqualEqual e) (λ _.
    by_cases P (same_kind k kind.NotEqual) _ _ (λ e. at kind.NotEqual e) (λ _.
    by_cases P (same_kind k kind.Word) _ _ (λ w.
    by_cases P (bytes_eq name (codes "in")) _ _ (λ e. at kind.Word w ∙ named e) (λ _.
    by_cases P (bytes_eq name (codes "not")) _ _ (λ e. at kind.Word w ∙ named e) (λ _.
    by_cases P (bytes_eq name (codes "contains")) _ _ (λ e. at kind.Word w ∙ named e) (λ _.
    by_cases P (bytes_eq name (codes "starts")) _ _ (λ e. at kind.Word w ∙ named e) (λ _.
    by_cases P (bytes_eq name (codes "ends")) _ _ (λ e. at kind.Word w ∙ named e) (λ _. tt)))))) (λ _. tt)))
  where
    at : (j : Kind) → same_kind k j ≡ true → terminal k name ≡ terminal j name
    at j e = ap (λ i. terminal i name) (kind_is k j e)

    named : {w : List ℕ} → bytes_eq name w ≡ true → Some (a_word name) ≡ Some (a_word w)
    named {w} e = ap (λ n. Some (a_word n)) (name_is name w e)

tested_explained : (l b : List ℕ) (o : Option Operator) → Signs (lexeme b).kind (lexeme b).text o → Explains (IsTest l) b (tested l o (lexeme b).here (lexeme b).rest)
tested_explained l b None s = stopped (IsTest l) b (equal_sign ∷ quoted_empty, (tt, (any_text, tt)), equal l [], is_equal [])
tested_explained l b (Some o) s = shift (IsTest l) b (sign o) s (operand l o (lexeme b).rest) (operand_explained l o (lexeme b).rest)

test_explained : (l b : List ℕ) → Explains (IsTest l) b (test l b)
unfolding test
test_explained l b = tested_explained l b (operator_of (lexeme b).kind (lexeme b).text) (operator_signs (lexeme b).kind (lexeme b).text)

pub constant_explained : (L : List Terminal → Form → Type 0) (f : Form) → L (end_paren ∷ []) f → (b : List ℕ) → Explains L b (constant f b)
unfolding constant
constant_explained L f h b = after_mark L kind.Close end_paren (λ l. refl) wanted.Close b (λ rest. Ok (f, rest)) (end_paren ∷ [], (tt, tt), f, h) (λ c. ([], refl, h))

pub membership_explained : (L : List Terminal → Form → Type 0) → ((l : List ℕ) → L (a_word l ∷ end_paren ∷ []) (has l)) → (b : List ℕ) → Explains L b (membership b)
unfolding membership
membership_explained L h b =
    after_text L kind.Word a_word (λ l. refl) wanted.Label b (λ label. mark kind.Close wanted.Close label.1 >>= λ rest. Ok (has label.0, rest))
    (a_word (codes "a") ∷ end_paren ∷ [], (refl, (tt, tt)), has (codes "a"), h (codes "a"))
    (λ l c. after_mark (λ ts. L (a_word l ∷ ts)) kind.Close end_paren (λ l. refl) wanted.Close c (λ rest. Ok (has l, rest)) (end_paren ∷ [], (tt, tt), has l, h l) (λ d. ([], refl, h l)))

pub primary_explained : (n : ℕ) (name b : List ℕ) → Explains (λ ts. IsPrimary n (a_word name ∷ ts)) b (primary name b)
unfolding primary
primary_explained n name b =
    let P : Read Form → Type 0 = Explains (λ ts. IsPrimary n (a_word name ∷ ts)) b in
    by_cases P (called && bytes_eq name (codes "all")) _ _
    (λ e. opened (and_parts _ _ e).0 _ (constant_explained (λ ts. IsPrimary n (a_word name ∷ paren ∷ ts)) all
    (subst (λ w. IsPrimary n (a_word w ∷ paren ∷ end_paren ∷ []) all) (sym (name_is name (codes "all") (and_parts _ _ e).1)) all_of) (lexeme b).rest)) (λ _.
    by_cases P (called && bytes_eq name (codes "global")) _ _
    (λ e. opened (and_parts _ _ e).0 _ (constant_explained (λ ts. IsPrimary n (a_word name ∷ paren ∷ ts)) global
    (subst (λ w. IsPrimary n (a_word w ∷ paren ∷ end_paren ∷ []) global) (sym (name_is name (codes "global") (and_parts _ _ e).1)) global_of) (lexeme b).rest)) (λ _.
    by_cases P (called && bytes_eq name (codes "has")) _ _
    (λ e. opened (and_parts _ _ e).0 _ (membership_explained (λ ts. IsPrimary n (a_word name ∷ paren ∷ ts))
    (λ l. subst (λ w. IsPrimary n (a_word w ∷ paren ∷ a_word l ∷ end_paren ∷ []) (has l)) (sym (name_is name (codes "has") (and_parts _ _ e).1)) (has_of l)) (lexeme b).rest))
    (λ _. same_made (IsTest name) (λ ts. IsPrimary n (a_word name ∷ ts)) (λ ts f t. test_of name t) b (test name b) (test_explained name b))))
  where
    called : Bool
    called = same_kind (lexeme b).kind kind.Open

    opened : same_kind (lexeme b).kind kind.Open ≡ true → (r : Read Form) → Explains (λ ts. IsPrimary n (a_word name ∷ paren ∷ ts)) (lexeme b).rest r → Explains (λ ts. IsPrimary n (a_word name ∷ ts)) b r
    opened e r x = shift (λ ts. IsPrimary n (a_word name ∷ ts)) b paren (found b kind.Open e) r x

-- Operands

module _ (k : Kind) (t : Terminal) (sees : (l : List ℕ) → terminal k l ≡ Some t) (one : List ℕ → Read Form) (P : List Terminal → Form → Type 0) (each : (b : List ℕ) → Explains P b (one b))
    (T : List Terminal → List Form → Type 0) (none_is : T [] []) (more_is : (ts us : List Terminal) (f : Form) (fs : List Form) → P ts f → T us fs → T (t ∷ (ts ++ us)) (f ∷ fs)) where
  others_explained : (m : ℕ) (b : List ℕ) → Explains T b (others k one m b)
  unfolding others
  others_explained zero b = ([], refl, none_is)
  others_explained (suc m) b =
      by_cases (Explains T b) (same_kind (lexeme b).kind k) _ _
      (λ e. shift T b t (found b k e ∙ sees (lexeme b).text) _
      (bind P (λ ts. T (t ∷ ts)) (lexeme b).rest (one (lexeme b).rest) (λ x. others k one m x.1 >>= λ xs. Ok (x.0 ∷ xs.0, xs.1)) (each (lexeme b).rest)
      (λ ts x p. ([], tt, x ∷ [], more_is ts [] x [] p none_is))
      (λ ts y p. made T (λ us. T (t ∷ (ts ++ us))) (λ fs. y.0 ∷ fs) (λ us fs q. more_is ts us y.0 fs p q) y.1 (others k one m y.1) (others_explained m y.1))))
      (λ _. ([], refl, none_is))

  operands_explained : (make : List Form → Form) (Q : List Terminal → Form → Type 0) → ((ts us : List Terminal) (f : Form) (fs : List Form) → P ts f → T us fs → Q (ts ++ us) (alone_or make (f ∷ fs)))
      → (b : List ℕ) → Explains Q b (operands k make one b)
  unfolding operands
  operands_explained make Q q b =
      bind P Q b (one b) (λ x. others_from k one x.0 x.1 >>= λ xs. Ok (alone_or make xs.0, xs.1)) (each b)
      (λ ts x p. ([], tt, alone_or make (x ∷ []), q ts [] x [] p none_is))
      (λ ts y p. made (λ us gs. Q (ts ++ us) (alone_or make gs)) (then_one Q ts) (alone_or make) (λ us gs h. h) y.1 (others_from k one y.0 y.1)
      (made T (λ us gs. Q (ts ++ us) (alone_or make gs)) (λ fs. y.0 ∷ fs) (λ us fs h. q ts us y.0 fs p h) y.1 (others k one (length y.1) y.1) (others_explained (length y.1) y.1)))

alone_joined : (node : Forms → Form) (f : Form) (fs : List Form) → joined_by node f (forms_of fs) ≡ alone_or (λ l. node (forms_of l)) (f ∷ fs)
alone_joined node f [] = refl
alone_joined node f (g ∷ gs) = refl

module _ (n : ℕ) (one : List ℕ → Read Form) (each : (b : List ℕ) → Explains (IsUnary n) b (one b)) where
  pub ands_explained : (m : ℕ) (b : List ℕ) → Explains (λ ts fs. AreAnds n ts (forms_of fs)) b (others kind.AndAnd one m b)
  ands_explained m b = others_explained kind.AndAnd and_sign (λ l. refl) one (IsUnary n) each (λ ts fs. AreAnds n ts (forms_of fs)) no_and (λ ts us f fs p q. further_and p q) m b

  pub conjunction_explained : (b : List ℕ) → Explains (IsAnd n) b (conjunction one b)
  conjunction_explained b =
      operands_explained kind.AndAnd and_sign (λ l. refl) one (IsUnary n) each (λ ts fs. AreAnds n ts (forms_of fs)) no_and (λ ts us f fs p q. further_and p q) both_of (IsAnd n)
      (λ ts us f fs p q. subst (IsAnd n (ts ++ us)) (alone_joined both f fs) (and_of p q)) b

  pub ors_explained : (m : ℕ) (b : List ℕ) → Explains (λ ts fs. AreOrs n ts (forms_of fs)) b (others kind.OrOr (conjunction one) m b)
  ors_explained m b = others_explained kind.OrOr or_sign (λ l. refl) (conjunction one) (IsAnd n) conjunction_explained (λ ts fs. AreOrs n ts (forms_of fs)) no_or (λ ts us f fs p q. further_or p q) m b

  pub disjunction_explained : (b : List ℕ) → Explains (IsOr n) b (disjunction one b)
  disjunction_explained b =
      operands_explained kind.OrOr or_sign (λ l. refl) (conjunction one) (IsAnd n) conjunction_explained (λ ts fs. AreOrs n ts (forms_of fs)) no_or (λ ts us f fs p q. further_or p q) either_of (IsOr n)
      (λ ts us f fs p q. subst (IsOr n (ts ++ us)) (alone_joined either f fs) (or_of p q)) b

-- Levels

abbrev pub InnerExplains : ℕ → Option (List ℕ → Read Form) → Type 0
InnerExplains n None = Unit {0}
InnerExplains zero (Some one) = ⊥
InnerExplains (suc m) (Some one) = (b : List ℕ) → Explains (IsUnary m) b (one b)

any_unary : (n : ℕ) → GoesOn (IsUnary n)
any_unary n = (a_word (codes "all") ∷ paren ∷ end_paren ∷ [], (refl, (tt, (tt, tt))), all, unary_of all_of)

negation_explained : (n : ℕ) (inner : Option (List ℕ → Read Form)) → InnerExplains n inner → (b : List ℕ) → first_terminal b ≡ Some bang → Explains (IsUnary n) b (one_deeper inner negation (lexeme b).here (lexeme b).rest)
negation_explained n None i b h = stopped (IsUnary n) b (any_unary n)
negation_explained zero (Some one) i b h = absurd i
negation_explained (suc m) (Some one) i b h =
    shift (IsUnary (suc m)) b bang h _ (made (IsUnary m) (λ ts. IsUnary (suc m) (bang ∷ ts)) negated (λ ts x p. negation_of p) (lexeme b).rest (one (lexeme b).rest) (i (lexeme b).rest))

group_explained : (n : ℕ) (inner : Option (List ℕ → Read Form)) → InnerExplains n inner → (b : List ℕ) → first_terminal b ≡ Some paren → Explains (IsUnary n) b (one_deeper inner grouped (lexeme b).here (lexeme b).rest)
group_explained n None i b h = stopped (IsUnary n) b (any_unary n)
group_explained zero (Some one) i b h = absurd i
group_explained (suc m) (Some one) i b h =
    shift (IsUnary (suc m)) b paren h _
    (bind (IsOr m) (λ ts. IsUnary (suc m) (paren ∷ ts)) (lexeme b).rest (disjunction one (lexeme b).rest) (λ x. mark kind.Close wanted.Close x.1 >>= λ rest. Ok (x.0, rest)) (disjunction_explained m one i (lexeme b).rest)
    (λ ts x p. (end_paren ∷ [], (tt, tt), x, unary_of (group_of p)))
    (λ ts y p. after_mark (λ us. IsUnary (suc m) (paren ∷ (ts ++ us))) kind.Close end_paren (λ l. refl) wanted.Close y.1 (λ rest. Ok (y.0, rest)) (end_paren ∷ [], (tt, tt), y.0, unary_of (group_of p))
    (λ c. ([], refl, unary_of (group_of p)))))

pub unary_explained : (n : ℕ) (inner : Option (List ℕ → Read Form)) → InnerExplains n inner → (b : List ℕ) → Explains (IsUnary n) b (unary_by inner b)
unfolding unary_by
unary_explained n inner i b =
    let P : Read Form → Type 0 = Explains (IsUnary n) b in
    by_cases P (same_kind (lexeme b).kind kind.Word) _ _
    (λ e. shift (IsUnary n) b (a_word (lexeme b).text) (found b kind.Word e) _
    (same_made (λ ts. IsPrimary n (a_word (lexeme b).text ∷ ts)) (λ ts. IsUnary n (a_word (lexeme b).text ∷ ts)) (λ ts f p. unary_of p) (lexeme b).rest (primary (lexeme b).text (lexeme b).rest)
    (primary_explained n (lexeme b).text (lexeme b).rest))) (λ _.
    by_cases P (same_kind (lexeme b).kind kind.Bang) _ _ (λ e. negation_explained n inner i b (found b kind.Bang e)) (λ _.
    by_cases P (same_kind (lexeme b).kind kind.Open) _ _ (λ e. group_explained n inner i b (found b kind.Open e)) (λ _. stopped (IsUnary n) b (any_unary n))))

pub inside_explains : (n : ℕ) → InnerExplains n (inside n)
unfolding inside
inside_explains zero = tt
inside_explains (suc n) = unary_explained n (inside n) (inside_explains n)

pub unary_is : (n : ℕ) (b : List ℕ) → Explains (IsUnary n) b (unary n b)
unary_is n = unary_explained n (inside n) (inside_explains n)

-- Whole texts

abbrev pub TextExplains : ℕ → List ℕ → Result Form Stop → Type 0
TextExplains n b (Ok f) = IsSelectorWithin n b f
TextExplains n b (Err (Bad left w)) = Broke (AreTerminals n) b left
TextExplains n b (Err (TooDeep left)) = Broke (AreTerminals n) b left
TextExplains n b (Err Spent) = ⊥

-- a whole text, where so many may be open
abbrev pub whole_at : ℕ → List ℕ → Result Form Stop
whole_at n b =
    cond (same_kind (lexeme b).kind kind.End) (Ok all)
    (disjunction (unary n) b >>= λ x. cond (same_kind (lexeme x.1).kind kind.End) (Ok x.0) (Err (Bad (length (lexeme x.1).here) wanted.Joint)))

pub whole_explained : (n : ℕ) (b : List ℕ) → TextExplains n b (whole_at n b)
whole_explained n b =
    by_cases (TextExplains n b) (same_kind (lexeme b).kind kind.End) _ _
    (λ e. record { tokens = []; rest = b; begins = refl; ended = kind_is (lexeme b).kind kind.End e; said = blank })
    (λ _. ended (disjunction (unary n) b) (disjunction_explained n (unary n) (unary_is n) b))
  where
    ended : (r : Read Form) → Explains (IsOr n) b r → TextExplains n b (r >>= λ x. cond (same_kind (lexeme x.1).kind kind.End) (Ok x.0) (Err (Bad (length (lexeme x.1).here) wanted.Joint)))
    ended (Ok y) e =
        by_cases (TextExplains n b) (same_kind (lexeme y.1).kind kind.End) _ _
        (λ k. record { tokens = e.0; rest = y.1; begins = e.1; ended = kind_is (lexeme y.1).kind kind.End k; said = filled e.2 })
        (λ _. record { before = e.0; here = y.1; after = []; value = y.0; read = e.1; place = refl; are_terminals = tt; goes_on = subst (λ ts. AreTerminals n ts y.0) (sym (append-nil e.0)) (filled e.2) })
    ended (Err (Bad left w)) e = broke_made (IsOr n) (AreTerminals n) (λ f. f) (λ ts f p. filled p) b left e
    ended (Err (TooDeep left)) e = broke_made (IsOr n) (AreTerminals n) (λ f. f) (λ ts f p. filled p) b left e
    ended (Err Spent) e = e

said : (n : ℕ) (b : List ℕ) (k : ℕ) (r : Result Form Stop) (f : Form) → TextExplains n b r → from_the_front k r ≡ Ok f → IsSelectorWithin n b f
said n b k (Ok x) f e h = (let same : x ≡ f = cc in subst (IsSelectorWithin n b) same e)
said n b k (Err s) f e h = absurd (cc)

pub what_is_read_is_said : (text : List ℕ) (f : Form) → selector_of text ≡ Ok f → IsSelectorWithin MOST_OPEN text f
unfolding selector_of whole_text
what_is_read_is_said text f h = said MOST_OPEN text (length text) (whole_at MOST_OPEN text) f (whole_explained MOST_OPEN text) h
