-- What is in the grammar is read.
use Rattle.std.proofs.Common.{◌≡◌, ℕ, zero, suc, ◌+◌, ◌-◌, ◌≤◌, List, [], ◌∷◌, length, Bool, true, false, ◌&&◌, cond, Ok, Err, Result, Option, Some, codes, refl, sym, ap, ◌∙◌, arith, length-append, subst, None}
use Rattle.std.specs.Str.{bytes_eq}
use Rattle.ty_select.specs.declared.limits.TheConstants.{MOST_OPEN}
use Rattle.ty_select.specs.declared.fault.Stop.{Stop}
use Rattle.ty_select.specs.declared.fault.Stop.TheVariants.{Bad, TooDeep, Spent}
use Rattle.ty_select.specs.declared.fault.Wanted.{Wanted}
use Rattle.ty_select.specs.declared.fault.Wanted.TheVariants as wanted
use Rattle.ty_select.specs.declared.term.Operator.{Operator}
use Rattle.ty_select.specs.declared.term.Operator.TheVariants.{Equal, Unequal, In, NotIn, Contains, Starts, Ends}
use Rattle.ty_select.specs.declared.token.Kind.{Kind}
use Rattle.ty_select.specs.declared.token.Kind.TheVariants as kind
use Rattle.ty_select.specs.Forms.{Form, all, global, has, equal, unequal, among, not_among, contains, starts, ends, both, either, Forms, none, more, forms_of, negated}
use Rattle.ty_select.specs.Expressions.{◌>>=◌, Read, mark, token_text, word, more_texts, texts, set, with_text, with_set, operator_of, operand, tested, test, membership, constant, primary, others, others_from, alone_or, operands, both_of, either_of, conjunction, disjunction, grouped, negation, one_deeper, unary_by, inside, unary, whole_text, from_the_front, selector_of}
use Rattle.ty_select.specs.Tokens.{lexeme, same_kind}
use Rattle.ty_select.specs.Grammar.{AreFurtherTexts, no_text, further_text, IsSet, empty_set, set_of_texts, IsTest, is_equal, is_unequal, is_in, is_not_in, does_contain, starts_with, ends_with, joined_by, IsOr, or_of, AreOrs, no_or, further_or, IsAnd, and_of, AreAnds, no_and, further_and, IsUnary, negation_of, unary_of, IsPrimary, group_of, all_of, global_of, has_of, test_of, AreTerminals, blank, filled, IsSelectorWithin, IsSelector}
use Rattle.ty_select.specs.Terminals.{Terminal, a_word, a_text, paren, end_paren, brace, end_brace, comma, bang, not_equal_sign, equal_sign, and_sign, or_sign, first_terminal, BeginsWith}
use Rattle.ty_select.proofs.Back.{listing, listing_back, none_more}
use Rattle.ty_select.proofs.Grammar.{whole_at, comma_then, set_held}
use Rattle.ty_select.proofs.Terminals.{kind_in, terminal_kind, kind_seen, word_seen, text_seen, begins_split, as_many}
use Rattle.ty_select.proofs.Loops.{negation_read, group_read}
use Rattle.ty_select.proofs.PrintedTokens.{is_tested}

-- One token is read

mark_then : {B : Type 0} (k : Kind) (t : Terminal) (w : Wanted) (b : List ℕ) (f : List ℕ → Result B Stop) → same_kind (kind_in (Some t)) k ≡ true → first_terminal b ≡ Some t → (mark k w b >>= f) ≡ f (lexeme b).rest
unfolding mark
mark_then k t w b f is h = ap (λ c. cond c (Ok (lexeme b).rest) (Err (Bad (length (lexeme b).here) w)) >>= f) (kind_seen b t h k ∙ is)

pub word_text_then : {B : Type 0} (w : Wanted) (b l : List ℕ) (f : List ℕ × List ℕ → Result B Stop) → first_terminal b ≡ Some (a_word l) → (token_text kind.Word w b >>= f) ≡ f (l, (lexeme b).rest)
unfolding token_text
word_text_then w b l f h =
    ap (λ c. cond c (Ok ((lexeme b).text, (lexeme b).rest)) (Err (Bad (length (lexeme b).here) w)) >>= f) (kind_seen b (a_word l) h kind.Word) ∙ ap (λ v. f (v, (lexeme b).rest)) (word_seen b l h)

pub quoted_then : {B : Type 0} (w : Wanted) (b v : List ℕ) (f : List ℕ × List ℕ → Result B Stop) → first_terminal b ≡ Some (a_text v) → (token_text kind.Quoted w b >>= f) ≡ f (v, (lexeme b).rest)
unfolding token_text
quoted_then w b v f h =
    ap (λ c. cond c (Ok ((lexeme b).text, (lexeme b).rest)) (Err (Bad (length (lexeme b).here) w)) >>= f) (kind_seen b (a_text v) h kind.Quoted) ∙ ap (λ v. f (v, (lexeme b).rest)) (text_seen b v h)

pub word_then : {B : Type 0} (name : List ℕ) (w : Wanted) (b : List ℕ) (f : List ℕ → Result B Stop) → bytes_eq name name ≡ true → first_terminal b ≡ Some (a_word name) → (word name w b >>= f) ≡ f (lexeme b).rest
unfolding word
word_then name w b f same h =
    ap (λ c. cond (c && bytes_eq (lexeme b).text name) (Ok (lexeme b).rest) (Err (Bad (length (lexeme b).here) w)) >>= f) (kind_seen b (a_word name) h kind.Word)
    ∙ ap (λ v. cond (bytes_eq v name) (Ok (lexeme b).rest) (Err (Bad (length (lexeme b).here) w)) >>= f) (word_seen b name h)
    ∙ ap (λ c. cond c (Ok (lexeme b).rest) (Err (Bad (length (lexeme b).here) w)) >>= f) same

-- Sets

abbrev further_step : Bool → Bool → ℕ → List ℕ → Read (List (List ℕ))
further_step at_end parted n b =
    cond at_end (Ok ([], (lexeme b).rest))
    (cond parted (comma_then n (lexeme b).rest) (Err (Bad (length (lexeme b).here) wanted.CommaOrBrace)))

further_unfold : (n : ℕ) (b : List ℕ) → more_texts (suc n) b ≡ further_step (same_kind (lexeme b).kind kind.RightBrace) (same_kind (lexeme b).kind kind.Comma) n b
unfolding more_texts
further_unfold n b = refl

pub comma_read : (n : ℕ) (b : List ℕ) → first_terminal b ≡ Some comma → more_texts (suc n) b ≡ comma_then n (lexeme b).rest
comma_read n b h =
    further_unfold n b ∙ ap (λ c. further_step c (same_kind (lexeme b).kind kind.Comma) n b) (kind_seen b comma h kind.RightBrace) ∙ ap (λ c. further_step false c n b) (kind_seen b comma h kind.Comma)

pub further_read : {ts : List Terminal} {vs : List (List ℕ)} → AreFurtherTexts ts vs → (n : ℕ) (b r : List ℕ) → length ts ≤ n → BeginsWith b ts r → more_texts n b ≡ Ok (vs, r)
further_read no_text zero b r le h = absurd (omega arith)
further_read (further_text v d) zero b r le h = absurd (omega arith)
further_read no_text (suc n) b r le h =
    further_unfold n b ∙ ap (λ c. further_step c (same_kind (lexeme b).kind kind.Comma) n b) (kind_seen b end_brace h.0 kind.RightBrace) ∙ ap (λ (l : List ℕ). Ok ([], l)) h.1
further_read (further_text v d) (suc n) b r le h =
    comma_read n b h.0
    ∙ quoted_then wanted.Quoted (lexeme b).rest v (λ t. more_texts n t.1 >>= λ ts. Ok (t.0 ∷ ts.0, ts.1)) h.1.0
    ∙ ap (λ q. q >>= λ (ts : List (List ℕ) × List ℕ). Ok (v ∷ ts.0, ts.1)) (further_read d n (lexeme (lexeme b).rest).rest r (omega arith) h.1.1)

pub set_opened : (b : List ℕ) → first_terminal b ≡ Some brace → set b ≡ set_held (lexeme b).rest
unfolding set
set_opened b h = mark_then kind.LeftBrace brace wanted.Brace b (λ held. cond (same_kind (lexeme held).kind kind.RightBrace) (Ok ([], (lexeme held).rest)) (texts held)) refl h

pub texts_opened : (v b : List ℕ) → first_terminal b ≡ Some brace → first_terminal (lexeme b).rest ≡ Some (a_text v)
    → set b ≡ (more_texts (length (lexeme (lexeme b).rest).rest) (lexeme (lexeme b).rest).rest >>= λ ts. Ok (v ∷ ts.0, ts.1))
unfolding texts
texts_opened v b h k =
    let held = (lexeme b).rest in
    set_opened b h ∙ ap (λ c. cond c (Ok ([], (lexeme held).rest)) (texts held)) (kind_seen held (a_text v) k kind.RightBrace)
    ∙ quoted_then wanted.QuotedOrBrace held v (λ t. more_texts (length t.1) t.1 >>= λ ts. Ok (t.0 ∷ ts.0, ts.1)) k

pub set_read : {ts : List Terminal} {vs : List (List ℕ)} → IsSet ts vs → (b r : List ℕ) → BeginsWith b ts r → set b ≡ Ok (vs, r)
set_read empty_set b r h =
    set_opened b h.0 ∙ ap (λ c. cond c (Ok ([], (lexeme (lexeme b).rest).rest)) (texts (lexeme b).rest)) (kind_seen (lexeme b).rest end_brace h.1.0 kind.RightBrace) ∙ ap (λ (l : List ℕ). Ok ([], l)) h.1.1
set_read (set_of_texts v d) b r h =
    let behind = (lexeme (lexeme b).rest).rest in
    texts_opened v b h.0 h.1.0
    ∙ ap (λ q. q >>= λ (ts : List (List ℕ) × List ℕ). Ok (v ∷ ts.0, ts.1)) (further_read d (length behind) behind r (omega (arith, as_many behind _ r h.1.1)) h.1.1)

-- Tests

pub text_read : (make : List ℕ → Form) (v b r : List ℕ) → BeginsWith b (a_text v ∷ []) r → with_text make b ≡ Ok (make v, r)
text_read make v b r h = quoted_then wanted.Quoted b v (λ t. Ok (make t.0, t.1)) h.0 ∙ ap (λ (l : List ℕ). Ok (make v, l)) h.1

pub choice_read : {ts : List Terminal} {vs : List (List ℕ)} (make : List (List ℕ) → Form) → IsSet ts vs → (b r : List ℕ) → BeginsWith b ts r → with_set make b ≡ Ok (make vs, r)
choice_read make d b r h = ap (λ q. q >>= λ (ts : List (List ℕ) × List ℕ). Ok (make ts.0, ts.1)) (set_read d b r h)

pub test_by : (l b : List ℕ) (o : Operator) → operator_of (lexeme b).kind (lexeme b).text ≡ Some o → test l b ≡ operand l o (lexeme b).rest
unfolding test
test_by l b o h = ap (λ p. tested l p (lexeme b).here (lexeme b).rest) h

pub by_mark : (b : List ℕ) (t : Terminal) → first_terminal b ≡ Some t → operator_of (lexeme b).kind (lexeme b).text ≡ operator_of (kind_in (Some t)) (lexeme b).text
by_mark b t h = ap (λ k. operator_of k (lexeme b).text) (terminal_kind (lexeme b).kind (lexeme b).text t h)

pub by_word : (b w : List ℕ) → first_terminal b ≡ Some (a_word w) → operator_of (lexeme b).kind (lexeme b).text ≡ operator_of kind.Word w
by_word b w h = by_mark b (a_word w) h ∙ ap (operator_of kind.Word) (word_seen b w h)

test_read : {l : List ℕ} {ts : List Terminal} {f : Form} → IsTest l ts f → (b r : List ℕ) → BeginsWith b ts r → test l b ≡ Ok (f, r)
test_read {l} (is_equal v) b r h = test_by l b Equal (by_mark b equal_sign h.0) ∙ text_read (equal l) v (lexeme b).rest r h.1
test_read {l} (is_unequal v) b r h = test_by l b Unequal (by_mark b not_equal_sign h.0) ∙ text_read (unequal l) v (lexeme b).rest r h.1
test_read {l} (is_in d) b r h = test_by l b In (by_word b (codes "in") h.0) ∙ choice_read (among l) d (lexeme b).rest r h.1
test_read {l} (is_not_in d) b r h =
    test_by l b NotIn (by_word b (codes "not") h.0) ∙ word_then (codes "in") wanted.In (lexeme b).rest (with_set (not_among l)) refl h.1.0 ∙ choice_read (not_among l) d (lexeme (lexeme b).rest).rest r h.1.1
test_read {l} (does_contain v) b r h = test_by l b Contains (by_word b (codes "contains") h.0) ∙ text_read (contains l) v (lexeme b).rest r h.1
test_read {l} (starts_with v) b r h =
    test_by l b Starts (by_word b (codes "starts") h.0) ∙ word_then (codes "with") wanted.With (lexeme b).rest (with_text (starts l)) refl h.1.0 ∙ text_read (starts l) v (lexeme (lexeme b).rest).rest r h.1.1
test_read {l} (ends_with v) b r h =
    test_by l b Ends (by_word b (codes "ends") h.0) ∙ word_then (codes "with") wanted.With (lexeme b).rest (with_text (ends l)) refl h.1.0 ∙ text_read (ends l) v (lexeme (lexeme b).rest).rest r h.1.1

-- a test doesn't begin with `(`
not_called : {l : List ℕ} {ts : List Terminal} {f : Form} → IsTest l ts f → (b r : List ℕ) → BeginsWith b ts r → same_kind (lexeme b).kind kind.Open ≡ false
not_called (is_equal v) b r h = kind_seen b equal_sign h.0 kind.Open
not_called (is_unequal v) b r h = kind_seen b not_equal_sign h.0 kind.Open
not_called (is_in d) b r h = kind_seen b (a_word (codes "in")) h.0 kind.Open
not_called (is_not_in d) b r h = kind_seen b (a_word (codes "not")) h.0 kind.Open
not_called (does_contain v) b r h = kind_seen b (a_word (codes "contains")) h.0 kind.Open
not_called (starts_with v) b r h = kind_seen b (a_word (codes "starts")) h.0 kind.Open
not_called (ends_with v) b r h = kind_seen b (a_word (codes "ends")) h.0 kind.Open

-- Terms

abbrev primary_step : Bool → List ℕ → List ℕ → Read Form
primary_step called name b =
    cond (called && bytes_eq name (codes "all")) (constant all (lexeme b).rest) (cond (called && bytes_eq name (codes "global")) (constant global (lexeme b).rest)
    (cond (called && bytes_eq name (codes "has")) (membership (lexeme b).rest) (test name b)))

pub primary_called : (name b : List ℕ) → first_terminal b ≡ Some paren → primary name b ≡ primary_step true name b
unfolding primary
primary_called name b h = ap (λ c. primary_step c name b) (kind_seen b paren h kind.Open)

pub constant_read : (f : Form) (b r : List ℕ) → BeginsWith b (end_paren ∷ []) r → constant f b ≡ Ok (f, r)
unfolding constant
constant_read f b r h = mark_then kind.Close end_paren wanted.Close b (λ rest. Ok (f, rest)) refl h.0 ∙ ap (λ (l : List ℕ). Ok (f, l)) h.1

pub membership_read : (l b r : List ℕ) → BeginsWith b (a_word l ∷ end_paren ∷ []) r → membership b ≡ Ok (has l, r)
unfolding membership
membership_read l b r h =
    word_text_then wanted.Label b l (λ label. mark kind.Close wanted.Close label.1 >>= λ rest. Ok (has label.0, rest)) h.0
    ∙ mark_then kind.Close end_paren wanted.Close (lexeme b).rest (λ rest. Ok (has l, rest)) refl h.1.0 ∙ ap (λ (c : List ℕ). Ok (has l, c)) h.1.1

abbrev unary_step : Bool → Bool → Bool → Option (List ℕ → Read Form) → List ℕ → Read Form
unary_step named negates groups inner b =
    cond named (primary (lexeme b).text (lexeme b).rest) (cond negates (one_deeper inner negation (lexeme b).here (lexeme b).rest)
    (cond groups (one_deeper inner grouped (lexeme b).here (lexeme b).rest) (Err (Bad (length (lexeme b).here) wanted.Term))))

pub unary_seen : (inner : Option (List ℕ → Read Form)) (b : List ℕ) (t : Terminal) → first_terminal b ≡ Some t
    → unary_by inner b ≡ unary_step (same_kind (kind_in (Some t)) kind.Word) (same_kind (kind_in (Some t)) kind.Bang) (same_kind (kind_in (Some t)) kind.Open) inner b
unfolding unary_by
unary_seen inner b t h = ap (λ k. unary_step (same_kind k kind.Word) (same_kind k kind.Bang) (same_kind k kind.Open) inner b) (terminal_kind (lexeme b).kind (lexeme b).text t h)

pub word_unary : (inner : Option (List ℕ → Read Form)) (b w : List ℕ) → first_terminal b ≡ Some (a_word w) → unary_by inner b ≡ primary w (lexeme b).rest
word_unary inner b w h = unary_seen inner b (a_word w) h ∙ ap (λ l. primary l (lexeme b).rest) (word_seen b w h)

-- Operands

pub others_found : (k : Kind) (one : List ℕ → Read Form) (m : ℕ) (b : List ℕ) → same_kind (lexeme b).kind k ≡ true → others k one (suc m) b ≡ (one (lexeme b).rest >>= λ x. others k one m x.1 >>= λ xs. Ok (x.0 ∷ xs.0, xs.1))
unfolding others
others_found k one m b found = ap (λ v. cond v (one (lexeme b).rest >>= λ x. others k one m x.1 >>= λ xs. Ok (x.0 ∷ xs.0, xs.1)) (Ok ([], b))) found

others_more : (k : Kind) (one : List ℕ → Read Form) (m : ℕ) (b c s : List ℕ) (f : Form) (fs : List Form) → same_kind (lexeme b).kind k ≡ true → one (lexeme b).rest ≡ Ok (f, c)
    → others k one m c ≡ Ok (fs, s) → others k one (suc m) b ≡ Ok (f ∷ fs, s)
others_more k one m b c s f fs found first rest =
    others_found k one m b found
    ∙ ap (λ q. q >>= λ (x : Form × List ℕ). others k one m x.1 >>= λ xs. Ok (x.0 ∷ xs.0, xs.1)) first
    ∙ ap (λ q. q >>= λ (xs : List Form × List ℕ). Ok (f ∷ xs.0, xs.1)) rest

operands_read : (k : Kind) (make : List Form → Form) (one : List ℕ → Read Form) (b c r : List ℕ) (f : Form) (fs : List Form) → one b ≡ Ok (f, c) → others k one (length c) c ≡ Ok (fs, r) → operands k make one b ≡ Ok (alone_or make (f ∷ fs), r)
unfolding operands
operands_read k make one b c r f fs first rest =
    ap (λ q. q >>= λ (x : Form × List ℕ). others_from k one x.0 x.1 >>= λ xs. Ok (alone_or make xs.0, xs.1)) first
    ∙ ap (λ q. q >>= (λ (xs : List Form × List ℕ). Ok (f ∷ xs.0, xs.1)) >>= λ (xs : List Form × List ℕ). Ok (alone_or make xs.0, xs.1)) rest

alone_joined : (node : Forms → Form) (f : Form) (fs : Forms) → alone_or (λ l. node (forms_of l)) (f ∷ listing fs) ≡ joined_by node f fs
alone_joined node f none = refl
alone_joined node f (more g gs) = ap (λ l. node (more f (more g l))) (listing_back gs)

none_there : (k : Kind) (one : List ℕ → Read Form) (m : ℕ) (b r : List ℕ) → b ≡ r → same_kind (lexeme r).kind k ≡ false → others k one m b ≡ Ok ([], r)
none_there k one m b r e stop = ap (others k one m) e ∙ none_more k one m r stop

-- what follows an operand of an or isn't `&&`
before_or : {n : ℕ} {us : List Terminal} {fs : Forms} → AreOrs n us fs → (c r : List ℕ) → BeginsWith c us r → same_kind (lexeme r).kind kind.AndAnd ≡ false → same_kind (lexeme c).kind kind.AndAnd ≡ false
before_or no_or c r h stop = ap (λ (b : List ℕ). same_kind (lexeme b).kind kind.AndAnd) h ∙ stop
before_or (further_or d ds) c r h stop = kind_seen c or_sign h.0 kind.AndAnd

closing_read : (c r : List ℕ) → BeginsWith c (end_paren ∷ []) r → mark kind.Close wanted.Close c ≡ Ok r
unfolding mark
closing_read c r h = ap (λ v. cond v (Ok (lexeme c).rest) (Err (Bad (length (lexeme c).here) wanted.Close))) (kind_seen c end_paren h.0 kind.Close) ∙ ap (λ (l : List ℕ). Ok l) h.1

mutual
  pub or_read : {n : ℕ} {ts : List Terminal} {f : Form} → IsOr n ts f → (m : ℕ) (b r : List ℕ) → n ≤ m → BeginsWith b ts r → same_kind (lexeme r).kind kind.OrOr ≡ false → same_kind (lexeme r).kind kind.AndAnd ≡ false
      → disjunction (unary m) b ≡ Ok (f, r)
  or_read (or_of {n} {ts} {us} {f} {fs} d ds) m b r le h no_or_there no_and_there =
      let (c, first, rest) = begins_split b ts us r h in
      operands_read kind.OrOr either_of (conjunction (unary m)) b c r f (listing fs) (and_read d m b c le first (before_or ds c r rest no_and_there))
      (ors_read ds (length c) m c r le (omega (arith, as_many c us r rest)) rest no_or_there no_and_there)
      ∙ ap (λ g. Ok (g, r)) (alone_joined either f fs)

  ors_read : {n : ℕ} {us : List Terminal} {fs : Forms} → AreOrs n us fs → (k m : ℕ) (b r : List ℕ) → n ≤ m → length us ≤ k → BeginsWith b us r → same_kind (lexeme r).kind kind.OrOr ≡ false → same_kind (lexeme r).kind kind.AndAnd ≡ false
      → others kind.OrOr (conjunction (unary m)) k b ≡ Ok (listing fs, r)
  ors_read no_or k m b r le many h no_or_there no_and_there = none_there kind.OrOr (conjunction (unary m)) k b r h no_or_there
  ors_read (further_or d ds) zero m b r le many h no_or_there no_and_there = absurd (omega arith)
  ors_read (further_or {n} {ts} {us} {f} {fs} d ds) (suc k) m b r le many h no_or_there no_and_there =
      let (c, first, rest) = begins_split (lexeme b).rest ts us r h.1 in
      others_more kind.OrOr (conjunction (unary m)) k b c r f (listing fs) (kind_seen b or_sign h.0 kind.OrOr) (and_read d m (lexeme b).rest c le first (before_or ds c r rest no_and_there))
      (ors_read ds k m c r le (omega (arith, length-append ts us)) rest no_or_there no_and_there)

  pub and_read : {n : ℕ} {ts : List Terminal} {f : Form} → IsAnd n ts f → (m : ℕ) (b r : List ℕ) → n ≤ m → BeginsWith b ts r → same_kind (lexeme r).kind kind.AndAnd ≡ false → conjunction (unary m) b ≡ Ok (f, r)
  and_read (and_of {n} {ts} {us} {f} {fs} d ds) m b r le h no_and_there =
      let (c, first, rest) = begins_split b ts us r h in
      operands_read kind.AndAnd both_of (unary m) b c r f (listing fs) (unary_read d m b c le first) (ands_read ds (length c) m c r le (omega (arith, as_many c us r rest)) rest no_and_there)
      ∙ ap (λ g. Ok (g, r)) (alone_joined both f fs)

  ands_read : {n : ℕ} {us : List Terminal} {fs : Forms} → AreAnds n us fs → (k m : ℕ) (b r : List ℕ) → n ≤ m → length us ≤ k → BeginsWith b us r → same_kind (lexeme r).kind kind.AndAnd ≡ false
      → others kind.AndAnd (unary m) k b ≡ Ok (listing fs, r)
  ands_read no_and k m b r le many h no_and_there = none_there kind.AndAnd (unary m) k b r h no_and_there
  ands_read (further_and d ds) zero m b r le many h no_and_there = absurd (omega arith)
  ands_read (further_and {n} {ts} {us} {f} {fs} d ds) (suc k) m b r le many h no_and_there =
      let (c, first, rest) = begins_split (lexeme b).rest ts us r h.1 in
      others_more kind.AndAnd (unary m) k b c r f (listing fs) (kind_seen b and_sign h.0 kind.AndAnd) (unary_read d m (lexeme b).rest c le first)
      (ands_read ds k m c r le (omega (arith, length-append ts us)) rest no_and_there)

  pub unary_read : {n : ℕ} {ts : List Terminal} {f : Form} → IsUnary n ts f → (m : ℕ) (b r : List ℕ) → n ≤ m → BeginsWith b ts r → unary m b ≡ Ok (f, r)
  unary_read (negation_of {n} {ts} {f} d) m b r le h =
      unary_seen (inside m) b bang h.0 ∙ negation_read m (lexeme b).here (lexeme b).rest (omega arith) f r (unary_read d (m - 1) (lexeme b).rest r (omega arith) h.1)
  unary_read (unary_of d) m b r le h = primary_read d m b r le h

  pub primary_read : {n : ℕ} {ts : List Terminal} {f : Form} → IsPrimary n ts f → (m : ℕ) (b r : List ℕ) → n ≤ m → BeginsWith b ts r → unary m b ≡ Ok (f, r)
  primary_read (group_of {n} {ts} {f} d) m b r le h =
      let (c, held, closed) = begins_split (lexeme b).rest ts (end_paren ∷ []) r h.1 in
      unary_seen (inside m) b paren h.0
      ∙ group_read m (lexeme b).here (lexeme b).rest (omega arith) f c r (or_read d (m - 1) (lexeme b).rest c (omega arith) held (kind_seen c end_paren closed.0 kind.OrOr) (kind_seen c end_paren closed.0 kind.AndAnd))
      (closing_read c r closed)
  primary_read all_of m b r le h = word_unary (inside m) b (codes "all") h.0 ∙ primary_called (codes "all") (lexeme b).rest h.1.0 ∙ constant_read all (lexeme (lexeme b).rest).rest r h.1.1
  primary_read global_of m b r le h = word_unary (inside m) b (codes "global") h.0 ∙ primary_called (codes "global") (lexeme b).rest h.1.0 ∙ constant_read global (lexeme (lexeme b).rest).rest r h.1.1
  primary_read (has_of l) m b r le h = word_unary (inside m) b (codes "has") h.0 ∙ primary_called (codes "has") (lexeme b).rest h.1.0 ∙ membership_read l (lexeme (lexeme b).rest).rest r h.1.1
  primary_read (test_of l d) m b r le h = word_unary (inside m) b l h.0 ∙ is_tested l (lexeme b).rest (not_called d (lexeme b).rest r h.1) ∙ test_read d (lexeme b).rest r h.1

-- Whole texts

primary_begins : {n : ℕ} {ts : List Terminal} {f : Form} → IsPrimary n ts f → (b r : List ℕ) → BeginsWith b ts r → same_kind (lexeme b).kind kind.End ≡ false
primary_begins (group_of d) b r h = kind_seen b paren h.0 kind.End
primary_begins all_of b r h = kind_seen b (a_word (codes "all")) h.0 kind.End
primary_begins global_of b r h = kind_seen b (a_word (codes "global")) h.0 kind.End
primary_begins (has_of l) b r h = kind_seen b (a_word (codes "has")) h.0 kind.End
primary_begins (test_of l d) b r h = kind_seen b (a_word l) h.0 kind.End

unary_begins : {n : ℕ} {ts : List Terminal} {f : Form} → IsUnary n ts f → (b r : List ℕ) → BeginsWith b ts r → same_kind (lexeme b).kind kind.End ≡ false
unary_begins (negation_of d) b r h = kind_seen b bang h.0 kind.End
unary_begins (unary_of d) b r h = primary_begins d b r h

and_begins : {n : ℕ} {ts : List Terminal} {f : Form} → IsAnd n ts f → (b r : List ℕ) → BeginsWith b ts r → same_kind (lexeme b).kind kind.End ≡ false
and_begins (and_of {n} {ts} {us} d ds) b r h = (let (c, first, rest) = begins_split b ts us r h in unary_begins d b c first)

or_begins : {n : ℕ} {ts : List Terminal} {f : Form} → IsOr n ts f → (b r : List ℕ) → BeginsWith b ts r → same_kind (lexeme b).kind kind.End ≡ false
or_begins (or_of {n} {ts} {us} d ds) b r h = (let (c, first, rest) = begins_split b ts us r h in and_begins d b c first)

abbrev pub joint : Form × List ℕ → Result Form Stop
joint x = cond (same_kind (lexeme x.1).kind kind.End) (Ok x.0) (Err (Bad (length (lexeme x.1).here) wanted.Joint))

pub whole_read : {n : ℕ} {ts : List Terminal} {f : Form} → AreTerminals n ts f → (m : ℕ) (b r : List ℕ) → n ≤ m → BeginsWith b ts r → (lexeme r).kind ≡ kind.End → whole_at m b ≡ Ok f
whole_read blank m b r le h e = ap (λ k. cond (same_kind k kind.End) (Ok all) (disjunction (unary m) b >>= joint)) (ap (λ (x : List ℕ). (lexeme x).kind) h ∙ e)
whole_read {n} {ts} {f} (filled d) m b r le h e =
    ap (λ c. cond c (Ok all) (disjunction (unary m) b >>= joint)) (or_begins d b r h)
    ∙ ap (λ q. q >>= joint) (or_read d m b r le h (ap (λ k. same_kind k kind.OrOr) e) (ap (λ k. same_kind k kind.AndAnd) e))
    ∙ ap (λ k. cond (same_kind k kind.End) (Ok f) (Err (Bad (length (lexeme r).here) wanted.Joint))) e

pub what_is_said_is_read : (text : List ℕ) (f : Form) → IsSelectorWithin MOST_OPEN text f → selector_of text ≡ Ok f
unfolding selector_of whole_text
what_is_said_is_read text f s = ap (from_the_front (length text)) (whole_read s.said MOST_OPEN text s.rest (omega arith) s.begins s.ended)

pub said_once : (text : List ℕ) (f g : Form) → IsSelector text f → IsSelector text g → f ≡ g
said_once text f g h k =
    let m = h.0 + k.0 in
    let same = sym (whole_read h.1.said m text h.1.rest (omega arith) h.1.begins h.1.ended) ∙ whole_read k.1.said m text k.1.rest (omega arith) k.1.begins k.1.ended in
    cc

-- With more that may be open, what is read stays, and each fault but that one too many is open.

abbrev pub Kept : {A : Type 0} → Result A Stop → Result A Stop → Type 0
Kept (Ok y) s = s ≡ Ok y
Kept (Err (Bad left w)) s = s ≡ Err (Bad left w)
Kept (Err (TooDeep left)) s = Unit {0}
Kept (Err Spent) s = Unit {0}

kept_same : {A : Type 0} (r : Result A Stop) → Kept r r
kept_same (Ok y) = refl
kept_same (Err (Bad left w)) = refl
kept_same (Err (TooDeep left)) = tt
kept_same (Err Spent) = tt

kept_then : {A B : Type 0} (r s : Result A Stop) (f g : A → Result B Stop) → Kept r s → ((y : A) → Kept (f y) (g y)) → Kept (r >>= f) (s >>= g)
kept_then (Ok y) s f g e go = subst (λ q. Kept (f y) (q >>= g)) (sym e) (go y)
kept_then (Err (Bad left w)) s f g e go = ap (λ q. q >>= g) e
kept_then (Err (TooDeep left)) s f g e go = tt
kept_then (Err Spent) s f g e go = tt

kept_cond : {A : Type 0} (c : Bool) (r s t u : Result A Stop) → Kept r t → Kept s u → Kept (cond c r s) (cond c t u)
kept_cond true r s t u h k = h
kept_cond false r s t u h k = k

module _ (k : Kind) (one two : List ℕ → Read Form) (each : (b : List ℕ) → Kept (one b) (two b)) where
  others_kept : (m : ℕ) (b : List ℕ) → Kept (others k one m b) (others k two m b)
  unfolding others
  others_kept zero b = refl
  others_kept (suc m) b =
      kept_cond (same_kind (lexeme b).kind k) _ _ _ _
      (kept_then (one (lexeme b).rest) (two (lexeme b).rest) (λ x. others k one m x.1 >>= λ xs. Ok (x.0 ∷ xs.0, xs.1)) (λ x. others k two m x.1 >>= λ xs. Ok (x.0 ∷ xs.0, xs.1)) (each (lexeme b).rest)
      (λ y. kept_then (others k one m y.1) (others k two m y.1) (λ xs. Ok (y.0 ∷ xs.0, xs.1)) (λ xs. Ok (y.0 ∷ xs.0, xs.1)) (others_kept m y.1) (λ xs. refl)))
      refl

  operands_kept : (make : List Form → Form) (b : List ℕ) → Kept (operands k make one b) (operands k make two b)
  unfolding operands
  operands_kept make b =
      kept_then (one b) (two b) (λ x. others_from k one x.0 x.1 >>= λ xs. Ok (alone_or make xs.0, xs.1)) (λ x. others_from k two x.0 x.1 >>= λ xs. Ok (alone_or make xs.0, xs.1)) (each b)
      (λ y. kept_then (others_from k one y.0 y.1) (others_from k two y.0 y.1) (λ xs. Ok (alone_or make xs.0, xs.1)) (λ xs. Ok (alone_or make xs.0, xs.1))
      (kept_then (others k one (length y.1) y.1) (others k two (length y.1) y.1) (λ xs. Ok (y.0 ∷ xs.0, xs.1)) (λ xs. Ok (y.0 ∷ xs.0, xs.1)) (others_kept (length y.1) y.1) (λ xs. refl)) (λ xs. refl))

disjunction_kept : (one two : List ℕ → Read Form) → ((b : List ℕ) → Kept (one b) (two b)) → (b : List ℕ) → Kept (disjunction one b) (disjunction two b)
disjunction_kept one two each b = operands_kept kind.OrOr (conjunction one) (conjunction two) (λ c. operands_kept kind.AndAnd one two each both_of c) either_of b

abbrev InnerKept : Option (List ℕ → Read Form) → Option (List ℕ → Read Form) → Type 0
InnerKept None inner = Unit {0}
InnerKept (Some one) None = ⊥
InnerKept (Some one) (Some two) = (b : List ℕ) → Kept (one b) (two b)

module _ (here rest : List ℕ) where
  negation_kept : (i j : Option (List ℕ → Read Form)) → InnerKept i j → Kept (one_deeper i negation here rest) (one_deeper j negation here rest)
  negation_kept None j h = tt
  negation_kept (Some one) None h = absurd h
  negation_kept (Some one) (Some two) h = kept_then (one rest) (two rest) (λ x. Ok (negated x.0, x.1)) (λ x. Ok (negated x.0, x.1)) (h rest) (λ x. refl)

  group_kept : (i j : Option (List ℕ → Read Form)) → InnerKept i j → Kept (one_deeper i grouped here rest) (one_deeper j grouped here rest)
  group_kept None j h = tt
  group_kept (Some one) None h = absurd h
  group_kept (Some one) (Some two) h =
      kept_then (disjunction one rest) (disjunction two rest) (λ x. mark kind.Close wanted.Close x.1 >>= λ r. Ok (x.0, r)) (λ x. mark kind.Close wanted.Close x.1 >>= λ r. Ok (x.0, r))
      (disjunction_kept one two h rest) (λ x. kept_same (mark kind.Close wanted.Close x.1 >>= λ r. Ok (x.0, r)))

unary_kept : (i j : Option (List ℕ → Read Form)) → InnerKept i j → (b : List ℕ) → Kept (unary_by i b) (unary_by j b)
unfolding unary_by
unary_kept i j h b =
    kept_cond (same_kind (lexeme b).kind kind.Word) _ _ _ _ (kept_same (primary (lexeme b).text (lexeme b).rest))
    (kept_cond (same_kind (lexeme b).kind kind.Bang) _ _ _ _ (negation_kept (lexeme b).here (lexeme b).rest i j h)
    (kept_cond (same_kind (lexeme b).kind kind.Open) _ _ _ _ (group_kept (lexeme b).here (lexeme b).rest i j h) refl))

inside_kept : (n m : ℕ) → n ≤ m → InnerKept (inside n) (inside m)
unfolding inside
inside_kept zero m le = tt
inside_kept (suc n) zero le = absurd (omega arith)
inside_kept (suc n) (suc m) le = unary_kept (inside n) (inside m) (inside_kept n m (omega arith))

pub whole_kept : (n m : ℕ) → n ≤ m → (b : List ℕ) → Kept (whole_at n b) (whole_at m b)
whole_kept n m le b =
    kept_cond (same_kind (lexeme b).kind kind.End) _ _ _ _ refl
    (kept_then (disjunction (unary n) b) (disjunction (unary m) b) joint joint (disjunction_kept (unary n) (unary m) (unary_kept (inside n) (inside m) (inside_kept n m le)) b) (λ y. kept_same (joint y)))
