-- What is printed is read again.
use Rattle.std.proofs.Common.{◌≡◌, ℕ, zero, suc, ◌-◌, ◌≤◌, List, [], ◌∷◌, ◌++◌, length, drop, Bool, true, false, true≢false, ◌==◌, ◌&&◌, cond, Ok, Err, Option, codes, refl, sym, ap, ◌∙◌, append_assoc, length-append, arith, slice_index}
use Rattle.std.proofs.lemmas.List.{append-nil}
use Rattle.std.specs.List.{AllByRecursion}
use Rattle.std.specs.Str.{bytes_eq}
use Rattle.std.proofs.lemmas.Bool.{and_parts}
use Rattle.std.proofs.lemmas.Bool.Decides.{nat_tests}
use Rattle.ty_select.specs.declared.limits.TheConstants.{MOST_OPEN}
use Rattle.ty_select.specs.declared.fault.Stop.TheVariants.{Bad}
use Rattle.ty_select.specs.declared.fault.Wanted.TheVariants as wanted
use Rattle.ty_select.specs.declared.token.Kind.{Kind}
use Rattle.ty_select.specs.declared.token.Kind.TheVariants as kind
use Rattle.ty_select.specs.Forms.{Form, all, global, has, equal, unequal, among, not_among, contains, starts, ends, negated, both, either, Forms, none, more, forms_of}
use Rattle.ty_select.specs.Printable.{IsLabel, IsQuotable, IsPrintable, ArePrintable}
use Rattle.ty_select.specs.Text.{quoted_text, quoted_texts, set_text, printed, parted, depth, deepest}
use Rattle.ty_select.specs.Expressions.{◌>>=◌, Read, mark, more_texts, texts, set, with_text, with_set, others, others_from, alone_or, operands, both_of, either_of, conjunction, disjunction, inside, unary, whole_text, from_the_front, selector_of, quoted, primary, test, tested, operator_of, constant, membership, unary_by, one_deeper, negation, grouped}
use Rattle.ty_select.specs.Tokens.{Lexeme, lexeme, same_kind, width}
use Rattle.ty_select.specs.Words.{is_word_byte}
use Rattle.ty_select.proofs.Loops.{negation_read, group_read}
use Rattle.ty_select.proofs.PrintedTokens.{first_token, behind_blank, word_front, quoted_token, text_word, text_quoted, quoted_back, starts_with_word, leaf, equal_back, name_front, in_label, not_label, with_label, ends_label, starts_label, contains_label, all_label, has_label, global_label, word_back, mark_back, brace_token, close_token, open_token}

regroup : (a b c x : List ℕ) → ((a ++ b) ++ c) ++ x ≡ a ++ ((b ++ c) ++ x)
regroup a b c x = simp append_assoc

abbrev texts_step : ℕ → Lexeme → Read (List (List ℕ))
texts_step k t =
    cond (same_kind t.kind kind.RightBrace) (Ok ([], t.rest))
    (cond (same_kind t.kind kind.Comma) (quoted t.rest >>= λ y. more_texts k y.1 >>= λ ys. Ok (y.0 ∷ ys.0, ys.1)) (Err (Bad (length t.here) wanted.CommaOrBrace)))

texts_unfold : (k : ℕ) (b : List ℕ) → more_texts (suc k) b ≡ texts_step k (lexeme b)
unfolding more_texts
texts_unfold k b = refl

more_back : (k : ℕ) (ws x : List (List ℕ)) (y : List ℕ) → AllByRecursion IsQuotable ws → length ((quoted_texts (codes ", ") ws ++ 125 ∷ []) ++ y) ≤ k
    → more_texts k ((quoted_texts (codes ", ") ws ++ 125 ∷ []) ++ y) ≡ Ok (ws, y)
more_back zero [] x y a le = absurd (omega arith)
more_back zero (w ∷ us) x y a le = absurd (omega arith)
more_back (suc k) [] x y a le = texts_unfold k (125 ∷ y) ∙ ap (texts_step k) (brace_token y)
more_back (suc k) (w ∷ us) x y a le =
    let z = (quoted_texts (codes ", ") us ++ 125 ∷ []) ++ y in
    let g = regroup (quoted_text w) (quoted_texts (codes ", ") us) (125 ∷ []) y in
    let short : length z ≤ k = omega (arith, ap length g, length-append (quoted_text w) z) in
    ap (λ b. more_texts (suc k) (44 ∷ 32 ∷ b)) g
    ∙ texts_unfold k (44 ∷ 32 ∷ (quoted_text w ++ z))
    ∙ ap (texts_step k) (first_token 44 (32 ∷ (quoted_text w ++ z)) refl)
    ∙ ap (λ r. r >>= λ (y : List ℕ × List ℕ). more_texts k y.1 >>= λ ys. Ok (y.0 ∷ ys.0, ys.1)) (quoted_back w z a.0)
    ∙ ap (λ r. r >>= λ (ys : List (List ℕ) × List ℕ). Ok (w ∷ ys.0, ys.1)) (more_back k us x y a.1 short)

texts_back : (v : List ℕ) (vs : List (List ℕ)) (x : List ℕ) → AllByRecursion IsQuotable (v ∷ vs) → texts (quoted_text v ++ ((quoted_texts (codes ", ") vs ++ 125 ∷ []) ++ x)) ≡ Ok (v ∷ vs, x)
unfolding texts
texts_back v vs x a =
    let z = (quoted_texts (codes ", ") vs ++ 125 ∷ []) ++ x in
    let t = quoted_token v z a.0 in
    let le : length z ≤ length z = omega arith in
    ap (λ r. r >>= λ (t : List ℕ × List ℕ). more_texts (length t.1) t.1 >>= λ ts. Ok (t.0 ∷ ts.0, ts.1)) (text_quoted wanted.QuotedOrBrace (quoted_text v ++ z) t.0 v z t.1)
    ∙ ap (λ r. r >>= λ (ts : List (List ℕ) × List ℕ). Ok (v ∷ ts.0, ts.1)) (more_back (length z) vs [] x a.1 le)

set_opened : (y : List ℕ) → set (32 ∷ 123 ∷ y) ≡ cond (same_kind (lexeme y).kind kind.RightBrace) (Ok ([], (lexeme y).rest)) (texts y)
unfolding set
set_opened y =
    ap (λ r. r >>= λ (held : List ℕ). cond (same_kind (lexeme held).kind kind.RightBrace) (Ok ([], (lexeme held).rest)) (texts held))
    (mark_back kind.LeftBrace wanted.Brace (32 ∷ 123 ∷ y) (123 ∷ y) y (behind_blank (123 ∷ y) ∙ first_token 123 y refl) refl)

pub set_back : (vs : List (List ℕ)) (x : List ℕ) → AllByRecursion IsQuotable vs → set (32 ∷ (set_text vs ++ x)) ≡ Ok (vs, x)
unfolding set_text
set_back [] x a = set_opened (125 ∷ x) ∙ ap (λ (t : Lexeme). cond (same_kind t.kind kind.RightBrace) (Ok ([], t.rest)) (texts (125 ∷ x))) (brace_token x)
set_back (v ∷ vs) x a =
    let z = (quoted_texts (codes ", ") vs ++ 125 ∷ []) ++ x in
    let t = quoted_token v z a.0 in
    ap (λ b. set (32 ∷ 123 ∷ b)) (regroup (quoted_text v) (quoted_texts (codes ", ") vs) (125 ∷ []) x)
    ∙ set_opened (quoted_text v ++ z)
    ∙ ap (λ (t : Lexeme). cond (same_kind t.kind kind.RightBrace) (Ok ([], t.rest)) (texts (quoted_text v ++ z))) t.1
    ∙ texts_back v vs x a

-- a label and an operator's token
tested_back : (inner : Option (List ℕ → Read Form)) (l r x h : List ℕ) (k : Kind) (name rest : List ℕ) (f : Form) → IsLabel l → lexeme (32 ∷ r) ≡ record { kind = k; here = h; text = name; rest = rest }
    → same_kind k kind.Open ≡ false → tested l (operator_of k name) h rest ≡ Ok (f, x) → unary_by inner (l ++ 32 ∷ r) ≡ Ok (f, x)
unfolding test
tested_back inner l r x h k name rest f hl e other t =
    leaf inner l r x f hl (ap (λ (t : Lexeme). same_kind t.kind kind.Open) e ∙ other) (ap (λ (t : Lexeme). tested l (operator_of t.kind t.text) t.here t.rest) e ∙ t)

with_text_back : (make : List ℕ → Form) (v x : List ℕ) → IsQuotable v → with_text make (32 ∷ (quoted_text v ++ x)) ≡ Ok (make v, x)
with_text_back make v x h = ap (λ q. q >>= λ (y : List ℕ × List ℕ). Ok (make y.0, y.1)) (quoted_back v x h)

with_set_back : (make : List (List ℕ) → Form) (vs : List (List ℕ)) (x : List ℕ) → AllByRecursion IsQuotable vs → with_set make (32 ∷ (set_text vs ++ x)) ≡ Ok (make vs, x)
with_set_back make vs x h = ap (λ q. q >>= λ (y : List (List ℕ) × List ℕ). Ok (make y.0, y.1)) (set_back vs x h)

module _ (inner : Option (List ℕ → Read Form)) (l : List ℕ) (hl : IsLabel l) (x : List ℕ) where
  pub unequal_back : (v : List ℕ) → IsQuotable v → unary_by inner (printed (unequal l v) ++ x) ≡ Ok (unequal l v, x)
  unequal_back v hv =
      let y = 32 ∷ (quoted_text v ++ x) in
      ap (unary_by inner) (append_assoc l (codes " != " ++ quoted_text v) x)
      ∙ tested_back inner l (33 ∷ 61 ∷ y) x (33 ∷ 61 ∷ y) kind.NotEqual [] y (unequal l v) hl (behind_blank (33 ∷ 61 ∷ y) ∙ first_token 33 (61 ∷ y) refl) refl (with_text_back (unequal l) v x hv)

  pub contains_back : (v : List ℕ) → IsQuotable v → unary_by inner (printed (contains l v) ++ x) ≡ Ok (contains l v, x)
  contains_back v hv =
      let y = quoted_text v ++ x in
      ap (unary_by inner) (append_assoc l (codes " contains " ++ quoted_text v) x)
      ∙ tested_back inner l (codes "contains" ++ 32 ∷ y) x (codes "contains" ++ 32 ∷ y) kind.Word (codes "contains") (32 ∷ y) (contains l v) hl (name_front (codes "contains") y contains_label) refl (with_text_back (contains l) v x hv)

  pub starts_back : (v : List ℕ) → IsQuotable v → unary_by inner (printed (starts l v) ++ x) ≡ Ok (starts l v, x)
  starts_back v hv =
      let y = quoted_text v ++ x in
      let z = codes "with" ++ 32 ∷ y in
      ap (unary_by inner) (append_assoc l (codes " starts with " ++ quoted_text v) x)
      ∙ tested_back inner l (codes "starts" ++ 32 ∷ z) x (codes "starts" ++ 32 ∷ z) kind.Word (codes "starts") (32 ∷ z) (starts l v) hl (name_front (codes "starts") z starts_label) refl
      (ap (λ r. r >>= λ (b : List ℕ). with_text (starts l) b) (word_back (codes "with") wanted.With y with_label refl) ∙ with_text_back (starts l) v x hv)

  pub ends_back : (v : List ℕ) → IsQuotable v → unary_by inner (printed (ends l v) ++ x) ≡ Ok (ends l v, x)
  ends_back v hv =
      let y = quoted_text v ++ x in
      let z = codes "with" ++ 32 ∷ y in
      ap (unary_by inner) (append_assoc l (codes " ends with " ++ quoted_text v) x)
      ∙ tested_back inner l (codes "ends" ++ 32 ∷ z) x (codes "ends" ++ 32 ∷ z) kind.Word (codes "ends") (32 ∷ z) (ends l v) hl (name_front (codes "ends") z ends_label) refl
      (ap (λ r. r >>= λ (b : List ℕ). with_text (ends l) b) (word_back (codes "with") wanted.With y with_label refl) ∙ with_text_back (ends l) v x hv)

  pub among_back : (vs : List (List ℕ)) → AllByRecursion IsQuotable vs → unary_by inner (printed (among l vs) ++ x) ≡ Ok (among l vs, x)
  among_back vs hv =
      let y = set_text vs ++ x in
      ap (unary_by inner) (append_assoc l (codes " in " ++ set_text vs) x)
      ∙ tested_back inner l (codes "in" ++ 32 ∷ y) x (codes "in" ++ 32 ∷ y) kind.Word (codes "in") (32 ∷ y) (among l vs) hl (name_front (codes "in") y in_label) refl (with_set_back (among l) vs x hv)

  pub not_among_back : (vs : List (List ℕ)) → AllByRecursion IsQuotable vs → unary_by inner (printed (not_among l vs) ++ x) ≡ Ok (not_among l vs, x)
  not_among_back vs hv =
      let y = set_text vs ++ x in
      let z = codes "in" ++ 32 ∷ y in
      ap (unary_by inner) (append_assoc l (codes " not in " ++ set_text vs) x)
      ∙ tested_back inner l (codes "not" ++ 32 ∷ z) x (codes "not" ++ 32 ∷ z) kind.Word (codes "not") (32 ∷ z) (not_among l vs) hl (name_front (codes "not") z not_label) refl
      (ap (λ r. r >>= λ (b : List ℕ). with_set (not_among l) b) (word_back (codes "in") wanted.In y in_label refl) ∙ with_set_back (not_among l) vs x hv)

-- a function's name before `(`
abbrev called_step : List ℕ → List ℕ → Lexeme → Read Form
called_step name bytes t =
    let called = same_kind t.kind kind.Open in
    cond (called && bytes_eq name (codes "all")) (constant all t.rest) (cond (called && bytes_eq name (codes "global")) (constant global t.rest) (cond (called && bytes_eq name (codes "has")) (membership t.rest) (test name bytes)))

called_back : (inner : Option (List ℕ → Read Form)) (name y : List ℕ) → IsLabel name → unary_by inner (name ++ 40 ∷ y) ≡ called_step name (40 ∷ y) (record { kind = kind.Open; here = 40 ∷ y; text = []; rest = y })
unfolding primary
called_back inner name y h =
    starts_with_word inner (name ++ 40 ∷ y) (name ++ 40 ∷ y) name (40 ∷ y) (word_front name y 40 h refl) ∙ ap (called_step name (40 ∷ y)) (open_token y)

constant_back : (f : Form) (x : List ℕ) → constant f (41 ∷ x) ≡ Ok (f, x)
unfolding constant
constant_back f x = ap (λ r. r >>= λ (rest : List ℕ). Ok (f, rest)) (mark_back kind.Close wanted.Close (41 ∷ x) (41 ∷ x) x (close_token x) refl)

pub all_back : (inner : Option (List ℕ → Read Form)) (x : List ℕ) → unary_by inner (printed all ++ x) ≡ Ok (all, x)
all_back inner x = called_back inner (codes "all") (41 ∷ x) all_label ∙ constant_back all x

pub global_back : (inner : Option (List ℕ → Read Form)) (x : List ℕ) → unary_by inner (printed global ++ x) ≡ Ok (global, x)
global_back inner x = called_back inner (codes "global") (41 ∷ x) global_label ∙ constant_back global x

pub has_back : (inner : Option (List ℕ → Read Form)) (l x : List ℕ) → IsLabel l → unary_by inner (printed (has l) ++ x) ≡ Ok (has l, x)
unfolding membership
has_back inner l x h =
    ap (λ b. unary_by inner (codes "has(" ++ b)) (append_assoc l (41 ∷ []) x)
    ∙ called_back inner (codes "has") (l ++ 41 ∷ x) has_label
    ∙ ap (λ r. r >>= λ (label : List ℕ × List ℕ). mark kind.Close wanted.Close label.1 >>= λ rest. Ok (has label.0, rest)) (text_word wanted.Label (l ++ 41 ∷ x) (l ++ 41 ∷ x) l (41 ∷ x) (word_front l x 41 h refl))
    ∙ ap (λ r. r >>= λ (rest : List ℕ). Ok (has l, rest)) (mark_back kind.Close wanted.Close (41 ∷ x) (41 ∷ x) x (close_token x) refl)

-- Nested selectors.
abbrev unary_step : Option (List ℕ → Read Form) → Lexeme → Read Form
unary_step inner t =
    cond (same_kind t.kind kind.Word) (primary t.text t.rest) (cond (same_kind t.kind kind.Bang) (one_deeper inner negation t.here t.rest) (cond (same_kind t.kind kind.Open) (one_deeper inner grouped t.here t.rest) (Err (Bad (length t.here) wanted.Term))))

unary_unfold : (inner : Option (List ℕ → Read Form)) (b : List ℕ) → unary_by inner b ≡ unary_step inner (lexeme b)
unfolding unary_by
unary_unfold inner b = refl

-- a blank in front of a unary
unary_blank : (inner : Option (List ℕ → Read Form)) (b : List ℕ) → unary_by inner (32 ∷ b) ≡ unary_by inner b
unary_blank inner b = unary_unfold inner (32 ∷ b) ∙ ap (unary_step inner) (behind_blank b) ∙ sym (unary_unfold inner b)

bang_token : (y : List ℕ) → (slice_index y 0 == 61) ≡ false → lexeme (33 ∷ y) ≡ record { kind = kind.Bang; here = 33 ∷ y; text = []; rest = y }
bang_token y h =
    first_token 33 y refl
    ∙ ap (λ (c : Bool). record { kind = cond c kind.NotEqual kind.Bang; here = 33 ∷ y; text = []; rest = drop (width (cond c kind.NotEqual kind.Bang)) (33 ∷ y) }) h

word_byte_no_equals : (b : ℕ) → is_word_byte b ≡ true → (b == 61) ≡ false
word_byte_no_equals b h = grind (arith, nat_tests)

label_start : (l y x : List ℕ) → IsLabel l → (slice_index ((l ++ y) ++ x) 0 == 61) ≡ false
label_start [] y x h = absurd (true≢false (sym h))
label_start (b ∷ bs) y x h = word_byte_no_equals b (and_parts _ _ (and_parts _ _ h).1).0

no_equals_first : (f : Form) (x : List ℕ) → IsPrintable f → (slice_index (printed f ++ x) 0 == 61) ≡ false
no_equals_first all x p = refl
no_equals_first global x p = refl
no_equals_first (has l) x p = refl
no_equals_first (equal l v) x p = label_start l _ x p.0
no_equals_first (unequal l v) x p = label_start l _ x p.0
no_equals_first (among l vs) x p = label_start l _ x p.0
no_equals_first (not_among l vs) x p = label_start l _ x p.0
no_equals_first (contains l v) x p = label_start l _ x p.0
no_equals_first (starts l v) x p = label_start l _ x p.0
no_equals_first (ends l v) x p = label_start l _ x p.0
no_equals_first (negated f) x p = refl
no_equals_first (both fs) x p = refl
no_equals_first (either fs) x p = refl

-- no operand more, where no such mark stands
pub none_more : (k : Kind) (one : List ℕ → Read Form) (m : ℕ) (b : List ℕ) → same_kind (lexeme b).kind k ≡ false → others k one m b ≡ Ok ([], b)
unfolding others
none_more k one zero b h = refl
none_more k one (suc m) b h =
    ap (λ c. cond c (one (lexeme b).rest >>= λ x. others k one m x.1 >>= λ xs. Ok (x.0 ∷ xs.0, xs.1)) (Ok ([], b))) h

alone : (k : Kind) (make : List Form → Form) (one : List ℕ → Read Form) (b r : List ℕ) (f : Form) → one b ≡ Ok (f, r) → same_kind (lexeme r).kind k ≡ false → operands k make one b ≡ Ok (f, r)
unfolding operands
alone k make one b r f h stop =
    ap (λ q. q >>= λ (x : Form × List ℕ). others_from k one x.0 x.1 >>= λ xs. Ok (alone_or make xs.0, xs.1)) h
    ∙ ap (λ q. q >>= (λ (xs : List Form × List ℕ). Ok (f ∷ xs.0, xs.1)) >>= λ (xs : List Form × List ℕ). Ok (alone_or make xs.0, xs.1)) (none_more k one (length r) r stop)

-- one operand more
one_more : (k : Kind) (one : List ℕ → Read Form) (m : ℕ) (b h c r s : List ℕ) (f : Form) (fs : List Form) → lexeme b ≡ record { kind = k; here = h; text = []; rest = c } → same_kind k k ≡ true
    → one c ≡ Ok (f, r) → others k one m r ≡ Ok (fs, s) → others k one (suc m) b ≡ Ok (f ∷ fs, s)
unfolding others
one_more k one m b h c r s f fs e same first rest =
    ap (λ (t : Lexeme). cond (same_kind t.kind k) (one t.rest >>= λ x. others k one m x.1 >>= λ xs. Ok (x.0 ∷ xs.0, xs.1)) (Ok ([], b))) e
    ∙ ap (λ v. cond v (one c >>= λ x. others k one m x.1 >>= λ xs. Ok (x.0 ∷ xs.0, xs.1)) (Ok ([], b))) same
    ∙ ap (λ q. q >>= λ (x : Form × List ℕ). others k one m x.1 >>= λ xs. Ok (x.0 ∷ xs.0, xs.1)) first
    ∙ ap (λ q. q >>= λ (xs : List Form × List ℕ). Ok (f ∷ xs.0, xs.1)) rest

-- two operands or more
several : (k : Kind) (make : List Form → Form) (one : List ℕ → Read Form) (b r s : List ℕ) (f g : Form) (gs : List Form) → one b ≡ Ok (f, r) → others k one (length r) r ≡ Ok (g ∷ gs, s) → operands k make one b ≡ Ok (make (f ∷ g ∷ gs), s)
unfolding operands
several k make one b r s f g gs first rest =
    ap (λ q. q >>= λ (x : Form × List ℕ). others_from k one x.0 x.1 >>= λ xs. Ok (alone_or make xs.0, xs.1)) first
    ∙ ap (λ q. q >>= (λ (xs : List Form × List ℕ). Ok (f ∷ xs.0, xs.1)) >>= λ (xs : List Form × List ℕ). Ok (alone_or make xs.0, xs.1)) rest

abbrev pub listing : Forms → List Form
listing none = []
listing (more f fs) = f ∷ listing fs

pub listing_back : (fs : Forms) → forms_of (listing fs) ≡ fs
listing_back none = refl
listing_back (more f fs) = ap (more f) (listing_back fs)

and_token : (y : List ℕ) → lexeme (32 ∷ 38 ∷ 38 ∷ y) ≡ record { kind = kind.AndAnd; here = 38 ∷ 38 ∷ y; text = []; rest = y }
and_token y = behind_blank (38 ∷ 38 ∷ y) ∙ first_token 38 (38 ∷ y) refl

or_token : (y : List ℕ) → lexeme (32 ∷ 124 ∷ 124 ∷ y) ≡ record { kind = kind.OrOr; here = 124 ∷ 124 ∷ y; text = []; rest = y }
or_token y = behind_blank (124 ∷ 124 ∷ y) ∙ first_token 124 (124 ∷ y) refl

-- what follows an operand of an `Or` isn't `&&`
after_or : (fs : Forms) (x : List ℕ) → same_kind (lexeme ((parted (codes " || ") (codes " || ") fs ++ 41 ∷ []) ++ x)).kind kind.AndAnd ≡ false
after_or none x = ap (λ (t : Lexeme). same_kind t.kind kind.AndAnd) (close_token x)
after_or (more f fs) x = ap (λ (t : Lexeme). same_kind t.kind kind.AndAnd) (or_token (32 ∷ (((printed f ++ parted (codes " || ") (codes " || ") fs) ++ 41 ∷ []) ++ x)))

mutual
  pub back : (n : ℕ) (f : Form) (x : List ℕ) → IsPrintable f → depth f ≤ n → unary n (printed f ++ x) ≡ Ok (f, x)
  back n all x p d = all_back (inside n) x
  back n global x p d = global_back (inside n) x
  back n (has l) x p d = has_back (inside n) l x p
  back n (equal l v) x p d = equal_back (inside n) l v x p.0 p.1
  back n (unequal l v) x p d = unequal_back (inside n) l p.0 x v p.1
  back n (among l vs) x p d = among_back (inside n) l p.0 x vs p.1
  back n (not_among l vs) x p d = not_among_back (inside n) l p.0 x vs p.1
  back n (contains l v) x p d = contains_back (inside n) l p.0 x v p.1
  back n (starts l v) x p d = starts_back (inside n) l p.0 x v p.1
  back n (ends l v) x p d = ends_back (inside n) l p.0 x v p.1
  back n (negated f) x p d =
      let y = printed f ++ x in
      unary_unfold (inside n) (33 ∷ y) ∙ ap (unary_step (inside n)) (bang_token y (no_equals_first f x p))
      ∙ negation_read n (33 ∷ y) y (omega arith) f x (back (n - 1) f x p (omega arith))
  back n (both none) x p d = absurd p.0
  back n (both (more f none)) x p d = absurd p.0
  back n (both (more f (more g gs))) x p d =
      let sep = codes " && " in
      let z = (parted sep sep (more g gs) ++ 41 ∷ []) ++ x in
      let y = printed f ++ z in
      let u = unary (n - 1) in
      let every : List Form = listing (more f (more g gs)) in
      let le : length z ≤ length z = omega arith in
      let conj : conjunction u y ≡ Ok (both (more f (more g gs)), 41 ∷ x) =
      several kind.AndAnd both_of u y z (41 ∷ x) f g (listing gs) (back (n - 1) f z p.1.0 (omega arith)) (conditions_back (n - 1) (length z) (more g gs) x p.1.1 (omega arith) le)
      ∙ ap (λ fs. Ok (both fs, 41 ∷ x)) (listing_back (more f (more g gs))) in
      let disj : disjunction u y ≡ Ok (both (more f (more g gs)), 41 ∷ x) =
      alone kind.OrOr either_of (conjunction u) y (41 ∷ x) (both (more f (more g gs))) conj (ap (λ (t : Lexeme). same_kind t.kind kind.OrOr) (close_token x)) in
      ap (λ b. unary n (40 ∷ b)) (regroup (printed f) (parted sep sep (more g gs)) (41 ∷ []) x)
      ∙ unary_unfold (inside n) (40 ∷ y) ∙ ap (unary_step (inside n)) (open_token y)
      ∙ group_read n (40 ∷ y) y (omega arith) (both (more f (more g gs))) (41 ∷ x) x disj (mark_back kind.Close wanted.Close (41 ∷ x) (41 ∷ x) x (close_token x) refl)
  back n (either none) x p d = absurd p.0
  back n (either (more f none)) x p d = absurd p.0
  back n (either (more f (more g gs))) x p d =
      let sep = codes " || " in
      let z = (parted sep sep (more g gs) ++ 41 ∷ []) ++ x in
      let y = printed f ++ z in
      let u = unary (n - 1) in
      let le : length z ≤ length z = omega arith in
      let first : conjunction u y ≡ Ok (f, z) = alone kind.AndAnd both_of u y z f (back (n - 1) f z p.1.0 (omega arith)) (after_or (more g gs) x) in
      let disj : disjunction u y ≡ Ok (either (more f (more g gs)), 41 ∷ x) =
      several kind.OrOr either_of (conjunction u) y z (41 ∷ x) f g (listing gs) first (alternatives_back (n - 1) (length z) (more g gs) x p.1.1 (omega arith) le)
      ∙ ap (λ fs. Ok (either fs, 41 ∷ x)) (listing_back (more f (more g gs))) in
      ap (λ b. unary n (40 ∷ b)) (regroup (printed f) (parted sep sep (more g gs)) (41 ∷ []) x)
      ∙ unary_unfold (inside n) (40 ∷ y) ∙ ap (unary_step (inside n)) (open_token y)
      ∙ group_read n (40 ∷ y) y (omega arith) (either (more f (more g gs))) (41 ∷ x) x disj (mark_back kind.Close wanted.Close (41 ∷ x) (41 ∷ x) x (close_token x) refl)

  conditions_back : (n k : ℕ) (fs : Forms) (x : List ℕ) → ArePrintable fs → deepest fs ≤ n → length ((parted (codes " && ") (codes " && ") fs ++ 41 ∷ []) ++ x) ≤ k
      → others kind.AndAnd (unary n) k ((parted (codes " && ") (codes " && ") fs ++ 41 ∷ []) ++ x) ≡ Ok (listing fs, 41 ∷ x)
  conditions_back n k none x p d le = none_more kind.AndAnd (unary n) k (41 ∷ x) (ap (λ (t : Lexeme). same_kind t.kind kind.AndAnd) (close_token x))
  conditions_back n zero (more f fs) x p d le = absurd (omega arith)
  conditions_back n (suc k) (more f fs) x p d le =
      let sep = codes " && " in
      let z = (parted sep sep fs ++ 41 ∷ []) ++ x in
      let g = regroup (printed f) (parted sep sep fs) (41 ∷ []) x in
      let short : length z ≤ k = omega (arith, ap length g, length-append (printed f) z) in
      ap (λ b. others kind.AndAnd (unary n) (suc k) (32 ∷ 38 ∷ 38 ∷ 32 ∷ b)) g
      ∙ one_more kind.AndAnd (unary n) k (32 ∷ 38 ∷ 38 ∷ 32 ∷ (printed f ++ z)) (38 ∷ 38 ∷ 32 ∷ (printed f ++ z)) (32 ∷ (printed f ++ z)) z (41 ∷ x) f (listing fs) (and_token (32 ∷ (printed f ++ z))) refl
      (unary_blank (inside n) (printed f ++ z) ∙ back n f z p.0 (omega arith)) (conditions_back n k fs x p.1 (omega arith) short)

  alternatives_back : (n k : ℕ) (fs : Forms) (x : List ℕ) → ArePrintable fs → deepest fs ≤ n → length ((parted (codes " || ") (codes " || ") fs ++ 41 ∷ []) ++ x) ≤ k
      → others kind.OrOr (conjunction (unary n)) k ((parted (codes " || ") (codes " || ") fs ++ 41 ∷ []) ++ x) ≡ Ok (listing fs, 41 ∷ x)
  alternatives_back n k none x p d le = none_more kind.OrOr (conjunction (unary n)) k (41 ∷ x) (ap (λ (t : Lexeme). same_kind t.kind kind.OrOr) (close_token x))
  alternatives_back n zero (more f fs) x p d le = absurd (omega arith)
  alternatives_back n (suc k) (more f fs) x p d le =
      let sep = codes " || " in
      let z = (parted sep sep fs ++ 41 ∷ []) ++ x in
      let g = regroup (printed f) (parted sep sep fs) (41 ∷ []) x in
      let short : length z ≤ k = omega (arith, ap length g, length-append (printed f) z) in
      ap (λ b. others kind.OrOr (conjunction (unary n)) (suc k) (32 ∷ 124 ∷ 124 ∷ 32 ∷ b)) g
      ∙ one_more kind.OrOr (conjunction (unary n)) k (32 ∷ 124 ∷ 124 ∷ 32 ∷ (printed f ++ z)) (124 ∷ 124 ∷ 32 ∷ (printed f ++ z)) (32 ∷ (printed f ++ z)) z (41 ∷ x) f (listing fs) (or_token (32 ∷ (printed f ++ z))) refl
      (alone kind.AndAnd both_of (unary n) (32 ∷ (printed f ++ z)) z f (unary_blank (inside n) (printed f ++ z) ∙ back n f z p.0 (omega arith)) (after_or fs x))
      (alternatives_back n k fs x p.1 (omega arith) short)

-- a unary doesn't begin with the text's end
not_ended : (inner : Option (List ℕ → Read Form)) (k : Kind) (h l c : List ℕ) (f : Form) (r : List ℕ) → unary_step inner (record { kind = k; here = h; text = l; rest = c }) ≡ Ok (f, r) → same_kind k kind.End ≡ false
not_ended inner kind.Word h l c f r e = refl
not_ended inner kind.Quoted h l c f r e = refl
not_ended inner kind.Open h l c f r e = refl
not_ended inner kind.Close h l c f r e = refl
not_ended inner kind.LeftBrace h l c f r e = refl
not_ended inner kind.RightBrace h l c f r e = refl
not_ended inner kind.Comma h l c f r e = refl
not_ended inner kind.Bang h l c f r e = refl
not_ended inner kind.NotEqual h l c f r e = refl
not_ended inner kind.EqualEqual h l c f r e = refl
not_ended inner kind.AndAnd h l c f r e = refl
not_ended inner kind.OrOr h l c f r e = refl
not_ended inner kind.End h l c f r e = absurd (cc)
not_ended inner kind.Junk h l c f r e = refl

-- what is printed is read again
pub read_back : (f : Form) → IsPrintable f → depth f ≤ MOST_OPEN → selector_of (printed f) ≡ Ok f
unfolding selector_of whole_text lexeme
read_back f p d =
    let b = printed f in
    let u = unary MOST_OPEN in
    let h : u b ≡ Ok (f, []) = ap u (sym (append-nil b)) ∙ back MOST_OPEN f [] p d in
    let conj : conjunction u b ≡ Ok (f, []) = alone kind.AndAnd both_of u b [] f h refl in
    let disj : disjunction u b ≡ Ok (f, []) = alone kind.OrOr either_of (conjunction u) b [] f conj refl in
    let begun : same_kind (lexeme b).kind kind.End ≡ false = not_ended (inside MOST_OPEN) (lexeme b).kind (lexeme b).here (lexeme b).text (lexeme b).rest f [] (sym (unary_unfold (inside MOST_OPEN) b) ∙ h) in
    ap (from_the_front (length b))
    (ap (λ c. cond c (Ok all) (disjunction u b >>= λ x. cond (same_kind (lexeme x.1).kind kind.End) (Ok x.0) (Err (Bad (length (lexeme x.1).here) wanted.Joint)))) begun
    ∙ ap (λ r. r >>= λ (x : Form × List ℕ). cond (same_kind (lexeme x.1).kind kind.End) (Ok x.0) (Err (Bad (length (lexeme x.1).here) wanted.Joint))) disj)
