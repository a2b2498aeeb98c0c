-- What is read is printable: labels are words, texts lack one of the quotes, and operands are two or more.
use Rattle.std.proofs.Common.{◌≡◌, ℕ, List, [], ◌∷◌, ◌++◌, Ok}
use Rattle.std.specs.List.{AllByRecursion}
use Rattle.ty_select.specs.Forms.{Form, both, either, Forms, none, more}
use Rattle.ty_select.specs.Printable.{IsLabel, IsQuotable, IsPrintable, ArePrintable}
use Rattle.ty_select.specs.Expressions.{selector_of}
use Rattle.ty_select.specs.Grammar.{AreFurtherTexts, no_text, further_text, IsSet, empty_set, set_of_texts, IsTest, is_equal, is_unequal, is_in, is_not_in, does_contain, starts_with, ends_with, joined_by, IsOr, or_of, AreOrs, no_or, further_or, IsAnd, and_of, AreAnds, no_and, further_and, IsUnary, negation_of, unary_of, IsPrimary, group_of, all_of, global_of, has_of, test_of, AreTerminals, blank, filled}
use Rattle.ty_select.specs.Terminals.{Terminal, end_paren, IsTerminal}
use Rattle.ty_select.proofs.Grammar.{what_is_read_is_said}
use Rattle.ty_select.proofs.Terminals.{all_sound}

abbrev AreSound : List Terminal → Type 0
AreSound ts = AllByRecursion IsTerminal ts

parts : (ts us : List Terminal) → AreSound (ts ++ us) → AreSound ts × AreSound us
parts [] us h = (tt, h)
parts (t ∷ ts) us h = (let (x, y) = parts ts us h.1 in ((h.0, x), y))

further_printable : {ts : List Terminal} {vs : List (List ℕ)} → AreFurtherTexts ts vs → AreSound ts → AllByRecursion IsQuotable vs
further_printable no_text a = tt
further_printable (further_text v d) a = (a.1.0, further_printable d a.1.1)

set_printable : {ts : List Terminal} {vs : List (List ℕ)} → IsSet ts vs → AreSound ts → AllByRecursion IsQuotable vs
set_printable empty_set a = tt
set_printable (set_of_texts v d) a = (a.1.0, further_printable d a.1.1)

test_printable : {l : List ℕ} {ts : List Terminal} {f : Form} → IsTest l ts f → IsLabel l → AreSound ts → IsPrintable f
test_printable (is_equal v) h a = (h, a.1.0)
test_printable (is_unequal v) h a = (h, a.1.0)
test_printable (is_in d) h a = (h, set_printable d a.1)
test_printable (is_not_in d) h a = (h, set_printable d a.1.1)
test_printable (does_contain v) h a = (h, a.1.0)
test_printable (starts_with v) h a = (h, a.1.1.0)
test_printable (ends_with v) h a = (h, a.1.1.0)

joined_printable : (node : Forms → Form) → ((f g : Form) (gs : Forms) → ArePrintable (more f (more g gs)) → IsPrintable (node (more f (more g gs))))
    → (f : Form) (fs : Forms) → IsPrintable f → ArePrintable fs → IsPrintable (joined_by node f fs)
joined_printable node h f none p q = p
joined_printable node h f (more g gs) p q = h f g gs (p, q)

mutual
  or_printable : {n : ℕ} {ts : List Terminal} {f : Form} → IsOr n ts f → AreSound ts → IsPrintable f
  or_printable (or_of {n} {ts} {us} {f} {fs} d ds) a =
      let (x, y) = parts ts us a in
      joined_printable either (λ f g gs h. (tt, h)) f fs (and_printable d x) (ors_printable ds y)

  ors_printable : {n : ℕ} {ts : List Terminal} {fs : Forms} → AreOrs n ts fs → AreSound ts → ArePrintable fs
  ors_printable no_or a = tt
  ors_printable (further_or {n} {ts} {us} d ds) a = (let (x, y) = parts ts us a.1 in (and_printable d x, ors_printable ds y))

  and_printable : {n : ℕ} {ts : List Terminal} {f : Form} → IsAnd n ts f → AreSound ts → IsPrintable f
  and_printable (and_of {n} {ts} {us} {f} {fs} d ds) a =
      let (x, y) = parts ts us a in
      joined_printable both (λ f g gs h. (tt, h)) f fs (unary_printable d x) (ands_printable ds y)

  ands_printable : {n : ℕ} {ts : List Terminal} {fs : Forms} → AreAnds n ts fs → AreSound ts → ArePrintable fs
  ands_printable no_and a = tt
  ands_printable (further_and {n} {ts} {us} d ds) a = (let (x, y) = parts ts us a.1 in (unary_printable d x, ands_printable ds y))

  unary_printable : {n : ℕ} {ts : List Terminal} {f : Form} → IsUnary n ts f → AreSound ts → IsPrintable f
  unary_printable (negation_of d) a = unary_printable d a.1
  unary_printable (unary_of d) a = primary_printable d a

  primary_printable : {n : ℕ} {ts : List Terminal} {f : Form} → IsPrimary n ts f → AreSound ts → IsPrintable f
  primary_printable (group_of {n} {ts} d) a = (let (x, y) = parts ts (end_paren ∷ []) a.1 in or_printable d x)
  primary_printable all_of a = tt
  primary_printable global_of a = tt
  primary_printable (has_of l) a = a.1.1.0
  primary_printable (test_of l d) a = test_printable d a.0 a.1

terminals_printable : {n : ℕ} {ts : List Terminal} {f : Form} → AreTerminals n ts f → AreSound ts → IsPrintable f
terminals_printable blank a = tt
terminals_printable (filled d) a = or_printable d a

pub read_is_printable : (text : List ℕ) (f : Form) → selector_of text ≡ Ok f → IsPrintable f
read_is_printable text f e =
    let s = what_is_read_is_said text f e in
    terminals_printable s.said (all_sound text s.tokens s.rest s.begins)
