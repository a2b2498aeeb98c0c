-- Reading from left to right, with the first fault that is met. A place is told by how many bytes are left there.
use Rattle.std.specs.Prelude.{ℕ, zero, suc, ◌-◌, List, [], ◌∷◌, length, ◌&&◌, Option, Some, None, Result, Ok, Err, if◌then◌else◌, codes}
use Rattle.std.specs.Str.{bytes_eq}
use Rattle.ty_select.specs.declared.limits.TheConstants.{MOST_OPEN}
use Rattle.ty_select.specs.declared.fault.SelectFault.{SelectFault}
use Rattle.ty_select.specs.declared.fault.SelectFault.TheVariants as faults
use Rattle.ty_select.specs.declared.fault.Stop.{Stop}
use Rattle.ty_select.specs.declared.fault.Stop.TheVariants.{Bad, TooDeep, Spent}
use Rattle.ty_select.specs.declared.fault.Wanted.{Wanted}
use Rattle.ty_select.specs.declared.fault.Wanted.TheVariants as wanted
use Rattle.ty_select.specs.declared.term.Operator.{Operator}
use Rattle.ty_select.specs.declared.term.Operator.TheVariants.{Equal, Unequal, In, NotIn, Contains, Starts, Ends}
use Rattle.ty_select.specs.declared.token.Kind.{Kind}
use Rattle.ty_select.specs.declared.token.Kind.TheVariants as kind
use Rattle.ty_select.specs.Forms.{Form, all, global, has, equal, unequal, among, not_among, contains, starts, ends, negated, both, either, forms_of}
use Rattle.ty_select.specs.Tokens.{lexeme, same_kind}

infixl 10 ◌>>=◌
abbrev pub ◌>>=◌ : {A B : Type 0} → Result A Stop → (A → Result B Stop) → Result B Stop
(Ok x) >>= f = f x
(Err e) >>= f = Err e

-- a value and the text after it, or the first fault
abbrev pub Read : Type 0 → Type 0
Read A = Result (A × List ℕ) Stop

-- the text after a mark of this kind
unfoldable pub mark : Kind → Wanted → List ℕ → Result (List ℕ) Stop
mark k w bytes =
    let token = lexeme bytes in
    if same_kind token.kind k then Ok token.rest else Err (Bad (length token.here) w)

-- the text of a word, or a quoted text
unfoldable pub token_text : Kind → Wanted → List ℕ → Read (List ℕ)
token_text k w bytes =
    let token = lexeme bytes in
    if same_kind token.kind k then Ok (token.text, token.rest) else Err (Bad (length token.here) w)

-- the text after this word
unfoldable pub word : List ℕ → Wanted → List ℕ → Result (List ℕ) Stop
word name w bytes =
    let token = lexeme bytes in
    if same_kind token.kind kind.Word && bytes_eq token.text name then Ok token.rest else Err (Bad (length token.here) w)

-- what follows a quoted text in a set: texts behind commas, at most so many, and the brace
unfoldable pub more_texts : ℕ → List ℕ → Read (List (List ℕ))
more_texts zero bytes = Err (Bad (length (lexeme bytes).here) wanted.CommaOrBrace)
more_texts (suc n) bytes =
    let token = lexeme bytes in
    if same_kind token.kind kind.RightBrace then Ok ([], token.rest)
    else (if same_kind token.kind kind.Comma then (do
      t ← token_text kind.Quoted wanted.Quoted token.rest
      ts ← more_texts n t.1
      Ok (t.0 ∷ ts.0, ts.1))
    else Err (Bad (length token.here) wanted.CommaOrBrace))

-- the texts of a set from its first one on, of which there are no more than bytes
abbrev pub texts_from : List ℕ → List ℕ → Read (List (List ℕ))
texts_from first bytes = do
  ts ← more_texts (length bytes) bytes
  Ok (first ∷ ts.0, ts.1)

unfoldable pub texts : List ℕ → Read (List (List ℕ))
texts bytes = do
  t ← token_text kind.Quoted wanted.QuotedOrBrace bytes
  texts_from t.0 t.1

-- quoted texts in braces
unfoldable pub set : List ℕ → Read (List (List ℕ))
set bytes = do
  held ← mark kind.LeftBrace wanted.Brace bytes
  if same_kind (lexeme held).kind kind.RightBrace then Ok ([], (lexeme held).rest) else texts held

abbrev pub quoted : List ℕ → Read (List ℕ)
quoted bytes = token_text kind.Quoted wanted.Quoted bytes

abbrev pub with_text : (List ℕ → Form) → List ℕ → Read Form
with_text make bytes = do
  t ← quoted bytes
  Ok (make t.0, t.1)

abbrev pub with_set : (List (List ℕ) → Form) → List ℕ → Read Form
with_set make bytes = do
  ts ← set bytes
  Ok (make ts.0, ts.1)

-- the operator that a token begins
abbrev pub operator_of : Kind → List ℕ → Option Operator
operator_of k name =
    if same_kind k kind.EqualEqual then Some Equal
    else (if same_kind k kind.NotEqual then Some Unequal
    else (if same_kind k kind.Word then
    (if bytes_eq name (codes "in") then Some In
    else (if bytes_eq name (codes "not") then Some NotIn
    else (if bytes_eq name (codes "contains") then Some Contains
    else (if bytes_eq name (codes "starts") then Some Starts
    else (if bytes_eq name (codes "ends") then Some Ends
    else None)))))
    else None))

-- what follows an operator
abbrev pub operand : List ℕ → Operator → List ℕ → Read Form
operand label Equal bytes = with_text (equal label) bytes
operand label Unequal bytes = with_text (unequal label) bytes
operand label In bytes = with_set (among label) bytes
operand label NotIn bytes = do
  rest ← word (codes "in") wanted.In bytes
  with_set (not_among label) rest
operand label Contains bytes = with_text (contains label) bytes
operand label Starts bytes = do
  rest ← word (codes "with") wanted.With bytes
  with_text (starts label) rest
operand label Ends bytes = do
  rest ← word (codes "with") wanted.With bytes
  with_text (ends label) rest

abbrev pub tested : List ℕ → Option Operator → List ℕ → List ℕ → Read Form
tested label None here rest = Err (Bad (length here) wanted.Operator)
tested label (Some o) here rest = operand label o rest

-- what follows a label
unfoldable pub test : List ℕ → List ℕ → Read Form
test label bytes =
    let token = lexeme bytes in
    tested label (operator_of token.kind token.text) token.here token.rest

-- what follows `has(`
unfoldable pub membership : List ℕ → Read Form
membership bytes = do
  label ← token_text kind.Word wanted.Label bytes
  rest ← mark kind.Close wanted.Close label.1
  Ok (has label.0, rest)

-- what follows `all(` or `global(`
unfoldable pub constant : Form → List ℕ → Read Form
constant f bytes = do
  rest ← mark kind.Close wanted.Close bytes
  Ok (f, rest)

-- what follows a word where a term begins: `all`, `global` and `has` are functions before `(`, else labels
unfoldable pub primary : List ℕ → List ℕ → Read Form
primary name bytes =
    let token = lexeme bytes in
    let called = same_kind token.kind kind.Open in
    if called && bytes_eq name (codes "all") then constant all token.rest
    else (if called && bytes_eq name (codes "global") then constant global token.rest
    else (if called && bytes_eq name (codes "has") then membership token.rest
    else test name bytes))

-- the operands behind the first one, each behind this mark, at most so many
unfoldable pub others : Kind → (List ℕ → Read Form) → ℕ → List ℕ → Read (List Form)
others k one zero bytes = Ok ([], bytes)
others k one (suc n) bytes =
    let token = lexeme bytes in
    if same_kind token.kind k then (do
      x ← one token.rest
      xs ← others k one n x.1
      Ok (x.0 ∷ xs.0, xs.1))
    else Ok ([], bytes)

-- operands from the first one on, of which there are no more than bytes
abbrev pub others_from : Kind → (List ℕ → Read Form) → Form → List ℕ → Read (List Form)
others_from k one first bytes = do
  xs ← others k one (length bytes) bytes
  Ok (first ∷ xs.0, xs.1)

-- one operand alone is no `And` and no `Or`
abbrev pub alone_or : (List Form → Form) → List Form → Form
alone_or make [] = make []
alone_or make (f ∷ []) = f
alone_or make (f ∷ g ∷ gs) = make (f ∷ g ∷ gs)

-- operands with this mark between them
unfoldable pub operands : Kind → (List Form → Form) → (List ℕ → Read Form) → List ℕ → Read Form
operands k make one bytes = do
  x ← one bytes
  xs ← others_from k one x.0 x.1
  Ok (alone_or make xs.0, xs.1)

abbrev pub both_of : List Form → Form
both_of fs = both (forms_of fs)

abbrev pub either_of : List Form → Form
either_of fs = either (forms_of fs)

abbrev pub conjunction : (List ℕ → Read Form) → List ℕ → Read Form
conjunction one = operands kind.AndAnd both_of one

abbrev pub disjunction : (List ℕ → Read Form) → List ℕ → Read Form
disjunction one = operands kind.OrOr either_of (conjunction one)

-- in parentheses
abbrev pub grouped : (List ℕ → Read Form) → List ℕ → Read Form
grouped one bytes = do
  x ← disjunction one bytes
  rest ← mark kind.Close wanted.Close x.1
  Ok (x.0, rest)

abbrev pub negation : (List ℕ → Read Form) → List ℕ → Read Form
negation one bytes = do
  x ← one bytes
  Ok (negated x.0, x.1)

-- what a `!` or a `(` holds, where one more may be open
abbrev pub one_deeper : Option (List ℕ → Read Form) → ((List ℕ → Read Form) → List ℕ → Read Form) → List ℕ → List ℕ → Read Form
one_deeper None held here rest = Err (TooDeep (length here))
one_deeper (Some one) held here rest = held one rest

-- a unary, where `inner` reads a unary inside it, if one more may be open
unfoldable pub unary_by : Option (List ℕ → Read Form) → List ℕ → Read Form
unary_by inner bytes =
    let token = lexeme bytes in
    if same_kind token.kind kind.Word then primary token.text token.rest
    else (if same_kind token.kind kind.Bang then one_deeper inner negation token.here token.rest
    else (if same_kind token.kind kind.Open then one_deeper inner grouped token.here token.rest
    else Err (Bad (length token.here) wanted.Term)))

-- what reads inside a `!` or a `(`, where so many of them may be open
unfoldable pub inside : ℕ → Option (List ℕ → Read Form)
inside zero = None
inside (suc levels) = Some (unary_by (inside levels))

-- a unary, where so many more `!` and `(` may be open
abbrev pub unary : ℕ → List ℕ → Read Form
unary levels = unary_by (inside levels)

-- a whole text
unfoldable pub whole_text : List ℕ → Result Form Stop
whole_text bytes =
    if same_kind (lexeme bytes).kind kind.End then Ok all
    else (do
      x ← disjunction (unary MOST_OPEN) bytes
      if same_kind (lexeme x.1).kind kind.End then Ok x.0 else Err (Bad (length (lexeme x.1).here) wanted.Joint))

-- a fault's place from the front of a text of this length
abbrev pub stop_fault : ℕ → Stop → SelectFault
stop_fault length (Bad left w) = faults.Bad (length - left) w
stop_fault length (TooDeep left) = faults.TooDeep (length - left)
stop_fault length Spent = faults.NoMemory

abbrev pub from_the_front : ℕ → Result Form Stop → Result Form SelectFault
from_the_front length (Ok f) = Ok f
from_the_front length (Err e) = Err (stop_fault length e)

-- what a text says, or its leftmost fault
unfoldable pub selector_of : List ℕ → Result Form SelectFault
selector_of bytes = from_the_front (length bytes) (whole_text bytes)
