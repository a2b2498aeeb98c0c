-- Tokens, and the texts that begin with them.
use Rattle.std.proofs.Common.{◌≡◌, ℕ, ◌+◌, ◌≤◌, ◌<◌, List, [], ◌∷◌, ◌++◌, length, take, drop, true, false, true≢false, not, ◌==◌, ◌||◌, cond, Option, Some, None, refl, sym, ap, ◌∙◌, subst, eqb-true, arith, length-append, length-drop, take-append-drop, slice_index}
use Rattle.std.proofs.lemmas.Bool.Decides.{nat_tests}
use Rattle.std.proofs.lemmas.Slice.Eq.{bytes_eq-Decides}
use Rattle.std.specs.List.{AllByRecursion, prefix_len, position_or_len}
use Rattle.std.specs.Str.{is_utf8, bytes_eq}
use Rattle.ty_select.specs.declared.token.Kind.{Kind}
use Rattle.ty_select.specs.declared.token.Kind.TheVariants as kind
use Rattle.ty_select.specs.Tokens.{Lexeme, lexeme, same_kind, number, is_blank, is_quote, token_at, mark_kind, width}
use Rattle.ty_select.specs.Words.{is_word_byte, is_word}
use Rattle.ty_select.specs.Printable.{IsLabel, IsQuotable}
use Rattle.ty_select.proofs.Tokens.{by_cases, IsMark, mark_is, lexeme_sound}
use Rattle.ty_select.specs.Terminals.{Terminal, a_word, a_text, paren, end_paren, brace, end_brace, comma, bang, not_equal_sign, equal_sign, and_sign, or_sign, IsTerminal, terminal, first_terminal, BeginsWith}

-- Kinds and tokens

abbrev kind_of : ℕ → Kind
kind_of n =
    cond (n == 0) kind.Word (cond (n == 1) kind.Quoted (cond (n == 2) kind.Open (cond (n == 3) kind.Close (cond (n == 4) kind.LeftBrace
    (cond (n == 5) kind.RightBrace (cond (n == 6) kind.Comma (cond (n == 7) kind.Bang (cond (n == 8) kind.NotEqual (cond (n == 9) kind.EqualEqual
    (cond (n == 10) kind.AndAnd (cond (n == 11) kind.OrOr (cond (n == 12) kind.End kind.Junk))))))))))))

kind_again : (k : Kind) → kind_of (number k) ≡ k
kind_again kind.Word = refl
kind_again kind.Quoted = refl
kind_again kind.Open = refl
kind_again kind.Close = refl
kind_again kind.LeftBrace = refl
kind_again kind.RightBrace = refl
kind_again kind.Comma = refl
kind_again kind.Bang = refl
kind_again kind.NotEqual = refl
kind_again kind.EqualEqual = refl
kind_again kind.AndAnd = refl
kind_again kind.OrOr = refl
kind_again kind.End = refl
kind_again kind.Junk = refl

pub kind_is : (j k : Kind) → same_kind j k ≡ true → j ≡ k
kind_is j k h = sym (kind_again j) ∙ ap kind_of (eqb-true (number j) (number k) h) ∙ kind_again k

pub found : (b : List ℕ) (k : Kind) → same_kind (lexeme b).kind k ≡ true → first_terminal b ≡ terminal k (lexeme b).text
found b k h = ap (λ j. terminal j (lexeme b).text) (kind_is (lexeme b).kind k h)

pub name_is : (w name : List ℕ) → bytes_eq w name ≡ true → w ≡ name
name_is w name h = (bytes_eq-Decides w name).0 h

pub begins_then : (b : List ℕ) (ts us : List Terminal) (c r : List ℕ) → BeginsWith b ts c → BeginsWith c us r → BeginsWith b (ts ++ us) r
begins_then b [] us c r h k = subst (λ x. BeginsWith x us r) (sym h) k
begins_then b (t ∷ ts) us c r h k = (h.0, begins_then (lexeme b).rest ts us c r h.1 k)

pub all_then : (ts us : List Terminal) → AllByRecursion IsTerminal ts → AllByRecursion IsTerminal us → AllByRecursion IsTerminal (ts ++ us)
all_then [] us h k = k
all_then (t ∷ ts) us h k = (h.0, all_then ts us h.1 k)

abbrev pub kind_in : Option Terminal → Kind
kind_in None = kind.Junk
kind_in (Some (a_word w)) = kind.Word
kind_in (Some (a_text v)) = kind.Quoted
kind_in (Some paren) = kind.Open
kind_in (Some end_paren) = kind.Close
kind_in (Some brace) = kind.LeftBrace
kind_in (Some end_brace) = kind.RightBrace
kind_in (Some comma) = kind.Comma
kind_in (Some bang) = kind.Bang
kind_in (Some not_equal_sign) = kind.NotEqual
kind_in (Some equal_sign) = kind.EqualEqual
kind_in (Some and_sign) = kind.AndAnd
kind_in (Some or_sign) = kind.OrOr

abbrev pub text_in : Option Terminal → List ℕ
text_in (Some (a_word w)) = w
text_in (Some (a_text v)) = v
text_in t = []

pub terminal_kind : (k : Kind) (l : List ℕ) (t : Terminal) → terminal k l ≡ Some t → k ≡ kind_in (Some t)
terminal_kind kind.Word l t h = ap kind_in h
terminal_kind kind.Quoted l t h = ap kind_in h
terminal_kind kind.Open l t h = ap kind_in h
terminal_kind kind.Close l t h = ap kind_in h
terminal_kind kind.LeftBrace l t h = ap kind_in h
terminal_kind kind.RightBrace l t h = ap kind_in h
terminal_kind kind.Comma l t h = ap kind_in h
terminal_kind kind.Bang l t h = ap kind_in h
terminal_kind kind.NotEqual l t h = ap kind_in h
terminal_kind kind.EqualEqual l t h = ap kind_in h
terminal_kind kind.AndAnd l t h = ap kind_in h
terminal_kind kind.OrOr l t h = ap kind_in h
terminal_kind kind.End l t h = absurd (cc)
terminal_kind kind.Junk l t h = absurd (cc)

-- the kind of the first token, in a test
pub kind_seen : (b : List ℕ) (t : Terminal) → first_terminal b ≡ Some t → (j : Kind) → same_kind (lexeme b).kind j ≡ same_kind (kind_in (Some t)) j
kind_seen b t h j = ap (λ k. same_kind k j) (terminal_kind (lexeme b).kind (lexeme b).text t h)

pub word_seen : (b w : List ℕ) → first_terminal b ≡ Some (a_word w) → (lexeme b).text ≡ w
word_seen b w h =
    let k = terminal_kind (lexeme b).kind (lexeme b).text (a_word w) h in
    ap text_in (ap (λ j. terminal j (lexeme b).text) (sym k) ∙ h)

pub text_seen : (b v : List ℕ) → first_terminal b ≡ Some (a_text v) → (lexeme b).text ≡ v
text_seen b v h =
    let k = terminal_kind (lexeme b).kind (lexeme b).text (a_text v) h in
    ap text_in (ap (λ j. terminal j (lexeme b).text) (sym k) ∙ h)

pub begins_split : (b : List ℕ) (ts us : List Terminal) (r : List ℕ) → BeginsWith b (ts ++ us) r → (c : List ℕ) × BeginsWith b ts c × BeginsWith c us r
begins_split b [] us r h = (b, refl, h)
begins_split b (t ∷ ts) us r h =
    let (c, x, y) = begins_split (lexeme b).rest ts us r h.1 in
    (c, (h.0, x), y)

-- A token takes bytes.

abbrev IsShorter : List ℕ → Lexeme → Type 0
IsShorter here t = (x : Terminal) → terminal t.kind t.text ≡ Some x → length t.rest < length here

has_width : (k : Kind) (l : List ℕ) (x : Terminal) → IsMark k → terminal k l ≡ Some x → 1 ≤ width k
has_width kind.Word l x m h = absurd (true≢false m.no_word)
has_width kind.Quoted l x m h = absurd (true≢false m.no_text)
has_width kind.Open l x m h = omega arith
has_width kind.Close l x m h = omega arith
has_width kind.LeftBrace l x m h = omega arith
has_width kind.RightBrace l x m h = omega arith
has_width kind.Comma l x m h = omega arith
has_width kind.Bang l x m h = omega arith
has_width kind.NotEqual l x m h = omega arith
has_width kind.EqualEqual l x m h = omega arith
has_width kind.AndAnd l x m h = omega arith
has_width kind.OrOr l x m h = omega arith
has_width kind.End l x m h = absurd (cc)
has_width kind.Junk l x m h = absurd (cc)

one_byte : (w : List ℕ) → is_word w ≡ true → 1 ≤ length w
one_byte [] h = absurd (true≢false (sym h))
one_byte (x ∷ xs) h = omega arith

not_none : (n : ℕ) → (n == 0) ≡ false → 1 ≤ n
not_none n h = grind (arith, nat_tests)

pub token_shorter : (here : List ℕ) → IsShorter here (token_at here)
token_shorter here =
    let first : ℕ = slice_index here 0 in
    let run : ℕ = prefix_len is_word_byte here in
    let body : List ℕ = drop 1 here in
    let n : ℕ = position_or_len (λ b. b == first) body in
    by_cases (IsShorter here) (length here == 0) _ _ (λ _ x h. absurd (cc)) (λ some.
    by_cases (IsShorter here) (is_word_byte first) _ _
    (λ _. by_cases (IsShorter here) (is_word (take run here)) _ _
    (λ e x h. omega (arith, one_byte (take run here) e, length-append (take run here) (drop run here), ap length (take-append-drop run here))) (λ _ x h. absurd (cc))) (λ _.
    by_cases (IsShorter here) (is_quote first) _ _
    (λ _. by_cases (IsShorter here) ((n == length body) || not (is_utf8 (take n body))) _ _ (λ _ x h. absurd (cc))
    (λ _ x h. omega (arith, not_none (length here) some, length-drop 1 here, length-drop (n + 1) body))) (λ _ x h.
    omega (arith, not_none (length here) some, has_width (mark_kind first (slice_index here 1)) [] x (mark_is first (slice_index here 1)) h, length-drop (width (mark_kind first (slice_index here 1))) here))))

pub shorter : (b : List ℕ) (t : Terminal) → first_terminal b ≡ Some t → length (lexeme b).rest < length b
unfolding lexeme
shorter b t h =
    let front = drop (prefix_len is_blank b) b in
    omega (arith, token_shorter front t h, length-drop (prefix_len is_blank b) b)

pub as_many : (b : List ℕ) (ts : List Terminal) (r : List ℕ) → BeginsWith b ts r → length ts + length r ≤ length b
as_many b [] r h = omega (arith, ap length h)
as_many b (t ∷ ts) r h = omega (arith, shorter b t h.0, as_many (lexeme b).rest ts r h.1)

-- the tokens of a text are words, quoted texts that can be quoted again, and marks
terminal_sound : (b : List ℕ) (t : Terminal) → first_terminal b ≡ Some t → IsTerminal t
terminal_sound b (a_word w) h = subst IsLabel (word_seen b w h) ((lexeme_sound b).word (kind_seen b (a_word w) h kind.Word))
terminal_sound b (a_text v) h = subst IsQuotable (text_seen b v h) ((lexeme_sound b).quoted (kind_seen b (a_text v) h kind.Quoted))
terminal_sound b t h = tt

pub all_sound : (b : List ℕ) (ts : List Terminal) (r : List ℕ) → BeginsWith b ts r → AllByRecursion IsTerminal ts
all_sound b [] r h = tt
all_sound b (t ∷ ts) r h = (terminal_sound b t h.0, all_sound (lexeme b).rest ts r h.1)
