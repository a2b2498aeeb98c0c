-- The tokens of a selector's text.
use Rattle.std.specs.Prelude.{ℕ, ◌+◌, List, [], length, take, drop, Bool, not, ◌&&◌, ◌||◌, ◌==◌, slice_index, if◌then◌else◌}
use Rattle.std.specs.List.{prefix_len, position_or_len}
use Rattle.std.specs.Str.{is_utf8}
use Rattle.ty_select.specs.Words.{is_word_byte, is_word}
use Rattle.ty_select.specs.declared.token.Kind.{Kind}
use Rattle.ty_select.specs.declared.token.Kind.TheVariants.{Word, Quoted, Open, Close, LeftBrace, RightBrace, Comma, Bang, NotEqual, EqualEqual, AndAnd, OrOr, End, Junk}

-- a token: its kind, the text from it on, the word or what stands between its quotes, and the text after it
pub record Lexeme : Type 0 where
  pub kind : Kind
  pub here : List ℕ
  pub text : List ℕ
  pub rest : List ℕ

-- a space or a tab
abbrev pub is_blank : ℕ → Bool
is_blank b = (b == 32) || (b == 9)

-- ' or "
abbrev pub is_quote : ℕ → Bool
is_quote b = (b == 39) || (b == 34)

-- what takes no byte
abbrev pub nothing : Kind → List ℕ → Lexeme
nothing kind here = record { kind = kind; here = here; text = []; rest = here }

-- all bytes of words at the front, where they are a word
abbrev pub word_at : List ℕ → Lexeme
word_at here =
    let n = prefix_len is_word_byte here in
    if is_word (take n here) then record { kind = Word; here = here; text = take n here; rest = drop n here }
    else nothing Junk here

-- the text from a quote to the next like it, which is UTF-8
abbrev pub quoted_at : List ℕ → ℕ → Lexeme
quoted_at here quote =
    let body = drop 1 here in
    let n = position_or_len (λ b. b == quote) body in
    if (n == length body) || not (is_utf8 (take n body)) then nothing Junk here
    else record { kind = Quoted; here = here; text = take n body; rest = drop (n + 1) body }

-- which mark it is by its first byte and the next
abbrev pub mark_kind : ℕ → ℕ → Kind
mark_kind first next =
    if first == 40 then Open
    else (if first == 41 then Close
    else (if first == 123 then LeftBrace
    else (if first == 125 then RightBrace
    else (if first == 44 then Comma
    else (if first == 33 then (if next == 61 then NotEqual else Bang)
    else (if (first == 61) && (next == 61) then EqualEqual
    else (if (first == 38) && (next == 38) then AndAnd
    else (if (first == 124) && (next == 124) then OrOr
    else Junk))))))))

-- how many bytes a mark has
abbrev pub width : Kind → ℕ
width NotEqual = 2
width EqualEqual = 2
width AndAnd = 2
width OrOr = 2
width Word = 0
width Quoted = 0
width End = 0
width Junk = 0
width k = 1

abbrev pub mark_at : List ℕ → Lexeme
mark_at here =
    let kind = mark_kind (slice_index here 0) (slice_index here 1) in
    record { kind = kind; here = here; text = []; rest = drop (width kind) here }

-- the first token of a text that doesn't begin with a blank
abbrev pub token_at : List ℕ → Lexeme
token_at here =
    let first = slice_index here 0 in
    if length here == 0 then nothing End here
    else (if is_word_byte first then word_at here
    else (if is_quote first then quoted_at here first
    else mark_at here))

-- the first token of a text
unfoldable pub lexeme : List ℕ → Lexeme
lexeme bytes = token_at (drop (prefix_len is_blank bytes) bytes)

-- a number for each kind
abbrev pub number : Kind → ℕ
number Word = 0
number Quoted = 1
number Open = 2
number Close = 3
number LeftBrace = 4
number RightBrace = 5
number Comma = 6
number Bang = 7
number NotEqual = 8
number EqualEqual = 9
number AndAnd = 10
number OrOr = 11
number End = 12
number Junk = 13

abbrev pub same_kind : Kind → Kind → Bool
same_kind one other = number one == number other
