-- The tokens of a JSON text that is UTF-8: their strings are UTF-8.
use Rattle.std.proofs.Common.{◌≡◌, ℕ, ◌+◌, ◌*◌, ◌-◌, ◌<◌, ◌≤◌, Bool, true, false, cond, ◌&&◌, ◌||◌, ◌==◌, nat_eq, nat_lt, nat_le, List, [], ◌∷◌, ◌++◌, length, drop, get_or, refl, sym, ap, subst, ◌∙◌, inl, inr, arith, true≢false, append_assoc, append-nil, length-append, eqb-true, lt-ltb, le-ltb}
use Rattle.std.specs.Prelude.{Option, None, Some, option_and_then, is_some, unwrap_or}
use Rattle.std.specs.Str.{IsUtf8}
use Rattle.std.specs.Char.{encode_utf8, IsScalar, is_digit, digit_value}
use Rattle.std.proofs.Math.Seq.{get_or-append_seam, take-append_seam, drop-append_seam}
use Rattle.std.proofs.lemmas.Bool.{cases_lt, and_parts, le-leb, leb-true, ltb-true}
use Rattle.std.proofs.lemmas.Bool.Decides.{nat_tests}
use Rattle.std.proofs.lemmas.Str.{IsUtf8-append, IsUtf8-encode, IsUtf8-take, IsUtf8-drop, IsUtf8-past_char, IsCharBoundary-before_ascii, encode_ascii}
use lib.Utf8.{low_scalar}
use Rattle.json.specs.Text.{Within, plain, after_backslash, after_u, after_high, content, prepend, code_unit, short_escape, is_high_surrogate, is_low_surrogate, surrogate_pair}
use Rattle.json.specs.Token.{Token, begin_object, end_object, begin_array, end_array, key, string, number, boolean, null, bad}
use Rattle.json.specs.Word.{is_operator, is_space, word, literal, head, ends_word, number_before, after_number}
use Rattle.json.specs.Ascii.{true_text, false_text, null_text}
use Rattle.std.specs.List.{starts_with}
use Rattle.json.specs.Lex.{Lexeme, token, comma, colon, Class, quote, backslash, operator, space, other, class, operator_lexeme, string_token, Mode, between, in_word, in_string, in_escape, lex_byte, lex, Place, fresh, after_value, after_comma, after_key, begins_colon, if_allowed, place_token, punctuate, may_begin, may_close, tokens}

-- Answers that are there

pub not_there : {X : Type 0} {P : Type 0} (x : X) → None ≡ Some x → P
not_there x e = absurd (true≢false (sym (ap is_some e)))

pub the_same : {X : Type 0} (x y : X) → Some x ≡ Some y → x ≡ y
the_same x y e = ap (λ o. unwrap_or o x) e

pub was_there : {X Y : Type 0} (o : Option X) (f : X → Option Y) (y : Y) → option_and_then f o ≡ Some y → (x : X) × (o ≡ Some x) × (f x ≡ Some y)
was_there None f y e = not_there y e
was_there (Some x) f y e = (x, refl, e)

pub either_way : {X P : Type 0} (b : Bool) (p q r : X) → (b ≡ true → p ≡ r → P) → (b ≡ false → q ≡ r → P) → cond b p q ≡ r → P
either_way true p q r f g e = f refl e
either_way false p q r f g e = g refl e

-- An ASCII byte

one_byte : (x : ℕ) → x < 128 → IsUtf8 (x ∷ [])
one_byte x h = subst IsUtf8 (encode_ascii x h) (IsUtf8-encode x (low_scalar x (omega (arith, h))))

behind : (x : ℕ) (rest : List ℕ) → x < 128 → IsUtf8 (x ∷ rest) → IsUtf8 rest
behind x rest h u = IsUtf8-past_char (x ∷ rest) rest x u (ap (λ l. l ++ rest) (sym (encode_ascii x h)))

-- a text may be cut on both sides of it
beside : (front rest : List ℕ) (x : ℕ) → x < 128 → IsUtf8 (front ++ x ∷ rest) → IsUtf8 front × IsUtf8 rest
beside front rest x h u =
    let text : List ℕ = front ++ x ∷ rest in
    let n : ℕ = length front in
    let here : get_or text n 0 ≡ x = get_or-append_seam front x rest 0 in
    let within : n < length text = omega (arith, length-append front (x ∷ rest)) in
    let cut = IsCharBoundary-before_ascii text n within (omega (arith, here, h)) in (
      subst IsUtf8 (take-append_seam front (x ∷ rest)) (IsUtf8-take text n u cut),
      behind x rest h (subst IsUtf8 (drop-append_seam front (x ∷ rest)) (IsUtf8-drop text n u cut)),
    )

-- Escapes

hex_is_ascii : (x : ℕ) → is_digit x 16 ≡ true → x < 128
hex_is_ascii x h = grind (arith, nat_tests)

hex_is_small : (x : ℕ) → is_digit x 16 ≡ true → digit_value x < 16
hex_is_small x h = ltb-true _ _ h

-- the four bytes are ASCII, and spell less than 65536
four_digits : (a b c d u : ℕ) → code_unit a b c d ≡ Some u → (a < 128) × (b < 128) × (c < 128) × (d < 128) × (u < 65536)
unfolding code_unit
four_digits a b c d u e =
    either_way (is_digit a 16 && is_digit b 16 && is_digit c 16 && is_digit d 16) (Some (digit_value a * 4096 + digit_value b * 256 + digit_value c * 16 + digit_value d)) None (Some u)
    (λ t h.
    let p = and_parts (is_digit a 16 && is_digit b 16 && is_digit c 16) (is_digit d 16) t in
    let q = and_parts (is_digit a 16 && is_digit b 16) (is_digit c 16) p.0 in
    let r = and_parts (is_digit a 16) (is_digit b 16) q.0 in
    let same : digit_value a * 4096 + digit_value b * 256 + digit_value c * 16 + digit_value d ≡ u = the_same _ u h in
    (hex_is_ascii a r.0, hex_is_ascii b r.1, hex_is_ascii c q.1, hex_is_ascii d p.1, omega (arith, same, hex_is_small a r.0, hex_is_small b r.1, hex_is_small c q.1, hex_is_small d p.1)))
    (λ t h. not_there u h) e

short_is_ascii : (x c : ℕ) → short_escape x ≡ Some c → (x < 128) × (c < 128)
unfolding short_escape
short_is_ascii x c e =
    either_way ((x == 34) || (x == 92) || (x == 47)) (Some x) _ (Some c)
    (λ t h. let low : x < 128 = grind (arith, nat_tests) in (low, subst (λ (n : ℕ). n < 128) (the_same x c h) low))
    (λ _ h. named 98 8 _ (omega arith) (omega arith) (named 102 12 _ (omega arith) (omega arith) (named 110 10 _ (omega arith) (omega arith) (named 114 13 _ (omega arith) (omega arith) (named 116 9 _ (omega arith) (omega arith) (λ k. not_there c k))))) h) e
  where
    named : (letter byte : ℕ) (rest : Option ℕ) → letter < 128 → byte < 128 → (rest ≡ Some c → (x < 128) × (c < 128)) → cond (x == letter) (Some byte) rest ≡ Some c → (x < 128) × (c < 128)
    named letter byte rest l m f k =
        either_way (x == letter) (Some byte) rest (Some c) (λ t h. (omega (arith, eqb-true x letter t, l), subst (λ (n : ℕ). n < 128) (the_same byte c h) m)) (λ _ h. f h) k

surrogates : (u : ℕ) (low high : ℕ) → (nat_le low u && nat_lt u high) ≡ true → (low ≤ u) × (u < high)
surrogates u low high t = let p = and_parts (nat_le low u) (nat_lt u high) t in (leb-true low u p.0, ltb-true u high p.1)

within_both : (u low high : ℕ) → low ≤ u → u < high → (nat_le low u && nat_lt u high) ≡ true
within_both u low high l h = ap (λ b. b && nat_lt u high) (le-leb low u l) ∙ lt-ltb u high h

above_surrogates : (c : ℕ) → 57344 ≤ c → c < 1114112 → IsScalar c
above_surrogates c l h =
    ap (λ (b : Bool). cond b true (nat_le 57344 c && nat_lt c 1114112)) (le-ltb c 55296 (omega (arith, l))) ∙ within_both c 57344 1114112 l h

unit_is_scalar : (u : ℕ) → u < 65536 → is_high_surrogate u ≡ false → is_low_surrogate u ≡ false → IsScalar u
unit_is_scalar u small h l = elim (cases_lt u 55296) [
  | inl below ↦ low_scalar u below
  | inr from ↦ elim (cases_lt u 56320) [
    | inl below ↦ absurd (true≢false (sym (within_both u 55296 56320 from below) ∙ h))
    | inr above ↦ elim (cases_lt u 57344) [
      | inl below ↦ absurd (true≢false (sym (within_both u 56320 57344 above below) ∙ l))
      | inr over ↦ above_surrogates u over (omega (arith, small))
    ]
  ]
]

pair_is_scalar : (h l : ℕ) → is_high_surrogate h ≡ true → is_low_surrogate l ≡ true → IsScalar (surrogate_pair h l)
pair_is_scalar h l a b =
    let p = surrogates h 55296 56320 a in
    let q = surrogates l 56320 57344 b in
    above_surrogates (surrogate_pair h l) (omega (arith, p.0, p.1, q.0, q.1)) (omega (arith, p.0, p.1, q.0, q.1))

-- The content of a string

-- what came before it and what is left, where no escape is being read; else both by themselves
abbrev Given : Within → List ℕ → List ℕ → Type 0
Given plain before xs = IsUtf8 (before ++ xs)
Given after_backslash before xs = IsUtf8 before × IsUtf8 xs
Given after_u before xs = IsUtf8 before × IsUtf8 xs
Given (after_high h) before xs = IsUtf8 before × IsUtf8 xs × (is_high_surrogate h ≡ true)

prepended : (bytes : List ℕ) (r : Option (List ℕ)) (before s : List ℕ) → ((t : List ℕ) → r ≡ Some t → IsUtf8 ((before ++ bytes) ++ t)) → prepend bytes r ≡ Some s → IsUtf8 (before ++ s)
prepended bytes None before s f e = not_there s e
prepended bytes (Some t) before s f e = subst IsUtf8 (append_assoc before bytes t ∙ ap (λ l. before ++ l) (the_same (bytes ++ t) s e)) (f t refl)

-- a whole character stands for an escape
put_in : (before bytes xs : List ℕ) → IsUtf8 before → IsUtf8 bytes → IsUtf8 xs → IsUtf8 ((before ++ bytes) ++ xs)
put_in before bytes xs u v w = IsUtf8-append (before ++ bytes) xs (IsUtf8-append before bytes u v) w

pub content_utf8 : (w : Within) (xs before s : List ℕ) → Given w before xs → content w xs ≡ Some s → IsUtf8 (before ++ s)
unfolding content
content_utf8 plain [] before s g e = not_there s e
content_utf8 plain (x ∷ xs) before s g e =
    either_way (x == 34) _ _ (Some s)
    (λ q h. subst (λ t. IsUtf8 (before ++ t)) (the_same [] s h) (subst IsUtf8 (sym (append-nil before)) (beside before xs x (omega (arith, eqb-true x 34 q)) g).0))
    (λ _ h. either_way (x == 92) _ _ (Some s)
    (λ q k. content_utf8 after_backslash xs before s (beside before xs x (omega (arith, eqb-true x 92 q)) g) k)
    (λ _ k. either_way (nat_lt x 32) _ _ (Some s)
    (λ _ l. not_there s l)
    (λ _ l. prepended (x ∷ []) (content plain xs) before s (λ t m. content_utf8 plain xs (before ++ x ∷ []) t (subst IsUtf8 (sym (append_assoc before (x ∷ []) xs)) g) m) l)
    k)
    h)
    e
content_utf8 after_backslash [] before s g e = not_there s e
content_utf8 after_backslash (x ∷ xs) before s g e =
    either_way (x == 117) _ _ (Some s)
    (λ q h. content_utf8 after_u xs before s (g.0, behind x xs (omega (arith, eqb-true x 117 q)) g.1) h)
    (λ _ h.
    let r = was_there (short_escape x) (λ c. prepend (c ∷ []) (content plain xs)) s h in
    let l = short_is_ascii x r.0 r.1 in
    prepended (r.0 ∷ []) (content plain xs) before s (λ t m. content_utf8 plain xs (before ++ r.0 ∷ []) t (put_in before (r.0 ∷ []) xs g.0 (one_byte r.0 l.1) (behind x xs l.0 g.1)) m) r.2)
    e
content_utf8 after_u [] before s g e = not_there s e
content_utf8 after_u (a ∷ []) before s g e = not_there s e
content_utf8 after_u (a ∷ b ∷ []) before s g e = not_there s e
content_utf8 after_u (a ∷ b ∷ c ∷ []) before s g e = not_there s e
content_utf8 after_u (a ∷ b ∷ c ∷ d ∷ xs) before s g e =
    let r = was_there (code_unit a b c d) (λ u. cond (is_high_surrogate u) (content (after_high u) xs) (cond (is_low_surrogate u) None (prepend (encode_utf8 u) (content plain xs)))) s e in
    let n = four_digits a b c d r.0 r.1 in
    let rest : IsUtf8 xs = behind d xs n.3 (behind c (d ∷ xs) n.2 (behind b (c ∷ d ∷ xs) n.1 (behind a (b ∷ c ∷ d ∷ xs) n.0 g.1))) in
    either_way (is_high_surrogate r.0) _ _ (Some s)
    (λ q h. content_utf8 (after_high r.0) xs before s (g.0, rest, q) h)
    (λ p h. either_way (is_low_surrogate r.0) _ _ (Some s)
    (λ _ k. not_there s k)
    (λ q k. prepended (encode_utf8 r.0) (content plain xs) before s (λ t m. content_utf8 plain xs (before ++ encode_utf8 r.0) t (put_in before (encode_utf8 r.0) xs g.0 (IsUtf8-encode r.0 (unit_is_scalar r.0 n.4 p q)) rest) m) k)
    h)
    r.2
content_utf8 (after_high h) [] before s g e = not_there s e
content_utf8 (after_high h) (x ∷ []) before s g e = not_there s e
content_utf8 (after_high h) (x ∷ y ∷ []) before s g e = not_there s e
content_utf8 (after_high h) (x ∷ y ∷ a ∷ []) before s g e = not_there s e
content_utf8 (after_high h) (x ∷ y ∷ a ∷ b ∷ []) before s g e = not_there s e
content_utf8 (after_high h) (x ∷ y ∷ a ∷ b ∷ c ∷ []) before s g e = not_there s e
content_utf8 (after_high h) (x ∷ y ∷ a ∷ b ∷ c ∷ d ∷ xs) before s g e =
    either_way ((x == 92) && (y == 117)) _ None (Some s)
    (λ t k.
    let z = and_parts (x == 92) (y == 117) t in
    let r = was_there (code_unit a b c d) (λ l. cond (is_low_surrogate l) (prepend (encode_utf8 (surrogate_pair h l)) (content plain xs)) None) s k in
    let n = four_digits a b c d r.0 r.1 in
    let six : IsUtf8 (a ∷ b ∷ c ∷ d ∷ xs) = behind y (a ∷ b ∷ c ∷ d ∷ xs) (omega (arith, eqb-true y 117 z.1)) (behind x (y ∷ a ∷ b ∷ c ∷ d ∷ xs) (omega (arith, eqb-true x 92 z.0)) g.1) in
    let rest : IsUtf8 xs = behind d xs n.3 (behind c (d ∷ xs) n.2 (behind b (c ∷ d ∷ xs) n.1 (behind a (b ∷ c ∷ d ∷ xs) n.0 six))) in
    either_way (is_low_surrogate r.0) _ None (Some s)
    (λ q m. prepended (encode_utf8 (surrogate_pair h r.0)) (content plain xs) before s (λ v w. content_utf8 plain xs (before ++ encode_utf8 (surrogate_pair h r.0)) v (put_in before (encode_utf8 (surrogate_pair h r.0)) xs g.0 (IsUtf8-encode (surrogate_pair h r.0) (pair_is_scalar h r.0 g.2 q)) rest) w) m)
    (λ _ m. not_there s m)
    r.2)
    (λ _ k. not_there s k)
    e

-- Lexemes

abbrev pub HasUtf8 : Token → Type 0
HasUtf8 begin_object = Unit {0}
HasUtf8 end_object = Unit {0}
HasUtf8 begin_array = Unit {0}
HasUtf8 end_array = Unit {0}
HasUtf8 (key s) = IsUtf8 s
HasUtf8 (string s) = IsUtf8 s
HasUtf8 (number s) = Unit {0}
HasUtf8 (boolean b) = Unit {0}
HasUtf8 null = Unit {0}
HasUtf8 bad = Unit {0}

abbrev pub AllUtf8 : List Token → Type 0
AllUtf8 [] = Unit {0}
AllUtf8 (t ∷ ts) = HasUtf8 t × AllUtf8 ts

abbrev LexemeUtf8 : Lexeme → Type 0
LexemeUtf8 (token t) = HasUtf8 t
LexemeUtf8 comma = Unit {0}
LexemeUtf8 colon = Unit {0}

abbrev LexemesUtf8 : List Lexeme → Type 0
LexemesUtf8 [] = Unit {0}
LexemesUtf8 (l ∷ ls) = LexemeUtf8 l × LexemesUtf8 ls

either_token : (b : Bool) (t u : Token) → HasUtf8 t → HasUtf8 u → HasUtf8 (cond b t u)
either_token true t u h k = h
either_token false t u h k = k

number_utf8 : (t : List ℕ) (o : Option (List ℕ)) → HasUtf8 (number_before t o)
number_utf8 t None = tt
number_utf8 t (Some rest) = either_token _ (number _) bad tt tt

literal_utf8 : (name : List ℕ) (u : Token) (t : List ℕ) → HasUtf8 u → HasUtf8 (literal name u t)
literal_utf8 name u t h = either_token (starts_with nat_eq t name && ends_word (drop (length name) t)) u bad h tt

word_utf8 : (t : List ℕ) → HasUtf8 (word t)
unfolding word
word_utf8 t =
    let other_word : Token = number_before t (after_number t) in
    let nulls : Token = cond (head t == 110) (literal null_text null t) other_word in
    let falses : Token = cond (head t == 102) (literal false_text (boolean false) t) nulls in
    either_token (head t == 116) (literal true_text (boolean true) t) falses (literal_utf8 true_text (boolean true) t tt)
    (either_token (head t == 102) (literal false_text (boolean false) t) nulls (literal_utf8 false_text (boolean false) t tt)
    (either_token (head t == 110) (literal null_text null t) other_word (literal_utf8 null_text null t tt) (number_utf8 t (after_number t))))

either_lexeme : (b : Bool) (t u : Lexeme) → LexemeUtf8 t → LexemeUtf8 u → LexemeUtf8 (cond b t u)
either_lexeme true t u h k = h
either_lexeme false t u h k = k

operator_utf8 : (x : ℕ) → LexemeUtf8 (operator_lexeme x)
operator_utf8 x =
    let marks : Lexeme = cond (x == 44) comma colon in
    let ends : Lexeme = cond (x == 93) (token end_array) marks in
    let arrays : Lexeme = cond (x == 91) (token begin_array) ends in
    let objects : Lexeme = cond (x == 125) (token end_object) arrays in
    either_lexeme (x == 123) (token begin_object) objects tt
    (either_lexeme (x == 125) (token end_object) arrays tt
    (either_lexeme (x == 91) (token begin_array) ends tt
    (either_lexeme (x == 93) (token end_array) marks tt
    (either_lexeme (x == 44) comma colon tt tt))))

string_utf8 : (o : Option (List ℕ)) → ((s : List ℕ) → o ≡ Some s → IsUtf8 s) → HasUtf8 (string_token o)
string_utf8 None f = tt
string_utf8 (Some s) f = f s refl

abbrev is_quote : Class → Bool
is_quote quote = true
is_quote backslash = false
is_quote operator = false
is_quote space = false
is_quote other = false

no_quote : (a b c : Bool) → is_quote (cond a backslash (cond b operator (cond c space other))) ≡ false
no_quote true b c = refl
no_quote false true c = refl
no_quote false false true = refl
no_quote false false false = refl

quote_is : (x : ℕ) → class x ≡ quote → x ≡ 34
quote_is x e =
    either_way (x == 34) quote _ quote (λ q _. eqb-true x 34 q) (λ _ h. absurd (true≢false (sym (ap is_quote h) ∙ no_quote (x == 92) (is_operator x) (is_space x)))) e

byte_utf8 : (m : Mode) (c : Class) (x : ℕ) (xs : List ℕ) (k : Mode → List Lexeme) → ((n : Mode) → LexemesUtf8 (k n)) → (c ≡ quote → (s : List ℕ) → content plain xs ≡ Some s → IsUtf8 s)
    → LexemesUtf8 (lex_byte m c x xs k)
byte_utf8 between quote x xs k r f = (string_utf8 (content plain xs) (f refl), r in_string)
byte_utf8 between backslash x xs k r f = (tt, r in_word)
byte_utf8 between operator x xs k r f = (operator_utf8 x, r between)
byte_utf8 between space x xs k r f = r between
byte_utf8 between other x xs k r f = (word_utf8 (x ∷ xs), r in_word)
byte_utf8 in_word quote x xs k r f = r in_word
byte_utf8 in_word backslash x xs k r f = r in_word
byte_utf8 in_word operator x xs k r f = (operator_utf8 x, r between)
byte_utf8 in_word space x xs k r f = r between
byte_utf8 in_word other x xs k r f = r in_word
byte_utf8 in_string quote x xs k r f = r between
byte_utf8 in_string backslash x xs k r f = r in_escape
byte_utf8 in_string operator x xs k r f = r in_string
byte_utf8 in_string space x xs k r f = r in_string
byte_utf8 in_string other x xs k r f = r in_string
byte_utf8 in_escape quote x xs k r f = r in_string
byte_utf8 in_escape backslash x xs k r f = r in_string
byte_utf8 in_escape operator x xs k r f = r in_string
byte_utf8 in_escape space x xs k r f = r in_string
byte_utf8 in_escape other x xs k r f = r in_string

-- what came before need not be cut at a character
lex_utf8 : (m : Mode) (xs before : List ℕ) → IsUtf8 (before ++ xs) → LexemesUtf8 (lex m xs)
unfolding lex
lex_utf8 m [] before u = tt
lex_utf8 m (x ∷ xs) before u =
    byte_utf8 m (class x) x xs (λ next. lex next xs) (λ n. lex_utf8 n xs (before ++ x ∷ []) (subst IsUtf8 (sym (append_assoc before (x ∷ []) xs)) u))
    (λ q s e. content_utf8 plain xs [] s (beside before xs x (omega (arith, quote_is x q)) u).1 e)

-- Commas and colons

allowed_utf8 : (b : Bool) (t : Token) (k : Place → List Token) (next : Place) → HasUtf8 t → ((p : Place) → AllUtf8 (k p)) → AllUtf8 (if_allowed b t k next)
allowed_utf8 true t k next h r = (h, r next)
allowed_utf8 false t k next h r = (tt, tt)

place_utf8 : (p : Place) (t : Token) (before_colon : Bool) (k : Place → List Token) → HasUtf8 t → ((q : Place) → AllUtf8 (k q)) → AllUtf8 (place_token p t before_colon k)
place_utf8 p begin_object c k h r = allowed_utf8 (may_begin p) begin_object k fresh tt r
place_utf8 p end_object c k h r = allowed_utf8 (may_close p) end_object k after_value tt r
place_utf8 p begin_array c k h r = allowed_utf8 (may_begin p) begin_array k fresh tt r
place_utf8 p end_array c k h r = allowed_utf8 (may_close p) end_array k after_value tt r
place_utf8 p (key s) c k h r = (tt, tt)
place_utf8 p (string s) true k h r = allowed_utf8 (may_begin p) (key s) k after_key h r
place_utf8 p (string s) false k h r = allowed_utf8 (may_begin p) (string s) k after_value h r
place_utf8 p (number s) c k h r = allowed_utf8 (may_begin p) (number s) k after_value tt r
place_utf8 p (boolean b) c k h r = allowed_utf8 (may_begin p) (boolean b) k after_value tt r
place_utf8 p null c k h r = allowed_utf8 (may_begin p) null k after_value tt r
place_utf8 p bad c k h r = (tt, tt)

punctuated : (p : Place) (ls : List Lexeme) → LexemesUtf8 ls → AllUtf8 (punctuate p ls)
unfolding punctuate
punctuated fresh [] h = tt
punctuated after_value [] h = tt
punctuated after_comma [] h = (tt, tt)
punctuated after_key [] h = (tt, tt)
punctuated fresh (token t ∷ ls) h = place_utf8 fresh t (begins_colon ls) (λ next. punctuate next ls) h.0 (λ q. punctuated q ls h.1)
punctuated after_value (token t ∷ ls) h = place_utf8 after_value t (begins_colon ls) (λ next. punctuate next ls) h.0 (λ q. punctuated q ls h.1)
punctuated after_comma (token t ∷ ls) h = place_utf8 after_comma t (begins_colon ls) (λ next. punctuate next ls) h.0 (λ q. punctuated q ls h.1)
punctuated after_key (token t ∷ ls) h = place_utf8 after_key t (begins_colon ls) (λ next. punctuate next ls) h.0 (λ q. punctuated q ls h.1)
punctuated fresh (comma ∷ ls) h = (tt, tt)
punctuated after_value (comma ∷ ls) h = punctuated after_comma ls h.1
punctuated after_comma (comma ∷ ls) h = (tt, tt)
punctuated after_key (comma ∷ ls) h = (tt, tt)
punctuated fresh (colon ∷ ls) h = (tt, tt)
punctuated after_value (colon ∷ ls) h = (tt, tt)
punctuated after_comma (colon ∷ ls) h = (tt, tt)
punctuated after_key (colon ∷ ls) h = punctuated fresh ls h.1

pub tokens_utf8 : (text : List ℕ) → IsUtf8 text → AllUtf8 (tokens text)
tokens_utf8 text u = punctuated fresh (lex between text) (lex_utf8 between text [] u)
