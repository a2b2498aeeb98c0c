-- How words and quoted texts are cut out.
use Rattle.std.proofs.Common.{◌≡◌, ℕ, zero, suc, ◌+◌, ◌<◌, List, [], ◌∷◌, length, take, drop, Bool, true, false, true≢false, not, ◌==◌, ◌||◌, ◌&&◌, cond, refl, sym, ap, ◌∙◌, subst, arith, eqb-true, inl, inr, slice_index}
use Rattle.std.specs.List.{list_all, list_any, prefix_len, position_or_len, take_while}
use Rattle.std.specs.Str.{IsAscii, IsUtf8, is_utf8}
use Rattle.std.proofs.lemmas.List.Sums.{take_while-cons}
use Rattle.std.proofs.lemmas.List.Folds.{length-prefix_len}
use Rattle.std.proofs.lemmas.Bool.{and_from}
use Rattle.std.proofs.lemmas.Str.{IsUtf8-from_ascii, is_utf8-from_IsUtf8, IsUtf8-from_is_utf8}
use Rattle.std.proofs.lemmas.Bool.Decides.{nat_tests}
use Rattle.ty_select.specs.declared.token.Kind.{Kind}
use Rattle.ty_select.specs.declared.token.Kind.TheVariants as kind
use Rattle.ty_select.specs.declared.token.Kind.TheVariants.{Word, Quoted, Junk}
use Rattle.ty_select.specs.Printable.{IsLabel, IsQuotable}
use Rattle.ty_select.specs.Tokens.{Lexeme, lexeme, nothing, word_at, quoted_at, same_kind, is_blank, is_quote, token_at, mark_at, mark_kind}
use Rattle.ty_select.specs.Words.{is_word_byte, is_word_len, is_word}

and_true : (b : Bool) → (b && true) ≡ b
and_true true = refl
and_true false = refl

pub word_byte_is_ascii : (b : ℕ) → is_word_byte b ≡ true → b < 128
word_byte_is_ascii b h = grind (arith, nat_tests)

ascii_cons : (x : ℕ) (xs : List ℕ) → x < 128 → IsAscii xs → IsAscii (x ∷ xs)
ascii_cons x xs h hs zero = h
ascii_cons x xs h hs (suc i) = hs i

pub ascii_nil : IsAscii []
ascii_nil i = omega arith

pub word_is_ascii : (xs : List ℕ) → IsAscii (take_while is_word_byte xs)
word_is_ascii [] = ascii_nil
word_is_ascii (x ∷ xs) =
    subst (λ l. IsAscii l) (sym (take_while-cons is_word_byte x xs))
    (elim (is_word_byte x) as (λ v. is_word_byte x ≡ v → IsAscii (cond v (x ∷ take_while is_word_byte xs) [])) [
      | true ↦ λ e. ascii_cons x _ (word_byte_is_ascii x e) (word_is_ascii xs)
      | false ↦ λ _. ascii_nil
    ] refl)

pub word_is_utf8 : (xs : List ℕ) (n : ℕ) → n ≡ prefix_len is_word_byte xs → IsUtf8 (take n xs)
word_is_utf8 xs n e = subst (λ k. IsUtf8 (take k xs)) (sym e) (IsUtf8-from_ascii _ (word_is_ascii xs))

-- the word bytes at the front
pub run_bytes : (xs : List ℕ) → list_all is_word_byte (take_while is_word_byte xs) ≡ true
run_bytes [] = refl
run_bytes (x ∷ xs) =
    subst (λ l. list_all is_word_byte l ≡ true) (sym (take_while-cons is_word_byte x xs))
    (elim (is_word_byte x) as (λ v. is_word_byte x ≡ v → list_all is_word_byte (cond v (x ∷ take_while is_word_byte xs) []) ≡ true) [
      | true ↦ λ e. and_from _ _ e (run_bytes xs)
      | false ↦ λ _. refl
    ] refl)

-- they are a word where they are as many as a word has
pub run_is_word : (here : List ℕ) → is_word (take_while is_word_byte here) ≡ is_word_len (prefix_len is_word_byte here)
run_is_word here =
    ap (λ b. is_word_len (length (take_while is_word_byte here)) && b) (run_bytes here)
    ∙ and_true (is_word_len (length (take_while is_word_byte here)))
    ∙ ap is_word_len (length-prefix_len is_word_byte here)

pub word_found : (here : List ℕ) (n : ℕ) → n ≡ prefix_len is_word_byte here → is_word_len n ≡ true
    → word_at here ≡ record { kind = Word; here = here; text = take n here; rest = drop n here }
word_found here n e h =
    let found : Lexeme = record { kind = Word; here = here; text = take (prefix_len is_word_byte here) here; rest = drop (prefix_len is_word_byte here) here } in
    ap (λ b. cond b found (nothing Junk here)) (run_is_word here ∙ ap is_word_len (sym e) ∙ h)
    ∙ ap (λ k. record { kind = Word; here = here; text = take k here; rest = drop k here }) (sym e)

pub word_refused : (here : List ℕ) (n : ℕ) → n ≡ prefix_len is_word_byte here → is_word_len n ≡ false → word_at here ≡ nothing Junk here
word_refused here n e h =
    let found : Lexeme = record { kind = Word; here = here; text = take (prefix_len is_word_byte here) here; rest = drop (prefix_len is_word_byte here) here } in
    ap (λ b. cond b found (nothing Junk here)) (run_is_word here ∙ ap is_word_len (sym e) ∙ h)

pub not_utf8 : (bs : List ℕ) → ¬ (IsUtf8 bs) → is_utf8 bs ≡ false
not_utf8 bs h = elim (is_utf8 bs) as (λ v. is_utf8 bs ≡ v → v ≡ false) [ true ↦ λ e. absurd (h (IsUtf8-from_is_utf8 bs e)) | false ↦ λ _. refl ] refl

-- what quoted_at comes to, over plain variables
abbrev cut : List ℕ → List ℕ → ℕ → Bool → Bool → Lexeme
cut here body n ends utf8 = cond (ends || not utf8) (nothing Junk here) (record { kind = Quoted; here = here; text = take n body; rest = drop (n + 1) body })

abbrev place : ℕ → List ℕ → ℕ
place quote body = position_or_len (λ b. b == quote) body

opened : (here body : List ℕ) (quote n : ℕ) → body ≡ drop 1 here → n ≡ place quote body → quoted_at here quote ≡ cut here body n (n == length body) (is_utf8 (take n body))
opened here body quote n b e =
    ap (λ bd. cut here bd (place quote bd) (place quote bd == length bd) (is_utf8 (take (place quote bd) bd))) (sym b)
    ∙ ap (λ k. cut here body k (k == length body) (is_utf8 (take k body))) (sym e)

pub quoted_found : (here body : List ℕ) (quote n : ℕ) → body ≡ drop 1 here → n ≡ place quote body → n < length body → IsUtf8 (take n body)
    → quoted_at here quote ≡ record { kind = Quoted; here = here; text = take n body; rest = drop (n + 1) body }
quoted_found here body quote n b e lt u =
    let ends : (n == length body) ≡ false = grind (arith, nat_tests) in
    opened here body quote n b e
    ∙ ap (λ b. cut here body n b (is_utf8 (take n body))) ends
    ∙ ap (λ b. cut here body n false b) (is_utf8-from_IsUtf8 _ u)

pub quoted_unended : (here body : List ℕ) (quote n : ℕ) → body ≡ drop 1 here → n ≡ place quote body → n ≡ length body → quoted_at here quote ≡ nothing Junk here
quoted_unended here body quote n b e full =
    let ends : (n == length body) ≡ true = grind (arith, nat_tests) in
    opened here body quote n b e
    ∙ ap (λ b. cut here body n b (is_utf8 (take n body))) ends

pub quoted_other : (here body : List ℕ) (quote n : ℕ) → body ≡ drop 1 here → n ≡ place quote body → n < length body → ¬ (IsUtf8 (take n body)) → quoted_at here quote ≡ nothing Junk here
quoted_other here body quote n b e lt u =
    let ends : (n == length body) ≡ false = grind (arith, nat_tests) in
    opened here body quote n b e
    ∙ ap (λ b. cut here body n b (is_utf8 (take n body))) ends
    ∙ ap (λ b. cut here body n false b) (not_utf8 _ u)

pub by_cases : {A : Type 0} (P : A → Type 0) (b : Bool) (x y : A) → (b ≡ true → P x) → (b ≡ false → P y) → P (cond b x y)
by_cases P true x y h k = h refl
by_cases P false x y h k = k refl

-- What a token's text is

-- the text of a word is a word, and a quoted text can be quoted again
pub record IsSound (t : Lexeme) : Type 0 where
  pub word : same_kind t.kind kind.Word ≡ true → IsLabel t.text
  pub quoted : same_kind t.kind kind.Quoted ≡ true → IsQuotable t.text

pub record IsMark (k : Kind) : Type 0 where
  pub no_word : same_kind k kind.Word ≡ false
  pub no_text : same_kind k kind.Quoted ≡ false

mark_sound : (t : Lexeme) → IsMark t.kind → IsSound t
mark_sound t h = record { word = λ e. absurd (true≢false (sym e ∙ h.no_word)); quoted = λ e. absurd (true≢false (sym e ∙ h.no_text)) }

nothing_sound : (here : List ℕ) → IsSound (nothing kind.Junk here)
nothing_sound here = mark_sound (nothing kind.Junk here) (record { no_word = refl; no_text = refl })

pub mark_is : (a b : ℕ) → IsMark (mark_kind a b)
mark_is a b =
    by_cases IsMark (a == 40) _ _ (λ _. record { no_word = refl; no_text = refl }) (λ _.
    by_cases IsMark (a == 41) _ _ (λ _. record { no_word = refl; no_text = refl }) (λ _.
    by_cases IsMark (a == 123) _ _ (λ _. record { no_word = refl; no_text = refl }) (λ _.
    by_cases IsMark (a == 125) _ _ (λ _. record { no_word = refl; no_text = refl }) (λ _.
    by_cases IsMark (a == 44) _ _ (λ _. record { no_word = refl; no_text = refl }) (λ _.
    by_cases IsMark (a == 33) _ _ (λ _.
    by_cases IsMark (b == 61) _ _ (λ _. record { no_word = refl; no_text = refl }) (λ _. record { no_word = refl; no_text = refl })) (λ _.
    by_cases IsMark ((a == 61) && (b == 61)) _ _ (λ _. record { no_word = refl; no_text = refl }) (λ _.
    by_cases IsMark ((a == 38) && (b == 38)) _ _ (λ _. record { no_word = refl; no_text = refl }) (λ _.
    by_cases IsMark ((a == 124) && (b == 124)) _ _ (λ _. record { no_word = refl; no_text = refl }) (λ _.
    record { no_word = refl; no_text = refl })))))))))

word_sound : (here : List ℕ) → IsSound (word_at here)
word_sound here =
    by_cases IsSound (is_word (take (prefix_len is_word_byte here) here)) _ _
    (λ e. record { word = λ _. e; quoted = λ f. absurd (true≢false (sym f)) }) (λ _. nothing_sound here)

-- what stands before a quote lacks it
lacks : (q : ℕ) (xs : List ℕ) → list_any (λ b. b == q) (take (position_or_len (λ b. b == q) xs) xs) ≡ false
lacks q [] = refl
lacks q (b ∷ bs) =
    let p : ℕ → Bool = λ c. c == q in
    let n : ℕ = position_or_len p bs in
    elim (b == q) as (λ t. (b == q) ≡ t → list_any p (take (cond (not t) (1 + n) 0) (b ∷ bs)) ≡ false) [
      | true ↦ λ _. refl
      | false ↦ λ e.
          let more : 1 + n ≡ suc n = omega arith in
          ap (λ k. list_any p (take k (b ∷ bs))) more ∙ ap (λ t. t || list_any p (take n bs)) e ∙ lacks q bs
    ] refl

utf8_of : (a b : Bool) → (a || not b) ≡ false → b ≡ true
utf8_of true b e = absurd (true≢false e)
utf8_of false true e = refl
utf8_of false false e = absurd (true≢false e)

quotable : (q : ℕ) (v : List ℕ) → is_quote q ≡ true → is_utf8 v ≡ true → list_any (λ b. b == q) v ≡ false → IsQuotable v
quotable q v h utf8 none_of =
    elim (q == 39) as (λ t. (q == 39) ≡ t → (t || (q == 34)) ≡ true → IsQuotable v) [
      | true ↦ λ e _. (utf8, inl (subst (λ (k : ℕ). list_any (λ b. b == k) v ≡ false) (eqb-true q 39 e) none_of))
      | false ↦ λ _ e. (utf8, inr (subst (λ (k : ℕ). list_any (λ b. b == k) v ≡ false) (eqb-true q 34 e) none_of))
    ] refl h

quoted_sound : (here : List ℕ) (q : ℕ) → is_quote q ≡ true → IsSound (quoted_at here q)
quoted_sound here q h =
    let body : List ℕ = drop 1 here in
    let n : ℕ = position_or_len (λ b. b == q) body in
    by_cases IsSound ((n == length body) || not (is_utf8 (take n body))) _ _ (λ _. nothing_sound here)
    (λ e. record { word = λ f. absurd (true≢false (sym f)); quoted = λ _. quotable q (take n body) h (utf8_of (n == length body) (is_utf8 (take n body)) e) (lacks q body) })

token_sound : (here : List ℕ) → IsSound (token_at here)
token_sound here =
    let first : ℕ = slice_index here 0 in
    by_cases IsSound (length here == 0) _ _ (λ _. mark_sound (nothing kind.End here) (record { no_word = refl; no_text = refl })) (λ _.
    by_cases IsSound (is_word_byte first) _ _ (λ _. word_sound here) (λ _.
    by_cases IsSound (is_quote first) _ _ (λ e. quoted_sound here first e) (λ _.
    mark_sound (mark_at here) (mark_is first (slice_index here 1)))))

pub lexeme_sound : (bytes : List ℕ) → IsSound (lexeme bytes)
unfolding lexeme
lexeme_sound bytes = token_sound (drop (prefix_len is_blank bytes) bytes)
