-- A text that is given part by part.
use Rattle.std.proofs.Common.{◌≡◌, ℕ, zero, suc, arith, ◌+◌, ◌<◌, ◌≤◌, List, [], ◌∷◌, ◌++◌, Bool, true, false, length, drop, get_or, refl, sym, ap, ◌∙◌, append_assoc, append-nil, subst, add-one, drop-cons}
use Rattle.std.specs.Prelude.{Option, Result, Ok, Err, IsErrOf, codes}
use Rattle.ty_client.specs.declared.text.Unwritten.TheVariants.{Sink, Memory}
use Rattle.ty_client.specs.declared.text.Unwritten.{Unwritten}
use Rattle.std.specs.Io.KnownBytes.{Appends}
use Rattle.json.specs.Token.{Token}
use Rattle.json.specs.Print.{print, print_from, quoted}
use Rattle.ty_base.specs.Fronts.{AppendsFront}
use Rattle.ty_base.proofs.Known.{Appends-then, Appends-same, AppendsFront-more, AppendsFront-after}
use Rattle.ty_client.specs.Rebuilt.{Rebuilt}
use Rattle.ty_client.specs.Text.{standing, pair_line, pair_lines, at_text, rebuilt_text}
use Rattle.ty_client.specs.steps.Given.{Owes, Wrote}

pub gives_begin : (a : Option (List ℕ)) (all : List ℕ) → Owes a a all all
gives_begin a all = record { given = []; appended = Appends-same a; whole = refl }

pub gives_front : (a b : Option (List ℕ)) (owed all : List ℕ) → Owes a b owed all → AppendsFront a b all
gives_front a b owed all h = (h.given, owed, sym h.whole, h.appended)

pub gives_more : (a b c : Option (List ℕ)) (x owed later all : List ℕ) → Owes a b owed all → Appends b c x → x ++ later ≡ owed → Owes a c later all
gives_more a b c x owed later all h k e = record {
  given = h.given ++ x;
  appended = Appends-then a b c h.given x h.appended k;
  whole = append_assoc h.given x later ∙ (ap (λ (l : List ℕ). h.given ++ l) e ∙ h.whole);
}

pub gives_cut : (a b c : Option (List ℕ)) (x owed later all : List ℕ) → Owes a b owed all → AppendsFront b c x → x ++ later ≡ owed → AppendsFront a c all
gives_cut a b c x owed later all h k e =
    let P : List ℕ → Type 0 = λ l. AppendsFront a c l in
    subst P (ap (λ (l : List ℕ). h.given ++ l) e ∙ h.whole)
    (AppendsFront-after a b c h.given (x ++ later) h.appended (AppendsFront-more b c x later k))

pub gives_all : (a b : Option (List ℕ)) (owed all : List ℕ) → Owes a b owed all → owed ≡ [] → Appends a b all
gives_all a b owed all h e =
    let P : List ℕ → Type 0 = λ l. Appends a b l in
    subst P (sym (append-nil h.given) ∙ (ap (λ (l : List ℕ). h.given ++ l) (sym e) ∙ h.whole)) h.appended

-- bytes that were given for others, which now are what is left
pub gives_in : (a b c : Option (List ℕ)) (left x owed later all : List ℕ) → Owes a b owed all → Owes b c left x → x ++ later ≡ owed → Owes a c (left ++ later) all
gives_in a b c left x owed later all h k e = record {
  given = h.given ++ k.given;
  appended = Appends-then a b c h.given k.given h.appended k.appended;
  whole =
      append_assoc h.given k.given (left ++ later)
      ∙ (ap (λ (l : List ℕ). h.given ++ l) (sym (append_assoc k.given left later) ∙ (ap (λ (l : List ℕ). l ++ later) k.whole ∙ e)) ∙ h.whole);
}

-- texts

pub next_text : (brief : Bool) (xs : List Rebuilt) (i : ℕ) (a : Rebuilt) → i < length xs → a ≡ get_or xs i a → at_text brief a ++ rebuilt_text brief (drop (i + 1) xs) ≡ rebuilt_text brief (drop i xs)
next_text brief xs i a l e =
    ap (λ (x : Rebuilt). at_text brief x ++ rebuilt_text brief (drop (i + 1) xs)) e
    ∙ (ap (λ n. rebuilt_text brief (get_or xs i a ∷ drop n xs)) (add-one i) ∙ ap (rebuilt_text brief) (sym (drop-cons xs i a l)))

pub next_line : (out : List ℕ) (p : List ℕ × List ℕ) (m rest : List (List ℕ × List ℕ)) → m ≡ p ∷ rest → (out ++ pair_line p) ++ pair_lines rest ≡ out ++ pair_lines m
next_line out p m rest e = append_assoc out (pair_line p) (pair_lines rest) ∙ ap (λ (l : List (List ℕ × List ℕ)). out ++ pair_lines l) (sym e)

pub string_print : (t : List ℕ) → print (Token.string t ∷ []) ≡ quoted t
unfolding print_from
string_print t = append-nil (quoted t)

pub brief_text : (a : Rebuilt) → codes "at " ++ standing a ≡ at_text true a
brief_text a = ap (λ (l : List ℕ). codes "at " ++ l) (sym (append-nil (standing a)))

pub full_text : (a : Rebuilt) → (codes "at " ++ standing a) ++ pair_lines a.pairs ≡ at_text false a
full_text a = append_assoc (codes "at ") (standing a) (pair_lines a.pairs)

pub line_text : (out k v : List ℕ) → ((((out ++ codes "{\"key\":") ++ quoted k) ++ codes ",\"value\":") ++ quoted v) ++ codes "}\n" ≡ out ++ pair_line (k, v)
line_text out k v = simp append_assoc

pub standing_text : (out n s c : List ℕ) → (((((out ++ n) ++ codes " ") ++ s) ++ codes " ") ++ c) ++ codes "\n" ≡ out ++ (n ++ (codes " " ++ (s ++ (codes " " ++ (c ++ codes "\n")))))
standing_text out n s c = simp append_assoc

pub written_quoted : (items bytes before s t : List ℕ) (now old : List Token) → items ≡ before ++ print now → before ≡ bytes → now ≡ old ++ Token.string s ∷ [] → old ≡ [] → s ≡ t → items ≡ bytes ++ quoted t
written_quoted items bytes before s t now old i b n o e =
    i ∙ ap (λ (l : List ℕ). l ++ print now) b
    ∙ ap (λ (l : List Token). bytes ++ print l) (n ∙ ap (λ (l : List Token). l ++ Token.string s ∷ []) o)
    ∙ ap (λ (l : List ℕ). bytes ++ l) (string_print s)
    ∙ ap (λ (l : List ℕ). bytes ++ quoted l) e

pub gives_at : (a : Option (List ℕ)) (out : List ℕ) (m n : List (List ℕ × List ℕ)) → m ≡ n → Owes a a (out ++ pair_lines m) (out ++ pair_lines n)
gives_at a out m n e = subst (λ (l : List (List ℕ × List ℕ)). Owes a a (out ++ pair_lines m) (out ++ pair_lines l)) e (gives_begin a (out ++ pair_lines m))

drop_end : (xs : List Rebuilt) (i : ℕ) → length xs ≤ i → drop i xs ≡ []
drop_end [] zero h = refl
drop_end [] (suc i) h = refl
drop_end (x ∷ xs) zero h = absurd (omega arith)
drop_end (x ∷ xs) (suc i) h = drop_end xs i (omega arith)

pub text_end : (brief : Bool) (xs : List Rebuilt) (i : ℕ) → length xs ≤ i → rebuilt_text brief (drop i xs) ≡ []
text_end brief xs i h = ap (rebuilt_text brief) (drop_end xs i h)

pub wrote_same : {T : Type 0} (r : Result T Unwritten) (a b : Option (List ℕ)) (n m : ℕ) (x y : List ℕ) → x ≡ y → Wrote r a b n m x → Wrote r a b n m y
wrote_same r a b n m x y e h = subst (λ (l : List ℕ). Wrote r a b n m l) e h

pub not_err : {T : Type 0} (x : T) (e : Unwritten) → IsErrOf {T = T} {E = Unwritten} (Ok x) e → ⊥
not_err x e q = cc

-- the same cause, of an answer of another type
pub same_cause : {T U : Type 0} (e x : Unwritten) → IsErrOf {T = T} {E = Unwritten} (Err e) x → IsErrOf {T = U} {E = Unwritten} (Err e) x
same_cause Sink Sink h = refl
same_cause Memory Memory h = refl
same_cause Sink Memory h = absurd cc
same_cause Memory Sink h = absurd cc

-- what is owed is written
pub wrote_after : {T : Type 0} (r : Result T Unwritten) (a b c : Option (List ℕ)) (owed left all : List ℕ) (n m k : ℕ) → Owes a b owed all → owed ≡ left → n ≤ m → Wrote r b c m k left → Wrote r a c n k all
wrote_after (Ok x) a b c owed left all n m k h e le w = record {
  ok = subst (λ (l : List ℕ). Appends a c l) (ap (λ (l : List ℕ). h.given ++ l) (sym e) ∙ h.whole) (Appends-then a b c h.given left h.appended w.ok);
  err = tt;
  cause = λ q. absurd (not_err x Sink q);
  later = omega (arith, le, w.later);
}
wrote_after (Err x) a b c owed left all n m k h e le w = record {
  ok = tt;
  err = subst (λ (l : List ℕ). AppendsFront a c l) (ap (λ (l : List ℕ). h.given ++ l) (sym e) ∙ h.whole) (AppendsFront-after a b c h.given left h.appended w.err);
  cause = λ q. omega (arith, le, w.cause q);
  later = omega (arith, le, w.later);
}
