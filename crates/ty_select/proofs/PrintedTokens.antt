-- The tokens of printed texts.
use Rattle.std.proofs.Common.{◌≡◌, ℕ, suc, ◌+◌, List, [], ◌∷◌, ◌++◌, length, drop, true, false, true≢false, ◌==◌, ◌&&◌, ◌||◌, not, cond, Ok, Err, Option, codes, refl, sym, ap, ◌∙◌, subst, append_assoc, length-append, arith, ◌⊎◌, inl, inr}
use Rattle.std.specs.List.{prefix_len, position_or_len, list_all, list_any}
use Rattle.std.specs.Str.{IsUtf8, is_utf8, bytes_eq}
use Rattle.std.proofs.Math.Seq.{take-append_seam, drop-append_seam}
use Rattle.std.proofs.lemmas.Str.{IsUtf8-from_is_utf8}
use Rattle.std.proofs.lemmas.Bool.{and_parts}
use Rattle.std.proofs.lemmas.Bool.Decides.{nat_tests}
use Rattle.ty_select.specs.declared.fault.Stop.TheVariants.{Bad}
use Rattle.ty_select.specs.declared.fault.Wanted.{Wanted}
use Rattle.ty_select.specs.declared.fault.Wanted.TheVariants as wanted
use Rattle.ty_select.specs.declared.token.Kind.{Kind}
use Rattle.ty_select.specs.declared.token.Kind.TheVariants as kind
use Rattle.ty_select.specs.Forms.{Form, all, global, equal}
use Rattle.ty_select.specs.Printable.{IsLabel, IsQuotable}
use Rattle.ty_select.specs.Text.{quoted_text, printed}
use Rattle.ty_select.specs.Expressions.{◌>>=◌, Read, mark, token_text, word, quoted, primary, test, tested, operator_of, constant, membership, unary_by, one_deeper, negation, grouped}
use Rattle.ty_select.specs.Tokens.{Lexeme, lexeme, same_kind, is_blank, is_quote, token_at, word_at, quoted_at, mark_at, nothing}
use Rattle.ty_select.specs.Words.{is_word_byte}
use Rattle.ty_select.proofs.Tokens.{quoted_found, word_found}

one_plus : (m : ℕ) → 1 + m ≡ suc m
one_plus m = omega arith

seek : (q : ℕ) (v x : List ℕ) → (q == q) ≡ true → list_any (λ b. b == q) v ≡ false → position_or_len (λ b. b == q) (v ++ q ∷ x) ≡ length v
seek q [] x h n = ap (λ t. cond (not t) (1 + position_or_len (λ b. b == q) x) 0) h
seek q (b ∷ bs) x h n =
    (elim (b == q) as (λ t. (t || list_any (λ c. c == q) bs) ≡ false → cond (not t) (1 + position_or_len (λ c. c == q) (bs ++ q ∷ x)) 0 ≡ suc (length bs)) [
      | true ↦ λ e. absurd (cc)
      | false ↦ λ e. ap (λ m. 1 + m) (seek q bs x h e) ∙ one_plus (length bs)
    ]) n

past : (q : ℕ) (v x : List ℕ) → drop (length v + 1) (v ++ q ∷ x) ≡ x
past q [] x = refl
past q (b ∷ bs) x =
    let e : suc (length bs) + 1 ≡ suc (length bs + 1) = omega arith in
    ap (λ n. drop n (b ∷ (bs ++ q ∷ x))) e ∙ past q bs x

quoted_front : (q : ℕ) (v x : List ℕ) → (q == q) ≡ true → list_any (λ b. b == q) v ≡ false → is_utf8 v ≡ true
    → quoted_at (q ∷ (v ++ q ∷ x)) q ≡ record { kind = kind.Quoted; here = q ∷ (v ++ q ∷ x); text = v; rest = x }
quoted_front q v x h n u =
    let t = take-append_seam v (q ∷ x) in
    quoted_found (q ∷ (v ++ q ∷ x)) (v ++ q ∷ x) q (length v) refl (sym (seek q v x h n)) (omega (arith, length-append v (q ∷ x))) (subst IsUtf8 (sym t) (IsUtf8-from_is_utf8 v u))
    ∙ (λ i. record { kind = kind.Quoted; here = q ∷ (v ++ q ∷ x); text = t i; rest = past q v x i })

letters : (l x : List ℕ) (c : ℕ) → list_all is_word_byte l ≡ true → is_word_byte c ≡ false → prefix_len is_word_byte (l ++ c ∷ x) ≡ length l
letters [] x c a h = ap (λ t. cond t (1 + prefix_len is_word_byte x) 0) h
letters (b ∷ bs) x c a h =
    let (one, all_others) = and_parts _ _ a in
    ap (λ t. cond t (1 + prefix_len is_word_byte (bs ++ c ∷ x)) 0) one ∙ ap (λ n. 1 + n) (letters bs x c all_others h) ∙ one_plus (length bs)

not_blank : (b : ℕ) → is_word_byte b ≡ true → is_blank b ≡ false
not_blank b h = grind (arith, nat_tests)

not_empty : (n : ℕ) → (suc n == 0) ≡ false
not_empty n = grind (arith, nat_tests)

-- the first token of a text that isn't empty
pub first_token : (b : ℕ) (x : List ℕ) → is_blank b ≡ false → lexeme (b ∷ x) ≡ cond (is_word_byte b) (word_at (b ∷ x)) (cond (is_quote b) (quoted_at (b ∷ x) b) (mark_at (b ∷ x)))
unfolding lexeme
first_token b x h =
    ap (λ t. token_at (drop (cond t (1 + prefix_len is_blank x) 0) (b ∷ x))) h
    ∙ ap (λ t. cond t (nothing kind.End (b ∷ x)) (cond (is_word_byte b) (word_at (b ∷ x)) (cond (is_quote b) (quoted_at (b ∷ x) b) (mark_at (b ∷ x))))) (not_empty (length x))

-- a blank in front
pub behind_blank : (x : List ℕ) → lexeme (32 ∷ x) ≡ lexeme x
unfolding lexeme
behind_blank x = ap (λ n. token_at (drop n (32 ∷ x))) (one_plus (prefix_len is_blank x))

pub word_front : (l x : List ℕ) (c : ℕ) → IsLabel l → is_word_byte c ≡ false → lexeme (l ++ c ∷ x) ≡ record { kind = kind.Word; here = l ++ c ∷ x; text = l; rest = c ∷ x }
word_front [] x c h k = absurd (true≢false (sym h))
word_front (b ∷ bs) x c h k =
    let here = b ∷ (bs ++ c ∷ x) in
    let (long, all_bytes) = and_parts _ _ h in
    let first = (and_parts _ _ all_bytes).0 in
    first_token b (bs ++ c ∷ x) (not_blank b first)
    ∙ ap (λ t. cond t (word_at here) (cond (is_quote b) (quoted_at here b) (mark_at here))) first
    ∙ word_found here (length (b ∷ bs)) (sym (letters (b ∷ bs) x c all_bytes k)) long
    ∙ (λ i. record { kind = kind.Word; here = here; text = take-append_seam (b ∷ bs) (c ∷ x) i; rest = drop-append_seam (b ∷ bs) (c ∷ x) i })

-- a quoted text behind a blank
pub quoted_token : (v x : List ℕ) → IsQuotable v → (h : List ℕ) × (lexeme (quoted_text v ++ x) ≡ record { kind = kind.Quoted; here = h; text = v; rest = x })
unfolding quoted_text
quoted_token v x h =
    (elim (list_any (λ b. b == 39) v) as (λ t. list_any (λ b. b == 39) v ≡ t
    → (h : List ℕ) × (lexeme (cond t (34 ∷ (v ++ 34 ∷ [])) (39 ∷ (v ++ 39 ∷ [])) ++ x) ≡ record { kind = kind.Quoted; here = h; text = v; rest = x })) [
      | true ↦ λ e. (34 ∷ (v ++ 34 ∷ x), ap (λ b. lexeme (34 ∷ b)) (append_assoc v (34 ∷ []) x) ∙ first_token 34 (v ++ 34 ∷ x) refl ∙ quoted_front 34 v x refl (other e h.1) h.0)
      | false ↦ λ e. (39 ∷ (v ++ 39 ∷ x), ap (λ b. lexeme (39 ∷ b)) (append_assoc v (39 ∷ []) x) ∙ first_token 39 (v ++ 39 ∷ x) refl ∙ quoted_front 39 v x refl e h.0)
    ]) refl
  where
    other : list_any (λ b. b == 39) v ≡ true → ((list_any (λ b. b == 39) v ≡ false) ⊎ (list_any (λ b. b == 34) v ≡ false)) → list_any (λ b. b == 34) v ≡ false
    other e (inl f) = absurd (cc)
    other e (inr f) = f

pub text_word : (w : Wanted) (b h l r : List ℕ) → lexeme b ≡ record { kind = kind.Word; here = h; text = l; rest = r } → token_text kind.Word w b ≡ Ok (l, r)
unfolding token_text
text_word w b h l r e = ap (λ (t : Lexeme). cond (same_kind t.kind kind.Word) (Ok (t.text, t.rest)) (Err (Bad (length t.here) w))) e

pub text_quoted : (w : Wanted) (b h l r : List ℕ) → lexeme b ≡ record { kind = kind.Quoted; here = h; text = l; rest = r } → token_text kind.Quoted w b ≡ Ok (l, r)
unfolding token_text
text_quoted w b h l r e = ap (λ (t : Lexeme). cond (same_kind t.kind kind.Quoted) (Ok (t.text, t.rest)) (Err (Bad (length t.here) w))) e

pub quoted_back : (v x : List ℕ) → IsQuotable v → quoted (32 ∷ (quoted_text v ++ x)) ≡ Ok (v, x)
quoted_back v x h =
    let t = quoted_token v x h in
    text_quoted wanted.Quoted (32 ∷ (quoted_text v ++ x)) t.0 v x (behind_blank (quoted_text v ++ x) ∙ t.1)

pub starts_with_word : (inner : Option (List ℕ → Read Form)) (b h l r : List ℕ) → lexeme b ≡ record { kind = kind.Word; here = h; text = l; rest = r } → unary_by inner b ≡ primary l r
unfolding unary_by
starts_with_word inner b h l r e =
    ap (λ (t : Lexeme). cond (same_kind t.kind kind.Word) (primary t.text t.rest) (cond (same_kind t.kind kind.Bang) (one_deeper inner negation t.here t.rest) (cond (same_kind t.kind kind.Open) (one_deeper inner grouped t.here t.rest) (Err (Bad (length t.here) wanted.Term))))) e

pub is_tested : (l r : List ℕ) → same_kind (lexeme r).kind kind.Open ≡ false → primary l r ≡ test l r
unfolding primary
is_tested l r h =
    ap (λ c. cond (c && bytes_eq l (codes "all")) (constant all (lexeme r).rest) (cond (c && bytes_eq l (codes "global")) (constant global (lexeme r).rest) (cond (c && bytes_eq l (codes "has")) (membership (lexeme r).rest) (test l r)))) h

pub leaf : (inner : Option (List ℕ → Read Form)) (l r x : List ℕ) (f : Form) → IsLabel l → same_kind (lexeme (32 ∷ r)).kind kind.Open ≡ false → test l (32 ∷ r) ≡ Ok (f, x) → unary_by inner (l ++ 32 ∷ r) ≡ Ok (f, x)
leaf inner l r x f h k t = starts_with_word inner (l ++ 32 ∷ r) (l ++ 32 ∷ r) l (32 ∷ r) (word_front l r 32 h refl) ∙ is_tested l (32 ∷ r) k ∙ t

-- one operator's token, behind a blank
equals_token : (y : List ℕ) → lexeme (32 ∷ 61 ∷ 61 ∷ y) ≡ record { kind = kind.EqualEqual; here = 61 ∷ 61 ∷ y; text = []; rest = y }
equals_token y = behind_blank (61 ∷ 61 ∷ y) ∙ first_token 61 (61 ∷ y) refl

pub equal_back : (inner : Option (List ℕ → Read Form)) (l v x : List ℕ) → IsLabel l → IsQuotable v → unary_by inner (printed (equal l v) ++ x) ≡ Ok (equal l v, x)
unfolding test
equal_back inner l v x hl hv =
    let r = 61 ∷ 61 ∷ 32 ∷ (quoted_text v ++ x) in
    let e = equals_token (32 ∷ (quoted_text v ++ x)) in
    ap (unary_by inner) (append_assoc l (codes " == " ++ quoted_text v) x)
    ∙ leaf inner l r x (equal l v) hl (ap (λ (t : Lexeme). same_kind t.kind kind.Open) e)
    (ap (λ (t : Lexeme). tested l (operator_of t.kind t.text) t.here t.rest) e ∙ ap (λ q. q >>= λ (y : List ℕ × List ℕ). Ok (equal l y.0, y.1)) (quoted_back v x hv))

pub name_front : (w y : List ℕ) → IsLabel w → lexeme (32 ∷ (w ++ 32 ∷ y)) ≡ record { kind = kind.Word; here = w ++ 32 ∷ y; text = w; rest = 32 ∷ y }
name_front w y h = behind_blank (w ++ 32 ∷ y) ∙ word_front w y 32 h refl

pub in_label : IsLabel (codes "in")
in_label = refl

pub not_label : IsLabel (codes "not")
not_label = refl

pub with_label : IsLabel (codes "with")
with_label = refl

pub ends_label : IsLabel (codes "ends")
ends_label = refl

pub starts_label : IsLabel (codes "starts")
starts_label = refl

pub contains_label : IsLabel (codes "contains")
contains_label = refl

pub all_label : IsLabel (codes "all")
all_label = refl

pub has_label : IsLabel (codes "has")
has_label = refl

pub global_label : IsLabel (codes "global")
global_label = refl

pub word_back : (name : List ℕ) (w : Wanted) (y : List ℕ) → IsLabel name → bytes_eq name name ≡ true → word name w (32 ∷ (name ++ 32 ∷ y)) ≡ Ok (32 ∷ y)
unfolding word
word_back name w y h same =
    ap (λ (t : Lexeme). cond (same_kind t.kind kind.Word && bytes_eq t.text name) (Ok t.rest) (Err (Bad (length t.here) w))) (name_front name y h)
    ∙ ap (λ b. cond b (Ok (32 ∷ y)) (Err (Bad (length (name ++ 32 ∷ y)) w))) same

pub mark_back : (k : Kind) (w : Wanted) (b h y : List ℕ) → lexeme b ≡ record { kind = k; here = h; text = []; rest = y } → same_kind k k ≡ true → mark k w b ≡ Ok y
unfolding mark
mark_back k w b h y e same =
    ap (λ (t : Lexeme). cond (same_kind t.kind k) (Ok t.rest) (Err (Bad (length t.here) w))) e
    ∙ ap (λ c. cond c (Ok y) (Err (Bad (length h) w))) same

pub brace_token : (x : List ℕ) → lexeme (125 ∷ x) ≡ record { kind = kind.RightBrace; here = 125 ∷ x; text = []; rest = x }
brace_token x = first_token 125 x refl

pub close_token : (x : List ℕ) → lexeme (41 ∷ x) ≡ record { kind = kind.Close; here = 41 ∷ x; text = []; rest = x }
close_token x = first_token 41 x refl

pub open_token : (x : List ℕ) → lexeme (40 ∷ x) ≡ record { kind = kind.Open; here = 40 ∷ x; text = []; rest = x }
open_token x = first_token 40 x refl
