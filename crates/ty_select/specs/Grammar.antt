-- The grammar of selectors, over tokens: here a selector is put together from its parts.
use Rattle.std.specs.Prelude.{◌≡◌, ℕ, suc, List, [], ◌∷◌, ◌++◌, codes}
use Rattle.ty_select.specs.declared.token.Kind.TheVariants as kind
use Rattle.ty_select.specs.Forms.{Form, all, global, has, equal, unequal, among, not_among, contains, starts, ends, negated, both, either, Forms, none, more}
use Rattle.ty_select.specs.Terminals.{Terminal, a_word, a_text, paren, end_paren, brace, end_brace, comma, bang, not_equal_sign, equal_sign, and_sign, or_sign, BeginsWith}
use Rattle.ty_select.specs.Tokens.{lexeme}

-- Sets and tests

-- { "," quoted } "}"
pub data AreFurtherTexts : List Terminal → List (List ℕ) → Type 0 where
  no_text : AreFurtherTexts (end_brace ∷ []) []
  further_text : {ts : List Terminal} {vs : List (List ℕ)} (v : List ℕ) → AreFurtherTexts ts vs
      → AreFurtherTexts (comma ∷ a_text v ∷ ts) (v ∷ vs)

-- set = "{" [ quoted { "," quoted } ] "}"
pub data IsSet : List Terminal → List (List ℕ) → Type 0 where
  empty_set : IsSet (brace ∷ end_brace ∷ []) []
  set_of_texts : {ts : List Terminal} {vs : List (List ℕ)} (v : List ℕ) → AreFurtherTexts ts vs
      → IsSet (brace ∷ a_text v ∷ ts) (v ∷ vs)

-- test = "==" quoted | "!=" quoted | "in" set | "not" "in" set
--      | "contains" quoted | "starts" "with" quoted | "ends" "with" quoted
pub data IsTest (label : List ℕ) : List Terminal → Form → Type 0 where
  is_equal : (v : List ℕ) → IsTest label (equal_sign ∷ a_text v ∷ []) (equal label v)
  is_unequal : (v : List ℕ) → IsTest label (not_equal_sign ∷ a_text v ∷ []) (unequal label v)
  is_in : {ts : List Terminal} {vs : List (List ℕ)} → IsSet ts vs
      → IsTest label (a_word (codes "in") ∷ ts) (among label vs)
  is_not_in : {ts : List Terminal} {vs : List (List ℕ)} → IsSet ts vs
      → IsTest label (a_word (codes "not") ∷ a_word (codes "in") ∷ ts) (not_among label vs)
  does_contain : (v : List ℕ) → IsTest label (a_word (codes "contains") ∷ a_text v ∷ []) (contains label v)
  starts_with : (v : List ℕ)
      → IsTest label (a_word (codes "starts") ∷ a_word (codes "with") ∷ a_text v ∷ []) (starts label v)
  ends_with : (v : List ℕ)
      → IsTest label (a_word (codes "ends") ∷ a_word (codes "with") ∷ a_text v ∷ []) (ends label v)

-- Selectors. The number says how many `!` and grouping `(` may be open at once.

-- one operand alone makes no node
abbrev pub joined_by : (Forms → Form) → Form → Forms → Form
joined_by node f none = f
joined_by node f (more g gs) = node (more f (more g gs))

mutual
  -- or = and { "||" and }
  pub data IsOr : ℕ → List Terminal → Form → Type 0 where
    or_of : {n : ℕ} {ts us : List Terminal} {f : Form} {fs : Forms} → IsAnd n ts f → AreOrs n us fs
        → IsOr n (ts ++ us) (joined_by either f fs)

  pub data AreOrs : ℕ → List Terminal → Forms → Type 0 where
    no_or : {n : ℕ} → AreOrs n [] none
    further_or : {n : ℕ} {ts us : List Terminal} {f : Form} {fs : Forms} → IsAnd n ts f → AreOrs n us fs
        → AreOrs n (or_sign ∷ (ts ++ us)) (more f fs)

  -- and = unary { "&&" unary }
  pub data IsAnd : ℕ → List Terminal → Form → Type 0 where
    and_of : {n : ℕ} {ts us : List Terminal} {f : Form} {fs : Forms} → IsUnary n ts f → AreAnds n us fs
        → IsAnd n (ts ++ us) (joined_by both f fs)

  pub data AreAnds : ℕ → List Terminal → Forms → Type 0 where
    no_and : {n : ℕ} → AreAnds n [] none
    further_and : {n : ℕ} {ts us : List Terminal} {f : Form} {fs : Forms} → IsUnary n ts f → AreAnds n us fs
        → AreAnds n (and_sign ∷ (ts ++ us)) (more f fs)

  -- unary = "!" unary | primary
  pub data IsUnary : ℕ → List Terminal → Form → Type 0 where
    negation_of : {n : ℕ} {ts : List Terminal} {f : Form} → IsUnary n ts f
        → IsUnary (suc n) (bang ∷ ts) (negated f)
    unary_of : {n : ℕ} {ts : List Terminal} {f : Form} → IsPrimary n ts f → IsUnary n ts f

  -- primary = "(" or ")"
  --         | "all" "(" ")" | "global" "(" ")" | "has" "(" word ")"
  --         | word test
  pub data IsPrimary : ℕ → List Terminal → Form → Type 0 where
    group_of : {n : ℕ} {ts : List Terminal} {f : Form} → IsOr n ts f
        → IsPrimary (suc n) (paren ∷ (ts ++ end_paren ∷ [])) f
    all_of : {n : ℕ} → IsPrimary n (a_word (codes "all") ∷ paren ∷ end_paren ∷ []) all
    global_of : {n : ℕ} → IsPrimary n (a_word (codes "global") ∷ paren ∷ end_paren ∷ []) global
    has_of : {n : ℕ} (label : List ℕ)
        → IsPrimary n (a_word (codes "has") ∷ paren ∷ a_word label ∷ end_paren ∷ []) (has label)
    test_of : {n : ℕ} {ts : List Terminal} {f : Form} (label : List ℕ) → IsTest label ts f
        → IsPrimary n (a_word label ∷ ts) f

-- selector = or end | end
pub data AreTerminals : ℕ → List Terminal → Form → Type 0 where
  blank : {n : ℕ} → AreTerminals n [] all
  filled : {n : ℕ} {ts : List Terminal} {f : Form} → IsOr n ts f → AreTerminals n ts f

-- Texts

-- a text's tokens, to its end, are a selector in which so many may be open
pub record IsSelectorWithin (n : ℕ) (text : List ℕ) (f : Form) : Type 0 where
  pub tokens : List Terminal
  pub rest : List ℕ
  pub begins : BeginsWith text tokens rest
  pub ended : (lexeme rest).kind ≡ kind.End
  pub said : AreTerminals n tokens f

-- however many are open
abbrev pub IsSelector : List ℕ → Form → Type 0
IsSelector text f = (n : ℕ) × IsSelectorWithin n text f
