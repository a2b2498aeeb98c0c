-- Reading one after the other, as a loop does.
use Rattle.std.proofs.Common.{◌≡◌, ◌≢◌, ℕ, suc, ◌-◌, ◌+◌, ◌≤◌, ◌<◌, List, [], ◌∷◌, ◌++◌, length, Bool, true, false, cond, Result, Ok, Err, refl, sym, ap, ◌∙◌, subst, append_assoc, arith}
use Rattle.std.proofs.lemmas.List.{append-nil}
use Rattle.ty_select.specs.declared.fault.SelectFault.{SelectFault}
use Rattle.ty_select.specs.declared.fault.SelectFault.TheVariants as faults
use Rattle.ty_select.specs.declared.fault.Stop.{Stop}
use Rattle.ty_select.specs.declared.fault.Stop.TheVariants.{Bad, TooDeep, Spent}
use Rattle.ty_select.specs.declared.fault.Wanted.{Wanted}
use Rattle.ty_select.specs.declared.fault.Wanted.TheVariants as wanted
use Rattle.ty_select.specs.declared.token.Kind.{Kind}
use Rattle.ty_select.specs.declared.token.Kind.TheVariants as kind
use Rattle.ty_select.specs.Forms.{Form, negated}
use Rattle.ty_select.specs.Tokens.{Lexeme, lexeme, same_kind}
use Rattle.ty_select.specs.Expressions.{◌>>=◌, Read, mark, quoted, more_texts, texts_from, others, others_from, alone_or, disjunction, negation, grouped, one_deeper, inside, unary, stop_fault, from_the_front}
use Rattle.ty_select.specs.steps.Returns.{Stops}

-- what was read before, and what is still read
abbrev pub with_front : {A : Type 0} → List A → Read (List A) → Read (List A)
with_front front read = read >>= λ x. Ok (front ++ x.0, x.1)

abbrev behind : {A : Type 0} → A → Read (List A) → Read (List A)
behind y read = read >>= λ ys. Ok (y ∷ ys.0, ys.1)

regroup : {A : Type 0} (front : List A) (y : A) (read : Read (List A)) → with_front front (behind y read) ≡ with_front (front ++ y ∷ []) read
regroup {A} front y (Ok x) = ap (λ (ys : List A). Ok (ys, x.1)) (sym (append_assoc front (y ∷ []) x.0))
regroup front y (Err f) = refl

nothing_more : {A : Type 0} (front : List A) (rest : List ℕ) → with_front front (Ok ([], rest)) ≡ Ok (front, rest)
nothing_more {A} front rest = ap (λ (ys : List A). Ok (ys, rest)) (append-nil front)

-- operands, at a place where one more mark may stand
abbrev others_step : Bool → Read Form → (List ℕ → Read (List Form)) → List ℕ → Read (List Form)
others_step found x more bytes = cond found (x >>= λ y. behind y.0 (more y.1)) (Ok ([], bytes))

module _ (k : Kind) (f : List ℕ → Read Form) (front : List Form) (count i : ℕ) (bytes : List ℕ) (total : Read (List Form)) where
  at_step : i < count → with_front front (others k f (count - i) bytes) ≡ with_front front (others_step (same_kind (lexeme bytes).kind k) (f (lexeme bytes).rest) (others k f (count - (i + 1))) bytes)
  unfolding others
  at_step lt =
      let n : count - i ≡ suc (count - (i + 1)) = omega arith in
      ap (λ m. with_front front (others k f m bytes)) n

  pub goes_on : (x : Form) (rest after : List ℕ) → i < count → same_kind (lexeme bytes).kind k ≡ true → rest ≡ (lexeme bytes).rest → f rest ≡ Ok (x, after)
      → with_front front (others k f (count - i) bytes) ≡ total → with_front (front ++ x ∷ []) (others k f (count - (i + 1)) after) ≡ total
  goes_on x rest after lt found r h so_far =
      let more = others k f (count - (i + 1)) in
      let one = at_step lt
      ∙ ap (λ b. with_front front (others_step b (f (lexeme bytes).rest) more bytes)) found
      ∙ ap (λ l. with_front front (others_step true (f l) more bytes)) (sym r)
      ∙ ap (λ y. with_front front (others_step true y more bytes)) h
      ∙ regroup front x (more after) in
      sym one ∙ so_far

  stopped : (e : Stop) (rest : List ℕ) → i < count → same_kind (lexeme bytes).kind k ≡ true → rest ≡ (lexeme bytes).rest → f rest ≡ Err e
      → with_front front (others k f (count - i) bytes) ≡ total → total ≡ Err e
  stopped e rest lt found r h so_far =
      let more = others k f (count - (i + 1)) in
      let one = at_step lt
      ∙ ap (λ b. with_front front (others_step b (f (lexeme bytes).rest) more bytes)) found
      ∙ ap (λ l. with_front front (others_step true (f l) more bytes)) (sym r)
      ∙ ap (λ y. with_front front (others_step true y more bytes)) h in
      sym so_far ∙ one

  pub stops : (e : Stop) (rest : List ℕ) → i < count → same_kind (lexeme bytes).kind k ≡ true → rest ≡ (lexeme bytes).rest → Stops e (f rest)
      → with_front front (others k f (count - i) bytes) ≡ total → Stops e total
  stops Spent rest lt found r h so_far = tt
  stops (Bad left w) rest lt found r h so_far = stopped (Bad left w) rest lt found r h so_far
  stops (TooDeep left) rest lt found r h so_far = stopped (TooDeep left) rest lt found r h so_far

  pub ends : i < count → same_kind (lexeme bytes).kind k ≡ false → with_front front (others k f (count - i) bytes) ≡ total → total ≡ Ok (front, bytes)
  ends lt found so_far =
      let one = at_step lt ∙ ap (λ b. with_front front (others_step b (f (lexeme bytes).rest) (others k f (count - (i + 1))) bytes)) found ∙ nothing_more front bytes in
      sym so_far ∙ one

  pub is_done : count ≤ i → with_front front (others k f (count - i) bytes) ≡ total → total ≡ Ok (front, bytes)
  unfolding others
  is_done le so_far =
      let n : count - i ≡ 0 = omega arith in
      sym so_far ∙ ap (λ m. with_front front (others k f m bytes)) n ∙ nothing_more front bytes

pub begins : (k : Kind) (f : List ℕ → Read Form) (first : Form) (count : ℕ) (bytes : List ℕ) → count ≡ length bytes → with_front (first ∷ []) (others k f (count - 0) bytes) ≡ others_from k f first bytes
begins k f first count bytes e =
    let n : count - 0 ≡ length bytes = omega arith in
    ap (λ m. with_front (first ∷ []) (others k f m bytes)) n

-- texts of a set, at a place behind one of them
abbrev texts_step : Bool → Bool → Lexeme → Read (List ℕ) → (List ℕ → Read (List (List ℕ))) → Read (List (List ℕ))
texts_step brace comma token t more =
    cond brace (Ok ([], token.rest)) (cond comma (t >>= λ y. behind y.0 (more y.1)) (Err (Bad (length token.here) wanted.CommaOrBrace)))

module _ (front : List (List ℕ)) (count i : ℕ) (bytes : List ℕ) (total : Read (List (List ℕ))) where
  texts_at : i < count → with_front front (more_texts (count - i) bytes)
      ≡ with_front front (texts_step (same_kind (lexeme bytes).kind kind.RightBrace) (same_kind (lexeme bytes).kind kind.Comma) (lexeme bytes) (quoted (lexeme bytes).rest) (more_texts (count - (i + 1))))
  unfolding more_texts
  texts_at lt =
      let n : count - i ≡ suc (count - (i + 1)) = omega arith in
      ap (λ m. with_front front (more_texts m bytes)) n

  pub texts_end : (rest : List ℕ) → i < count → same_kind (lexeme bytes).kind kind.RightBrace ≡ true → rest ≡ (lexeme bytes).rest
      → with_front front (more_texts (count - i) bytes) ≡ total → total ≡ Ok (front, rest)
  texts_end rest lt b r so_far =
      let more = more_texts (count - (i + 1)) in
      let one = texts_at lt
      ∙ ap (λ v. with_front front (texts_step v (same_kind (lexeme bytes).kind kind.Comma) (lexeme bytes) (quoted (lexeme bytes).rest) more)) b
      ∙ nothing_more front (lexeme bytes).rest
      ∙ ap (λ (l : List ℕ). Ok (front, l)) (sym r) in
      sym so_far ∙ one

  pub texts_bad : i < count → same_kind (lexeme bytes).kind kind.RightBrace ≡ false → same_kind (lexeme bytes).kind kind.Comma ≡ false
      → with_front front (more_texts (count - i) bytes) ≡ total → total ≡ Err (Bad (length (lexeme bytes).here) wanted.CommaOrBrace)
  texts_bad lt b c so_far =
      let more = more_texts (count - (i + 1)) in
      let one = texts_at lt
      ∙ ap (λ v. with_front front (texts_step v (same_kind (lexeme bytes).kind kind.Comma) (lexeme bytes) (quoted (lexeme bytes).rest) more)) b
      ∙ ap (λ v. with_front front (texts_step false v (lexeme bytes) (quoted (lexeme bytes).rest) more)) c in
      sym so_far ∙ one

  behind_comma : (rest : List ℕ) → i < count → same_kind (lexeme bytes).kind kind.RightBrace ≡ false → same_kind (lexeme bytes).kind kind.Comma ≡ true → rest ≡ (lexeme bytes).rest
      → with_front front (more_texts (count - i) bytes) ≡ with_front front (texts_step false true (lexeme bytes) (quoted rest) (more_texts (count - (i + 1))))
  behind_comma rest lt b c r =
      let more = more_texts (count - (i + 1)) in
      texts_at lt
      ∙ ap (λ v. with_front front (texts_step v (same_kind (lexeme bytes).kind kind.Comma) (lexeme bytes) (quoted (lexeme bytes).rest) more)) b
      ∙ ap (λ v. with_front front (texts_step false v (lexeme bytes) (quoted (lexeme bytes).rest) more)) c
      ∙ ap (λ l. with_front front (texts_step false true (lexeme bytes) (quoted l) more)) (sym r)

  pub texts_go_on : (t rest after : List ℕ) → i < count → same_kind (lexeme bytes).kind kind.RightBrace ≡ false → same_kind (lexeme bytes).kind kind.Comma ≡ true → rest ≡ (lexeme bytes).rest
      → quoted rest ≡ Ok (t, after) → with_front front (more_texts (count - i) bytes) ≡ total → with_front (front ++ t ∷ []) (more_texts (count - (i + 1)) after) ≡ total
  texts_go_on t rest after lt b c r h so_far =
      let more = more_texts (count - (i + 1)) in
      let one = behind_comma rest lt b c r
      ∙ ap (λ y. with_front front (texts_step false true (lexeme bytes) y more)) h
      ∙ regroup front t (more after) in
      sym one ∙ so_far

  texts_stopped : (e : Stop) (rest : List ℕ) → i < count → same_kind (lexeme bytes).kind kind.RightBrace ≡ false → same_kind (lexeme bytes).kind kind.Comma ≡ true → rest ≡ (lexeme bytes).rest
      → quoted rest ≡ Err e → with_front front (more_texts (count - i) bytes) ≡ total → total ≡ Err e
  texts_stopped e rest lt b c r h so_far =
      let more = more_texts (count - (i + 1)) in
      let one = behind_comma rest lt b c r ∙ ap (λ y. with_front front (texts_step false true (lexeme bytes) y more)) h in
      sym so_far ∙ one

  pub texts_stop : (e : Stop) (rest : List ℕ) → i < count → same_kind (lexeme bytes).kind kind.RightBrace ≡ false → same_kind (lexeme bytes).kind kind.Comma ≡ true → rest ≡ (lexeme bytes).rest
      → Stops e (quoted rest) → with_front front (more_texts (count - i) bytes) ≡ total → Stops e total
  texts_stop Spent rest lt b c r h so_far = tt
  texts_stop (Bad left w) rest lt b c r h so_far = texts_stopped (Bad left w) rest lt b c r h so_far
  texts_stop (TooDeep left) rest lt b c r h so_far = texts_stopped (TooDeep left) rest lt b c r h so_far

  pub texts_run_out : count ≤ i → with_front front (more_texts (count - i) bytes) ≡ total → total ≡ Err (Bad (length (lexeme bytes).here) wanted.CommaOrBrace)
  unfolding more_texts
  texts_run_out le so_far =
      let n : count - i ≡ 0 = omega arith in
      sym so_far ∙ ap (λ m. with_front front (more_texts m bytes)) n

pub texts_begin : (first : List ℕ) (count : ℕ) (bytes : List ℕ) → count ≡ length bytes → with_front (first ∷ []) (more_texts (count - 0) bytes) ≡ texts_from first bytes
texts_begin first count bytes e =
    let n : count - 0 ≡ length bytes = omega arith in
    ap (λ m. with_front (first ∷ []) (more_texts m bytes)) n

-- several operands, or none, make a node
pub several : (make : List Form → Form) (fs : List Form) → ¬ (length fs ≡ 1) → make fs ≡ alone_or make fs
several make [] h = refl
several make (f ∷ []) h = absurd (h refl)
several make (f ∷ g ∷ gs) h = refl

-- what can't stand at the front of bytes
pub bad_at : {Y : Type 0} (e : Stop) (here bytes : List ℕ) (w : Wanted) (total : Result Y Stop) → e ≡ Bad (length here) w → here ≡ (lexeme bytes).here → total ≡ Err (Bad (length (lexeme bytes).here) w) → Stops e total
bad_at e here bytes w total is at h =
    let P : Stop → Type 0 = λ s. Stops s total in
    subst P (sym (is ∙ ap (λ l. Bad (length l) w) at)) h

stops_through : {A B : Type 0} (e : Stop) (read : Result A Stop) (f : A → Result B Stop) → Stops e read → Stops e (read >>= f)
stops_through Spent read f h = tt
stops_through (Bad left w) read f h = ap (λ r. r >>= f) h
stops_through (TooDeep left) read f h = ap (λ r. r >>= f) h

stops_along : {A : Type 0} (e : Stop) (r s : Result A Stop) → r ≡ s → Stops e s → Stops e r
stops_along {A} e r s is h =
    let P : Result A Stop → Type 0 = λ x. Stops e x in
    subst P (sym is) h

-- a `!` or a `(` where none may be open any more, and where one may
pub too_deep : (held : (List ℕ → Read Form) → List ℕ → Read Form) (levels : ℕ) (here bytes : List ℕ) → levels ≡ 0 → one_deeper (inside levels) held here bytes ≡ Err (TooDeep (length here))
unfolding inside
too_deep held levels here bytes e = ap (λ n. one_deeper (inside n) held here bytes) e

pub one_more : (held : (List ℕ → Read Form) → List ℕ → Read Form) (levels : ℕ) (here bytes : List ℕ) → 0 < levels → one_deeper (inside levels) held here bytes ≡ held (unary (levels - 1)) bytes
unfolding inside
one_more held levels here bytes lt =
    let n : levels ≡ suc (levels - 1) = omega arith in
    ap (λ m. one_deeper (inside m) held here bytes) n

module _ (levels : ℕ) (here bytes : List ℕ) (lt : 0 < levels) where
  pub negation_read : (x : Form) (rest : List ℕ) → unary (levels - 1) bytes ≡ Ok (x, rest) → one_deeper (inside levels) negation here bytes ≡ Ok (negated x, rest)
  negation_read x rest h = one_more negation levels here bytes lt ∙ ap (λ r. r >>= λ (y : Form × List ℕ). Ok (negated y.0, y.1)) h

  pub negation_stops : (e : Stop) → Stops e (unary (levels - 1) bytes) → Stops e (one_deeper (inside levels) negation here bytes)
  negation_stops e h = stops_along e _ _ (one_more negation levels here bytes lt) (stops_through e (unary (levels - 1) bytes) (λ y. Ok (negated y.0, y.1)) h)

  pub group_read : (x : Form) (held rest : List ℕ) → disjunction (unary (levels - 1)) bytes ≡ Ok (x, held) → mark kind.Close wanted.Close held ≡ Ok rest → one_deeper (inside levels) grouped here bytes ≡ Ok (x, rest)
  group_read x held rest h closed =
      one_more grouped levels here bytes lt
      ∙ ap (λ r. r >>= λ (y : Form × List ℕ). mark kind.Close wanted.Close y.1 >>= λ s. Ok (y.0, s)) h
      ∙ ap (λ r. r >>= λ s. Ok (x, s)) closed

  pub group_stops : (e : Stop) → Stops e (disjunction (unary (levels - 1)) bytes) → Stops e (one_deeper (inside levels) grouped here bytes)
  group_stops e h =
      stops_along e _ _ (one_more grouped levels here bytes lt)
      (stops_through e (disjunction (unary (levels - 1)) bytes) (λ y. mark kind.Close wanted.Close y.1 >>= λ s. Ok (y.0, s)) h)

  pub group_unclosed : (e : Stop) (x : Form) (held : List ℕ) → disjunction (unary (levels - 1)) bytes ≡ Ok (x, held) → Stops e (mark kind.Close wanted.Close held) → Stops e (one_deeper (inside levels) grouped here bytes)
  group_unclosed e x held h s =
      stops_along e _ _
      (one_more grouped levels here bytes lt ∙ ap (λ r. r >>= λ (y : Form × List ℕ). mark kind.Close wanted.Close y.1 >>= λ s. Ok (y.0, s)) h)
      (stops_through e (mark kind.Close wanted.Close held) (λ s. Ok (x, s)) s)

-- a fault, told from the front
pub fault_placed : (n : ℕ) (stop : Stop) (read : Result Form Stop) (e : SelectFault) → e ≡ stop_fault n stop → Stops stop read → e ≢ faults.NoMemory → from_the_front n read ≡ Err e
fault_placed n Spent read e is h ne = absurd (ne is)
fault_placed n (Bad left w) read e is h ne = ap (from_the_front n) h ∙ ap Err (sym is)
fault_placed n (TooDeep left) read e is h ne = ap (from_the_front n) h ∙ ap Err (sym is)
