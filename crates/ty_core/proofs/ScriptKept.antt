-- A fault that a script has shown stays its fault, whatever comes behind.
use Rattle.std.proofs.Common.{◌≡◌, ◌⊎◌, inl, inr, ◌∙◌, ap, sym, refl, subst, ℕ, ◌+◌, ◌-◌, ◌≤◌, ◌<◌, ◌^◌, Bool, true, false, true≢false, not, List, [], ◌∷◌, ◌++◌, length, append-nil, append_assoc, arith, length-append, leb-true, le-leb}
use Rattle.std.proofs.lemmas.Bool.{lt-ltb, ltb-true}
use Rattle.std.specs.Prelude.{Option, None, Some, if◌then◌else◌, nat_le}
use Rattle.std.specs.Option.{option_or}
use Rattle.std.proofs.lemmas.List.{take-append-le}
use Rattle.ty_base.specs.declared.limits.TheConstants.{INPUT_BYTES, LINE_BYTES}
use Rattle.ty_intake.specs.Lines.{Feed, Cut, cut_lines, cut_of, last_line, lines_of}
use Rattle.ty_intake.specs.Faults.{is_too_long}
use Rattle.ty_intake.specs.steps.Progress.{behind}
use Rattle.ty_intake.proofs.LongerFeeds.{followed, read_part, cut-more, lines-open, lines-ended}
use Rattle.ty_core.specs.Run.{Ran, going, no_state, run_from}
use Rattle.ty_core.specs.Script.{lines_fault, unfinished_line_fault, too_much_fault, script_fault}
use Rattle.ty_core.specs.steps.Scripts.{first_fault_in, happenings_in, still, finished_feed}
use Rattle.ty_core.specs.declared.simulation.SimFault.{SimFault}
use Rattle.ty_core.specs.declared.simulation.SimFault.TheVariants.{LongLine, TooMuch}
use Rattle.ty_core.proofs.ScriptLines.{fault_more, fault_stays}

abbrev cut_part : List ℕ → Cut
cut_part bytes = cut_lines (read_part bytes)

-- what shows first of two

which : (a b : Option SimFault) (f : SimFault) → option_or a b ≡ Some f → (a ≡ Some f) ⊎ ((a ≡ None) × (b ≡ Some f))
which None b f h = inr (refl, h)
which (Some g) b f h = inl h

shows_first : (a b : Option SimFault) (f : SimFault) → a ≡ Some f → option_or a b ≡ Some f
shows_first None b f h = cc
shows_first (Some g) b f h = h

shows_next : (a b : Option SimFault) (f : SimFault) → a ≡ None → b ≡ Some f → option_or a b ≡ Some f
shows_next None b f n h = h
shows_next (Some g) b f n h = cc

if_shown : (b : Bool) (x f : SimFault) → (if b then Some x else None) ≡ Some f → (b ≡ true) × (Some x ≡ Some f)
if_shown true x f h = (refl, h)
if_shown false x f h = cc

if_shows : (b : Bool) (x f : SimFault) → b ≡ true → Some x ≡ Some f → (if b then Some x else None) ≡ Some f
if_shows true x f t h = h
if_shows false x f t h = absurd (true≢false (sym t))

-- what a script shows, by its lines

fault_told : (bytes : List ℕ) (ended : Bool) (ls : List (List ℕ)) → lines_of (record { bytes = bytes; ended = ended }) ≡ ls
    → script_fault (record { bytes = bytes; ended = ended }) ≡ option_or (first_fault_in ls) (option_or (unfinished_line_fault (length (cut_part bytes).lines) (cut_part bytes).rest) (too_much_fault (still bytes)))
unfolding script_fault cut_of
fault_told bytes ended ls e = ap (λ ms. option_or (first_fault_in ms) (option_or (unfinished_line_fault (length (cut_part bytes).lines) (cut_part bytes).rest) (too_much_fault (still bytes)))) e

-- lines that are too long

long_more : (xs ys : List ℕ) → is_too_long xs ≡ true → is_too_long (xs ++ ys) ≡ true
long_more xs ys t =
    let h : LINE_BYTES < length xs = ltb-true LINE_BYTES (length xs) t in
    lt-ltb LINE_BYTES (length (xs ++ ys)) (omega (arith, h, length-append xs ys))

long_shows : (r : Ran) (n : ℕ) (line : List ℕ) (ls : List (List ℕ)) → is_too_long line ≡ true → lines_fault r n (line ∷ ls) ≡ Some (LongLine (n + 1))
unfolding lines_fault
long_shows r n line ls t = simp (t)

last_long : (rest : List ℕ) → is_too_long rest ≡ true → last_line true rest ≡ rest ∷ []
last_long [] t = absurd (true≢false (sym t))
last_long (x ∷ xs) t = refl

-- ---- a line's fault

by_lines : (bytes more : List ℕ) (f : SimFault) → first_fault_in (cut_part bytes).lines ≡ Some f → (ms : List (List ℕ)) → lines_of (finished_feed (bytes ++ more)) ≡ (cut_part bytes).lines ++ ms → script_fault (finished_feed (bytes ++ more)) ≡ Some f
by_lines bytes more f h ms e =
    fault_told (bytes ++ more) true ((cut_part bytes).lines ++ ms) e
    ∙ shows_first (first_fault_in ((cut_part bytes).lines ++ ms)) (option_or (unfinished_line_fault (length (cut_part (bytes ++ more)).lines) (cut_part (bytes ++ more)).rest) (too_much_fault (still (bytes ++ more)))) f
    (fault_stays (cut_part bytes).lines ms 0 (going no_state) f h)

-- the lines of a script that has ended are those that a byte 10 ends, and perhaps one more
lines_from : (bytes : List ℕ) (c : Cut) → cut_part bytes ≡ c → (ms : List (List ℕ)) × (lines_of (finished_feed bytes) ≡ c.lines ++ ms)
lines_from bytes c e =
    elim (nat_le (2 ^ 40) (length bytes)) as (λ v. nat_le (2 ^ 40) (length bytes) ≡ v → (ms : List (List ℕ)) × (lines_of (finished_feed bytes) ≡ c.lines ++ ms)) [
      | true ↦ λ t. ([], lines-open bytes true (ap not t) ∙ ap (λ (k : Cut). k.lines) e ∙ sym (append-nil c.lines))
      | false ↦ λ t. (last_line true c.rest, lines-ended bytes t ∙ ap (λ (k : Cut). k.lines ++ last_line true k.rest) e)
    ] refl

-- those of more bytes are those of a front, and others
lines_behind : (bytes more : List ℕ) → (ms : List (List ℕ)) × (lines_of (finished_feed (bytes ++ more)) ≡ (cut_part bytes).lines ++ ms)
lines_behind bytes more =
    let c : Cut = cut_part bytes in
    let x = cut-more bytes more in
    let b : Cut = behind c.rest x.0.lines x.0.rest in
    let y = lines_from (bytes ++ more) (followed c x.0) x.1 in
    (b.lines ++ y.0, y.1 ∙ append_assoc c.lines b.lines y.0)

-- ---- an unfinished line's fault

module _ (bytes more : List ℕ) (f : SimFault) where
  abbrev before : Cut
  before = cut_part bytes

  abbrev all : Cut
  all = cut_part (bytes ++ more)

  abbrev Kept : Type 0
  Kept = script_fault (finished_feed (bytes ++ more)) ≡ Some f

  -- the lines of the whole show it
  by_all_lines : (ls : List (List ℕ)) → lines_of (finished_feed (bytes ++ more)) ≡ ls → first_fault_in ls ≡ Some f → Kept
  by_all_lines ls e h =
      fault_told (bytes ++ more) true ls e
      ∙ shows_first (first_fault_in ls) (option_or (unfinished_line_fault (length all.lines) all.rest) (too_much_fault (still (bytes ++ more)))) f h

  -- they don't, and the unfinished line does
  by_all_rest : (ls : List (List ℕ)) → lines_of (finished_feed (bytes ++ more)) ≡ ls → first_fault_in ls ≡ None → unfinished_line_fault (length all.lines) all.rest ≡ Some f → Kept
  by_all_rest ls e n h =
      fault_told (bytes ++ more) true ls e
      ∙ shows_next (first_fault_in ls) (option_or (unfinished_line_fault (length all.lines) all.rest) (too_much_fault (still (bytes ++ more)))) f n
      (shows_first (unfinished_line_fault (length all.lines) all.rest) (too_much_fault (still (bytes ++ more))) f h)

  -- a line behind those before that is too long
  long_next : (line : List ℕ) (ms : List (List ℕ)) → first_fault_in before.lines ≡ None → is_too_long line ≡ true → Some (LongLine (length before.lines + 1)) ≡ Some f → first_fault_in (before.lines ++ line ∷ ms) ≡ Some f
  long_next line ms n t e =
      fault_more before.lines (line ∷ ms) 0 (going no_state) n
      ∙ long_shows (run_from (going no_state) (happenings_in before.lines)) (0 + length before.lines) line ms t
      ∙ ap (λ (k : ℕ). Some (LongLine (k + 1))) (let z : 0 + length before.lines ≡ length before.lines = omega arith in z)
      ∙ e

  by_rest : first_fault_in before.lines ≡ None → unfinished_line_fault (length before.lines) before.rest ≡ Some f → Kept
  by_rest n h =
      let r = if_shown (is_too_long before.rest) (LongLine (length before.lines + 1)) f h in
      let x = cut-more bytes more in
      let open_case : (tail : List ℕ) → all ≡ record { lines = before.lines ++ []; rest = before.rest ++ tail } → Kept = λ tail e.
      let same : all ≡ record { lines = before.lines; rest = before.rest ++ tail } = e ∙ ap (λ (ls : List (List ℕ)). record { lines = ls; rest = before.rest ++ tail }) (append-nil before.lines) in
      let long : is_too_long (before.rest ++ tail) ≡ true = long_more before.rest tail r.0 in
      elim (nat_le (2 ^ 40) (length (bytes ++ more))) as (λ v. nat_le (2 ^ 40) (length (bytes ++ more)) ≡ v → Kept) [
        | true ↦ λ t.
            by_all_rest before.lines (lines-open (bytes ++ more) true (ap not t) ∙ ap (λ (k : Cut). k.lines) same) n
            (ap (λ (k : Cut). unfinished_line_fault (length k.lines) k.rest) same ∙ if_shows (is_too_long (before.rest ++ tail)) (LongLine (length before.lines + 1)) f long r.1)
        | false ↦ λ t.
            by_all_lines (before.lines ++ (before.rest ++ tail) ∷ [])
            (lines-ended (bytes ++ more) t ∙ ap (λ (k : Cut). k.lines ++ last_line true k.rest) same ∙ ap (λ (ls : List (List ℕ)). before.lines ++ ls) (last_long (before.rest ++ tail) long))
            (long_next (before.rest ++ tail) [] n long r.1)
      ] refl
      in
      let line_case : (l : List ℕ) (ls : List (List ℕ)) (tail : List ℕ) → all ≡ record { lines = before.lines ++ (before.rest ++ l) ∷ ls; rest = tail } → Kept = λ l ls tail e.
      let y = lines_from (bytes ++ more) all refl in
      by_all_lines (before.lines ++ (before.rest ++ l) ∷ (ls ++ y.0))
      (y.1 ∙ ap (λ (k : Cut). k.lines ++ y.0) e ∙ append_assoc before.lines ((before.rest ++ l) ∷ ls) y.0)
      (long_next (before.rest ++ l) (ls ++ y.0) n (long_more before.rest l r.0) r.1)
      in
      elim (x.0.lines) as (λ ls. x.0.lines ≡ ls → Kept) [
        | [] ↦ λ e. open_case x.0.rest (x.1 ∙ ap (λ (ls : List (List ℕ)). followed before (record { lines = ls; rest = x.0.rest })) e)
        | (l ∷ ls) ↦ λ e. line_case l ls x.0.rest (x.1 ∙ ap (λ (ks : List (List ℕ)). followed before (record { lines = ks; rest = x.0.rest })) e)
      ] refl

  -- ---- too much

  by_end : first_fault_in before.lines ≡ None → unfinished_line_fault (length before.lines) before.rest ≡ None → too_much_fault (still bytes) ≡ Some f → Kept
  by_end n r h =
      let p = if_shown (nat_le INPUT_BYTES (length bytes)) TooMuch f h in
      let many : 2 ^ 40 ≤ length bytes = leb-true (2 ^ 40) (length bytes) p.0 in
      let much : nat_le (2 ^ 40) (length (bytes ++ more)) ≡ true = le-leb (2 ^ 40) (length (bytes ++ more)) (omega (arith, many, length-append bytes more)) in
      let same : all ≡ before = ap cut_lines (take-append-le (2 ^ 40 - 1) bytes more (omega (arith, many))) in
      fault_told (bytes ++ more) true before.lines (lines-open (bytes ++ more) true (ap not much) ∙ ap (λ (k : Cut). k.lines) same)
      ∙ shows_next (first_fault_in before.lines) (option_or (unfinished_line_fault (length all.lines) all.rest) (too_much_fault (still (bytes ++ more)))) f n
      (shows_next (unfinished_line_fault (length all.lines) all.rest) (too_much_fault (still (bytes ++ more))) f (ap (λ (k : Cut). unfinished_line_fault (length k.lines) k.rest) same ∙ r)
      (if_shows (nat_le INPUT_BYTES (length (bytes ++ more))) TooMuch f much p.1))

  kept : script_fault (still bytes) ≡ Some f → Kept
  kept h =
      let told = sym (fault_told bytes false before.lines (lines-open bytes false refl)) ∙ h in
      elim (which (first_fault_in before.lines) (option_or (unfinished_line_fault (length before.lines) before.rest) (too_much_fault (still bytes))) f told) [
        | inl a ↦ let y = lines_behind bytes more in by_lines bytes more f a y.0 y.1
        | inr (n, o) ↦ elim (which (unfinished_line_fault (length before.lines) before.rest) (too_much_fault (still bytes)) f o) [
          | inl a ↦ by_rest n a
          | inr (q, a) ↦ by_end n q a
        ]
      ]

pub script_fault_stays : (read : Feed) (more bytes : List ℕ) (f : SimFault) → read.ended ≡ false → read.bytes ++ more ≡ bytes → script_fault read ≡ Some f → script_fault (finished_feed bytes) ≡ Some f
script_fault_stays read more bytes f going_on e h =
    let P : Bool → Type 0 = λ b. script_fault (record { bytes = read.bytes; ended = b }) ≡ Some f in
    let Q : List ℕ → Type 0 = λ l. script_fault (finished_feed l) ≡ Some f in
    subst Q e (kept read.bytes more f (subst P going_on h))
