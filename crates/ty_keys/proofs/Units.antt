-- Parts as they are written, byte by byte.
use Rattle.std.proofs.Common.{◌≡◌, ℕ, ◌+◌, Bool, true, false, cond, not, ◌&&◌, ◌||◌, ◌==◌, List, [], ◌∷◌, ◌++◌, length, nat_lt, Option, Some, None, Result, Ok, Err, refl, sym, ap, subst, ◌∙◌, arith, inl, inr, ◌⊎◌, true≢false, append_assoc}
use Rattle.std.proofs.lemmas.List.{append-nil}
use borrow.Author.Tests.{eqb-true, ne_eqb, lt-ltb}
use Rattle.std.specs.List.{list_all}
use Rattle.ty_keys.specs.declared.key.KeyFault.{KeyFault}
use Rattle.ty_keys.specs.declared.key.KeyFault.TheVariants.{EmptyPart, BadByte, BadEscape}
use Rattle.ty_keys.specs.Grammar.{escaped, escaped_byte, is_visible, is_plain, is_part}
use Rattle.ty_keys.specs.Faults.{Segment, byte_fault, part_fault, is_code}
use Rattle.ty_keys.specs.Forms.{part_at, unescaped, unless}
use Rattle.ty_keys.specs.steps.Units.{unit_at, escape_at}

abbrev done : {A : Type 0} → A → Result A KeyFault
done x = Ok x

pub and_left : (a b : Bool) → (a && b) ≡ true → a ≡ true
and_left true b h = refl
and_left false b h = absurd (true≢false (sym h))

pub and_right : (a b : Bool) → (a && b) ≡ true → b ≡ true
and_right true b h = h
and_right false b h = absurd (true≢false (sym h))

not_true : (b : Bool) → not b ≡ true → b ≡ false
not_true true h = absurd (true≢false (sym h))
not_true false h = refl

-- ---- one unit

pub record Steps (at : ℕ) (bs : List ℕ) (x : ℕ) (s : Segment) : Type 0 where
  pub fault : byte_fault at bs ≡ byte_fault s.0 s.1
  pub text : unescaped bs ≡ x ∷ unescaped s.1

pub unescaped_plain : (b : ℕ) (bs : List ℕ) → (b == 37) ≡ false → unescaped (b ∷ bs) ≡ b ∷ unescaped bs
unfolding unescaped
unescaped_plain b [] h = refl
unescaped_plain b (c ∷ []) h = refl
unescaped_plain b (c ∷ d ∷ bs) h = ap (λ v. cond v ((cond (d == 53) 37 47) ∷ unescaped bs) (b ∷ unescaped (c ∷ d ∷ bs))) h

pub fault_plain : (at b : ℕ) (bs : List ℕ) → (b == 37) ≡ false → is_plain b ≡ true → byte_fault at (b ∷ bs) ≡ byte_fault (at + 1) bs
unfolding byte_fault
fault_plain at b bs h p =
    ap (λ v. cond v (cond (is_code bs) (byte_fault (at + 1) bs) (Some (BadEscape at))) (cond (is_plain b) (byte_fault (at + 1) bs) (Some (BadByte at)))) h
    ∙ ap (λ v. cond v (byte_fault (at + 1) bs) (Some (BadByte at))) p

pub fault_bad : (at b : ℕ) (bs : List ℕ) → (b == 37) ≡ false → is_plain b ≡ false → byte_fault at (b ∷ bs) ≡ Some (BadByte at)
unfolding byte_fault
fault_bad at b bs h p =
    ap (λ v. cond v (cond (is_code bs) (byte_fault (at + 1) bs) (Some (BadEscape at))) (cond (is_plain b) (byte_fault (at + 1) bs) (Some (BadByte at)))) h
    ∙ ap (λ v. cond v (byte_fault (at + 1) bs) (Some (BadByte at))) p

places : (at : ℕ) → at + 1 + 1 + 1 ≡ at + 1 + 2
places at = omega arith

fault_escape : (at d : ℕ) (bs : List ℕ) → (d ≡ 53) ⊎ (d ≡ 102) → byte_fault at (37 ∷ 50 ∷ d ∷ bs) ≡ byte_fault (at + 1 + 2) bs
unfolding byte_fault
fault_escape at d bs (inl e) = rw e (ap (λ k. byte_fault k bs) (places at))
fault_escape at d bs (inr e) = rw e (ap (λ k. byte_fault k bs) (places at))

fault_no_code : (at : ℕ) (bs : List ℕ) → is_code bs ≡ false → byte_fault at (37 ∷ bs) ≡ Some (BadEscape at)
unfolding byte_fault
fault_no_code at bs h = ap (λ v. cond v (byte_fault (at + 1) bs) (Some (BadEscape at))) h

text_25 : (bs : List ℕ) → unescaped (37 ∷ 50 ∷ 53 ∷ bs) ≡ 37 ∷ unescaped bs
unfolding unescaped
text_25 bs = refl

text_2f : (bs : List ℕ) → unescaped (37 ∷ 50 ∷ 102 ∷ bs) ≡ 47 ∷ unescaped bs
unfolding unescaped
text_2f bs = refl

-- the escapes, by their two bytes
escape_cases : (c d : ℕ) {A : Type 0} (yes25 yes2f neither : A) (Q : A → Type 0)
    → ((c ≡ 50) → (d ≡ 53) → Q yes25) → ((c ≡ 50) → (d ≡ 102) → Q yes2f) → (((c == 50) && ((d == 53) || (d == 102))) ≡ false → Q neither)
    → Q (cond ((c == 50) && (d == 53)) yes25 (cond ((c == 50) && (d == 102)) yes2f neither))
escape_cases c d yes25 yes2f neither Q p q r =
    elim (c == 50) as (λ u. (c == 50) ≡ u → Q (cond (u && (d == 53)) yes25 (cond (u && (d == 102)) yes2f neither))) [
      | true ↦ λ hc.
          elim (d == 53) as (λ v. (d == 53) ≡ v → Q (cond v yes25 (cond (d == 102) yes2f neither))) [
            | true ↦ λ hd. p (eqb-true c 50 hc) (eqb-true d 53 hd)
            | false ↦ λ hd.
                elim (d == 102) as (λ w. (d == 102) ≡ w → Q (cond w yes2f neither)) [
                  | true ↦ λ he. q (eqb-true c 50 hc) (eqb-true d 102 he)
                  | false ↦ λ he. r (ap (λ u. u && ((d == 53) || (d == 102))) hc ∙ ap (λ v. v || (d == 102)) hd ∙ he)
                ] refl
          ] refl
      | false ↦ λ hc. r (ap (λ u. u && ((d == 53) || (d == 102))) hc)
    ] refl

abbrev Unit_gives : ℕ → List ℕ → Result (ℕ × Segment) KeyFault → Type 0
Unit_gives at bs (Ok p) = Steps at bs p.0 p.1
Unit_gives at bs (Err f) = byte_fault at bs ≡ Some f

escape_gives : (at : ℕ) (bs : List ℕ) → Unit_gives at (37 ∷ bs) (escape_at at (at + 1, bs))
escape_gives at [] = fault_no_code at [] refl
escape_gives at (c ∷ []) = fault_no_code at (c ∷ []) refl
escape_gives at (c ∷ d ∷ bs) =
    escape_cases c d (done (37, (at + 1 + 2, bs))) (done (47, (at + 1 + 2, bs))) (Err (BadEscape at)) (Unit_gives at (37 ∷ c ∷ d ∷ bs))
    (λ hc hd. rw (hc, hd) (record { fault = fault_escape at 53 bs (inl refl); text = text_25 bs }))
    (λ hc hd. rw (hc, hd) (record { fault = fault_escape at 102 bs (inr refl); text = text_2f bs }))
    (λ h. fault_no_code at (c ∷ d ∷ bs) h)

unit_gives : (at b : ℕ) (bs : List ℕ) → Unit_gives at (b ∷ bs) (unit_at (at, b ∷ bs))
unit_gives at b bs =
    elim (b == 37) as (λ v. (b == 37) ≡ v → Unit_gives at (b ∷ bs) (cond v (escape_at at (at + 1, bs)) (cond (is_plain b) (Ok (b, (at + 1, bs))) (Err (BadByte at))))) [
      | true ↦ λ h. subst (λ (k : ℕ). Unit_gives at (k ∷ bs) (escape_at at (at + 1, bs))) (sym (eqb-true b 37 h)) (escape_gives at bs)
      | false ↦ λ h.
          elim (is_plain b) as (λ w. is_plain b ≡ w → Unit_gives at (b ∷ bs) (cond w (Ok (b, (at + 1, bs))) (Err (BadByte at)))) [
            | true ↦ λ p. record { fault = fault_plain at b bs h p; text = unescaped_plain b bs h }
            | false ↦ λ p. fault_bad at b bs h p
          ] refl
    ] refl

pub unit_ok : (at : ℕ) (bs : List ℕ) (x : ℕ) (s : Segment) → unit_at (at, bs) ≡ Ok (x, s) → Steps at bs x s
unit_ok at [] x s e = absurd cc
unit_ok at (b ∷ bs) x s e = subst (Unit_gives at (b ∷ bs)) e (unit_gives at b bs)

pub unit_err : (at : ℕ) (bs : List ℕ) (f : KeyFault) → (length bs == 0) ≡ false → unit_at (at, bs) ≡ Err f → byte_fault at bs ≡ Some f
unit_err at [] f l e = absurd (true≢false l)
unit_err at (b ∷ bs) f l e = subst (Unit_gives at (b ∷ bs)) e (unit_gives at b bs)

-- ---- one part

pub part_empty : (at : ℕ) (bs : List ℕ) → (length bs == 0) ≡ true → part_at (at, bs) ≡ Err (EmptyPart at)
unfolding part_at
part_empty at bs h = ap (λ v. unless (cond v (Some (EmptyPart at)) (byte_fault at bs)) (unescaped bs)) h

pub part_is : (at : ℕ) (bs : List ℕ) → (length bs == 0) ≡ false → part_at (at, bs) ≡ unless (byte_fault at bs) (unescaped bs)
unfolding part_at
part_is at bs h = ap (λ v. unless (cond v (Some (EmptyPart at)) (byte_fault at bs)) (unescaped bs)) h

pub part_err : (at : ℕ) (bs : List ℕ) (f : KeyFault) → (length bs == 0) ≡ false → byte_fault at bs ≡ Some f → part_at (at, bs) ≡ Err f
part_err at bs f h e = part_is at bs h ∙ ap (λ o. unless o (unescaped bs)) e

pub part_ok : (at : ℕ) (bs text : List ℕ) → (length bs == 0) ≡ false → byte_fault at bs ≡ None → unescaped bs ≡ text → part_at (at, bs) ≡ Ok text
part_ok at bs text h e t = part_is at bs h ∙ ap (λ o. unless o (unescaped bs)) e ∙ ap (λ x. done x) t

pub nothing_left : (at : ℕ) (bs : List ℕ) → (length bs == 0) ≡ true → (byte_fault at bs ≡ None) × (unescaped bs ≡ [])
unfolding byte_fault unescaped
nothing_left at [] h = (refl, refl)
nothing_left at (b ∷ bs) h = absurd (omega (arith, eqb-true (length (b ∷ bs)) 0 h))

-- one byte more of a text
pub pushed : (w t t' rest after e : List ℕ) (ch b : ℕ) → w ≡ t ++ rest → rest ≡ b ∷ after → t' ≡ t ++ e → e ≡ ch ∷ [] → ch ≡ b → w ≡ t' ++ after
pushed w t t' rest after e ch b p q r s u =
    p ∙ ap (λ x. t ++ x) q
    ∙ sym (ap (λ x. x ++ after) (r ∙ ap (λ x. t ++ x) (s ∙ ap (λ x. x ∷ []) u)) ∙ append_assoc t (b ∷ []) after)

pub all_pushed : (w t rest r : List ℕ) → w ≡ t ++ rest → rest ≡ [] → r ≡ t → w ≡ r
all_pushed w t rest r p q s = p ∙ ap (λ x. t ++ x) q ∙ append-nil t ∙ sym s

-- ---- what was read is written so

abbrev some : {A : Type 0} → A → Option A
some x = Some x

pub record Rounds (bs : List ℕ) : Type 0 where
  pub text : escaped (unescaped bs) ≡ bs
  pub visible : list_all is_visible (unescaped bs) ≡ true

escaped_plain : (b : ℕ) → (b == 37) ≡ false → (b == 47) ≡ false → escaped_byte b ≡ b ∷ []
escaped_plain b h g = ap (λ v. cond v (37 ∷ 50 ∷ 53 ∷ []) (cond (b == 47) (37 ∷ 50 ∷ 102 ∷ []) (b ∷ []))) h ∙ ap (λ v. cond v (37 ∷ 50 ∷ 102 ∷ []) (b ∷ [])) g

plain_visible : (b : ℕ) → is_plain b ≡ true → is_visible b ≡ true
plain_visible b h = and_left (is_visible b) (not (b == 37)) (and_left (is_visible b && not (b == 37)) (not (b == 47)) h)

plain_no_slash : (b : ℕ) → is_plain b ≡ true → (b == 47) ≡ false
plain_no_slash b h = not_true (b == 47) (and_right (is_visible b && not (b == 37)) (not (b == 47)) h)

rounds_plain : (b : ℕ) (bs : List ℕ) → (b == 37) ≡ false → is_plain b ≡ true → Rounds bs → Rounds (b ∷ bs)
rounds_plain b bs h p r = record {
  text = ap escaped (unescaped_plain b bs h) ∙ ap (λ e. e ++ escaped (unescaped bs)) (escaped_plain b h (plain_no_slash b p)) ∙ ap (λ t. b ∷ t) r.text;
  visible = ap (list_all is_visible) (unescaped_plain b bs h) ∙ ap (λ v. v && list_all is_visible (unescaped bs)) (plain_visible b p) ∙ r.visible;
}

rounds_25 : (bs : List ℕ) → Rounds bs → Rounds (37 ∷ 50 ∷ 53 ∷ bs)
rounds_25 bs r = record {
  text = ap escaped (text_25 bs) ∙ ap (λ t. 37 ∷ 50 ∷ 53 ∷ t) r.text;
  visible = ap (list_all is_visible) (text_25 bs) ∙ r.visible;
}

rounds_2f : (bs : List ℕ) → Rounds bs → Rounds (37 ∷ 50 ∷ 102 ∷ bs)
rounds_2f bs r = record {
  text = ap escaped (text_2f bs) ∙ ap (λ t. 37 ∷ 50 ∷ 102 ∷ t) r.text;
  visible = ap (list_all is_visible) (text_2f bs) ∙ r.visible;
}

some_is_none : (f : KeyFault) → some f ≡ None → ⊥
some_is_none f h = cc

-- what a first byte without a fault is
FirstIs : ℕ → ℕ → List ℕ → Type 0
FirstIs at b bs = ((b ≡ 37) × (is_code bs ≡ true)) ⊎ (((b == 37) ≡ false) × (is_plain b ≡ true) × (byte_fault (at + 1) bs ≡ None))

first_is : (at b : ℕ) (bs : List ℕ) → byte_fault at (b ∷ bs) ≡ None → FirstIs at b bs
unfolding FirstIs
first_is at b bs h =
    elim (b == 37) as (λ v. (b == 37) ≡ v → FirstIs at b bs) [
      | true ↦ λ e.
          elim (is_code bs) as (λ w. is_code bs ≡ w → FirstIs at b bs) [
            | true ↦ λ g. inl (eqb-true b 37 e, g)
            | false ↦ λ g. absurd (some_is_none (BadEscape at) (sym (fault_no_code at bs g) ∙ sym (ap (λ k. byte_fault at (k ∷ bs)) (eqb-true b 37 e)) ∙ h))
          ] refl
      | false ↦ λ e.
          elim (is_plain b) as (λ w. is_plain b ≡ w → FirstIs at b bs) [
            | true ↦ λ g. inr (e, g, sym (fault_plain at b bs e g) ∙ h)
            | false ↦ λ g. absurd (some_is_none (BadByte at) (sym (fault_bad at b bs e g) ∙ h))
          ] refl
    ] refl

code_is : (c d : ℕ) → ((c == 50) && ((d == 53) || (d == 102))) ≡ true → (c ≡ 50) × ((d ≡ 53) ⊎ (d ≡ 102))
code_is c d h =
    let two = and_right (c == 50) ((d == 53) || (d == 102)) h in (
      eqb-true c 50 (and_left (c == 50) ((d == 53) || (d == 102)) h),
      elim (d == 53) as (λ v. (d == 53) ≡ v → (v || (d == 102)) ≡ true → (d ≡ 53) ⊎ (d ≡ 102)) [
        | true ↦ λ e g. inl (eqb-true d 53 e)
        | false ↦ λ e g. inr (eqb-true d 102 g)
      ] refl two,
    )

no_code : {A : Type 0} → false ≡ true → A
no_code h = absurd (true≢false (sym h))

pub rounds : (at : ℕ) (bs : List ℕ) → byte_fault at bs ≡ None → Rounds bs
unfolding FirstIs unescaped
rounds at [] h = record { text = refl; visible = refl }
rounds at (b ∷ []) h = elim (first_is at b [] h) [
  | inl e ↦ no_code e.1
  | inr e ↦ rounds_plain b [] e.0 e.1 (rounds (at + 1) [] e.2)
]
rounds at (b ∷ c ∷ []) h = elim (first_is at b (c ∷ []) h) [
  | inl e ↦ no_code e.1
  | inr e ↦ rounds_plain b (c ∷ []) e.0 e.1 (rounds (at + 1) (c ∷ []) e.2)
]
rounds at (b ∷ c ∷ d ∷ bs) h = elim (first_is at b (c ∷ d ∷ bs) h) [
  | inl e ↦
      let k = code_is c d e.1 in
      elim k.1 [
        | inl f ↦
            let same : b ∷ c ∷ d ∷ bs ≡ 37 ∷ 50 ∷ 53 ∷ bs = ap (λ x. x ∷ c ∷ d ∷ bs) e.0 ∙ ap (λ x. 37 ∷ x ∷ d ∷ bs) k.0 ∙ ap (λ x. 37 ∷ 50 ∷ x ∷ bs) f in
            subst Rounds (sym same) (rounds_25 bs (rounds (at + 1 + 2) bs (sym (fault_escape at 53 bs (inl refl)) ∙ sym (ap (byte_fault at) same) ∙ h)))
        | inr f ↦
            let same : b ∷ c ∷ d ∷ bs ≡ 37 ∷ 50 ∷ 102 ∷ bs = ap (λ x. x ∷ c ∷ d ∷ bs) e.0 ∙ ap (λ x. 37 ∷ x ∷ d ∷ bs) k.0 ∙ ap (λ x. 37 ∷ 50 ∷ x ∷ bs) f in
            subst Rounds (sym same) (rounds_2f bs (rounds (at + 1 + 2) bs (sym (fault_escape at 102 bs (inr refl)) ∙ sym (ap (byte_fault at) same) ∙ h)))
      ]
  | inr e ↦ rounds_plain b (c ∷ d ∷ bs) e.0 e.1 (rounds (at + 1) (c ∷ d ∷ bs) e.2)
]

nonempty : (bs : List ℕ) → (length bs == 0) ≡ false → nat_lt 0 (length (unescaped bs)) ≡ true
unfolding unescaped
nonempty [] h = absurd (true≢false h)
nonempty (b ∷ []) h = refl
nonempty (b ∷ c ∷ []) h = lt-ltb 0 (length (b ∷ c ∷ [])) (omega arith)
nonempty (b ∷ c ∷ d ∷ bs) h =
    elim (b == 37) as (λ v. nat_lt 0 (length (cond v ((cond (d == 53) 37 47) ∷ unescaped bs) (b ∷ unescaped (c ∷ d ∷ bs)))) ≡ true) [
      | true ↦ lt-ltb 0 (length ((cond (d == 53) 37 47) ∷ unescaped bs)) (omega arith)
      | false ↦ lt-ltb 0 (length (b ∷ unescaped (c ∷ d ∷ bs))) (omega arith)
    ]

pub record Part_is (s : Segment) (x : List ℕ) : Type 0 where
  pub text : escaped x ≡ s.1
  pub part : is_part x ≡ true
  pub clean : part_fault s ≡ None

-- what a part that is read is, and what fault one that isn't has
pub PartGives : Segment → Result (List ℕ) KeyFault → Type 0
PartGives s (Ok x) = Part_is s x
PartGives s (Err f) = part_fault s ≡ Some f

part_gives : (at : ℕ) (bs : List ℕ) → PartGives (at, bs) (part_at (at, bs))
unfolding PartGives part_at
part_gives at bs =
    elim (length bs == 0) as (λ v. (length bs == 0) ≡ v → PartGives (at, bs) (unless (cond v (Some (EmptyPart at)) (byte_fault at bs)) (unescaped bs))) [
      | true ↦ λ e. ap (λ v. cond v (Some (EmptyPart at)) (byte_fault at bs)) e
      | false ↦ λ e.
          elim (byte_fault at bs) as (λ o. byte_fault at bs ≡ o → PartGives (at, bs) (unless o (unescaped bs))) [
            | None ↦ λ g.
                let r = rounds at bs g in
                record {
                  text = r.text;
                  part = ap (λ v. v && list_all is_visible (unescaped bs)) (nonempty bs e) ∙ r.visible;
                  clean = ap (λ v. cond v (Some (EmptyPart at)) (byte_fault at bs)) e ∙ g;
                }
            | Some f ↦ λ g. ap (λ v. cond v (Some (EmptyPart at)) (byte_fault at bs)) e ∙ g
          ] refl
    ] refl

pub part_takes : (s : Segment) (x : List ℕ) → part_at s ≡ Ok x → Part_is s x
unfolding PartGives
part_takes s x h = subst (PartGives s) h (part_gives s.0 s.1)

pub part_fails : (s : Segment) (f : KeyFault) → part_at s ≡ Err f → part_fault s ≡ Some f
unfolding PartGives
part_fails s f h = subst (PartGives s) h (part_gives s.0 s.1)

-- ---- what is written is read again

byte_cases : (b : ℕ) (P : ℕ → Type 0) → P 37 → P 47 → ((b == 37) ≡ false → (b == 47) ≡ false → P b) → P b
byte_cases b P p q r =
    elim (b == 37) as (λ v. (b == 37) ≡ v → P b) [
      | true ↦ λ h. subst P (sym (eqb-true b 37 h)) p
      | false ↦ λ h.
          elim (b == 47) as (λ v. (b == 47) ≡ v → P b) [
            | true ↦ λ g. subst P (sym (eqb-true b 47 g)) q
            | false ↦ λ g. r h g
          ] refl
    ] refl

pub unescaped_escaped : (p : List ℕ) → unescaped (escaped p) ≡ p
unfolding unescaped
unescaped_escaped [] = refl
unescaped_escaped (b ∷ p) =
    byte_cases b (λ b. unescaped (escaped (b ∷ p)) ≡ b ∷ p)
    (text_25 (escaped p) ∙ ap (λ t. 37 ∷ t) (unescaped_escaped p))
    (text_2f (escaped p) ∙ ap (λ t. 47 ∷ t) (unescaped_escaped p))
    (λ h g. ap (λ e. unescaped (e ++ escaped p)) (escaped_plain b h g) ∙ unescaped_plain b (escaped p) h ∙ ap (λ t. b ∷ t) (unescaped_escaped p))

fault_escaped : (at : ℕ) (p : List ℕ) → list_all is_visible p ≡ true → byte_fault at (escaped p) ≡ None
unfolding byte_fault
fault_escaped at [] h = refl
fault_escaped at (b ∷ p) h =
    let seen : is_visible b ≡ true = and_left (is_visible b) (list_all is_visible p) h in
    let rest = and_right (is_visible b) (list_all is_visible p) h in
    byte_cases b (λ b. is_visible b ≡ true → byte_fault at (escaped (b ∷ p)) ≡ None)
    (λ _. fault_escape at 53 (escaped p) (inl refl) ∙ fault_escaped (at + 1 + 2) p rest)
    (λ _. fault_escape at 102 (escaped p) (inr refl) ∙ fault_escaped (at + 1 + 2) p rest)
    (λ h g v.
    let plain : is_plain b ≡ true = ap (λ a. a && not (b == 37) && not (b == 47)) v ∙ ap (λ a. not a && not (b == 47)) h ∙ ap not g in
    ap (λ e. byte_fault at (e ++ escaped p)) (escaped_plain b h g) ∙ fault_plain at b (escaped p) h plain ∙ fault_escaped (at + 1) p rest)
    seen

escaped_full : (p : List ℕ) → is_part p ≡ true → (length (escaped p) == 0) ≡ false
escaped_full [] h = absurd (true≢false (sym h))
escaped_full (b ∷ p) h =
    byte_cases b (λ b. (length (escaped (b ∷ p)) == 0) ≡ false)
    (ne_eqb (length (escaped (37 ∷ p))) 0 (λ e. omega arith))
    (ne_eqb (length (escaped (47 ∷ p))) 0 (λ e. omega arith))
    (λ h g. ap (λ e. length (e ++ escaped p) == 0) (escaped_plain b h g) ∙ ne_eqb (length (b ∷ escaped p)) 0 (λ e. omega arith))

pub part_again : (at : ℕ) (p : List ℕ) → is_part p ≡ true → part_at (at, escaped p) ≡ Ok p
part_again at p h = part_ok at (escaped p) p (escaped_full p h) (fault_escaped at p (and_right (nat_lt 0 (length p)) (list_all is_visible p) h)) (unescaped_escaped p)

-- no slash stands in it
pub escaped_clear : (p : List ℕ) → list_all (λ b. not (b == 47)) (escaped p) ≡ true
escaped_clear [] = refl
escaped_clear (b ∷ p) =
    byte_cases b (λ b. list_all (λ b. not (b == 47)) (escaped (b ∷ p)) ≡ true)
    (escaped_clear p)
    (escaped_clear p)
    (λ h g. ap (λ e. list_all (λ b. not (b == 47)) (e ++ escaped p)) (escaped_plain b h g) ∙ ap (λ v. not v && list_all (λ b. not (b == 47)) (escaped p)) g ∙ escaped_clear p)
