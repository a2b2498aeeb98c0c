-- Dotted decimal: what `octets` reads is what the grammar puts together.
use Rattle.std.proofs.Common.{◌≡◌, ◌≢◌, ℕ, ◌^◌, ◌<◌, ◌≤◌, List, [], ◌∷◌, ◌++◌, length, map, decimal, refl, sym, ap, ◌∙◌, arith, lit≤, eqb-true, append_assoc, append-nil, le-leb, Some}
use Rattle.std.proofs.lemmas.Bool.{leb-true}
use Rattle.std.proofs.lemmas.Option.{same_Some}
use Rattle.std.proofs.lemmas.Fmt.{decimal_is_IsNumeral}
use Rattle.std.proofs.NetLemmas.Options.{cond_some}
use Rattle.std.specs.Char.{digit_value}
use Rattle.std.specs.Net.Grammar.{IsDotted}
use Rattle.ty_base.specs.Numbers.{read_number}
use Rattle.ty_base.proofs.Digits.{read_decimal, decimal_of_read}
use Rattle.ty_net.specs.Addresses.{◌>>=◌, split_at, each, counted, up_to, octet, octets}
use Rattle.ty_net.proofs.Pieces.{Lacks, lacks_both, lacks_digits, lacks_none, pieces_one, pieces_more, joined, joined-pieces, bind_some}

octet_decimal : (n : ℕ) → n < 256 → octet (decimal n) ≡ Some n
unfolding octet
octet_decimal n h = rw (read_decimal n (omega arith), le-leb n 255 (omega arith))

octet_is : (text : List ℕ) (n : ℕ) → octet text ≡ Some n → (text ≡ decimal n) × (n < 256)
unfolding octet
octet_is text n e =
    let (m, read, kept) = bind_some (read_number text) (up_to 255) n e in
    let (fits, same) = cond_some _ m n kept in
    let small : m ≤ 255 = leb-true m 255 fits in
    (decimal_of_read text m read ∙ ap decimal same, omega arith)

abbrev AllSmall : List ℕ → Type 0
AllSmall [] = Unit {0}
AllSmall (n ∷ ns) = (n < 256) × AllSmall ns

each_octet : (ps : List (List ℕ)) (ns : List ℕ) → each octet ps ≡ Some ns → (ps ≡ map decimal ns) × AllSmall ns
each_octet [] ns e = let same = same_Some [] ns e in rw (← same) (refl, tt)
each_octet (p ∷ ps) ns e =
    let (n, one, rest) = bind_some (octet p) _ ns e in
    let (ms, more, last) = bind_some (each octet ps) _ ns rest in
    let same = same_Some (n ∷ ms) ns last in
    let (text_is, small) = octet_is p n one in
    let (rest_is, all) = each_octet ps ms more in
    rw (← same) (ap (λ x. x ∷ ps) text_is ∙ ap (λ xs. decimal n ∷ xs) rest_is, (small, all))

regroup : (x y z w : List ℕ) → x ++ (46 ∷ (y ++ (46 ∷ (z ++ (46 ∷ (w ++ [])))))) ≡ x ++ (46 ∷ []) ++ y ++ (46 ∷ []) ++ z ++ (46 ∷ []) ++ w
regroup x y z w = simp (append_assoc, append-nil)

four : (text ns : List ℕ) → length ns ≡ 4 → AllSmall ns → text ≡ joined 46 (map decimal ns) → IsDotted text ns
four text [] l s e = absurd (omega arith)
four text (a ∷ []) l s e = absurd (omega arith)
four text (a ∷ b ∷ []) l s e = absurd (omega arith)
four text (a ∷ b ∷ c ∷ []) l s e = absurd (omega arith)
four text (a ∷ b ∷ c ∷ d ∷ []) l s e = record {
  a = a;
  b = b;
  c = c;
  d = d;
  fit = (s.0, s.1.0, s.1.1.0, s.1.1.1.0);
  value = refl;
  spelled = e ∙ regroup (decimal a) (decimal b) (decimal c) (decimal d);
}
four text (a ∷ b ∷ c ∷ d ∷ f ∷ ns) l s e = absurd (omega arith)

pub octets_sound : (text o : List ℕ) → octets text ≡ Some o → IsDotted text o
unfolding octets
octets_sound text o e =
    let (ns, read, kept) = bind_some (each octet (split_at 46 text)) (counted 4) o e in
    let (count, same) = cond_some _ ns o kept in
    let (pieces_are, small) = each_octet (split_at 46 text) ns read in
    rw (← same) (four text ns (eqb-true (length ns) 4 count) small (sym (joined-pieces 46 text) ∙ ap (joined 46) pieces_are))

pub decimal_lacks : (c n : ℕ) → 10 ≤ digit_value c → n < 2 ^ 64 → Lacks c (decimal n)
decimal_lacks c n low h = lacks_digits 10 c (decimal n) low (decimal_is_IsNumeral n h).0.1

lacks_dot : (n : ℕ) → n < 256 → Lacks 46 (decimal n)
lacks_dot n h = decimal_lacks 46 n (lit≤ tt) (omega arith)

parted : (x y z w : List ℕ) → x ++ (46 ∷ []) ++ y ++ (46 ∷ []) ++ z ++ (46 ∷ []) ++ w ≡ x ++ (46 ∷ (y ++ (46 ∷ (z ++ (46 ∷ w)))))
parted x y z w = simp append_assoc

pieces_four : (x y z w : List ℕ) → Lacks 46 x → Lacks 46 y → Lacks 46 z → Lacks 46 w → split_at 46 (x ++ (46 ∷ (y ++ (46 ∷ (z ++ (46 ∷ w)))))) ≡ x ∷ y ∷ z ∷ w ∷ []
pieces_four x y z w hx hy hz hw =
    pieces_more 46 x _ hx ∙ ap (λ ps. x ∷ ps) (pieces_more 46 y _ hy ∙ ap (λ ps. y ∷ ps) (pieces_more 46 z w hz ∙ ap (λ ps. z ∷ ps) (pieces_one 46 w hw)))

each_four : (a b c d : ℕ) → a < 256 → b < 256 → c < 256 → d < 256 → each octet (decimal a ∷ decimal b ∷ decimal c ∷ decimal d ∷ []) ≡ Some (a ∷ b ∷ c ∷ d ∷ [])
each_four a b c d ha hb hc hd = rw (octet_decimal a ha, octet_decimal b hb, octet_decimal c hc, octet_decimal d hd)

pub octets_complete : (text o : List ℕ) → IsDotted text o → octets text ≡ Some o
unfolding octets
octets_complete text o h =
    let (fa, fb, fc, fd) = h.fit in
    let ps = pieces_four (decimal h.a) (decimal h.b) (decimal h.c) (decimal h.d) (lacks_dot h.a fa) (lacks_dot h.b fb) (lacks_dot h.c fc) (lacks_dot h.d fd) in
    let shown : split_at 46 text ≡ decimal h.a ∷ decimal h.b ∷ decimal h.c ∷ decimal h.d ∷ [] = ap (split_at 46) (h.spelled ∙ parted (decimal h.a) (decimal h.b) (decimal h.c) (decimal h.d)) ∙ ps in
    ap (λ x. each octet x >>= counted 4) shown ∙ ap (λ x. x >>= counted 4) (each_four h.a h.b h.c h.d fa fb fc fd) ∙ ap Some (sym h.value)

-- it has dots, and else no byte that is no digit
pub dotted_lacks : (c : ℕ) (text o : List ℕ) → 10 ≤ digit_value c → 46 ≢ c → IsDotted text o → Lacks c text
dotted_lacks c text o low other h =
    let (fa, fb, fc, fd) = h.fit in
    let number : (n : ℕ) → n < 256 → Lacks c (decimal n) = λ n k. decimal_lacks c n low (omega arith) in
    let dot : Lacks c (46 ∷ []) = (other, tt) in
    let one = lacks_both c _ _ (lacks_both c _ _ (number h.a fa) dot) (number h.b fb) in
    let two = lacks_both c _ _ (lacks_both c _ _ one dot) (number h.c fc) in
    rw h.spelled (lacks_both c _ _ (lacks_both c _ _ two dot) (number h.d fd))

pub dotted_lacks_colon : (text o : List ℕ) → IsDotted text o → Lacks 58 text
dotted_lacks_colon text o h = dotted_lacks 58 text o (lit≤ tt) (λ e. omega arith) h

pub dotted_has_dot : (text o : List ℕ) → IsDotted text o → Lacks 46 text → ⊥
dotted_has_dot text o h k =
    let shown = h.spelled ∙ parted (decimal h.a) (decimal h.b) (decimal h.c) (decimal h.d) in
    lacks_none 46 (decimal h.a) _ (rw shown at k)
