-- Groups parted by colons: what `groups` reads is what the grammar puts together.
use Rattle.std.proofs.Common.{◌≡◌, ◌≢◌, ℕ, ◌+◌, ◌*◌, ◌≤◌, inl, inr, Bool, true, false, true≢false, List, [], ◌∷◌, ◌++◌, length, refl, sym, ap, subst, ◌∙◌, arith, lit≤, append-nil, lt-ltb, le-leb, Option, Some, None, IsTrue}
use Rattle.std.proofs.lemmas.Bool.{leb-true, ltb-true, and_from, and_parts}
use Rattle.std.proofs.lemmas.Option.{none-some, same_Some}
use Rattle.std.proofs.NetLemmas.Options.{cond_some, map_some}
use Rattle.std.specs.Char.{is_digit, digit_value}
use Rattle.std.specs.List.{list_all}
use Rattle.std.specs.Option.{option_map, option_or}
use Rattle.std.specs.Str.Parse.{AllDigits, digits_value}
use Rattle.std.specs.Net.Addr.{segments_of}
use Rattle.std.specs.Net.Grammar.{IsDotted, IsGroup, IsGroupsAfter}
use Rattle.ty_net.specs.Addresses.{◌>>=◌, split_at, octets, hex_group, last_groups, groups}
use Rattle.ty_net.proofs.Pieces.{Lacks, lacks_both, lacks_digits, pieces_one, pieces_more, some_piece, joined, bind_some}
use Rattle.ty_net.proofs.Octets.{octets_sound, octets_complete, dotted_lacks, dotted_lacks_colon, dotted_has_dot}

hex_from : (text : List ℕ) → AllDigits 16 text → list_all (λ b. is_digit b 16) text ≡ true
hex_from [] h = refl
hex_from (b ∷ text) h = and_from _ _ (lt-ltb (digit_value b) 16 h.0) (hex_from text h.1)

hex_to : (text : List ℕ) → list_all (λ b. is_digit b 16) text ≡ true → AllDigits 16 text
hex_to [] h = tt
hex_to (b ∷ text) h = let (one, more) = and_parts _ _ h in (ltb-true (digit_value b) 16 one, hex_to text more)

pub group_complete : (text : List ℕ) (s : ℕ) → IsGroup text s → hex_group text ≡ Some s
unfolding hex_group
group_complete text s h =
    let some : 1 ≤ length text = omega (arith, h.0.0.0) in
    rw (hex_from text h.0.0.1, le-leb 1 (length text) some, le-leb (length text) 4 h.1) (ap Some h.0.1)

pub group_sound : (text : List ℕ) (s : ℕ) → hex_group text ≡ Some s → IsGroup text s
unfolding hex_group
group_sound text s e =
    let (test, same) = cond_some _ (digits_value 16 text) s e in
    let (front, most) = and_parts _ _ test in
    let (hex, some) = and_parts _ _ front in
    let least : 1 ≤ length text = leb-true 1 (length text) some in
    (((omega arith, hex_to text hex), same), leb-true (length text) 4 most)

pub group_lacks : (text : List ℕ) (s : ℕ) → IsGroup text s → Lacks 58 text
group_lacks text s h = lacks_digits 16 58 text (lit≤ tt) h.0.0.1

dotted_no_group : (text o : List ℕ) → IsDotted text o → hex_group text ≡ None
dotted_no_group text o h = go (hex_group text) refl
  where
    go : (r : Option ℕ) → hex_group text ≡ r → hex_group text ≡ None
    go None e = e
    go (Some s) e = absurd (dotted_has_dot text o h (lacks_digits 16 46 text (lit≤ tt) (group_sound text s e).0.0.1))

last_one : (dotted : Bool) (p : List ℕ) (s : ℕ) → hex_group p ≡ Some s → last_groups dotted p ≡ Some (s ∷ [])
last_one false p s h = rw h
last_one true p s h = rw h

last_two : (dotted : Bool) (p o : List ℕ) → IsTrue dotted → IsDotted p o → last_groups dotted p ≡ Some (segments_of o)
last_two false p o allowed h = absurd (true≢false (sym allowed))
last_two true p o allowed h = rw (dotted_no_group p o h, octets_complete p o h)

groups_step : (dotted : Bool) (p q : List ℕ) (ps qs : List (List ℕ)) (s : ℕ) (ss : List ℕ) → ps ≡ q ∷ qs → hex_group p ≡ Some s → groups dotted ps ≡ Some ss → groups dotted (p ∷ ps) ≡ Some (s ∷ ss)
groups_step dotted p q ps qs s ss e h k =
    let P : List (List ℕ) → Type 0 = λ x. groups dotted x ≡ Some ss → groups dotted (p ∷ x) ≡ Some (s ∷ ss) in
    subst P (sym e) (λ m. ap (λ o. o >>= λ g. groups dotted (q ∷ qs) >>= λ gs. Some (g ∷ gs)) h ∙ ap (λ o. o >>= λ gs. Some (s ∷ gs)) m) k

-- the colon before a group, taken off and put on
pub without_lead : (dotted : Bool) (s : ℕ) (segments rest : List ℕ) → IsGroupsAfter dotted (58 ∷ []) rest (s ∷ segments) → (t : List ℕ) × (rest ≡ 58 ∷ t) × IsGroupsAfter dotted [] t (s ∷ segments)
without_lead dotted s segments rest (inl h) = (h.0 ++ h.1, h.2, inl (h.0, h.1, refl, h.3, h.4))
without_lead dotted s segments rest (inr h) = (h.0, h.3, inr (h.0, h.1, h.2, refl, h.4, h.5))

with_lead : (dotted : Bool) (s : ℕ) (segments t : List ℕ) → IsGroupsAfter dotted [] t (s ∷ segments) → IsGroupsAfter dotted (58 ∷ []) (58 ∷ t) (s ∷ segments)
with_lead dotted s segments t (inl h) = inl (h.0, h.1, ap (λ x. 58 ∷ x) h.2, h.3, h.4)
with_lead dotted s segments t (inr h) = inr (h.0, h.1, h.2, ap (λ x. 58 ∷ x) h.3, h.4, h.5)

pub groups_complete : (dotted : Bool) (segments : List ℕ) (s : ℕ) (text : List ℕ) → IsGroupsAfter dotted [] text (s ∷ segments) → groups dotted (split_at 58 text) ≡ Some (s ∷ segments)
groups_complete dotted [] s text (inl h) =
    let (g, rest, split, is_group, none) = h in
    let shown : text ≡ g = split ∙ ap (λ r. g ++ r) none ∙ append-nil g in
    ap (λ t. groups dotted (split_at 58 t)) shown ∙ ap (groups dotted) (pieces_one 58 g (group_lacks g s is_group)) ∙ last_one dotted g s (group_complete g s is_group)
groups_complete dotted (s' ∷ segments) s text (inl h) =
    let (g, rest, split, is_group, more) = h in
    let (t, led, later) = without_lead dotted s' segments rest more in
    let (q, qs, some) = some_piece 58 t in
    let shown : text ≡ g ++ (58 ∷ t) = split ∙ ap (λ r. g ++ r) led in
    ap (λ t. groups dotted (split_at 58 t)) shown
    ∙ ap (groups dotted) (pieces_more 58 g t (group_lacks g s is_group))
    ∙ groups_step dotted g q (split_at 58 t) qs s (s' ∷ segments) some (group_complete g s is_group) (groups_complete dotted segments s' t later)
groups_complete dotted segments s text (inr h) =
    let (last, o, allowed, split, is_dotted, value) = h in
    ap (λ t. groups dotted (split_at 58 t)) split
    ∙ ap (groups dotted) (pieces_one 58 last (dotted_lacks_colon last o is_dotted))
    ∙ last_two dotted last o allowed is_dotted ∙ ap Some (sym value)

-- the groups that were read, and how they stand in the text
abbrev pub Spelled : Bool → List ℕ → List ℕ → Type 0
Spelled dotted text ss = (s : ℕ) × (rest : List ℕ) × (ss ≡ s ∷ rest) × IsGroupsAfter dotted [] text (s ∷ rest)

one_spelled : (dotted : Bool) (p ss : List ℕ) (g : ℕ) → hex_group p ≡ Some g → g ∷ [] ≡ ss → Spelled dotted (p ++ []) ss
one_spelled dotted p ss g h e = (g, [], sym e, inl (p, [], refl, group_sound p g h, refl))

two_spelled : (p o ss : List ℕ) → octets p ≡ Some o → segments_of o ≡ ss → Spelled true (p ++ []) ss
two_spelled p o ss h e =
    let d = octets_sound p o h in
    (d.a * 256 + d.b, (d.c * 256 + d.d) ∷ [], sym e ∙ ap segments_of d.value, inr (p, o, refl, append-nil p, d, ap segments_of (sym d.value)))

last_sound : (dotted : Bool) (p ss : List ℕ) → last_groups dotted p ≡ Some ss → Spelled dotted (p ++ []) ss
last_sound false p ss e = map_some _ (hex_group p) ss e λ g one same. one_spelled false p ss g one same
last_sound true p ss e = go (hex_group p) refl e
  where
    go : (r : Option ℕ) → hex_group p ≡ r → option_or (option_map (λ g. g ∷ []) r) (option_map segments_of (octets p)) ≡ Some ss → Spelled true (p ++ []) ss
    go (Some g) one k = one_spelled true p ss g one (same_Some _ _ k)
    go None none k = map_some segments_of (octets p) ss k λ o two same. two_spelled p o ss two same

pub groups_sound : (dotted : Bool) (ps : List (List ℕ)) (ss : List ℕ) → groups dotted ps ≡ Some ss → Spelled dotted (joined 58 ps) ss
groups_sound dotted [] ss e = absurd (none-some ss e)
groups_sound dotted (p ∷ []) ss e = last_sound dotted p ss e
groups_sound dotted (p ∷ q ∷ ps) ss e =
    let (g, one, rest) = bind_some (hex_group p) _ ss e in
    let (gs, more, last) = bind_some (groups dotted (q ∷ ps)) _ ss rest in
    let same = same_Some (g ∷ gs) ss last in
    let (s, ts, gs_are, spelled) = groups_sound dotted (q ∷ ps) gs more in
    let later : IsGroupsAfter dotted (58 ∷ []) (58 ∷ joined 58 (q ∷ ps)) gs = subst (λ l. IsGroupsAfter dotted (58 ∷ []) (58 ∷ joined 58 (q ∷ ps)) l) (sym gs_are) (with_lead dotted s ts (joined 58 (q ∷ ps)) spelled) in
    (g, gs, sym same, inl (p, 58 ∷ joined 58 (q ∷ ps), refl, group_sound p g one, later))

-- a byte that is no hexadecimal digit, no colon and no dot stands in no groups
pub groups_lack : (c : ℕ) → 16 ≤ digit_value c → 46 ≢ c → 58 ≢ c → (dotted : Bool) (segments before text : List ℕ) → Lacks c before → IsGroupsAfter dotted before text segments → Lacks c text
groups_lack c hex dot colon dotted [] before text b h = rw h tt
groups_lack c hex dot colon dotted (s ∷ segments) before text b (inl h) =
    let (g, rest, split, is_group, more) = h in
    let later = groups_lack c hex dot colon dotted segments (58 ∷ []) rest (colon, tt) more in
    rw split (lacks_both c (before ++ g) rest (lacks_both c before g b (lacks_digits 16 c g hex is_group.0.0.1)) later)
groups_lack c hex dot colon dotted (s ∷ segments) before text b (inr h) =
    let (last, o, allowed, split, is_dotted, value) = h in
    rw split (lacks_both c before last b (dotted_lacks c last o (omega arith) dot is_dotted))
