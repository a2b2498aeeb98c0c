-- What reads as an address is what the grammar puts together.
use Rattle.std.proofs.Common.{◌≡◌, ℕ, ◌+◌, ◌-◌, ◌<◌, inl, inr, Bool, true, false, List, [], ◌∷◌, ◌++◌, length, replicate, refl, sym, ap, subst, ◌∙◌, arith, lt-ltb, eq-eqb, eqb-true, append_assoc, Option, Some, None}
use Rattle.std.proofs.lemmas.Bool.{ltb-true}
use Rattle.std.proofs.lemmas.Option.{none-some, same_Some}
use Rattle.std.proofs.NetLemmas.Options.{cond_some, map_some}
use Rattle.std.proofs.NetLemmas.Ipv6.{IsDotted-not_colon_hex}
use Rattle.std.specs.Int.{w32, w128, from_be_bytes}
use Rattle.std.specs.Option.{option_map, option_or}
use Rattle.std.specs.Net.Addr.{octets_of}
use Rattle.std.specs.declared.net.ip_addr.IpAddr.{IpAddr}
use Rattle.std.specs.declared.net.ip_addr.IpAddr.TheVariants as Std
use Rattle.std.specs.Net.Grammar.{IsDotted, IsGroups, IsElided, IsColonHex, IsIpText}
use Rattle.ty_base.specs.Numbers.{read_number}
use Rattle.ty_net.specs.declared.address.Ip.{Ip}
use Rattle.ty_net.specs.declared.address.Ip.TheVariants.{V4, V6}
use Rattle.ty_net.specs.Addresses.{◌>>=◌, split_at, counted, octet, octets, hex_group, groups, side, halves, expanded, eight_by, eight_groups, ip_of}
use Rattle.ty_net.specs.Grammar.{IsIp}
use Rattle.ty_net.proofs.Pieces.{joined-pieces, bind_some}
use Rattle.ty_net.proofs.Octets.{octets_sound, octets_complete}
use Rattle.ty_net.proofs.Groups.{groups_complete, groups_sound}
use Rattle.ty_net.proofs.Halves.{halves_sound, halves_none, halves_complete}

side_more : (dotted : Bool) (text : List ℕ) (s : ℕ) (ss : List ℕ) → groups dotted (split_at 58 text) ≡ Some (s ∷ ss) → side dotted text ≡ Some (s ∷ ss)
unfolding hex_group octets octet read_number
side_more false [] s ss e = absurd (none-some _ e)
side_more true [] s ss e = absurd (none-some _ e)
side_more dotted (b ∷ text) s ss e = e

side_complete : (dotted : Bool) (segments text : List ℕ) → IsGroups dotted text segments → side dotted text ≡ Some segments
side_complete dotted [] text h = ap (side dotted) h
side_complete dotted (s ∷ segments) text h = side_more dotted text s segments (groups_complete dotted segments s text h)

groups_are : (dotted : Bool) (text ss : List ℕ) → groups dotted (split_at 58 text) ≡ Some ss → IsGroups dotted text ss
groups_are dotted text ss e =
    let (s, rest, are, spelled) = groups_sound dotted (split_at 58 text) ss e in
    let Q : List ℕ → Type 0 = λ t. IsGroups dotted t (s ∷ rest) in
    subst (λ l. IsGroups dotted text l) (sym are) (subst Q (joined-pieces 58 text) spelled)

side_sound : (dotted : Bool) (text segments : List ℕ) → side dotted text ≡ Some segments → IsGroups dotted text segments
side_sound dotted [] segments e = subst (λ l. IsGroups dotted [] l) (same_Some [] segments e) refl
side_sound dotted (b ∷ text) segments e = groups_are dotted (b ∷ text) segments e

whole_complete : (text segments : List ℕ) → IsGroups true text segments → length segments ≡ 8 → eight_groups text ≡ Some segments
unfolding eight_groups
whole_complete text [] h l = absurd (omega arith)
whole_complete text (s ∷ segments) h l =
    ap (eight_by text) (halves_none true (s ∷ segments) text h)
    ∙ ap (λ o. o >>= counted 8) (groups_complete true segments s text h)
    ∙ rw (eq-eqb (length (s ∷ segments)) 8 l) refl

filled_some : (head tail : List ℕ) → length head + length tail < 8 → expanded head tail ≡ Some (head ++ replicate (8 - length head - length tail) 0 ++ tail)
filled_some head tail h = rw (lt-ltb (length head + length tail) 8 h) refl

elided_complete : (text segments : List ℕ) → IsElided text segments → eight_groups text ≡ Some segments
unfolding eight_groups
elided_complete text segments h =
    let shown : text ≡ h.head_text ++ (58 ∷ 58 ∷ h.tail_text) = h.spelled ∙ append_assoc h.head_text (58 ∷ 58 ∷ []) h.tail_text in
    ap (eight_by text) (ap halves shown ∙ halves_complete false h.head h.head_text h.tail_text h.head_groups)
    ∙ ap (λ o. o >>= λ x. side true h.tail_text >>= λ y. expanded x y) (side_complete false h.head h.head_text h.head_groups)
    ∙ ap (λ o. o >>= λ y. expanded h.head y) (side_complete true h.tail h.tail_text h.tail_groups)
    ∙ filled_some h.head h.tail h.room ∙ ap Some (sym h.value)

pub eight_complete : (text segments : List ℕ) → IsColonHex text segments → eight_groups text ≡ Some segments
eight_complete text segments (inl h) = whole_complete text segments h.0 h.1
eight_complete text segments (inr h) = elided_complete text segments h

by_halves : (text segments : List ℕ) (o : Option (List ℕ × List ℕ)) → halves text ≡ o → eight_by text o ≡ Some segments → IsColonHex text segments
by_halves text segments None found e =
    let (gs, read, kept) = bind_some (groups true (split_at 58 text)) (counted 8) segments e in
    let (count, same) = cond_some _ gs segments kept in
    let whole : IsGroups true text gs × (length gs ≡ 8) = (groups_are true text gs read, eqb-true (length gs) 8 count) in
    let P : List ℕ → Type 0 = λ l. IsColonHex text l in
    subst P same (inl whole)
by_halves text segments (Some h) found e =
    let (head, before, rest) = bind_some (side false h.0) _ segments e in
    let (tail, behind, kept) = bind_some (side true h.1) _ segments rest in
    let (room, same) = cond_some _ (head ++ replicate (8 - length head - length tail) 0 ++ tail) segments kept in
    inr (record {
      head_text = h.0;
      tail_text = h.1;
      head = head;
      tail = tail;
      spelled = halves_sound text h.0 h.1 found ∙ sym (append_assoc h.0 (58 ∷ 58 ∷ []) h.1);
      head_groups = side_sound false h.0 head before;
      tail_groups = side_sound true h.1 tail behind;
      room = ltb-true (length head + length tail) 8 room;
      value = sym same;
    })

pub eight_sound : (text segments : List ℕ) → eight_groups text ≡ Some segments → IsColonHex text segments
unfolding eight_groups
eight_sound text segments e = by_halves text segments (halves text) refl e

pub reads_v4 : (text o : List ℕ) → IsDotted text o → ip_of text ≡ Some (V4 (from_be_bytes w32 o))
unfolding ip_of
reads_v4 text o h = ap (λ x. option_or (option_map (λ o. V4 (from_be_bytes w32 o)) x) (option_map (λ gs. V6 (from_be_bytes w128 (octets_of gs))) (eight_groups text))) (octets_complete text o h)

no_octets : (text segments : List ℕ) → IsColonHex text segments → octets text ≡ None
no_octets text segments h = go (octets text) refl
  where
    go : (r : Option (List ℕ)) → octets text ≡ r → octets text ≡ None
    go None e = e
    go (Some o) e = absurd (IsDotted-not_colon_hex text o segments (octets_sound text o e) h)

pub reads_v6 : (text gs : List ℕ) → IsColonHex text gs → ip_of text ≡ Some (V6 (from_be_bytes w128 (octets_of gs)))
unfolding ip_of
reads_v6 text gs h =
    ap (λ x. option_or (option_map (λ o. V4 (from_be_bytes w32 o)) x) (option_map (λ gs. V6 (from_be_bytes w128 (octets_of gs))) (eight_groups text))) (no_octets text gs h)
    ∙ ap (λ x. option_map (λ gs. V6 (from_be_bytes w128 (octets_of gs))) x) (eight_complete text gs h)

pub every_is_read : (text : List ℕ) (ip : Ip) → IsIp text ip → ip_of text ≡ Some ip
every_is_read text (V4 n) h = reads_v4 text h.0 h.1 ∙ ap (λ x. Some (V4 x)) (sym h.2)
every_is_read text (V6 n) h = reads_v6 text h.0 h.1 ∙ ap (λ x. Some (V6 x)) (sym h.2)

-- what octets and groups give is an address of the grammar
v4_is : (text o : List ℕ) (ip : Ip) → octets text ≡ Some o → V4 (from_be_bytes w32 o) ≡ ip → IsIp text ip
v4_is text o ip read e = let P : Ip → Type 0 = λ x. IsIp text x in subst P e (o, octets_sound text o read, refl)

v6_is : (text gs : List ℕ) (ip : Ip) → eight_groups text ≡ Some gs → V6 (from_be_bytes w128 (octets_of gs)) ≡ ip → IsIp text ip
v6_is text gs ip read e = let P : Ip → Type 0 = λ x. IsIp text x in subst P e (gs, eight_sound text gs read, refl)

pub read_is : (text : List ℕ) (ip : Ip) → ip_of text ≡ Some ip → IsIp text ip
unfolding ip_of
read_is text ip e = go (octets text) refl e
  where
    go : (r : Option (List ℕ)) → octets text ≡ r → option_or (option_map (λ o. V4 (from_be_bytes w32 o)) r) (option_map (λ gs. V6 (from_be_bytes w128 (octets_of gs))) (eight_groups text)) ≡ Some ip → IsIp text ip
    go (Some o) read k = v4_is text o ip read (same_Some _ _ k)
    go None none k = map_some _ (eight_groups text) ip k λ gs read same. v6_is text gs ip read same

pub one_reading : (text : List ℕ) (a b : Ip) → IsIp text a → IsIp text b → a ≡ b
one_reading text a b h k = same_Some a b (sym (every_is_read text a h) ∙ every_is_read text b k)

-- a text that no address of the grammar writes
pub none_is_read : (text : List ℕ) → ((ip : Ip) → IsIp text ip → ⊥) → ip_of text ≡ None
none_is_read text h = go (ip_of text) refl
  where
    go : (r : Option Ip) → ip_of text ≡ r → ip_of text ≡ None
    go None e = e
    go (Some ip) e = absurd (h ip (read_is text ip e))

-- a text that std's grammar gives no address
pub no_address : (text : List ℕ) → ((a : IpAddr) → IsIpText text a → ⊥) → ip_of text ≡ None
no_address text h = none_is_read text refuted
  where
    refuted : (ip : Ip) → IsIp text ip → ⊥
    refuted (V4 n) k = h (Std.V4 (record { octets = k.0 })) k.1
    refuted (V6 n) k = h (Std.V6 (record { segments = k.0 })) k.1
