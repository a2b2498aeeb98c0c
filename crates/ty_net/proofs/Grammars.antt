-- What reads as a network or as ports is what the grammars put together.
use Rattle.std.proofs.Common.{◌≡◌, ℕ, ◌^◌, ◌<◌, ◌≤◌, inl, inr, nat_lt, true, false, cond, List, [], ◌∷◌, ◌++◌, length, decimal, refl, sym, ap, ◌∙◌, arith, lit≤, lt-ltb, le-ltb, le-leb, append_assoc, Option, Some, None, Result, Ok, Err}
use Rattle.std.proofs.lemmas.Bool.{ltb-true, ltb-false, leb-true}
use Rattle.std.proofs.lemmas.Fmt.{decimal_nonempty}
use Rattle.std.proofs.lemmas.Option.{none-some, same_Some}
use Rattle.std.proofs.NetLemmas.Options.{cond_some}
use Rattle.std.specs.List.{list_any, before_first, after_first}
use Rattle.std.specs.Option.{ok_or}
use Rattle.std.specs.Result.{result_ok}
use Rattle.ty_base.specs.Numbers.{read_number}
use Rattle.ty_base.proofs.Digits.{read_decimal, decimal_of_read}
use Rattle.ty_net.specs.declared.address.Ip.{Ip}
use Rattle.ty_net.specs.declared.address.Ip.TheVariants.{V4, V6}
use Rattle.ty_net.specs.declared.cidr.Cidr.{Cidr}
use Rattle.ty_net.specs.declared.ports.TheConstants.{GREATEST_PORT}
use Rattle.ty_net.specs.declared.ports.PortRange.{PortRange}
use Rattle.ty_net.specs.declared.fault.NetFault.{NetFault}
use Rattle.ty_net.specs.declared.fault.NetFault.TheVariants.{BadIp, Reversed}
use Rattle.ty_net.specs.Addresses.{◌>>=◌, up_to, ip_of}
use Rattle.ty_net.specs.Cidrs.{bits_of, prefix_of, with_prefix, with_address, cidr_reading, cidr_of}
use Rattle.ty_net.specs.Ports.{port_of, range_of, ports_reading, ports_of}
use Rattle.ty_net.specs.Grammar.{IsIp, IsCidr, IsPair, IsPort, IsPorts}
use Rattle.ty_net.proofs.Pieces.{Lacks, bind_some}
use Rattle.ty_net.proofs.Octets.{decimal_lacks, dotted_lacks}
use Rattle.ty_net.proofs.Groups.{groups_lack}
use Rattle.ty_net.proofs.Places.{is_byte, before_is, after_is, cut_back, has_none, has_one}
use Rattle.ty_net.proofs.Networks.{by_length, two_ports, one_port}
use Rattle.ty_net.proofs.Readings.{read_is, every_is_read}
use Rattle.ty_net.proofs.Pieces.{lacks_both}

-- an address has no `/`
ip_lacks_slash : (text : List ℕ) (ip : Ip) → IsIp text ip → Lacks 47 text
ip_lacks_slash text (V4 n) h = dotted_lacks 47 text h.0 (lit≤ tt) (λ e. omega arith) h.1
ip_lacks_slash text (V6 n) (gs, inl h, value) = groups_lack 47 (lit≤ tt) (λ e. omega arith) (λ e. omega arith) true gs [] text tt h.0
ip_lacks_slash text (V6 n) (gs, inr h, value) =
    let head = groups_lack 47 (lit≤ tt) (λ e. omega arith) (λ e. omega arith) false h.head [] h.head_text tt h.head_groups in
    let tail = groups_lack 47 (lit≤ tt) (λ e. omega arith) (λ e. omega arith) true h.tail [] h.tail_text tt h.tail_groups in
    let colons : Lacks 47 (58 ∷ 58 ∷ []) = (λ e. omega arith, (λ e. omega arith, tt)) in
    rw h.spelled (lacks_both 47 (h.head_text ++ (58 ∷ 58 ∷ [])) h.tail_text (lacks_both 47 h.head_text (58 ∷ 58 ∷ []) head colons) tail)

-- a number of at most m, and its digits
number_is : (m : ℕ) (text : List ℕ) (n : ℕ) → (read_number text >>= up_to m) ≡ Some n → (text ≡ decimal n) × (n ≤ m)
number_is m text n e =
    let (k, read, kept) = bind_some (read_number text) (up_to m) n e in
    let (fits, same) = cond_some _ k n kept in
    let most : k ≤ m = leb-true k m fits in
    (decimal_of_read text k read ∙ ap decimal same, omega arith)

number_read : (m n : ℕ) → n ≤ m → m < 2 ^ 64 → (read_number (decimal n) >>= up_to m) ≡ Some n
number_read m n h l = rw (read_decimal n (omega arith), le-leb n m h)

bits_fit : (ip : Ip) → bits_of ip < 2 ^ 64
bits_fit (V4 n) = omega arith
bits_fit (V6 n) = omega arith

-- Networks

network_parts : (o : Option Ip) (back : List ℕ) (c : Cidr) → result_ok (with_address o back) ≡ Some c → (o ≡ Some c.ip) × (prefix_of c.ip back ≡ Some c.len)
network_parts None back c e = absurd (none-some c e)
network_parts (Some ip) back c e = go (prefix_of ip back) refl e
  where
    go : (r : Option ℕ) → prefix_of ip back ≡ r → result_ok (with_prefix ip r) ≡ Some c → (Some ip ≡ Some c.ip) × (prefix_of c.ip back ≡ Some c.len)
    go None read k = absurd (none-some c k)
    go (Some n) read k =
        let same = same_Some _ c k in
        let ip_is : ip ≡ c.ip = ap (λ x. x.ip) same in
        (ap Some ip_is, ap (λ x. prefix_of x back) (sym ip_is) ∙ read ∙ ap (λ x. Some x.len) same)

pub network_is : (text : List ℕ) (c : Cidr) → cidr_of text ≡ Some c → IsCidr text c
unfolding cidr_reading
network_is text c e =
    let front : List ℕ = before_first (is_byte 47) text in
    let back : List ℕ = after_first (is_byte 47) text in
    let (address, read) = network_parts (ip_of front) back c e in
    let (digits, fits) = number_is (bits_of c.ip) back c.len read in
    let small = bits_fit c.ip in
    let some : 0 < length back = omega (arith, ap length digits, decimal_nonempty c.len (omega arith)) in
    record {
      front = front;
      address = read_is front c.ip address;
      fits = fits;
      spelled = cut_back 47 text some ∙ ap (λ t. front ++ (47 ∷ t)) digits ∙ sym (append_assoc front (47 ∷ []) (decimal c.len));
    }

pub network_read : (text : List ℕ) (c : Cidr) → IsCidr text c → cidr_of text ≡ Some c
network_read text c h =
    let lacks = ip_lacks_slash h.front c.ip h.address in
    let whole : text ≡ h.front ++ (47 ∷ decimal c.len) = h.spelled ∙ append_assoc h.front (47 ∷ []) (decimal c.len) in
    let parts = by_length (h.front ++ (47 ∷ decimal c.len)) h.front (decimal c.len) c.ip (Some c.len) (before_is 47 h.front (decimal c.len) lacks) (after_is 47 h.front (decimal c.len) lacks) (sym (ap (λ o. ok_or o BadIp) (every_is_read h.front c.ip h.address))) (sym (number_read (bits_of c.ip) c.len h.fits (bits_fit c.ip))) in
    ap cidr_of whole ∙ sym (ap result_ok parts)

pub network_once : (text : List ℕ) (a b : Cidr) → IsCidr text a → IsCidr text b → a ≡ b
network_once text a b h k = same_Some a b (sym (network_read text a h) ∙ network_read text b k)

-- Ports

port_is : (text : List ℕ) (n : ℕ) → port_of text ≡ Some n → (text ≡ decimal n) × (n ≤ GREATEST_PORT)
port_is text n e = let (digits, fits) = number_is GREATEST_PORT text n e in (digits, omega arith)

port_read : (n : ℕ) → n ≤ GREATEST_PORT → port_of (decimal n) ≡ Some n
port_read n h = number_read GREATEST_PORT n (omega arith) (omega arith)

-- two ports in order, or out of it
in_order : (n m : ℕ) → n ≤ m → range_of (Some n) (Some m) ≡ Ok (record { low = n; high = m })
in_order n m h = rw (le-ltb m n h)

out_of_order : (n m : ℕ) → m < n → range_of (Some n) (Some m) ≡ Err (Reversed n m)
out_of_order n m h = rw (lt-ltb m n h)

range_parts : (a b : Option ℕ) (r : PortRange) → result_ok (range_of a b) ≡ Some r → (a ≡ Some r.low) × (b ≡ Some r.high) × (r.low ≤ r.high)
range_parts None b r e = absurd (none-some r e)
range_parts (Some n) None r e = absurd (none-some r e)
range_parts (Some n) (Some m) r e =
    elim (nat_lt m n) as (λ v. nat_lt m n ≡ v → result_ok {T = PortRange} (cond v (Err (Reversed n m)) (Ok (record { low = n; high = m }))) ≡ Some r → (Some n ≡ Some r.low) × (Some m ≡ Some r.high) × (r.low ≤ r.high)) [
      | true ↦ λ test k. absurd (none-some r k)
      | false ↦ λ test k.
          let same = same_Some _ r k in
          let low : n ≡ r.low = ap (λ x. x.low) same in
          let high : m ≡ r.high = ap (λ x. x.high) same in
          let order : n ≤ m = ltb-false m n test in
          (ap Some low, ap Some high, omega arith)
    ] refl e

reversed_parts : (a b : Option ℕ) (n m : ℕ) → range_of a b ≡ Err (Reversed n m) → (a ≡ Some n) × (b ≡ Some m) × (m < n)
reversed_parts None b n m e = absurd (cc)
reversed_parts (Some x) None n m e = absurd (cc)
reversed_parts (Some x) (Some y) n m e =
    let bad : Result PortRange NetFault = Err (Reversed x y) in
    elim (nat_lt y x) as (λ v. nat_lt y x ≡ v → cond v bad (Ok (record { low = x; high = y })) ≡ Err (Reversed n m) → (Some x ≡ Some n) × (Some y ≡ Some m) × (m < n)) [
      | true ↦ λ test k.
          let first : x ≡ n = cc in
          let second : y ≡ m = cc in
          let order : y < x = ltb-true y x test in
          (ap Some first, ap Some second, omega arith)
      | false ↦ λ test k. absurd (cc)
    ] refl e

-- two ports that were read round the first `:`
pair_is : (text : List ℕ) (n m : ℕ) → port_of (before_first (is_byte 58) text) ≡ Some n → port_of (after_first (is_byte 58) text) ≡ Some m → IsPair text n m
pair_is text n m one two =
    let (front, first) = port_is (before_first (is_byte 58) text) n one in
    let (back, second) = port_is (after_first (is_byte 58) text) m two in
    let some : 0 < length (after_first (is_byte 58) text) = omega (arith, ap length back, decimal_nonempty m (omega arith)) in
    record {
      first = first;
      second = second;
      spelled = cut_back 58 text some ∙ ap (λ t. t ++ (58 ∷ after_first (is_byte 58) text)) front ∙ ap (λ t. decimal n ++ (58 ∷ t)) back ∙ sym (append_assoc (decimal n) (58 ∷ []) (decimal m));
    }

pair_reads : (text : List ℕ) (n m : ℕ) → IsPair text n m → ports_reading text ≡ range_of (Some n) (Some m)
pair_reads text n m h =
    let lacks : Lacks 58 (decimal n) = decimal_lacks 58 n (lit≤ tt) (omega (arith, h.first)) in
    let whole : text ≡ decimal n ++ (58 ∷ decimal m) = h.spelled ∙ append_assoc (decimal n) (58 ∷ []) (decimal m) in
    let parts = two_ports (decimal n ++ (58 ∷ decimal m)) (decimal n) (decimal m) (has_one 58 (decimal n) (decimal m) lacks) (before_is 58 (decimal n) (decimal m) lacks) (after_is 58 (decimal n) (decimal m) lacks) in
    ap ports_reading whole ∙ sym parts ∙ ap (λ o. range_of o (port_of (decimal m))) (port_read n h.first) ∙ ap (range_of (Some n)) (port_read m h.second)

port_reads : (text : List ℕ) (n : ℕ) → IsPort text n → ports_reading text ≡ range_of (Some n) (Some n)
port_reads text n h =
    let lacks : Lacks 58 (decimal n) = decimal_lacks 58 n (lit≤ tt) (omega (arith, h.fits)) in
    ap ports_reading h.spelled ∙ sym (one_port (decimal n) (has_none 58 (decimal n) lacks)) ∙ ap (λ o. range_of o o) (port_read n h.fits)

pub ports_are : (text : List ℕ) (r : PortRange) → ports_of text ≡ Some r → IsPorts text r
unfolding ports_reading
ports_are text r e =
    elim (list_any (is_byte 58) text) as (λ v. result_ok (cond v (range_of (port_of (before_first (is_byte 58) text)) (port_of (after_first (is_byte 58) text))) (range_of (port_of text) (port_of text))) ≡ Some r → IsPorts text r) [
      | true ↦ λ k. let (one, two, order) = range_parts _ _ r k in inl (pair_is text r.low r.high one two, order)
      | false ↦ λ k.
          let (one, two, order) = range_parts _ _ r k in
          let (digits, fits) = port_is text r.low one in
          inr (record { fits = fits; spelled = digits }, same_Some r.high r.low (sym two ∙ one))
    ] e

pub ports_read : (text : List ℕ) (r : PortRange) → IsPorts text r → ports_of text ≡ Some r
ports_read text r (inl h) = ap result_ok (pair_reads text r.low r.high h.0 ∙ in_order r.low r.high h.1)
ports_read text r (inr h) =
    let same : r.low ≤ r.low = omega arith in
    ap result_ok (port_reads text r.low h.0 ∙ in_order r.low r.low same) ∙ ap (λ n. Some (record { low = r.low; high = n })) (sym h.1)

pub ports_once : (text : List ℕ) (a b : PortRange) → IsPorts text a → IsPorts text b → a ≡ b
ports_once text a b h k = same_Some a b (sym (ports_read text a h) ∙ ports_read text b k)

pub reversed_is : (text : List ℕ) (n m : ℕ) → ports_reading text ≡ Err (Reversed n m) → IsPair text n m × (m < n)
unfolding ports_reading
reversed_is text n m e =
    elim (list_any (is_byte 58) text) as (λ v. cond v (range_of (port_of (before_first (is_byte 58) text)) (port_of (after_first (is_byte 58) text))) (range_of (port_of text) (port_of text)) ≡ Err (Reversed n m) → IsPair text n m × (m < n)) [
      | true ↦ λ k. let (one, two, order) = reversed_parts _ _ n m k in (pair_is text n m one two, order)
      | false ↦ λ k.
          let (one, two, order) = reversed_parts (port_of text) (port_of text) n m k in
          let same : n ≡ m = same_Some n m (sym one ∙ two) in
          absurd (omega arith)
    ] e

pub reversed_read : (text : List ℕ) (n m : ℕ) → IsPair text n m → m < n → ports_reading text ≡ Err (Reversed n m)
reversed_read text n m h l = pair_reads text n m h ∙ out_of_order n m l
