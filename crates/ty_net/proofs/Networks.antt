-- The outcomes of `cidr_reading` and of `ports_reading`.
use Rattle.std.proofs.Common.{◌≡◌, ℕ, ◌==◌, Bool, true, false, cond, List, sym, ap, ◌∙◌, Option, Some, None, Result, Ok, Err}
use Rattle.std.specs.List.{list_any, before_first, after_first}
use Rattle.std.specs.Option.{ok_or}
use Rattle.ty_net.specs.declared.address.Ip.{Ip}
use Rattle.ty_net.specs.declared.cidr.Cidr.{Cidr}
use Rattle.ty_net.specs.declared.fault.NetFault.{NetFault}
use Rattle.ty_net.specs.declared.fault.NetFault.TheVariants.{BadIp}
use Rattle.ty_net.specs.Addresses.{ip_of}
use Rattle.ty_net.specs.Cidrs.{prefix_of, with_prefix, with_address, cidr_reading}
use Rattle.ty_net.specs.Ports.{port_of, range_of, ports_reading}

abbrev slash : ℕ → Bool
slash b = b == 47

no_ip : (o : Option Ip) (e : NetFault) (rest : List ℕ) → Err e ≡ ok_or o BadIp → Err e ≡ with_address o rest
no_ip None e rest h = ap (λ r. fault_or r) h
  where
    fault_or : Result Ip NetFault → Result Cidr NetFault
    fault_or (Ok ip) = Err BadIp
    fault_or (Err e) = Err e
no_ip (Some ip) e rest h = absurd (cc)

some_ip : (o : Option Ip) (ip : Ip) → Ok ip ≡ ok_or o BadIp → Some ip ≡ o
some_ip None ip h = absurd (cc)
some_ip (Some x) ip h = cc

pub bad_address : (text front : List ℕ) (e : NetFault) → front ≡ before_first slash text → Err e ≡ ok_or (ip_of front) BadIp → Err e ≡ cidr_reading text
unfolding cidr_reading
bad_address text front e is h = no_ip (ip_of front) e (after_first slash text) h ∙ ap (λ t. with_address (ip_of t) (after_first slash text)) is

-- the network of an address that was read, by its length
pub by_length : (text front back : List ℕ) (ip : Ip) (len : Option ℕ) → front ≡ before_first slash text → back ≡ after_first slash text → Ok ip ≡ ok_or (ip_of front) BadIp → len ≡ prefix_of ip back → with_prefix ip len ≡ cidr_reading text
unfolding cidr_reading
by_length text front back ip len before_is after_is read length_is =
    ap (with_prefix ip) length_is ∙ ap (λ o. with_address o back) (some_ip (ip_of front) ip read)
    ∙ ap (λ t. with_address (ip_of t) back) before_is ∙ ap (with_address (ip_of (before_first slash text))) after_is

abbrev colon : ℕ → Bool
colon b = b == 58

pub two_ports : (text front back : List ℕ) → list_any colon text ≡ true → front ≡ before_first colon text → back ≡ after_first colon text → range_of (port_of front) (port_of back) ≡ ports_reading text
unfolding ports_reading
two_ports text front back test before_is after_is =
    ap (λ t. range_of (port_of t) (port_of back)) before_is ∙ ap (λ t. range_of (port_of (before_first colon text)) (port_of t)) after_is
    ∙ sym (ap (λ b. cond b (range_of (port_of (before_first colon text)) (port_of (after_first colon text))) (range_of (port_of text) (port_of text))) test)

pub one_port : (text : List ℕ) → list_any colon text ≡ false → range_of (port_of text) (port_of text) ≡ ports_reading text
unfolding ports_reading
one_port text test = sym (ap (λ b. cond b (range_of (port_of (before_first colon text)) (port_of (after_first colon text))) (range_of (port_of text) (port_of text))) test)
