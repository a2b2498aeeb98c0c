-- Which texts write an address, a network or ports, as relations: here a text is put together from its parts.
use Rattle.std.specs.Prelude.{◌≡◌, ℕ, ◌≤◌, ◌⊎◌, List, ◌++◌, codes, decimal}
use Rattle.std.specs.Int.{w32, w128, from_be_bytes}
use Rattle.std.specs.Net.Addr.{octets_of}
use Rattle.std.specs.Net.Grammar.{IsDotted, IsColonHex}
use Rattle.ty_net.specs.declared.address.Ip.{Ip}
use Rattle.ty_net.specs.declared.address.Ip.TheVariants.{V4, V6}
use Rattle.ty_net.specs.declared.cidr.Cidr.{Cidr}
use Rattle.ty_net.specs.declared.ports.TheConstants.{GREATEST_PORT}
use Rattle.ty_net.specs.declared.ports.PortRange.{PortRange}
use Rattle.ty_net.specs.Cidrs.{bits_of}

-- Addresses, by std's words for their forms

-- four decimal numbers below 256 with dots between them, which are the bytes of n
abbrev pub IsIpv4 : List ℕ → ℕ → Type 0
IsIpv4 text n = (octets : List ℕ) × IsDotted text octets × (n ≡ from_be_bytes w32 octets)

-- eight groups with colons between them, some perhaps as `::` and the last two perhaps as dotted decimal, which are the bytes of n
abbrev pub IsIpv6 : List ℕ → ℕ → Type 0
IsIpv6 text n = (groups : List ℕ) × IsColonHex text groups × (n ≡ from_be_bytes w128 (octets_of groups))

abbrev pub IsIp : List ℕ → Ip → Type 0
IsIp text (V4 n) = IsIpv4 text n
IsIp text (V6 n) = IsIpv6 text n

-- Networks

-- an address, `/` and the decimal digits of at most as many bits as the address has
pub record IsCidr (text : List ℕ) (c : Cidr) : Type 0 where
  pub front : List ℕ
  pub address : IsIp front c.ip
  pub fits : c.len ≤ bits_of c.ip
  pub spelled : text ≡ front ++ codes "/" ++ decimal c.len

-- Ports

-- the decimal digits of two ports with `:` between them
pub record IsPair (text : List ℕ) (n m : ℕ) : Type 0 where
  pub first : n ≤ GREATEST_PORT
  pub second : m ≤ GREATEST_PORT
  pub spelled : text ≡ decimal n ++ codes ":" ++ decimal m

-- the decimal digits of a port
pub record IsPort (text : List ℕ) (n : ℕ) : Type 0 where
  pub fits : n ≤ GREATEST_PORT
  pub spelled : text ≡ decimal n

-- two ports of which the second isn't below the first, or one that is both
abbrev pub IsPorts : List ℕ → PortRange → Type 0
IsPorts text r = (IsPair text r.low r.high × (r.low ≤ r.high)) ⊎ (IsPort text r.low × (r.high ≡ r.low))
