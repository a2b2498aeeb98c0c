-- Tests of texts.
use Rattle.std.specs.Prelude.{ℕ, Bool, false, not, ◌&&◌, ◌||◌, ◌==◌, nat_le, List, [], ◌∷◌, length, codes}
use Rattle.std.specs.List.{list_all, list_any}
use Rattle.std.specs.Str.{bytes_eq}

abbrev pub TextTest : Type 0
TextTest = List ℕ → Bool

abbrev pub within : ℕ → ℕ → ℕ → Bool
within low high n = nat_le low n && nat_le n high

abbrev pub letter : ℕ → Bool
letter b = within 65 90 b || within 97 122 b

-- a letter, a digit, `_`, `.` or `-`
abbrev pub name_byte : ℕ → Bool
name_byte b = letter b || within 48 57 b || (b == 95) || (b == 46) || (b == 45)

abbrev pub hex_digit : ℕ → Bool
hex_digit b = within 48 57 b || within 65 70 b || within 97 102 b

-- not empty
abbrev pub filled : TextTest
filled s = not (length s == 0)

-- this one
abbrev pub this : List ℕ → TextTest
this word s = bytes_eq s word

-- one of these
abbrev pub one_of : List (List ℕ) → TextTest
one_of ws s = list_any (bytes_eq s) ws

-- the name of a network interface
abbrev pub interface : TextTest
interface s = within 1 15 (length s) && list_all name_byte s

-- an interface, or `*` for all of a host
abbrev pub interface_or_all : TextTest
interface_or_all s = interface s || one_of (codes "*" ∷ []) s

abbrev pub port_name : TextTest
port_name s = within 1 128 (length s) && list_all name_byte s && list_any letter s

-- pairs of hexadecimal digits, parted by `:`
abbrev pub hex_pairs : List ℕ → Bool
hex_pairs [] = false
hex_pairs (a ∷ []) = false
hex_pairs (a ∷ b ∷ []) = hex_digit a && hex_digit b
hex_pairs (a ∷ b ∷ c ∷ rest) = hex_digit a && hex_digit b && (c == 58) && hex_pairs rest

-- six of them
abbrev pub mac : TextTest
mac s = (length s == 17) && hex_pairs s

-- Protocols

abbrev pub protocol_with_ports : TextTest
protocol_with_ports = one_of (codes "tcp" ∷ codes "udp" ∷ codes "sctp" ∷ codes "TCP" ∷ codes "UDP" ∷ codes "SCTP" ∷ [])

abbrev pub protocol_without_ports : TextTest
protocol_without_ports = one_of (
    codes "icmp" ∷ codes "icmpv6" ∷ codes "udplite" ∷ codes "ICMP" ∷ codes "ICMPv6" ∷ codes "UDPLite" ∷ [])

abbrev pub protocol_name : TextTest
protocol_name s = protocol_with_ports s || protocol_without_ports s

-- Actions of a rule

abbrev pub action : TextTest
action = one_of (
    codes "allow" ∷ codes "deny" ∷ codes "log" ∷ codes "pass" ∷ codes "next-tier"
    ∷ codes "Allow" ∷ codes "Deny" ∷ codes "Log" ∷ codes "Pass" ∷ [])

abbrev pub action_or_empty : TextTest
action_or_empty s = action s || not (filled s)
