-- Addresses, networks, ports and selectors in a value.
use Rattle.std.specs.Prelude.{Bool, true, false, [], ◌∷◌, is_some, is_ok}
use Rattle.ty_net.specs.declared.address.Ip.{Ip}
use Rattle.ty_net.specs.declared.address.Ip.TheVariants.{V4, V6}
use Rattle.ty_net.specs.declared.ports.TheConstants.{GREATEST_PORT}
use Rattle.ty_net.specs.Addresses.{ip_of}
use Rattle.ty_net.specs.Cidrs.{cidr_of}
use Rattle.ty_net.specs.Ports.{ports_of}
use Rattle.ty_select.specs.Expressions.{selector_of}
use Rattle.ty_rules.specs.Tests.{Test, there_and, text_of, array_of, any_of, whole_within}
use Rattle.ty_rules.specs.Texts.{TextTest, port_name}

abbrev pub is_v4 : Ip → Bool
is_v4 (V4 n) = true
is_v4 (V6 n) = false

abbrev pub is_v6 : Ip → Bool
is_v6 (V4 n) = false
is_v6 (V6 n) = true

-- texts that are an address, or an address of one version
abbrev pub ip : TextTest
ip s = is_some (ip_of s)

abbrev pub ip4 : TextTest
ip4 s = there_and is_v4 (ip_of s)

abbrev pub ip6 : TextTest
ip6 s = there_and is_v6 (ip_of s)

-- texts that are a network, or a network of one version
abbrev pub cidr : TextTest
cidr s = is_some (cidr_of s)

abbrev pub cidr4 : TextTest
cidr4 s = there_and (λ c. is_v4 c.ip) (cidr_of s)

abbrev pub cidr6 : TextTest
cidr6 s = there_and (λ c. is_v6 c.ip) (cidr_of s)

-- a text that is a port or a range of ports
abbrev pub port_range : TextTest
port_range s = is_some (ports_of s)

-- a text that is a selector
abbrev pub selects : TextTest
selects s = is_ok (selector_of s)

abbrev pub addrs : Test
addrs = array_of (text_of ip)

abbrev pub addrs4 : Test
addrs4 = array_of (text_of ip4)

abbrev pub addrs6 : Test
addrs6 = array_of (text_of ip6)

abbrev pub nets : Test
nets = array_of (text_of cidr)

abbrev pub nets4 : Test
nets4 = array_of (text_of cidr4)

abbrev pub nets6 : Test
nets6 = array_of (text_of cidr6)

-- by number, as a range, or by name
abbrev pub port : Test
port = any_of (whole_within 0 GREATEST_PORT ∷ text_of port_range ∷ text_of port_name ∷ [])

abbrev pub ports : Test
ports = array_of port

abbrev pub selector : Test
selector = text_of selects
