-- Parts that the values of several keys have.
use Rattle.std.specs.Prelude.{[], ◌∷◌, codes}
use Rattle.ty_net.specs.declared.ports.TheConstants.{GREATEST_PORT}
use Rattle.ty_rules.specs.Tests.{Test, object, text_of, array_of, required, all_of, any_of, whole_within}
use Rattle.ty_rules.specs.Texts.{filled, port_name, protocol_name, protocol_with_ports}

-- names of profiles, none of them empty
abbrev pub profiles : Test
profiles = array_of (text_of filled)

-- a protocol's number or name
abbrev pub protocol : Test
protocol = any_of (whole_within 1 255 ∷ text_of protocol_name ∷ [])

-- TCP is 6, UDP is 17 and SCTP is 132
abbrev pub has_ports : Test
has_ports = any_of (whole_within 6 6 ∷ whole_within 17 17 ∷ whole_within 132 132 ∷ text_of protocol_with_ports ∷ [])

-- a port that an endpoint gives a name
abbrev pub named_port : Test
named_port = all_of (
    object
    ∷ required (codes "name") (text_of port_name)
    ∷ required (codes "protocol") has_ports
    ∷ required (codes "port") (whole_within 1 GREATEST_PORT)
    ∷ [])

abbrev pub named_ports : Test
named_ports = array_of named_port

abbrev pub ip_version : Test
ip_version = any_of (whole_within 4 4 ∷ whole_within 6 6 ∷ [])

abbrev pub icmp_type : Test
icmp_type = whole_within 0 254

abbrev pub icmp_code : Test
icmp_code = whole_within 0 255
