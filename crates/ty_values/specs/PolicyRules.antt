-- The rules of a policy, as keys of version 1 and resources of version 3 write them.
use Rattle.std.specs.Prelude.{List, [], ◌∷◌, codes}
use Rattle.ty_rules.specs.declared.rule.Rule.TheVariants as R
use Rattle.ty_rules.specs.Tests.{Test, object, text_of, optional, required, all_of, any_of, where_also, filled_array}
use Rattle.ty_rules.specs.Texts.{action, action_or_empty}
use Rattle.ty_rules.specs.Checks.{Check, row, in_order, list_of}
use Rattle.ty_rules.specs.Parts.{protocol, has_ports, ip_version, icmp_type, icmp_code}
use Rattle.ty_values.specs.Nets.{cidr, nets, ports, selector}

-- where one of the lists of ports has a member, the rule has a protocol with ports
abbrev pub ports_have_a_protocol : List Test → Test
ports_have_a_protocol has_ports_listed = where_also (any_of has_ports_listed) (required (codes "protocol") has_ports)

-- Version 1

abbrev pub v1_nets : Test
v1_nets = all_of (
    optional (codes "src_net") (text_of cidr)
    ∷ optional (codes "dst_net") (text_of cidr)
    ∷ optional (codes "src_nets") nets
    ∷ optional (codes "dst_nets") nets
    ∷ [])

abbrev pub v1_selectors : Test
v1_selectors = all_of (
    optional (codes "src_selector") selector
    ∷ optional (codes "dst_selector") selector
    ∷ optional (codes "not_src_selector") selector
    ∷ optional (codes "not_dst_selector") selector
    ∷ [])

abbrev pub v1_ports : Test
v1_ports = all_of (
    optional (codes "src_ports") ports
    ∷ optional (codes "dst_ports") ports
    ∷ optional (codes "not_src_ports") ports
    ∷ optional (codes "not_dst_ports") ports
    ∷ ports_have_a_protocol (
    required (codes "src_ports") filled_array
    ∷ required (codes "dst_ports") filled_array
    ∷ required (codes "not_src_ports") filled_array
    ∷ required (codes "not_dst_ports") filled_array
    ∷ [])
    ∷ [])

abbrev pub v1_rule : Check
v1_rule = in_order (
    row R.Shape object
    ∷ row R.Action (optional (codes "action") (text_of action_or_empty))
    ∷ row R.IpVersion (optional (codes "ip_version") ip_version)
    ∷ row R.Protocol (all_of (optional (codes "protocol") protocol ∷ optional (codes "not_protocol") protocol ∷ []))
    ∷ row R.Nets v1_nets
    ∷ row R.Selector v1_selectors
    ∷ row R.RulePorts v1_ports
    ∷ row R.Icmp (all_of (optional (codes "icmp_type") icmp_type ∷ optional (codes "icmp_code") icmp_code ∷ []))
    ∷ [])

abbrev pub v1_rules : Check
v1_rules = list_of R.Shape v1_rule

-- Version 3

-- what both sides of the traffic pass, where the rule speaks of them
abbrev pub both_sides : Test → Test
both_sides t = all_of (optional (codes "source") t ∷ optional (codes "destination") t ∷ [])

abbrev pub v3_shape : Test
v3_shape = all_of (object ∷ both_sides object ∷ optional (codes "icmp") object ∷ [])

abbrev pub side_nets : Test
side_nets = all_of (optional (codes "nets") nets ∷ optional (codes "notNets") nets ∷ [])

abbrev pub side_selectors : Test
side_selectors = all_of (
    optional (codes "selector") selector
    ∷ optional (codes "notSelector") selector
    ∷ optional (codes "namespaceSelector") selector
    ∷ [])

abbrev pub side_ports : Test
side_ports = all_of (optional (codes "ports") ports ∷ optional (codes "notPorts") ports ∷ [])

-- one of its lists of ports has a member
abbrev pub lists_ports : Test
lists_ports = any_of (required (codes "ports") filled_array ∷ required (codes "notPorts") filled_array ∷ [])

abbrev pub v3_ports : Test
v3_ports = all_of (
    both_sides side_ports
    ∷ ports_have_a_protocol (
    required (codes "source") lists_ports ∷ required (codes "destination") lists_ports ∷ [])
    ∷ [])

abbrev pub v3_icmp : Test
v3_icmp = all_of (optional (codes "type") icmp_type ∷ optional (codes "code") icmp_code ∷ [])

abbrev pub v3_rule : Check
v3_rule = in_order (
    row R.Shape v3_shape
    ∷ row R.Action (required (codes "action") (text_of action))
    ∷ row R.IpVersion (optional (codes "ipVersion") ip_version)
    ∷ row R.Protocol (all_of (optional (codes "protocol") protocol ∷ optional (codes "notProtocol") protocol ∷ []))
    ∷ row R.Nets (both_sides side_nets)
    ∷ row R.Selector (both_sides side_selectors)
    ∷ row R.RulePorts v3_ports
    ∷ row R.Icmp (optional (codes "icmp") v3_icmp)
    ∷ [])

abbrev pub v3_rules : Check
v3_rules = list_of R.Shape v3_rule
