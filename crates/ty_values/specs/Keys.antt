-- Which values each key may have.
--     broken key value    the first rule that the value breaks under the key, if it breaks one
use Rattle.std.specs.Prelude.{ℕ, Bool, false, not, ◌&&◌, ◌==◌, List, [], ◌∷◌, codes, Option, Some, None, is_none, if◌then◌else◌}
use Rattle.serde_json.specs.Written.{has_float, compact_text}
use Rattle.ty_base.specs.Limits.{value_fits}
use Rattle.ty_net.specs.declared.address.Ip.{Ip}
use Rattle.ty_net.specs.declared.address.Ip.TheVariants.{V4, V6}
use Rattle.ty_net.specs.declared.cidr.Cidr.{Cidr}
use Rattle.ty_net.specs.Addresses.{ip_of}
use Rattle.ty_net.specs.Cidrs.{cidr_of}
use Rattle.ty_keys.specs.declared.key.Key.{Key}
use Rattle.ty_keys.specs.declared.key.Key.TheVariants as K
use Rattle.ty_keys.specs.Plurals.{Kind, kind_of}
use Rattle.ty_rules.specs.declared.rule.Rule.TheVariants as R
use Rattle.ty_rules.specs.Tests.{Test, there_and, boolean, object, text, text_of, array_of, optional, required, all_of, whole}
use Rattle.ty_rules.specs.Texts.{TextTest, this, one_of, interface, interface_or_all, mac}
use Rattle.ty_rules.specs.Checks.{Check, row, in_order, if_given}
use Rattle.ty_rules.specs.Parts.{profiles, named_ports}
use Rattle.ty_values.specs.Labels.{labels}
use Rattle.ty_values.specs.Nets.{is_v6, ip, addrs4, addrs6, nets, nets4, nets6, selector}
use Rattle.ty_values.specs.PolicyRules.{v1_rules}
use Rattle.ty_values.specs.Kinds.{spec_of}

abbrev pub host_endpoint : Check
host_endpoint = in_order (
    row R.Shape object
    ∷ row R.Interface (optional (codes "name") (text_of interface_or_all))
    ∷ row R.Addresses (all_of (optional (codes "expected_ipv4_addrs") addrs4 ∷ optional (codes "expected_ipv6_addrs") addrs6 ∷ []))
    ∷ row R.Labels (optional (codes "labels") labels)
    ∷ row R.Profiles (optional (codes "profile_ids") profiles)
    ∷ row R.Ports (optional (codes "ports") named_ports)
    ∷ [])

abbrev pub state : TextTest
state = one_of (codes "active" ∷ codes "inactive" ∷ [])

abbrev pub workload : Check
workload = in_order (
    row R.Shape object
    ∷ row R.State (optional (codes "state") (text_of state))
    ∷ row R.Interface (required (codes "name") (text_of interface))
    ∷ row R.Mac (optional (codes "mac") (text_of mac))
    ∷ row R.Nets (all_of (optional (codes "ipv4_nets") nets4 ∷ optional (codes "ipv6_nets") nets6 ∷ []))
    ∷ row R.Labels (optional (codes "labels") labels)
    ∷ row R.Profiles (optional (codes "profile_ids") profiles)
    ∷ row R.Ports (optional (codes "ports") named_ports)
    ∷ [])

abbrev pub v1_direction : TextTest
v1_direction = one_of (codes "ingress" ∷ codes "egress" ∷ [])

abbrev pub policy : Check
policy = in_order (
    row R.Shape object
    ∷ row R.Order (optional (codes "order") whole)
    ∷ row R.Selector (optional (codes "selector") selector)
    ∷ row R.Types (optional (codes "types") (array_of (text_of v1_direction)))
    ∷ if_given (codes "inbound_rules") v1_rules
    ∷ if_given (codes "outbound_rules") v1_rules
    ∷ [])

abbrev pub profile_rules : Check
profile_rules = in_order (
    row R.Shape object
    ∷ if_given (codes "inbound_rules") v1_rules
    ∷ if_given (codes "outbound_rules") v1_rules
    ∷ [])

abbrev pub network_set : Check
network_set = in_order (
    row R.Shape object
    ∷ row R.Nets (optional (codes "nets") nets)
    ∷ row R.Labels (optional (codes "labels") labels)
    ∷ [])

abbrev pub same_ip : Ip → Ip → Bool
same_ip (V4 a) (V4 b) = a == b
same_ip (V6 a) (V6 b) = a == b
same_ip a b = false

-- the network has this address and this length
abbrev pub same_net : Ip → ℕ → Cidr → Bool
same_net ip len c = same_ip c.ip ip && (c.len == len)

abbrev pub same_version : Bool → Ip → Bool
same_version v6 ip = if v6 then is_v6 ip else not (is_v6 ip)

-- the network that a pool's key names
abbrev pub net_of_key : Bool → List ℕ → ℕ → TextTest
net_of_key v6 addr len s =
    there_and (λ ip. same_version v6 ip && there_and (same_net ip len) (cidr_of s)) (ip_of addr)

abbrev pub pool : Bool → List ℕ → ℕ → Check
pool v6 addr len = in_order (
    row R.Shape object
    ∷ row R.PoolCidr (required (codes "cidr") (text_of (net_of_key v6 addr len)))
    ∷ row R.Flag (all_of (optional (codes "masquerade") boolean ∷ optional (codes "disabled") boolean ∷ []))
    ∷ [])

-- a kind's name, empty where there is no kind
abbrev pub kind_name : Option Kind → List ℕ
kind_name None = []
kind_name (Some k) = k.kind

-- the key's namespace, or where it has none nothing or an empty string
abbrev pub same_namespace : Option (List ℕ) → Test
same_namespace None = optional (codes "namespace") (text_of (this []))
same_namespace (Some namespace) = required (codes "namespace") (text_of (this namespace))

-- the rules of a resource of this kind
abbrev pub resource : List ℕ → Option (List ℕ) → List ℕ → Check
resource kind namespace name = in_order (
    row R.Shape object
    ∷ row R.ApiVersion (optional (codes "apiVersion") (text_of (this (codes "projectcalico.org/v3"))))
    ∷ row R.ResourceKind (optional (codes "kind") (text_of (this kind)))
    ∷ row R.Name (optional (codes "metadata") (all_of (object ∷ required (codes "name") (text_of (this name)) ∷ [])))
    ∷ row R.Namespace (optional (codes "metadata") (same_namespace namespace))
    ∷ row R.Labels (optional (codes "metadata") (optional (codes "labels") labels))
    ∷ row R.Shape (optional (codes "spec") object)
    ∷ if_given (codes "spec") (spec_of kind)
    ∷ [])

abbrev pub of_key : Key → Check
of_key K.Ready = row R.Ready boolean
of_key (K.Global name) = row R.Config text
of_key (K.HostConfig host name) = row R.Config text
of_key (K.HostIp host) = row R.Address (text_of ip)
of_key (K.HostEndpoint host endpoint) = host_endpoint
of_key (K.Workload host orchestrator workload_name endpoint) = workload
of_key (K.Policy tier policy_name) = policy
of_key (K.ProfileRules profile) = profile_rules
of_key (K.ProfileLabels profile) = row R.Labels labels
of_key (K.NetSet name) = network_set
of_key (K.Pool v6 addr len) = pool v6 addr len
of_key (K.Resource plural namespace name) = resource (kind_name (kind_of plural)) namespace name

-- every number is a whole number from -2^63 to 2^64 - 1
abbrev pub whole_numbers : Test
whole_numbers d = not (has_float d)

-- the compact text is within its limit
abbrev pub compact_fits : Test
compact_fits d = value_fits (compact_text d)

-- the first rule that the value breaks under the key
unfoldable pub broken : Key → Check
broken key = in_order (row R.Number whole_numbers ∷ row R.Size compact_fits ∷ of_key key ∷ [])

abbrev pub valid : Key → Test
valid key d = is_none (broken key d)
