-- The rules of a resource's `spec`, kind by kind.
use Rattle.std.specs.Prelude.{ℕ, max, List, [], ◌∷◌, codes, Option, option_and_then, if◌then◌else◌}
use Rattle.serde_json.specs.Data.{Data}
use Rattle.serde_json.specs.Find.{as_str}
use Rattle.ty_net.specs.declared.address.Ip.{Ip}
use Rattle.ty_net.specs.declared.address.Ip.TheVariants.{V4, V6}
use Rattle.ty_net.specs.declared.cidr.Cidr.{Cidr}
use Rattle.ty_net.specs.Cidrs.{cidr_of, bits_of}
use Rattle.ty_rules.specs.declared.rule.Rule.TheVariants as R
use Rattle.ty_rules.specs.Tests.{Test, given, if_there, boolean, text_of, array_of, optional, required, all_of, whole, whole_within}
use Rattle.ty_rules.specs.Texts.{TextTest, one_of, interface_or_all}
use Rattle.ty_rules.specs.Checks.{Check, row, in_order, if_given}
use Rattle.ty_rules.specs.Parts.{profiles}
use Rattle.ty_values.specs.Labels.{labels}
use Rattle.ty_values.specs.Nets.{addrs, nets, cidr, selector}
use Rattle.ty_values.specs.PolicyRules.{v3_rules}

abbrev pub v3_direction : TextTest
v3_direction = one_of (codes "Ingress" ∷ codes "Egress" ∷ [])

abbrev pub policy_spec : Check
policy_spec = in_order (
    row R.Order (optional (codes "order") whole)
    ∷ row R.Selector (optional (codes "selector") selector)
    ∷ row R.Types (optional (codes "types") (array_of (text_of v3_direction)))
    ∷ if_given (codes "ingress") v3_rules
    ∷ if_given (codes "egress") v3_rules
    ∷ [])

abbrev pub profile_spec : Check
profile_spec = in_order (
    row R.Labels (optional (codes "labelsToApply") labels)
    ∷ if_given (codes "ingress") v3_rules
    ∷ if_given (codes "egress") v3_rules
    ∷ [])

abbrev pub network_set_spec : Check
network_set_spec = row R.Nets (optional (codes "nets") nets)

abbrev pub host_endpoint_spec : Check
host_endpoint_spec = in_order (
    row R.Interface (optional (codes "interfaceName") (text_of interface_or_all))
    ∷ row R.Addresses (optional (codes "expectedIPs") addrs)
    ∷ row R.Profiles (optional (codes "profiles") profiles)
    ∷ [])

-- the network of an address pool
abbrev pub cidr_in : Data → Option Cidr
cidr_in d = option_and_then cidr_of (option_and_then as_str (given (codes "cidr") d))

-- the shortest prefix of a block
abbrev pub widest_block : Ip → ℕ
widest_block (V4 n) = 20
widest_block (V6 n) = 116

-- a block lies in the network, and is no wider than the widest
abbrev pub block_of : Cidr → Test
block_of c = whole_within (max c.len (widest_block c.ip)) (bits_of c.ip)

abbrev pub block_size : Test
block_size d = if_there (λ c. optional (codes "blockSize") (block_of c) d) (cidr_in d)

abbrev pub pool_spec : Check
pool_spec = in_order (
    row R.Nets (required (codes "cidr") (text_of cidr))
    ∷ row R.BlockSize block_size
    ∷ row R.Flag (all_of (optional (codes "natOutgoing") boolean ∷ optional (codes "disabled") boolean ∷ []))
    ∷ [])

abbrev pub tier_spec : Check
tier_spec = row R.Order (optional (codes "order") whole)

-- the other kinds have none
abbrev pub spec_of : List ℕ → Check
spec_of kind =
    if one_of (codes "NetworkPolicy" ∷ codes "GlobalNetworkPolicy" ∷ []) kind then policy_spec
    else (if one_of (codes "Profile" ∷ []) kind then profile_spec
    else (if one_of (codes "NetworkSet" ∷ codes "GlobalNetworkSet" ∷ []) kind then network_set_spec
    else (if one_of (codes "HostEndpoint" ∷ []) kind then host_endpoint_spec
    else (if one_of (codes "IPPool" ∷ []) kind then pool_spec
    else (if one_of (codes "Tier" ∷ []) kind then tier_spec
    else in_order [])))))
