-- The kinds of resources, and the plurals that name them in a key's text.
use Rattle.std.specs.Prelude.{ℕ, Bool, true, false, not, List, [], ◌∷◌, codes, Option, None, Some}
use Rattle.std.specs.List.{find}
use Rattle.std.specs.Str.{bytes_eq}
use Rattle.ty_keys.specs.declared.resources.ResourceKind.{ResourceKind}

pub record Kind : Type 0 where
  pub plural : List ℕ
  pub kind : List ℕ
  pub namespaced : Bool

abbrev pub cluster_wide : List ℕ → List ℕ → Kind
cluster_wide plural kind = record { plural = plural; kind = kind; namespaced = false }

abbrev pub in_namespace : List ℕ → List ℕ → Kind
in_namespace plural kind = record { plural = plural; kind = kind; namespaced = true }

abbrev pub kinds : List Kind
kinds =
    cluster_wide (codes "nodes") (codes "Node") ∷
    cluster_wide (codes "ippools") (codes "IPPool") ∷
    cluster_wide (codes "globalnetworkpolicies") (codes "GlobalNetworkPolicy") ∷
    cluster_wide (codes "globalnetworksets") (codes "GlobalNetworkSet") ∷
    cluster_wide (codes "hostendpoints") (codes "HostEndpoint") ∷
    cluster_wide (codes "profiles") (codes "Profile") ∷
    cluster_wide (codes "tiers") (codes "Tier") ∷
    cluster_wide (codes "bgpconfigurations") (codes "BGPConfiguration") ∷
    cluster_wide (codes "bgppeers") (codes "BGPPeer") ∷
    cluster_wide (codes "felixconfigurations") (codes "FelixConfiguration") ∷
    cluster_wide (codes "clusterinformations") (codes "ClusterInformation") ∷
    in_namespace (codes "networkpolicies") (codes "NetworkPolicy") ∷
    in_namespace (codes "networksets") (codes "NetworkSet") ∷
    in_namespace (codes "workloadendpoints") (codes "WorkloadEndpoint") ∷
    []

-- what contracts see of a kind of the code
abbrev pub view : ResourceKind → Kind
view r = record { plural = r.plural.now; kind = r.kind.now; namespaced = r.namespaced }

-- the kind that a plural names, if it names one
unfoldable pub kind_of : List ℕ → Option Kind
kind_of plural = find (λ k. bytes_eq plural k.plural) kinds

-- there is a kind, and a namespace is due or not
abbrev pub is_due : Bool → Option Kind → Bool
is_due namespaced None = false
is_due true (Some k) = k.namespaced
is_due false (Some k) = not k.namespaced

-- it is a plural, and a namespace is due or not
abbrev pub is_plural : Bool → List ℕ → Bool
is_plural namespaced plural = is_due namespaced (kind_of plural)
