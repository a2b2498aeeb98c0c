-- Key texts.
--     pieces k      what stands between the slashes of a key's text: fixed words and the key's parts
--     key_text k    its one text
--     IsKey k       its parts, plural and network are such as have a text, and the text isn't too long
use Rattle.std.specs.Prelude.{ℕ, ◌≡◌, ◌≤◌, Bool, true, false, not, ◌&&◌, ◌==◌, nat_lt, nat_le, List, [], ◌∷◌, length, codes, None, Some, if◌then◌else◌}
use Rattle.std.specs.List.{list_all, flat_map}
use Rattle.ty_base.specs.declared.limits.TheConstants.{KEY_BYTES}
use Rattle.ty_keys.specs.declared.key.Key.{Key}
use Rattle.ty_keys.specs.declared.key.Key.TheVariants.{Ready, Global, HostConfig, HostIp, HostEndpoint, Workload, Policy, ProfileRules, ProfileLabels, NetSet, Pool, Resource}
use Rattle.ty_keys.specs.Nets.{is_net, net_text}
use Rattle.ty_keys.specs.Plurals.{is_plural}

pub data Piece : Type 0 where
  -- these bytes
  Word : List ℕ → Piece
  -- a part of the key, escaped
  Part : List ℕ → Piece
  -- ADDR-LEN, of IPv6 or not
  Net : Bool → List ℕ → ℕ → Piece
  -- a resource's plural, with a namespace behind it or not
  Plural : Bool → List ℕ → Piece

abbrev pub v1 : List Piece → List Piece
v1 ps = Word (codes "calico") ∷ Word (codes "v1") ∷ ps

abbrev pub v1_host : List ℕ → List Piece → List Piece
v1_host host ps = v1 (Word (codes "host") ∷ Part host ∷ ps)

abbrev pub v3 : List Piece → List Piece
v3 ps = Word (codes "calico") ∷ Word (codes "resources") ∷ Word (codes "v3") ∷ Word (codes "projectcalico.org") ∷ ps

abbrev pub pieces : Key → List Piece
pieces Ready = v1 (Word (codes "Ready") ∷ [])
pieces (Global name) = v1 (Word (codes "config") ∷ Part name ∷ [])
pieces (HostConfig host name) = v1_host host (Word (codes "config") ∷ Part name ∷ [])
pieces (HostIp host) = v1_host host (Word (codes "bird_ip") ∷ [])
pieces (HostEndpoint host endpoint) = v1_host host (Word (codes "endpoint") ∷ Part endpoint ∷ [])
pieces (Workload host orchestrator workload endpoint) =
    v1_host host (Word (codes "workload") ∷ Part orchestrator ∷ Part workload ∷ Word (codes "endpoint") ∷ Part endpoint ∷ [])
pieces (Policy tier policy) = v1 (Word (codes "policy") ∷ Word (codes "tier") ∷ Part tier ∷ Word (codes "policy") ∷ Part policy ∷ [])
pieces (ProfileRules profile) = v1 (Word (codes "policy") ∷ Word (codes "profile") ∷ Part profile ∷ Word (codes "rules") ∷ [])
pieces (ProfileLabels profile) = v1 (Word (codes "policy") ∷ Word (codes "profile") ∷ Part profile ∷ Word (codes "labels") ∷ [])
pieces (NetSet name) = v1 (Word (codes "netset") ∷ Part name ∷ [])
pieces (Pool false addr len) = v1 (Word (codes "ipam") ∷ Word (codes "v4") ∷ Word (codes "pool") ∷ Net false addr len ∷ [])
pieces (Pool true addr len) = v1 (Word (codes "ipam") ∷ Word (codes "v6") ∷ Word (codes "pool") ∷ Net true addr len ∷ [])
pieces (Resource plural None name) = v3 (Plural false plural ∷ Part name ∷ [])
pieces (Resource plural (Some namespace) name) = v3 (Plural true plural ∷ Part namespace ∷ Part name ∷ [])

-- % is written %25, and / is written %2f
abbrev pub escaped_byte : ℕ → List ℕ
escaped_byte b = if b == 37 then codes "%25" else if b == 47 then codes "%2f" else b ∷ []

abbrev pub escaped : List ℕ → List ℕ
escaped part = flat_map escaped_byte part

abbrev pub printed : Piece → List ℕ
printed (Word w) = w
printed (Part p) = escaped p
printed (Net v6 addr len) = net_text addr len
printed (Plural namespaced plural) = plural

-- a slash before each segment
abbrev pub slashed : List ℕ → List ℕ
slashed segment = 47 ∷ segment

unfoldable pub key_text : Key → List ℕ
key_text k = flat_map (λ p. slashed (printed p)) (pieces k)

abbrev pub is_visible : ℕ → Bool
is_visible b = nat_le 33 b && nat_le b 126

-- it stands for itself
abbrev pub is_plain : ℕ → Bool
is_plain b = is_visible b && not (b == 37) && not (b == 47)

abbrev pub is_part : List ℕ → Bool
is_part part = nat_lt 0 (length part) && list_all is_visible part

abbrev pub is_piece : Piece → Bool
is_piece (Word w) = true
is_piece (Part p) = is_part p
is_piece (Net v6 addr len) = is_net v6 addr len
is_piece (Plural namespaced plural) = is_plural namespaced plural

pub record IsKey (k : Key) : Type 0 where
  pub pieces : list_all is_piece (pieces k) ≡ true
  pub short : length (key_text k) ≤ KEY_BYTES
