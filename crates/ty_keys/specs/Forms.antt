-- Reading from left to right. That it gives the keys of the grammar and the faults is proved, not assumed.
use Rattle.std.specs.Prelude.{ℕ, ◌+◌, ◌≡◌, ◌≢◌, Bool, true, false, ◌&&◌, ◌==◌, nat_lt, List, [], ◌∷◌, length, codes, Option, None, Some, Result, Ok, Err, if◌then◌else◌}
use Rattle.std.specs.Str.{bytes_eq}
use Rattle.ty_base.specs.declared.limits.TheConstants.{KEY_BYTES}
use Rattle.ty_keys.specs.declared.key.Key.{Key}
use Rattle.ty_keys.specs.declared.key.Key.TheVariants.{Ready, Global, HostConfig, HostIp, HostEndpoint, Workload, Policy, ProfileRules, ProfileLabels, NetSet, Pool, Resource}
use Rattle.ty_keys.specs.declared.key.KeyFault.{KeyFault}
use Rattle.ty_keys.specs.declared.key.KeyFault.TheVariants.{TooLong, NoForm, EmptyPart, BadByte, BadEscape, NoMemory}
use Rattle.ty_keys.specs.Faults.{Segment, segments, part_fault}
use Rattle.ty_keys.specs.Grammar.{is_plain}
use Rattle.ty_keys.specs.Nets.{net_of}
use Rattle.ty_keys.specs.Plurals.{Kind, kind_of}

infixl 10 ◌>>=◌
abbrev pub ◌>>=◌ : {A B : Type 0} → Result A KeyFault → (A → Result B KeyFault) → Result B KeyFault
(Ok x) >>= f = f x
(Err e) >>= f = Err e

-- What a function returned, seen by view, is what reading gives, unless memory ran out.
abbrev pub Gives : {X Y : Type 0} → (X → Y) → Result X KeyFault → Result Y KeyFault → Type 0
Gives view (Ok x) read = read ≡ Ok (view x)
Gives view (Err e) read = e ≢ NoMemory → read ≡ Err e

-- the bytes that an escaped part stands for
unfoldable pub unescaped : List ℕ → List ℕ
unescaped [] = []
unescaped (b ∷ []) = b ∷ []
unescaped (b ∷ c ∷ []) = b ∷ c ∷ []
unescaped (b ∷ c ∷ d ∷ bs) = if b == 37 then (if d == 53 then 37 else 47) ∷ unescaped bs else b ∷ unescaped (c ∷ d ∷ bs)

abbrev pub unless : {A : Type 0} → Option KeyFault → A → Result A KeyFault
unless None x = Ok x
unless (Some f) x = Err f

unfoldable pub part_at : Segment → Result (List ℕ) KeyFault
part_at s = unless (part_fault s) (unescaped s.1)

abbrev pub no_form : {A : Type 0} → Result A KeyFault
no_form = Err NoForm

-- the next segment, and those after it
abbrev pub next_segment : List Segment → Result (Segment × List Segment) KeyFault
next_segment [] = no_form
next_segment (s ∷ ss) = Ok (s, ss)

-- the last segment
abbrev pub last_segment : List Segment → Result Segment KeyFault
last_segment [] = no_form
last_segment (s ∷ []) = Ok s
last_segment (s ∷ t ∷ ss) = no_form

abbrev pub is_end : List Segment → Bool
is_end [] = true
is_end (s ∷ ss) = false

abbrev pub one_part : (List ℕ → Key) → Segment → Result Key KeyFault
one_part make a = part_at a >>= λ x. Ok (make x)

abbrev pub two_parts : (List ℕ → List ℕ → Key) → Segment → Segment → Result Key KeyFault
two_parts make a b = part_at a >>= λ x. part_at b >>= λ y. Ok (make x y)

abbrev pub four_parts : (List ℕ → List ℕ → List ℕ → List ℕ → Key) → Segment → Segment → Segment → Segment → Result Key KeyFault
four_parts make a b c d = part_at a >>= λ x. part_at b >>= λ y. part_at c >>= λ z. part_at d >>= λ w. Ok (make x y z w)

-- the last of the segments is a key's last part
abbrev pub last_part : (List ℕ → Key) → List Segment → Result Key KeyFault
last_part make ss = last_segment ss >>= λ a. one_part make a

abbrev pub and_last_part : (List ℕ → List ℕ → Key) → Segment → List Segment → Result Key KeyFault
and_last_part make a ss = last_segment ss >>= λ b. two_parts make a b

-- One function for each stretch of a key's text, from the end to the beginning; ss are the segments that are left.

abbrev pub host_ip : Segment → List Segment → Result Key KeyFault
host_ip host ss = if is_end ss then one_part HostIp host else no_form

abbrev pub host_workload : Segment → List Segment → Result Key KeyFault
host_workload host ss =
    next_segment ss >>= λ o. next_segment o.1 >>= λ l. next_segment l.1 >>= λ e. last_segment e.1 >>= λ p.
    if bytes_eq e.0.1 (codes "endpoint") then four_parts Workload host o.0 l.0 p else no_form

abbrev pub under_host : Segment → Segment → List Segment → Result Key KeyFault
under_host host w ss =
    if bytes_eq w.1 (codes "config") then and_last_part HostConfig host ss else (
    if bytes_eq w.1 (codes "bird_ip") then host_ip host ss else (
    if bytes_eq w.1 (codes "endpoint") then and_last_part HostEndpoint host ss else (
    if bytes_eq w.1 (codes "workload") then host_workload host ss else no_form)))

abbrev pub hosts : List Segment → Result Key KeyFault
hosts ss = next_segment ss >>= λ h. next_segment h.1 >>= λ w. under_host h.0 w.0 w.1

abbrev pub of_tier : Segment → List Segment → Result Key KeyFault
of_tier tier ss =
    next_segment ss >>= λ w. last_segment w.1 >>= λ policy.
    if bytes_eq w.0.1 (codes "policy") then two_parts Policy tier policy else no_form

abbrev pub of_profile : Segment → List Segment → Result Key KeyFault
of_profile profile ss =
    last_segment ss >>= λ w.
    if bytes_eq w.1 (codes "rules") then one_part ProfileRules profile else (
    if bytes_eq w.1 (codes "labels") then one_part ProfileLabels profile else no_form)

abbrev pub policies : List Segment → Result Key KeyFault
policies ss =
    next_segment ss >>= λ w. next_segment w.1 >>= λ owner.
    if bytes_eq w.0.1 (codes "tier") then of_tier owner.0 owner.1 else (
    if bytes_eq w.0.1 (codes "profile") then of_profile owner.0 owner.1 else no_form)

abbrev pub pool_of : Bool → Option (List ℕ × ℕ) → Result Key KeyFault
pool_of v6 None = no_form
pool_of v6 (Some n) = Ok (Pool v6 n.0 n.1)

abbrev pub pools : List Segment → Result Key KeyFault
pools ss =
    next_segment ss >>= λ v. next_segment v.1 >>= λ w. last_segment w.1 >>= λ net.
    if bytes_eq w.0.1 (codes "pool") then (
    if bytes_eq v.0.1 (codes "v4") then pool_of false (net_of false net.1) else (
    if bytes_eq v.0.1 (codes "v6") then pool_of true (net_of true net.1) else no_form))
    else no_form

abbrev pub ready : List Segment → Result Key KeyFault
ready ss = if is_end ss then Ok Ready else no_form

abbrev pub of_v1 : Segment → List Segment → Result Key KeyFault
of_v1 w ss =
    if bytes_eq w.1 (codes "host") then hosts ss else (
    if bytes_eq w.1 (codes "config") then last_part Global ss else (
    if bytes_eq w.1 (codes "policy") then policies ss else (
    if bytes_eq w.1 (codes "netset") then last_part NetSet ss else (
    if bytes_eq w.1 (codes "ipam") then pools ss else (
    if bytes_eq w.1 (codes "Ready") then ready ss else no_form)))))

abbrev pub namespaced : List ℕ → List Segment → Result Key KeyFault
namespaced plural ss = next_segment ss >>= λ n. last_segment n.1 >>= λ name. two_parts (λ x y. Resource plural (Some x) y) n.0 name

abbrev pub of_kind : Option Kind → List Segment → Result Key KeyFault
of_kind None ss = no_form
of_kind (Some k) ss = if k.namespaced then namespaced k.plural ss else last_part (λ name. Resource k.plural None name) ss

abbrev pub resources : List Segment → Result Key KeyFault
resources ss =
    next_segment ss >>= λ v. next_segment v.1 >>= λ g. next_segment g.1 >>= λ p.
    if bytes_eq v.0.1 (codes "v3") && bytes_eq g.0.1 (codes "projectcalico.org") then of_kind (kind_of p.0.1) p.1 else no_form

abbrev pub of_root : Segment → List Segment → Result Key KeyFault
of_root w ss =
    if bytes_eq w.1 (codes "v1") then (next_segment ss >>= λ v. of_v1 v.0 v.1) else (
    if bytes_eq w.1 (codes "resources") then resources ss else no_form)

unfoldable pub read_segments : List Segment → Result Key KeyFault
read_segments ss =
    next_segment ss >>= λ root. next_segment root.1 >>= λ w.
    if bytes_eq root.0.1 (codes "calico") then of_root w.0 w.1 else no_form

-- the key that a text is, or its fault
unfoldable pub read_key : List ℕ → Result Key KeyFault
read_key text = if nat_lt KEY_BYTES (length text) then Err TooLong else read_segments (segments 0 text)
