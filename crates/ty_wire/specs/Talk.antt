-- What a server says on a connection about a book, a list of entries.
use Rattle.std.specs.Prelude.{◌≡◌, ℕ, ◌<◌, ◌≤◌, ◌^◌, nat_lt, List, [], ◌∷◌, ◌++◌, length, take, map, flat_map, Bool, true, false, cond, Option, None, Some, refl}
use Rattle.std.specs.List.{filter, slice_range}
use Rattle.ty_base.specs.Feed.{World, replay}
use Rattle.ty_base.specs.Statuses.{same_status}
use Rattle.ty_base.specs.declared.entry.Entry.{Entry}
use Rattle.ty_base.specs.declared.status.Status.{Status}
use Rattle.ty_base.specs.declared.delta.Kind.TheVariants.{New}
use Rattle.ty_base.specs.declared.delta.Delta.{Delta}
use Rattle.ty_wire.specs.Cut.{cut_deltas}
use Rattle.ty_wire.specs.declared.message.Msg.{Msg}
use Rattle.ty_wire.specs.declared.message.Msg.TheVariants.{ServerHello, Kvs, Status as StatusMsg, Crumb, Ping}

-- Groups

abbrev pub kvs_messages : List Delta → List Msg
kvs_messages ds = map Kvs (cut_deltas ds)

abbrev pub status_messages : Option Status → List Msg
status_messages None = []
status_messages (Some s) = StatusMsg s ∷ []

-- deltas, the status where it is told, and the crumb end
abbrev pub group_messages : List Delta → Option Status → ℕ → List Msg
group_messages ds status n = kvs_messages ds ++ (status_messages status ++ Crumb n ∷ [])

-- The talk

-- all pairs, in the order of their keys
abbrev pub snapshot : World → List Delta
snapshot w = map (λ p. record { key = p.0; kind = New; value = Some p.1; told = refl }) w.pairs

abbrev pub world_after : List Entry → ℕ → World
world_after entries n = replay (take n entries)

-- the deltas of the entries after the first `from` up to the n-th, joined in order
abbrev pub deltas_between : List Entry → ℕ → ℕ → List Delta
deltas_between entries from n = flat_map (λ e. e.deltas) (slice_range entries from n)

-- the second status, where it isn't the first
abbrev pub status_change : Status → Status → Option Status
status_change a b = cond (same_status a b) None (Some b)

abbrev pub first_group : List Entry → ℕ → List Msg
first_group entries n = group_messages (snapshot (world_after entries n)) (Some (world_after entries n).status) n

abbrev pub group_between : List Entry → ℕ → ℕ → List Msg
group_between entries from n = group_messages (deltas_between entries from n) (status_change (world_after entries from).status (world_after entries n).status) n

-- a group for each number, each from the number before
unfoldable pub groups_after : List Entry → ℕ → List ℕ → List Msg
groups_after entries from [] = []
groups_after entries from (n ∷ ns) = group_between entries from n ++ groups_after entries n ns

-- as far as the first crumb end
abbrev pub opening : List Entry → ℕ → List Msg
opening entries e0 = ServerHello 1 ∷ first_group entries e0

abbrev pub talk : List Entry → ℕ → List ℕ → List Msg
talk entries e0 numbers = opening entries e0 ++ groups_after entries e0 numbers

-- With pings

abbrev pub is_no_ping : Msg → Bool
is_no_ping (Ping ts) = false
is_no_ping _ = true

-- a ping's time is a number of 64 bits
abbrev pub ping_fits : Msg → Bool
ping_fits (Ping ts) = nat_lt ts (2 ^ 64)
ping_fits _ = true

-- the numbers rise from the first, and none is past the entries
abbrev pub Rise : ℕ → List ℕ → ℕ → Type 0
Rise e0 [] most = e0 ≤ most
Rise e0 (n ∷ ns) most = (e0 < n) × Rise n ns most

-- messages of a talk over these entries, with pings after the first crumb end, between messages or
-- last
pub record IsTalk (entries : List Entry) (e0 : ℕ) (numbers : List ℕ) (ms : List Msg) : Type 0 where
  pub rise : Rise e0 numbers (length entries)
  pub rest : List Msg
  pub whole : ms ≡ opening entries e0 ++ rest
  pub same : filter is_no_ping rest ≡ groups_after entries e0 numbers
