-- A pool's network: ADDR-LEN. Whether ADDR is an address is not asked here.
use Rattle.std.specs.Prelude.{ℕ, Bool, ◌&&◌, ◌||◌, ◌==◌, nat_lt, nat_le, List, ◌∷◌, ◌++◌, length, decimal, Option, None, Some, option_and_then, if◌then◌else◌}
use Rattle.std.specs.List.{list_all, before_first, after_first}
use Rattle.std.specs.Char.{is_ascii_hexdigit}
use Rattle.ty_base.specs.Numbers.{read_number}

-- 0 to 9, a to f, A to F, : and .
abbrev pub is_addr_byte : ℕ → Bool
is_addr_byte b = is_ascii_hexdigit b || (b == 58) || (b == 46)

abbrev pub is_addr : List ℕ → Bool
is_addr addr = nat_lt 0 (length addr) && nat_le (length addr) 45 && list_all is_addr_byte addr

abbrev pub longest : Bool → ℕ
longest v6 = if v6 then 128 else 32

abbrev pub is_net : Bool → List ℕ → ℕ → Bool
is_net v6 addr len = is_addr addr && nat_le len (longest v6)

abbrev pub net_text : List ℕ → ℕ → List ℕ
net_text addr len = addr ++ 45 ∷ decimal len

abbrev pub is_dash : ℕ → Bool
is_dash b = b == 45

-- the network that a segment writes, if it writes one
unfoldable pub net_of : Bool → List ℕ → Option (List ℕ × ℕ)
net_of v6 segment =
    let addr = before_first is_dash segment in
    option_and_then (λ len. if is_net v6 addr len then Some (addr, len) else None)
    (read_number (after_first is_dash segment))
