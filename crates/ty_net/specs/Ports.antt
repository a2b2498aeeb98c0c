-- Ports: `N` or `N:M`.
use Rattle.std.specs.Prelude.{ℕ, ◌==◌, nat_lt, if◌then◌else◌, List, Option, None, Some, Result, Ok, Err}
use Rattle.std.specs.List.{list_any, before_first, after_first}
use Rattle.std.specs.Result.{result_ok}
use Rattle.ty_base.specs.Numbers.{read_number}
use Rattle.ty_net.specs.declared.ports.TheConstants.{GREATEST_PORT}
use Rattle.ty_net.specs.declared.ports.PortRange.{PortRange}
use Rattle.ty_net.specs.declared.fault.NetFault.{NetFault}
use Rattle.ty_net.specs.declared.fault.NetFault.TheVariants.{BadPort, Reversed}
use Rattle.ty_net.specs.Addresses.{◌>>=◌, up_to}

-- a decimal number from 0 to the greatest port
abbrev pub port_of : List ℕ → Option ℕ
port_of text = do
  n ← read_number text
  up_to GREATEST_PORT n

abbrev pub range_of : Option ℕ → Option ℕ → Result PortRange NetFault
range_of (Some n) (Some m) =
    if nat_lt m n then Err (Reversed n m) else Ok (record { low = n; high = m })
range_of (Some n) None = Err BadPort
range_of None m = Err BadPort

-- one port, or one before the first `:` and one after it
unfoldable pub ports_reading : List ℕ → Result PortRange NetFault
ports_reading text =
    if list_any (λ b. b == 58) text
    then range_of (port_of (before_first (λ b. b == 58) text)) (port_of (after_first (λ b. b == 58) text))
    else range_of (port_of text) (port_of text)

-- the ports that a text writes
abbrev pub ports_of : List ℕ → Option PortRange
ports_of text = result_ok (ports_reading text)
