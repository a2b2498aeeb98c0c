-- Networks: an address, `/` and a prefix length.
use Rattle.std.specs.Prelude.{ℕ, ◌==◌, List, Option, None, Some, Result, Ok, Err}
use Rattle.std.specs.List.{before_first, after_first}
use Rattle.std.specs.Result.{result_ok}
use Rattle.ty_base.specs.Numbers.{read_number}
use Rattle.ty_net.specs.declared.address.Ip.{Ip}
use Rattle.ty_net.specs.declared.address.Ip.TheVariants.{V4, V6}
use Rattle.ty_net.specs.declared.cidr.Cidr.{Cidr}
use Rattle.ty_net.specs.declared.fault.NetFault.{NetFault}
use Rattle.ty_net.specs.declared.fault.NetFault.TheVariants.{BadIp, BadLength}
use Rattle.ty_net.specs.Addresses.{◌>>=◌, up_to, ip_of}

-- how many bits an address has
abbrev pub bits_of : Ip → ℕ
bits_of (V4 n) = 32
bits_of (V6 n) = 128

-- a decimal number from 0 to as many bits as the address has
abbrev pub prefix_of : Ip → List ℕ → Option ℕ
prefix_of ip text = do
  n ← read_number text
  up_to (bits_of ip) n

abbrev pub with_prefix : Ip → Option ℕ → Result Cidr NetFault
with_prefix ip None = Err BadLength
with_prefix ip (Some n) = Ok (record { ip = ip; len = n })

abbrev pub with_address : Option Ip → List ℕ → Result Cidr NetFault
with_address None rest = Err BadIp
with_address (Some ip) rest = with_prefix ip (prefix_of ip rest)

-- the address stands before the first `/`, and the length after it
unfoldable pub cidr_reading : List ℕ → Result Cidr NetFault
cidr_reading text = with_address (ip_of (before_first (λ b. b == 47) text)) (after_first (λ b. b == 47) text)

-- the network that a text writes
abbrev pub cidr_of : List ℕ → Option Cidr
cidr_of text = result_ok (cidr_reading text)
