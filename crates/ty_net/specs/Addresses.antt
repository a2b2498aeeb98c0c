-- What the texts of addresses write: dotted decimal, and the forms of RFC 4291 section 2.2.
use Rattle.std.specs.Prelude.{ℕ, ◌+◌, ◌-◌, Bool, true, false, ◌&&◌, ◌==◌, nat_le, nat_lt, if◌then◌else◌, List, [], ◌∷◌, ◌++◌, length, replicate, Option, None, Some}
use Rattle.std.specs.Option.{option_map, option_or}
use Rattle.std.specs.List.{list_all, slice_split}
use Rattle.std.specs.Char.{is_digit}
use Rattle.std.specs.Str.Parse.{digits_value}
use Rattle.std.specs.Int.{w32, w128, from_be_bytes}
use Rattle.std.specs.Net.Addr.{segments_of, octets_of}
use Rattle.ty_base.specs.Numbers.{read_number}
use Rattle.ty_net.specs.declared.address.Ip.{Ip}
use Rattle.ty_net.specs.declared.address.Ip.TheVariants.{V4, V6}

infixl 10 ◌>>=◌
abbrev pub ◌>>=◌ : {A B : Type 0} → Option A → (A → Option B) → Option B
None >>= f = None
(Some x) >>= f = f x

-- Pieces

-- what stands between the bytes c, one piece more than there are such bytes
abbrev pub split_at : ℕ → List ℕ → List (List ℕ)
split_at c text = slice_split (λ b. b == c) text

-- the numbers that pieces write, where each writes one
abbrev pub each : (List ℕ → Option ℕ) → List (List ℕ) → Option (List ℕ)
each number [] = Some []
each number (p ∷ ps) = do
  n ← number p
  ns ← each number ps
  Some (n ∷ ns)

-- the list, where it has n elements
abbrev pub counted : ℕ → List ℕ → Option (List ℕ)
counted n xs = if length xs == n then Some xs else None

-- n, where it is at most m
abbrev pub up_to : ℕ → ℕ → Option ℕ
up_to m n = if nat_le n m then Some n else None

-- IPv4

-- a decimal number from 0 to 255, without a leading zero but in `0`
unfoldable pub octet : List ℕ → Option ℕ
octet text = do
  n ← read_number text
  up_to 255 n

-- four of them, parted by `.`
unfoldable pub octets : List ℕ → Option (List ℕ)
octets text = do
  ns ← each octet (split_at 46 text)
  counted 4 ns

-- IPv6

-- one to four hexadecimal digits in either case
unfoldable pub hex_group : List ℕ → Option ℕ
hex_group text =
    if (list_all (λ b. is_digit b 16) text && nat_le 1 (length text)) && nat_le (length text) 4
    then Some (digits_value 16 text) else None

-- a last piece is one group, or where dotted decimal may stand also two groups in dotted decimal
abbrev pub last_groups : Bool → List ℕ → Option (List ℕ)
last_groups false text = option_map (λ g. g ∷ []) (hex_group text)
last_groups true text = option_or (option_map (λ g. g ∷ []) (hex_group text)) (option_map segments_of (octets text))

abbrev pub groups : Bool → List (List ℕ) → Option (List ℕ)
groups dotted [] = None
groups dotted (p ∷ []) = last_groups dotted p
groups dotted (p ∷ q ∷ ps) = do
  g ← hex_group p
  gs ← groups dotted (q ∷ ps)
  Some (g ∷ gs)

-- what stands on one side of `::`: nothing, or groups parted by `:`
abbrev pub side : Bool → List ℕ → Option (List ℕ)
side dotted [] = Some []
side dotted (b ∷ text) = groups dotted (split_at 58 (b ∷ text))

-- what stands before and after the first `::`
abbrev pub halves : List ℕ → Option (List ℕ × List ℕ)
halves [] = None
halves (a ∷ []) = None
halves (a ∷ b ∷ text) =
    if (a == 58) && (b == 58) then Some ([], text) else option_map (λ h. (a ∷ h.0, h.1)) (halves (b ∷ text))

-- eight groups, with one zero or more in the place of `::`
abbrev pub expanded : List ℕ → List ℕ → Option (List ℕ)
expanded head tail =
    if nat_lt (length head + length tail) 8
    then Some (head ++ replicate (8 - length head - length tail) 0 ++ tail) else None

-- the eight groups of a text, by its halves where it has `::`
abbrev pub eight_by : List ℕ → Option (List ℕ × List ℕ) → Option (List ℕ)
eight_by text None = do
  gs ← groups true (split_at 58 text)
  counted 8 gs
eight_by text (Some h) = do
  head ← side false h.0
  tail ← side true h.1
  expanded head tail

unfoldable pub eight_groups : List ℕ → Option (List ℕ)
eight_groups text = eight_by text (halves text)

-- Both

-- the address that a text writes: its number has the first part as the highest byte, or the first two bytes
unfoldable pub ip_of : List ℕ → Option Ip
ip_of text =
    option_or (option_map (λ o. V4 (from_be_bytes w32 o)) (octets text))
    (option_map (λ gs. V6 (from_be_bytes w128 (octets_of gs))) (eight_groups text))
