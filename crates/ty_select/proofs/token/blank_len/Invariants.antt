use Rattle.std.proofs.Common.{◌≡◌, ℕ, ◌<◌, true, get_or}
use Rattle.ty_select.specs.Tokens.{is_blank}
use Rattle.ty_select.proofs.token.blank_len.Given as goal

abbrev pub invariant-loop-byte : goal.invariant-loop-byte
invariant-loop-byte l = (l.count ≡ l.byte-index) × ((k : ℕ) → k < l.byte-index → is_blank (get_or l.bytes k 0) ≡ true)
