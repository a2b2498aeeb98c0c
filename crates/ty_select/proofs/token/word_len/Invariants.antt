use Rattle.std.proofs.Common.{◌≡◌, ℕ, ◌<◌, true, get_or}
use Rattle.ty_select.specs.Words.{is_word_byte}
use Rattle.ty_select.proofs.token.word_len.Given as goal

abbrev pub invariant-loop-byte : goal.invariant-loop-byte
invariant-loop-byte l = (l.count ≡ l.byte-index) × ((k : ℕ) → k < l.byte-index → is_word_byte (get_or l.here k 0) ≡ true)
