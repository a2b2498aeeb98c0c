-- Words: the names of labels, and what a selector's text has outside of quotes and marks.
use Rattle.std.specs.Prelude.{ℕ, List, length, Bool, ◌&&◌, ◌||◌, ◌==◌, nat_le}
use Rattle.std.specs.Char.{is_ascii_alphanumeric}
use Rattle.std.specs.List.{list_all}
use Rattle.ty_select.specs.declared.limits.TheConstants.{WORD_BYTES}

-- A to Z, a to z, 0 to 9, _ . / -
abbrev pub is_word_byte : ℕ → Bool
is_word_byte b = is_ascii_alphanumeric b || (b == 95) || (b == 46) || (b == 47) || (b == 45)

-- how many of these a word has
abbrev pub is_word_len : ℕ → Bool
is_word_len n = nat_le 1 n && nat_le n WORD_BYTES

abbrev pub is_word : List ℕ → Bool
is_word w = is_word_len (length w) && list_all is_word_byte w
