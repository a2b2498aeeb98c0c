-- What is told of a line.
use Rattle.std.proofs.Common.{◌≡◌, sym, ℕ, ◌<◌, ◌≤◌, List, Bool, true, false, length, refl, lt-ltb, le-ltb}
use Rattle.std.specs.Prelude.{Option, None, Some, IsUtf8}
use Rattle.std.specs.Str.{is_utf8}
use Rattle.std.proofs.lemmas.Str.{IsUtf8-from_is_utf8, is_utf8-from_IsUtf8}
use Rattle.serde_json.specs.Data.{Data}
use Rattle.serde_json.specs.Read.{read}
use Rattle.ty_base.specs.declared.item.Item.{Item}
use Rattle.ty_values.specs.Items.{Said, item_of}
use Rattle.ty_intake.specs.Line.{said_in, said_by_json, said_by, item_by}
use Rattle.ty_intake.specs.Faults.{is_too_long, line_fault}
use Rattle.ty_intake.specs.declared.intake.IntakeFault.TheVariants.{LongLine, BadUtf8, BadLine}

-- ---- a JSON text

said-read : (l : List ℕ) (d : Data) → IsUtf8 l → read l ≡ Some d → said_by_json l ≡ said_in d
unfolding said_by_json
said-read l d u e = rw (is_utf8-from_IsUtf8 l u, e) refl

said-unread : (l : List ℕ) (b : Bool) → is_utf8 l ≡ b → (IsUtf8 l → read l ≡ None) → said_by_json l ≡ None
unfolding said_by_json
said-unread l true e h = rw (e, h (IsUtf8-from_is_utf8 l e)) refl
said-unread l false e h = rw e refl

pub json-read : (l : List ℕ) (d : Data) → IsUtf8 l → read l ≡ Some d → said_in d ≡ said_by_json l
json-read l d u e = sym (said-read l d u e)

pub json-unread : (l : List ℕ) → (IsUtf8 l → read l ≡ None) → None ≡ said_by_json l
json-unread l h = sym (said-unread l (is_utf8 l) refl h)

-- ---- the faults

long : (l : List ℕ) → 8388608 < length l → is_too_long l ≡ true
long l h = lt-ltb 8388608 (length l) h

short : (l : List ℕ) → length l ≤ 8388608 → is_too_long l ≡ false
short l h = le-ltb 8388608 (length l) h

pub told-long : (n : ℕ) (l : List ℕ) → 8388608 < length l → line_fault n l ≡ Some (LongLine n)
unfolding line_fault
told-long n l h = rw (long l h) refl

not-utf8 : (l : List ℕ) (b : Bool) → is_utf8 l ≡ b → (IsUtf8 l → ⊥) → is_utf8 l ≡ false
not-utf8 l true e h = absurd (h (IsUtf8-from_is_utf8 l e))
not-utf8 l false e h = e

pub told-utf8 : (n : ℕ) (l : List ℕ) → length l ≤ 8388608 → (IsUtf8 l → ⊥) → line_fault n l ≡ Some (BadUtf8 n)
unfolding line_fault
told-utf8 n l h u = rw (short l h, not-utf8 l (is_utf8 l) refl u) refl

pub told-bad : (n : ℕ) (l : List ℕ) → length l ≤ 8388608 → IsUtf8 l → None ≡ said_by l → line_fault n l ≡ Some (BadLine n)
unfolding line_fault
told-bad n l h u e = rw (short l h, is_utf8-from_IsUtf8 l u, sym e) refl

pub told-good : (n : ℕ) (l : List ℕ) (s : Said) → length l ≤ 8388608 → IsUtf8 l → Some s ≡ said_by l → line_fault n l ≡ None
unfolding line_fault
told-good n l s h u e = rw (short l h, is_utf8-from_IsUtf8 l u, sym e) refl

pub item-good : (l : List ℕ) (s : Said) (item : Option Item) → Some s ≡ said_by l → item ≡ item_of s → item ≡ item_by l
unfolding item_by
item-good l s item e i = rw (sym e) i
