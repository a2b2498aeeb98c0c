-- How long keys are that read, and which items are within the limits.
use Rattle.std.proofs.Common.{◌≡◌, ◌≤◌, ℕ, Bool, true, false, List, length, refl, Result, Ok, Err, ◌&&◌, ap, sym, subst, ◌∙◌}
use Rattle.std.specs.Prelude.{nat_lt, nat_le, if◌then◌else◌}
use Rattle.std.specs.Str.{IsUtf8, is_utf8}
use Rattle.std.proofs.lemmas.Str.{is_utf8-from_IsUtf8}
use Rattle.std.proofs.lemmas.Bool.{ltb-false, le-leb}
use Rattle.ty_base.specs.declared.limits.TheConstants.{KEY_BYTES}
use Rattle.ty_keys.specs.declared.key.Key.{Key}
use Rattle.ty_keys.specs.declared.key.KeyFault.{KeyFault}
use Rattle.ty_keys.specs.declared.key.KeyFault.TheVariants.{TooLong}
use Rattle.ty_keys.specs.Forms.{read_key}

refused : (b : Bool) (read : Result Key KeyFault) (k : Key) → (if b then Err TooLong else read) ≡ Ok k → b ≡ false
refused true read k e = cc
refused false read k e = refl

pub short_when_read : (text : List ℕ) (k : Key) → read_key text ≡ Ok k → length text ≤ KEY_BYTES
unfolding read_key
short_when_read text k e = ltb-false KEY_BYTES (length text) (refused (nat_lt KEY_BYTES (length text)) _ k e)

pub both : (a b : Bool) → a ≡ true → b ≡ true → (a && b) ≡ true
both a b e f = ap (λ v. v && b) e ∙ f

-- UTF-8 of so many bytes at most
abbrev pub text_up_to : ℕ → List ℕ → Bool
text_up_to most text = nat_le (length text) most && is_utf8 text

pub is_text_up_to : (most : ℕ) (text : List ℕ) → length text ≤ most → IsUtf8 text → text_up_to most text ≡ true
is_text_up_to most text short utf8 = both _ _ (le-leb (length text) most short) (is_utf8-from_IsUtf8 text utf8)

-- a copy of a text
pub copy_up_to : (most : ℕ) (made seen text : List ℕ) → made ≡ seen → seen ≡ text → length text ≤ most → IsUtf8 seen → text_up_to most made ≡ true
copy_up_to most made seen text e f short utf8 =
    let seen_short : length seen ≤ most = subst (λ t. length t ≤ most) (sym f) short in
    subst (λ t. text_up_to most t ≡ true) (sym e) (is_text_up_to most seen seen_short utf8)
