-- The item of an update is within the limits, and UTF-8 where its key and its value's text are.
use Rattle.std.proofs.Common.{◌≡◌, ◌≤◌, ℕ, Bool, true, false, List, [], ◌∷◌, length, refl, ap, subst, le-leb}
use Rattle.std.specs.Prelude.{Option, None, Some, Result, Ok, Err, option_map, is_none, unwrap_or, if◌then◌else◌}
use Rattle.std.specs.Result.{result_ok}
use Rattle.std.specs.Str.{IsUtf8}
use Rattle.std.proofs.lemmas.Str.{is_utf8-from_IsUtf8}
use Rattle.serde_json.specs.Data as D
use Rattle.serde_json.specs.Data.{Data}
use Rattle.serde_json.specs.Written.{compact_text}
use Rattle.ty_base.specs.declared.limits.TheConstants.{KEY_BYTES}
use Rattle.ty_base.specs.declared.item.Item.{Item}
use Rattle.ty_base.specs.declared.item.Item.TheVariants.{Put, Del}
use Rattle.ty_base.specs.Limits.{key_fits, value_fits, is_key_text, is_small}
use Rattle.ty_base.proofs.Passing.{both}
use Rattle.ty_keys.specs.declared.key.Key.{Key}
use Rattle.ty_keys.specs.declared.key.KeyFault.{KeyFault}
use Rattle.ty_keys.specs.Forms.{read_key}
use Rattle.ty_rules.specs.declared.rule.Rule.TheVariants as R
use Rattle.ty_rules.specs.Checks.{or_later, in_order}
use Rattle.ty_values.specs.Keys.{whole_numbers, compact_fits, of_key, broken, valid}
use Rattle.ty_values.specs.Items.{update, value_given, key_named, item_under, item_of}
use Rattle.ty_values.proofs.Limits.{short_when_read}

the_same : {X : Type 0} (x y : X) → Some x ≡ Some y → x ≡ y
the_same x y e = ap (λ o. unwrap_or o x) e

named_short : (key : List ℕ) (r : Result Key KeyFault) (k : Key) → read_key key ≡ r → result_ok r ≡ Some k → length key ≤ KEY_BYTES
named_short key (Ok x) k e h = short_when_read key x e
named_short key (Err x) k e h = cc

valid_fits : (k : Key) (d : Data) → valid k d ≡ true → value_fits (compact_text d) ≡ true
unfolding broken
valid_fits k d h = fits (whole_numbers d) (compact_fits d) h
  where
    fits : (a b : Bool) → is_none (or_later (if a then None else Some R.Number) (or_later (if b then None else Some R.Size) (in_order (of_key k ∷ []) d))) ≡ true → b ≡ true
    fits a true x = refl
    fits true false x = x
    fits false false x = x

-- a value that is given is the one that was there
given_is : (value : Option Data) (d : Data) → value_given value ≡ Some d → value ≡ Some d
given_is None d e = e
given_is (Some D.null) d e = cc
given_is (Some (D.boolean b)) d e = e
given_is (Some (D.number n)) d e = e
given_is (Some (D.string s)) d e = e
given_is (Some (D.array ds)) d e = e
given_is (Some (D.object ms)) d e = e

under_small : (k : Key) (key : List ℕ) (value : Option Data) → is_key_text key ≡ true → ((d : Data) → value ≡ Some d → IsUtf8 (compact_text d)) → is_small (item_under k key value) ≡ true
under_small k key None h f = h
under_small k key (Some d) h f =
    elim (valid k d) as (λ b. valid k d ≡ b → is_small (if b then Put key (compact_text d) else Del key) ≡ true) [
      | true ↦ λ v. both h (both (valid_fits k d v) (is_utf8-from_IsUtf8 (compact_text d) (f d refl)))
      | false ↦ λ v. h
    ] refl

pub update_small : (key : List ℕ) (value : Option Data) (x : Item) → IsUtf8 key → ((d : Data) → value ≡ Some d → IsUtf8 (compact_text d)) → item_of (update key value) ≡ Some x → is_small x ≡ true
update_small key value x u f e = named (key_named key) refl e
  where
    named : (o : Option Key) → key_named key ≡ o → option_map (λ k. item_under k key (value_given value)) o ≡ Some x → is_small x ≡ true
    named None y z = cc
    named (Some k) y z =
        let P : Item → Type 0 = λ i. is_small i ≡ true in
        let short : key_fits key ≡ true = le-leb (length key) KEY_BYTES (named_short key (read_key key) k refl y) in
        let text : is_key_text key ≡ true = both short (is_utf8-from_IsUtf8 key u) in
        subst P (the_same (item_under k key (value_given value)) x z) (under_small k key (value_given value) text (λ d q. f d (given_is value d q)))
