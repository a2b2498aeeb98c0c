-- How long keys and values may be, in bytes.
use Rattle.std.specs.Prelude.{◌≡◌, ◌&&◌, ℕ, Bool, true, nat_le, List, length}
use Rattle.std.specs.List.{list_all}
use Rattle.std.specs.Str.{is_utf8}
use Rattle.ty_base.specs.declared.limits.TheConstants.{KEY_BYTES, VALUE_BYTES}
use Rattle.ty_base.specs.declared.item.Item.{Item}
use Rattle.ty_base.specs.declared.delta.Delta.{Delta}
use Rattle.ty_base.specs.declared.entry.Entry.{Entry}
use Rattle.ty_base.specs.Feed.{Pairs}
use Rattle.ty_base.specs.Passing.{pair_passes, delta_passes, item_passes}

abbrev pub key_fits : List ℕ → Bool
key_fits k = nat_le (length k) KEY_BYTES

abbrev pub value_fits : List ℕ → Bool
value_fits v = nat_le (length v) VALUE_BYTES

abbrev pub pairs_fit : Pairs → Bool
pairs_fit m = list_all (pair_passes key_fits value_fits) m

abbrev pub deltas_fit : List Delta → Bool
deltas_fit ds = list_all (delta_passes key_fits value_fits) ds

abbrev pub items_fit : List Item → Bool
items_fit items = list_all (item_passes key_fits value_fits) items

-- Texts within the limits, as those of a feed are: they are UTF-8 too (RFC 3629)

abbrev pub is_key_text : List ℕ → Bool
is_key_text k = key_fits k && is_utf8 k

abbrev pub is_value_text : List ℕ → Bool
is_value_text v = value_fits v && is_utf8 v

abbrev pub is_small : Item → Bool
is_small x = item_passes is_key_text is_value_text x

abbrev pub AreSmall : List Item → Type 0
AreSmall items = list_all is_small items ≡ true

abbrev pub is_small_delta : Delta → Bool
is_small_delta d = delta_passes is_key_text is_value_text d

abbrev pub is_small_entry : Entry → Bool
is_small_entry e = list_all is_small_delta e.deltas
