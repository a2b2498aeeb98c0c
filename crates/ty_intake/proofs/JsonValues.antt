-- The value of a JSON text that is UTF-8: its strings and its compact text are UTF-8.
use Rattle.std.proofs.Common.{◌≡◌, ℕ, zero, suc, Bool, true, false, List, [], ◌∷◌, ◌++◌, length, decimal, refl, subst, arith}
use Rattle.std.specs.Prelude.{ℤ, pos, negsuc, Option, None, Some, option_map, option_and_then}
use Rattle.std.specs.Str.{IsUtf8}
use Rattle.std.specs.Fmt.{signed_decimal}
use Rattle.std.specs.declared.cmp.Ordering.TheVariants.{Less, Equal, Greater}
use Rattle.std.specs.Ordering.{nat_cmp, match_ordering}
use Rattle.std.specs.Cmp.Lexicographic.{slice_cmp}
use Rattle.std.proofs.lemmas.Str.{IsUtf8-append, IsUtf8-nil}
use Rattle.std.proofs.DigitsParse.{digits-IsUtf8}
use Rattle.json.specs.Token.{Token, begin_object, end_object, begin_array, end_array, key, string, number, boolean, null, bad}
use Rattle.json.specs.Lex.{tokens}
use Rattle.json.specs.Print.{quoted}
use Rattle.json.specs.Json as json
use Rattle.json.specs.Json.{Parse, parse_map, after_end_array, read_key, items_step, members_step, items, members, value_with, value, if_last}
use Rattle.json.proofs.Printed.Utf8.{IsUtf8-are_ascii, IsUtf8-quoted, IsUtf8-boolean}
use Rattle.serde_json.specs.Data as D
use Rattle.serde_json.specs.Data.{Data, Num, put}
use Rattle.serde_json.specs.Read.{number_of, of_json, of_items, of_members, read, max_depth}
use Rattle.serde_json.specs.Find.{get_member, get, as_str}
use Rattle.serde_json.specs.Written.{number_text, comma_if, compact_text, items_text, members_text}
use Rattle.ty_intake.proofs.JsonTokens.{not_there, the_same, was_there, AllUtf8, tokens_utf8}

-- From tokens to JSON

abbrev mutual
  pub JsonUtf8 : json.Json → Type 0
  JsonUtf8 json.null = Unit {0}
  JsonUtf8 (json.boolean b) = Unit {0}
  JsonUtf8 (json.number s) = Unit {0}
  JsonUtf8 (json.string s) = IsUtf8 s
  JsonUtf8 (json.array js) = JsonItemsUtf8 js
  JsonUtf8 (json.object ms) = JsonMembersUtf8 ms

  pub JsonItemsUtf8 : json.Items → Type 0
  JsonItemsUtf8 json.no_items = Unit {0}
  JsonItemsUtf8 (json.item j js) = JsonUtf8 j × JsonItemsUtf8 js

  pub JsonMembersUtf8 : json.Members → Type 0
  JsonMembersUtf8 json.no_members = Unit {0}
  JsonMembersUtf8 (json.member k j ms) = IsUtf8 k × JsonUtf8 j × JsonMembersUtf8 ms

-- of UTF-8 tokens it makes what is, and leaves such tokens
abbrev Keeps : {A : Type 0} → (A → Type 0) → Parse A → Type 0
Keeps {A} P f = (ts : List Token) → AllUtf8 ts → (r : A × List Token) → f ts ≡ Some r → P r.0 × AllUtf8 r.1

was_mapped : {A B : Type 0} (f : A → B) (x : Option (A × List Token)) (r : B × List Token) → parse_map f x ≡ Some r → (q : A × List Token) × (x ≡ Some q) × ((f q.0, q.1) ≡ r)
was_mapped f None r e = not_there r e
was_mapped f (Some q) r e = (q, refl, the_same (f q.0, q.1) r e)

end_array_kept : (ts : List Token) → AllUtf8 ts → (rest : List Token) → after_end_array ts ≡ Some rest → AllUtf8 rest
end_array_kept [] h rest e = not_there rest e
end_array_kept (begin_object ∷ ts) h rest e = not_there rest e
end_array_kept (end_object ∷ ts) h rest e = not_there rest e
end_array_kept (begin_array ∷ ts) h rest e = not_there rest e
end_array_kept (end_array ∷ ts) h rest e = subst AllUtf8 (the_same ts rest e) h.1
end_array_kept (key s ∷ ts) h rest e = not_there rest e
end_array_kept (string s ∷ ts) h rest e = not_there rest e
end_array_kept (number s ∷ ts) h rest e = not_there rest e
end_array_kept (boolean b ∷ ts) h rest e = not_there rest e
end_array_kept (null ∷ ts) h rest e = not_there rest e
end_array_kept (bad ∷ ts) h rest e = not_there rest e

abbrev KeyUtf8 : Option (List ℕ) → Type 0
KeyUtf8 None = Unit {0}
KeyUtf8 (Some k) = IsUtf8 k

abbrev KeyAndRest : Option (List ℕ) × List Token → Type 0
KeyAndRest p = KeyUtf8 p.0 × AllUtf8 p.1

key_kept : Keeps KeyUtf8 read_key
key_kept [] h r e = not_there r e
key_kept (begin_object ∷ ts) h r e = not_there r e
key_kept (end_object ∷ ts) h r e = subst KeyAndRest (the_same (None, ts) r e) (tt, h.1)
key_kept (begin_array ∷ ts) h r e = not_there r e
key_kept (end_array ∷ ts) h r e = not_there r e
key_kept (key s ∷ ts) h r e = subst KeyAndRest (the_same (Some s, ts) r e) (h.0, h.1)
key_kept (string s ∷ ts) h r e = not_there r e
key_kept (number s ∷ ts) h r e = not_there r e
key_kept (boolean b ∷ ts) h r e = not_there r e
key_kept (null ∷ ts) h r e = not_there r e
key_kept (bad ∷ ts) h r e = not_there r e

abbrev ItemsAndRest : json.Items × List Token → Type 0
ItemsAndRest p = JsonItemsUtf8 p.0 × AllUtf8 p.1

abbrev MembersAndRest : json.Members × List Token → Type 0
MembersAndRest p = JsonMembersUtf8 p.0 × AllUtf8 p.1

abbrev JsonAndRest : json.Json × List Token → Type 0
JsonAndRest p = JsonUtf8 p.0 × AllUtf8 p.1

module _ (v : Parse json.Json) (keeps : Keeps JsonUtf8 v) where
  items_step_kept : (more : Parse json.Items) → Keeps JsonItemsUtf8 more → (ts : List Token) → AllUtf8 ts → (o : Option (List Token)) → ((rest : List Token) → o ≡ Some rest → AllUtf8 rest)
      → (r : json.Items × List Token) → items_step v more ts o ≡ Some r → ItemsAndRest r
  items_step_kept more m ts h (Some rest) f r e = subst ItemsAndRest (the_same (json.no_items, rest) r e) (tt, f rest refl)
  items_step_kept more m ts h None f r e =
      let first = was_there (v ts) (λ p. parse_map (json.item p.0) (more p.1)) r e in
      let one = keeps ts h first.0 first.1 in
      let later = was_mapped (json.item first.0.0) (more first.0.1) r first.2 in
      let all = m first.0.1 one.1 later.0 later.1 in
      subst ItemsAndRest later.2 ((one.0, all.0), all.1)

  items_kept : (n : ℕ) → Keeps JsonItemsUtf8 (items v n)
  unfolding items
  items_kept zero ts h r e = not_there r e
  items_kept (suc n) ts h r e = items_step_kept (items v n) (items_kept n) ts h (after_end_array ts) (end_array_kept ts h) r e

  members_step_kept : (more : Parse json.Members) → Keeps JsonMembersUtf8 more → (k : Option (List ℕ)) (ts : List Token) → KeyUtf8 k → AllUtf8 ts
      → (r : json.Members × List Token) → members_step v more k ts ≡ Some r → MembersAndRest r
  members_step_kept more m None ts u h r e = subst MembersAndRest (the_same (json.no_members, ts) r e) (tt, h)
  members_step_kept more m (Some k) ts u h r e =
      let first = was_there (v ts) (λ p. parse_map (json.member k p.0) (more p.1)) r e in
      let one = keeps ts h first.0 first.1 in
      let later = was_mapped (json.member k first.0.0) (more first.0.1) r first.2 in
      let all = m first.0.1 one.1 later.0 later.1 in
      subst MembersAndRest later.2 ((u, one.0, all.0), all.1)

  members_kept : (n : ℕ) → Keeps JsonMembersUtf8 (members v n)
  unfolding members
  members_kept zero ts h r e = not_there r e
  members_kept (suc n) ts h r e =
      let named = was_there (read_key ts) (λ p. members_step v (members v n) p.0 p.1) r e in
      let k = key_kept ts h named.0 named.1 in
      members_step_kept (members v n) (members_kept n) named.0.0 named.0.1 k.0 k.1 r named.2

module _ (a : Parse json.Items) (o : Parse json.Members) (p : Keeps JsonItemsUtf8 a) (q : Keeps JsonMembersUtf8 o) where
  value_with_kept : Keeps JsonUtf8 (value_with a o)
  value_with_kept [] h r e = not_there r e
  value_with_kept (begin_object ∷ ts) h r e = let m = was_mapped json.object (o ts) r e in subst JsonAndRest m.2 (q ts h.1 m.0 m.1)
  value_with_kept (end_object ∷ ts) h r e = not_there r e
  value_with_kept (begin_array ∷ ts) h r e = let m = was_mapped json.array (a ts) r e in subst JsonAndRest m.2 (p ts h.1 m.0 m.1)
  value_with_kept (end_array ∷ ts) h r e = not_there r e
  value_with_kept (key s ∷ ts) h r e = not_there r e
  value_with_kept (string s ∷ ts) h r e = subst JsonAndRest (the_same (json.string s, ts) r e) (h.0, h.1)
  value_with_kept (number s ∷ ts) h r e = subst JsonAndRest (the_same (json.number s, ts) r e) (tt, h.1)
  value_with_kept (boolean b ∷ ts) h r e = subst JsonAndRest (the_same (json.boolean b, ts) r e) (tt, h.1)
  value_with_kept (null ∷ ts) h r e = subst JsonAndRest (the_same (json.null, ts) r e) (tt, h.1)
  value_with_kept (bad ∷ ts) h r e = not_there r e

value_kept : (depth : ℕ) → Keeps JsonUtf8 (value depth)
unfolding value
value_kept zero = value_with_kept (λ ts. None) (λ ts. None) (λ ts h r e. not_there r e) (λ ts h r e. not_there r e)
value_kept (suc depth) =
    value_with_kept (λ ts. items (value depth) (length ts) ts) (λ ts. members (value depth) (length ts) ts)
    (λ ts h r e. items_kept (value depth) (value_kept depth) (length ts) ts h r e) (λ ts h r e. members_kept (value depth) (value_kept depth) (length ts) ts h r e)

last_kept : (j k : json.Json) (ts : List Token) → if_last j ts ≡ Some k → JsonUtf8 j → JsonUtf8 k
last_kept j k [] e h = subst JsonUtf8 (the_same j k e) h
last_kept j k (t ∷ ts) e h = not_there k e

-- From JSON to values

abbrev mutual
  pub DataUtf8 : Data → Type 0
  DataUtf8 D.null = Unit {0}
  DataUtf8 (D.boolean b) = Unit {0}
  DataUtf8 (D.number n) = Unit {0}
  DataUtf8 (D.string s) = IsUtf8 s
  DataUtf8 (D.array ds) = ItemsUtf8 ds
  DataUtf8 (D.object ms) = MembersUtf8 ms

  pub ItemsUtf8 : D.Items → Type 0
  ItemsUtf8 D.no_items = Unit {0}
  ItemsUtf8 (D.item d ds) = DataUtf8 d × ItemsUtf8 ds

  pub MembersUtf8 : D.Members → Type 0
  MembersUtf8 D.no_members = Unit {0}
  MembersUtf8 (D.member k d ms) = IsUtf8 k × DataUtf8 d × MembersUtf8 ms

put_kept : (k : List ℕ) (d : Data) (ms : D.Members) → IsUtf8 k → DataUtf8 d → MembersUtf8 ms → MembersUtf8 (put k d ms)
put_kept k d D.no_members u h r = (u, h, tt)
put_kept k d (D.member l e ms) u h r =
    elim (slice_cmp nat_cmp k l) as (λ o. MembersUtf8 (match_ordering o (D.member k d (D.member l e ms)) (D.member l d ms) (D.member l e (put k d ms)))) [
      | Less ↦ (u, h, r)
      | Equal ↦ (r.0, h, r.2)
      | Greater ↦ (r.0, r.1, put_kept k d ms u h r.2)
    ]

map_was_there : {X Y : Type 0} (f : X → Y) (o : Option X) (y : Y) → option_map f o ≡ Some y → (x : X) × (o ≡ Some x) × (f x ≡ y)
map_was_there f None y e = not_there y e
map_was_there f (Some x) y e = (x, refl, the_same (f x) y e)

mutual
  of_json_kept : (j : json.Json) → JsonUtf8 j → (d : Data) → of_json j ≡ Some d → DataUtf8 d
  of_json_kept json.null h d e = subst DataUtf8 (the_same D.null d e) tt
  of_json_kept (json.boolean b) h d e = subst DataUtf8 (the_same (D.boolean b) d e) tt
  of_json_kept (json.number s) h d e = let q = map_was_there D.number (number_of s) d e in subst DataUtf8 q.2 tt
  of_json_kept (json.string s) h d e = subst DataUtf8 (the_same (D.string s) d e) h
  of_json_kept (json.array js) h d e = let q = map_was_there D.array (of_items js) d e in subst DataUtf8 q.2 (of_items_kept js h q.0 q.1)
  of_json_kept (json.object ms) h d e = let q = map_was_there D.object (of_members ms D.no_members) d e in subst DataUtf8 q.2 (of_members_kept ms h D.no_members tt q.0 q.1)

  of_items_kept : (js : json.Items) → JsonItemsUtf8 js → (ds : D.Items) → of_items js ≡ Some ds → ItemsUtf8 ds
  of_items_kept json.no_items h ds e = subst ItemsUtf8 (the_same D.no_items ds e) tt
  of_items_kept (json.item j js) h ds e =
      let first = was_there (of_json j) (λ d. option_map (D.item d) (of_items js)) ds e in
      let later = map_was_there (D.item first.0) (of_items js) ds first.2 in
      subst ItemsUtf8 later.2 (of_json_kept j h.0 first.0 first.1, of_items_kept js h.1 later.0 later.1)

  of_members_kept : (ms : json.Members) → JsonMembersUtf8 ms → (found : D.Members) → MembersUtf8 found → (ds : D.Members) → of_members ms found ≡ Some ds → MembersUtf8 ds
  of_members_kept json.no_members h found f ds e = subst MembersUtf8 (the_same found ds e) f
  of_members_kept (json.member k j ms) h found f ds e =
      let first = was_there (of_json j) (λ d. of_members ms (put k d found)) ds e in
      of_members_kept ms h.2 (put k first.0 found) (put_kept k first.0 found h.0 (of_json_kept j h.1 first.0 first.1) f) ds first.2

pub read_utf8 : (text : List ℕ) (d : Data) → IsUtf8 text → read text ≡ Some d → DataUtf8 d
read_utf8 text d u e =
    let whole = was_there (option_and_then (λ p. if_last p.0 p.1) (value max_depth (tokens text))) of_json d e in
    let parsed = was_there (value max_depth (tokens text)) (λ p. if_last p.0 p.1) whole.0 whole.1 in
    let kept = value_kept max_depth (tokens text) (tokens_utf8 text u) parsed.0 parsed.1 in
    of_json_kept whole.0 (last_kept parsed.0.0 whole.0 parsed.0.1 parsed.2 kept.0) d whole.2

-- Parts of a value

member_utf8 : (k : List ℕ) (ms : D.Members) (d : Data) → MembersUtf8 ms → get_member k ms ≡ Some d → DataUtf8 d
member_utf8 k D.no_members d h e = not_there d e
member_utf8 k (D.member l f ms) d h e =
    elim (slice_cmp nat_cmp k l) as (λ o. match_ordering o (get_member k ms) (Some f) (get_member k ms) ≡ Some d → DataUtf8 d) [
      | Less ↦ λ x. member_utf8 k ms d h.2 x
      | Equal ↦ λ x. subst DataUtf8 (the_same f d x) h.1
      | Greater ↦ λ x. member_utf8 k ms d h.2 x
    ] e

pub get_utf8 : (k : List ℕ) (v d : Data) → DataUtf8 v → get k v ≡ Some d → DataUtf8 d
get_utf8 k D.null d h e = not_there d e
get_utf8 k (D.boolean b) d h e = not_there d e
get_utf8 k (D.number n) d h e = not_there d e
get_utf8 k (D.string s) d h e = not_there d e
get_utf8 k (D.array ds) d h e = not_there d e
get_utf8 k (D.object ms) d h e = member_utf8 k ms d h e

pub text_utf8 : (v : Data) (s : List ℕ) → DataUtf8 v → as_str v ≡ Some s → IsUtf8 s
text_utf8 D.null s h e = not_there s e
text_utf8 (D.boolean b) s h e = not_there s e
text_utf8 (D.number n) s h e = not_there s e
text_utf8 (D.string t) s h e = subst IsUtf8 (the_same t s e) h
text_utf8 (D.array ds) s h e = not_there s e
text_utf8 (D.object ms) s h e = not_there s e

-- The compact text

decimal_utf8 : (n : ℕ) → IsUtf8 (decimal n)
decimal_utf8 n = digits-IsUtf8 10 false n (omega arith) (omega arith)

signed_utf8 : (z : ℤ) → IsUtf8 (signed_decimal z)
signed_utf8 (pos n) = decimal_utf8 n
signed_utf8 (negsuc n) = IsUtf8-append (45 ∷ []) (decimal (suc n)) (IsUtf8-are_ascii (45 ∷ []) refl) (decimal_utf8 (suc n))

number_utf8 : (n : Num) → IsUtf8 (number_text n)
number_utf8 (D.unsigned n) = decimal_utf8 n
number_utf8 (D.negative z) = signed_utf8 z
number_utf8 (D.float x) = IsUtf8-nil

comma_utf8 : (later : Bool) → IsUtf8 (comma_if later)
comma_utf8 true = IsUtf8-are_ascii (44 ∷ []) refl
comma_utf8 false = IsUtf8-nil

mutual
  pub compact_utf8 : (d : Data) → DataUtf8 d → IsUtf8 (compact_text d)
  compact_utf8 D.null h = IsUtf8-are_ascii _ refl
  compact_utf8 (D.boolean b) h = IsUtf8-boolean b
  compact_utf8 (D.number n) h = number_utf8 n
  compact_utf8 (D.string s) h = IsUtf8-quoted s h
  compact_utf8 (D.array ds) h = IsUtf8-append (91 ∷ []) (items_text false ds) (IsUtf8-are_ascii _ refl) (items_utf8 false ds h)
  compact_utf8 (D.object ms) h = IsUtf8-append (123 ∷ []) (members_text false ms) (IsUtf8-are_ascii _ refl) (members_utf8 false ms h)

  items_utf8 : (later : Bool) (ds : D.Items) → ItemsUtf8 ds → IsUtf8 (items_text later ds)
  items_utf8 later D.no_items h = IsUtf8-are_ascii (93 ∷ []) refl
  items_utf8 later (D.item d ds) h =
      IsUtf8-append (comma_if later) (compact_text d ++ items_text true ds) (comma_utf8 later) (IsUtf8-append (compact_text d) (items_text true ds) (compact_utf8 d h.0) (items_utf8 true ds h.1))

  members_utf8 : (later : Bool) (ms : D.Members) → MembersUtf8 ms → IsUtf8 (members_text later ms)
  members_utf8 later D.no_members h = IsUtf8-are_ascii (125 ∷ []) refl
  members_utf8 later (D.member k d ms) h =
      IsUtf8-append (comma_if later) (quoted k ++ 58 ∷ (compact_text d ++ members_text true ms)) (comma_utf8 later)
      (IsUtf8-append (quoted k) (58 ∷ (compact_text d ++ members_text true ms)) (IsUtf8-quoted k h.0)
      (IsUtf8-append (58 ∷ []) (compact_text d ++ members_text true ms) (IsUtf8-are_ascii _ refl)
      (IsUtf8-append (compact_text d) (members_text true ms) (compact_utf8 d h.1) (members_utf8 true ms h.2))))
