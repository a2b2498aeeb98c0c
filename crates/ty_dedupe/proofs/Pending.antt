-- One item more, in the definitions and in the buffer's map.
use Rattle.std.proofs.Common.{◌≡◌, ℕ, Bool, true, false, cond, not, ◌||◌, List, [], ◌∷◌, ◌++◌, map, refl, sym, ap, ◌∙◌, true≢false}
use Rattle.std.specs.Prelude.{Option, None, Some, reverse, string_bytes, string_eq, slice_get}
use Rattle.std.specs.declared.string.String.{String}
use Rattle.std.specs.declared.alloc.Global.{Global}
use Rattle.std.specs.Str.{bytes_eq}
use Rattle.std.specs.List.{filter, filter_map, cons_option, find, list_any}
use Rattle.std.specs.Cmp.Lexicographic.{bytes_decides}
use Rattle.std.proofs.lemmas.List.{reverse-append, append-nil}
use Rattle.std.proofs.lemmas.List.Elements.{filter-append, filter_map-append}
use Rattle.indexmap.specs.IndexMap.{insert_entry}
use Rattle.ty_base.specs.declared.item.Item.{Item}
use Rattle.ty_base.specs.declared.item.Item.TheVariants.{State}
use Rattle.ty_base.specs.declared.status.Status.{Status}
use Rattle.ty_base.specs.Feed.{key_of, firsts}
use Rattle.ty_base.proofs.Pairs.{firsts_any}
use Rattle.ty_base.specs.Readings.{is_about, put_by, last_put}
use Rattle.ty_dedupe.specs.Pending.{pending, status_of_item, last_status, shown}

itself : (k : List ℕ) → bytes_eq k k ≡ true
itself k = (bytes_decides k k).1 refl

turned : (k q : List ℕ) → bytes_eq k q ≡ true → bytes_eq q k ≡ true
turned k q p = (bytes_decides q k).1 (sym ((bytes_decides k q).0 p))

-- no two keys of a list are one
abbrev pub Distinct : List (List ℕ) → Type 0
Distinct [] = Unit {0}
Distinct (k ∷ ks) = (list_any (bytes_eq k) ks ≡ false) × Distinct ks

or_both : (a b : Bool) → (a || b) ≡ false → (a ≡ false) × (b ≡ false)
or_both true b h = absurd (true≢false h)
or_both false b h = (refl, h)

any_kept : (k : List ℕ) (test : List ℕ → Bool) (ks : List (List ℕ)) → list_any (bytes_eq k) ks ≡ false → list_any (bytes_eq k) (filter test ks) ≡ false
any_kept k test [] h = refl
any_kept k test (q ∷ ks) h =
    let s = or_both (bytes_eq k q) (list_any (bytes_eq k) ks) h in
    let rest = any_kept k test ks s.1 in
    elim (test q) as (λ b. list_any (bytes_eq k) (cond b (q ∷ filter test ks) (filter test ks)) ≡ false) [ true ↦ ap (λ b. b || list_any (bytes_eq k) (filter test ks)) s.0 ∙ rest | false ↦ rest ]

distinct_kept : (test : List ℕ → Bool) (ks : List (List ℕ)) → Distinct ks → Distinct (filter test ks)
distinct_kept test [] h = tt
distinct_kept test (k ∷ ks) h =
    elim (test k) as (λ b. Distinct (cond b (k ∷ filter test ks) (filter test ks))) [ true ↦ (any_kept k test ks h.0, distinct_kept test ks h.1) | false ↦ distinct_kept test ks h.1 ]

-- a key is not among those that differ from it
none_left : (k : List ℕ) (ks : List (List ℕ)) → list_any (bytes_eq k) (filter (λ q. not (bytes_eq k q)) ks) ≡ false
none_left k [] = refl
none_left k (q ∷ ks) =
    elim (bytes_eq k q) as (λ b. bytes_eq k q ≡ b → list_any (bytes_eq k) (cond (not b) (q ∷ filter (λ x. not (bytes_eq k x)) ks) (filter (λ x. not (bytes_eq k x)) ks)) ≡ false) [
      | true ↦ λ p. none_left k ks
      | false ↦ λ p. ap (λ b. b || list_any (bytes_eq k) (filter (λ x. not (bytes_eq k x)) ks)) p ∙ none_left k ks
    ] refl

pub distinct_firsts : (ks : List (List ℕ)) → Distinct (firsts ks)
distinct_firsts [] = tt
distinct_firsts (k ∷ ks) = (none_left k (firsts ks), distinct_kept (λ q. not (bytes_eq k q)) (firsts ks) (distinct_firsts ks))

dropped : (k j : List ℕ) → bytes_eq k j ≡ true → not (bytes_eq j k) ≡ false
dropped k j p = ap not (turned k j p)

apart : (k j : List ℕ) → bytes_eq k j ≡ false → not (bytes_eq j k) ≡ true
apart k j p =
    elim (bytes_eq j k) as (λ b. bytes_eq j k ≡ b → not b ≡ true) [
      | true ↦ λ q. absurd (true≢false (sym (turned j k q) ∙ p))
      | false ↦ λ q. refl
    ] refl

abbrev added : List (List ℕ) → List ℕ → Bool → List (List ℕ)
added ks k b = cond b ks (ks ++ k ∷ [])

-- the first places after one more key
firsts_more : (ks : List (List ℕ)) (k : List ℕ) → firsts (ks ++ k ∷ []) ≡ added (firsts ks) k (list_any (bytes_eq k) ks)
firsts_more [] k = refl
firsts_more (j ∷ ks) k =
    let other : List ℕ → Bool = λ q. not (bytes_eq j q) in
    ap (λ xs. j ∷ filter other xs) (firsts_more ks k)
    ∙ (elim (list_any (bytes_eq k) ks) as (λ a. j ∷ filter other (added (firsts ks) k a) ≡ added (j ∷ filter other (firsts ks)) k (bytes_eq k j || a)) [
      | true ↦ elim (bytes_eq k j) as (λ b. j ∷ filter other (firsts ks) ≡ added (j ∷ filter other (firsts ks)) k (b || true)) [ true ↦ refl | false ↦ refl ]
      | false ↦
          ap (λ xs. j ∷ xs) (filter-append other (firsts ks) (k ∷ []))
          ∙ (elim (bytes_eq k j) as (λ b. bytes_eq k j ≡ b → j ∷ (filter other (firsts ks) ++ filter other (k ∷ [])) ≡ added (j ∷ filter other (firsts ks)) k (b || false)) [
            | true ↦ λ p. ap (λ b. j ∷ (filter other (firsts ks) ++ cond b (k ∷ []) [])) (dropped k j p) ∙ ap (λ xs. j ∷ xs) (append-nil (filter other (firsts ks)))
            | false ↦ λ p. ap (λ b. j ∷ (filter other (firsts ks) ++ cond b (k ∷ []) [])) (apart k j p)
          ] refl)
    ])

-- f, with o at k
abbrev with_value : List ℕ → Option (List ℕ) → (List ℕ → Option (List ℕ)) → List ℕ → Option (List ℕ)
with_value k o f q = cond (bytes_eq q k) o (f q)

abbrev table : (List ℕ → Option (List ℕ)) → List (List ℕ) → List (List ℕ × Option (List ℕ))
table f ks = map (λ q. (q, f q)) ks

table_kept : (k : List ℕ) (o : Option (List ℕ)) (f : List ℕ → Option (List ℕ)) (ks : List (List ℕ)) → list_any (bytes_eq k) ks ≡ false → table f ks ≡ table (with_value k o f) ks
table_kept k o f [] h = refl
table_kept k o f (q ∷ ks) h =
    let s = or_both (bytes_eq k q) (list_any (bytes_eq k) ks) h in
    let same : f q ≡ with_value k o f q = elim (bytes_eq q k) as (λ b. bytes_eq q k ≡ b → f q ≡ cond b o (f q)) [ true ↦ λ p. absurd (true≢false (sym (turned q k p) ∙ s.0)) | false ↦ λ p. refl ] refl in
    let rest = table_kept k o f ks s.1 in λ i. (q, same i) ∷ rest i

first_at : (k q : List ℕ) (o : Option (List ℕ)) (f : List ℕ → Option (List ℕ)) → bytes_eq k q ≡ true → o ≡ with_value k o f q
first_at k q o f p = sym (ap (λ b. cond b o (f q)) (turned k q p))

other_at : (k q : List ℕ) (o : Option (List ℕ)) (f : List ℕ → Option (List ℕ)) → bytes_eq k q ≡ false → f q ≡ with_value k o f q
other_at k q o f s =
    elim (bytes_eq q k) as (λ b. bytes_eq q k ≡ b → f q ≡ cond b o (f q)) [ true ↦ λ p. absurd (true≢false (sym (turned q k p) ∙ s)) | false ↦ λ p. refl ] refl

none_like : (k q : List ℕ) (ks : List (List ℕ)) → bytes_eq k q ≡ true → list_any (bytes_eq q) ks ≡ false → list_any (bytes_eq k) ks ≡ false
none_like k q ks p h = ap (λ x. list_any (bytes_eq x) ks) ((bytes_decides k q).0 p) ∙ h

-- an entry that is put at its key's place, or last
inserted : (k : List ℕ) (o : Option (List ℕ)) (f : List ℕ → Option (List ℕ)) (ks : List (List ℕ)) → Distinct ks
    → insert_entry bytes_eq (table f ks) k o ≡ table (with_value k o f) (added ks k (list_any (bytes_eq k) ks))
inserted k o f [] d = λ i. (k, first_at k k o f (itself k) i) ∷ []
inserted k o f (q ∷ ks) d =
    elim (bytes_eq k q) as (λ b. bytes_eq k q ≡ b → cond b ((q, o) ∷ table f ks) ((q, f q) ∷ insert_entry bytes_eq (table f ks) k o) ≡ table (with_value k o f) (added (q ∷ ks) k (b || list_any (bytes_eq k) ks))) [
      | true ↦ λ p.
          let here = first_at k q o f p in
          let rest = table_kept k o f ks (none_like k q ks p d.0) in λ i. (q, here i) ∷ rest i
      | false ↦ λ p.
          let here = other_at k q o f p in
          let rest = inserted k o f ks d.1 in
          (λ i. (q, here i) ∷ rest i)
          ∙ (elim (list_any (bytes_eq k) ks) as (λ a. (q, with_value k o f q) ∷ table (with_value k o f) (added ks k a) ≡ table (with_value k o f) (added (q ∷ ks) k a)) [ true ↦ refl | false ↦ refl ])
    ] refl

-- the last item about a key, after one item more
last_more : (items : List Item) (x : Item) (q : List ℕ) → last_put q (items ++ x ∷ []) ≡ put_by (cond (is_about q x) (Some x) (find (is_about q) (reverse items)))
last_more items x q = ap (λ xs. put_by (find (is_about q) xs)) (reverse-append items (x ∷ []))

cases_put : (b : Bool) (x : Item) (o : Option Item) → put_by (cond b (Some x) o) ≡ cond b (put_by (Some x)) (put_by o)
cases_put true x o = refl
cases_put false x o = refl

table_same : (f g : List ℕ → Option (List ℕ)) → ((q : List ℕ) → f q ≡ g q) → (ks : List (List ℕ)) → table f ks ≡ table g ks
table_same f g h [] = refl
table_same f g h (k ∷ ks) = let here = h k in let rest = table_same f g h ks in λ i. (k, here i) ∷ rest i

-- a key that is put takes its new value at its place, or stands last
pub updated : (items : List Item) (x : Item) (k : List ℕ) → key_of x ≡ Some k → ((q : List ℕ) → is_about q x ≡ bytes_eq q k) → insert_entry bytes_eq (pending items) k (put_by (Some x)) ≡ pending (items ++ x ∷ [])
unfolding pending
updated items x k e about =
    let ks : List (List ℕ) = filter_map key_of items in
    let f : List ℕ → Option (List ℕ) = λ q. last_put q items in
    let g : List ℕ → Option (List ℕ) = λ q. last_put q (items ++ x ∷ []) in
    let o : Option (List ℕ) = put_by (Some x) in
    let values : (q : List ℕ) → with_value k o f q ≡ g q = λ q. sym (last_more items x q ∙ cases_put (is_about q x) x (find (is_about q) (reverse items)) ∙ ap (λ b. cond b o (f q)) (about q)) in
    let keys : firsts (filter_map key_of (items ++ x ∷ [])) ≡ added (firsts ks) k (list_any (bytes_eq k) (firsts ks)) =
    ap firsts (filter_map-append key_of items (x ∷ []) ∙ ap (λ y. ks ++ cons_option y []) e) ∙ firsts_more ks k ∙ ap (added (firsts ks) k) (sym (firsts_any ks k)) in
    inserted k o f (firsts ks) (distinct_firsts ks) ∙ table_same (with_value k o f) g values _ ∙ ap (table g) (sym keys)

-- an item of no key changes nothing that is pending
pub passed : (items : List Item) (x : Item) → key_of x ≡ None → ((q : List ℕ) → is_about q x ≡ false) → pending items ≡ pending (items ++ x ∷ [])
unfolding pending
passed items x e about =
    let ks : List (List ℕ) = filter_map key_of items in
    let f : List ℕ → Option (List ℕ) = λ q. last_put q items in
    let g : List ℕ → Option (List ℕ) = λ q. last_put q (items ++ x ∷ []) in
    let values : (q : List ℕ) → f q ≡ g q = λ q. sym (last_more items x q ∙ ap (λ b. put_by (cond b (Some x) (find (is_about q) (reverse items)))) (about q)) in
    let keys : filter_map key_of (items ++ x ∷ []) ≡ ks = filter_map-append key_of items (x ∷ []) ∙ ap (λ y. ks ++ cons_option y []) e ∙ append-nil ks in
    table_same f g values (firsts ks) ∙ ap (λ y. table g (firsts y)) (sym keys)

-- an item without a status keeps the last one
pub kept_status : (items : List Item) (x : Item) → status_of_item x ≡ None → last_status items ≡ last_status (items ++ x ∷ [])
unfolding last_status
kept_status items x e =
    let ss : List Status = filter_map status_of_item items in
    sym (ap (λ xs. slice_get (reverse xs) 0) (filter_map-append status_of_item items (x ∷ []) ∙ ap (λ y. ss ++ cons_option y []) e ∙ append-nil ss))

-- a status is the last one
pub new_status : (items : List Item) (s : Status) → Some s ≡ last_status (items ++ State s ∷ [])
unfolding last_status
new_status items s =
    let ss : List Status = filter_map status_of_item items in
    sym (ap (λ xs. slice_get (reverse xs) 0) (filter_map-append status_of_item items (State s ∷ [])) ∙ ap (λ xs. slice_get xs 0) (reverse-append ss (s ∷ [])))

-- the map's entries as they are seen, after one is put
pub shown_insert : (es : List (String Global × Option (List ℕ))) (k : String Global) (v : Option (List ℕ)) → map shown (insert_entry string_eq es k v) ≡ insert_entry bytes_eq (map shown es) (string_bytes k) v
shown_insert [] k v = refl
shown_insert (e ∷ es) k v =
    let rest = shown_insert es k v in
    elim (string_eq k e.0) as (λ b. map shown (cond b ((e.0, v) ∷ es) (e ∷ insert_entry string_eq es k v)) ≡ cond b ((string_bytes e.0, v) ∷ map shown es) (shown e ∷ insert_entry bytes_eq (map shown es) (string_bytes k) v)) [
      | true ↦ refl
      | false ↦ ap (λ xs. shown e ∷ xs) rest
    ]

-- a buffer's pairs after an item y about the key k
pub pairs_more : (held : List (List ℕ × Option (List ℕ))) (items : List Item) (y x : Item) (k : List ℕ) (o : Option (List ℕ)) → held ≡ pending items → y ≡ x → key_of x ≡ Some k → ((q : List ℕ) → is_about q x ≡ bytes_eq q k) → o ≡ put_by (Some x)
    → insert_entry bytes_eq held k o ≡ pending (items ++ y ∷ [])
pairs_more held items y x k o s is e about v =
    ap (λ m. insert_entry bytes_eq m k o) s
    ∙ ap (λ w. insert_entry bytes_eq (pending items) k w) v
    ∙ updated items x k e about
    ∙ ap (λ z. pending (items ++ z ∷ [])) (sym is)

pub pairs_kept : (held : List (List ℕ × Option (List ℕ))) (items : List Item) (y x : Item) → held ≡ pending items → y ≡ x → key_of x ≡ None → ((q : List ℕ) → is_about q x ≡ false) → held ≡ pending (items ++ y ∷ [])
pairs_kept held items y x s is e about = s ∙ passed items x e about ∙ ap (λ z. pending (items ++ z ∷ [])) (sym is)

pub status_kept : (held : Option Status) (items : List Item) (y x : Item) → held ≡ last_status items → y ≡ x → status_of_item x ≡ None → held ≡ last_status (items ++ y ∷ [])
status_kept held items y x s is e = s ∙ kept_status items x e ∙ ap (λ z. last_status (items ++ z ∷ [])) (sym is)
