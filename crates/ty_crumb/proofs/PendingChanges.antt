-- What a batch makes over a world, by what it leaves pending.
use Rattle.std.proofs.Common.{◌≡◌, ℕ, ◌==◌, Bool, true, false, cond, ◌||◌, ◌&&◌, List, [], ◌∷◌, ◌++◌, length, map, reverse, refl, sym, ap, ◌∙◌, true≢false, arith}
use Rattle.std.specs.Prelude.{Option, None, Some, slice_get}
use Rattle.std.specs.Option.{unwrap_or}
use Rattle.std.specs.List.{fold, filter_map, list_any, cons_option}
use Rattle.std.specs.Str.{bytes_eq}
use Rattle.std.specs.Cmp.Lexicographic.{bytes_decides}
use Rattle.std.proofs.lemmas.Bool.Decides.{Decides-eqb}
use Rattle.std.proofs.lemmas.List.{reverse-append}
use Rattle.ty_base.specs.declared.item.Item.{Item}
use Rattle.ty_base.specs.declared.item.Item.TheVariants.{Put, Del, State, Mark}
use Rattle.ty_base.specs.declared.status.Status.{Status}
use Rattle.ty_base.specs.declared.delta.Delta.{Delta}
use Rattle.ty_base.specs.declared.entry.Entry.{Entry}
use Rattle.ty_base.specs.declared.delta.Kind.TheVariants.{Updated}
use Rattle.ty_base.specs.Statuses.{same_status}
use Rattle.ty_base.specs.Feed.{Pairs, World, get, start, after, same_world, key_of, firsts, change, changes, changed}
use Rattle.ty_base.specs.Readings.{last_put}
use Rattle.ty_base.proofs.Pairs.{IsInOrder, get-put_value, kept_key, firsts_any, changed_all, in_order-after, worlds_decide, same_statuses, itself}
use Rattle.ty_base.proofs.Reading.{value_is}
use Rattle.ty_dedupe.specs.Pending.{pending, status_of_item, last_status}
use Rattle.ty_crumb.specs.Batches.{entry_of, next_entries}

-- The value of a key of the batch

-- worlds with the same value at a key keep it so
same_get : (items : List Item) (w u : World) (q : List ℕ) → get w.pairs q ≡ get u.pairs q → get (fold after w items).pairs q ≡ get (fold after u items).pairs q
same_get [] w u q h = h
same_get (Put k v ∷ items) w u q h =
    same_get items (after w (Put k v)) (after u (Put k v)) q
    (get-put_value w.pairs k (Some v) q ∙ ap (cond (bytes_eq q k) (Some v)) h ∙ sym (get-put_value u.pairs k (Some v) q))
same_get (Del k ∷ items) w u q h =
    same_get items (after w (Del k)) (after u (Del k)) q
    (get-put_value w.pairs k None q ∙ ap (cond (bytes_eq q k) None) h ∙ sym (get-put_value u.pairs k None q))
same_get (State s ∷ items) w u q h = same_get items (after w (State s)) (after u (State s)) q h
same_get (Mark ∷ items) w u q h = same_get items w u q h

-- a key that is put or removed has then the same value, whatever it had
told_get : (items : List Item) (w u : World) (k q : List ℕ) (o : Option (List ℕ)) (x : Item)
    → get (after w x).pairs q ≡ cond (bytes_eq q k) o (get w.pairs q) → get (after u x).pairs q ≡ cond (bytes_eq q k) o (get u.pairs q)
    → (bytes_eq q k || list_any (bytes_eq q) (filter_map key_of items)) ≡ true
    → (list_any (bytes_eq q) (filter_map key_of items) ≡ true → get (fold after (after w x) items).pairs q ≡ get (fold after (after u x) items).pairs q)
    → get (fold after (after w x) items).pairs q ≡ get (fold after (after u x) items).pairs q
told_get items w u k q o x e f h rest =
    elim (bytes_eq q k) as (λ b. get (after w x).pairs q ≡ cond b o (get w.pairs q) → get (after u x).pairs q ≡ cond b o (get u.pairs q)
    → (b || list_any (bytes_eq q) (filter_map key_of items)) ≡ true → get (fold after (after w x) items).pairs q ≡ get (fold after (after u x) items).pairs q) [
      | true ↦ λ e' f' h'. same_get items (after w x) (after u x) q (e' ∙ sym f')
      | false ↦ λ e' f' h'. rest h'
    ] e f h

any_world : (items : List Item) (w u : World) (q : List ℕ) → list_any (bytes_eq q) (filter_map key_of items) ≡ true → get (fold after w items).pairs q ≡ get (fold after u items).pairs q
any_world [] w u q h = absurd (true≢false (sym h))
any_world (Put k v ∷ items) w u q h =
    told_get items w u k q (Some v) (Put k v) (get-put_value w.pairs k (Some v) q) (get-put_value u.pairs k (Some v) q) h (any_world items (after w (Put k v)) (after u (Put k v)) q)
any_world (Del k ∷ items) w u q h =
    told_get items w u k q None (Del k) (get-put_value w.pairs k None q) (get-put_value u.pairs k None q) h (any_world items (after w (Del k)) (after u (Del k)) q)
any_world (State s ∷ items) w u q h = any_world items (after w (State s)) (after u (State s)) q h
any_world (Mark ∷ items) w u q h = any_world items w u q h

value_in : (w : World) (items : List Item) (q : List ℕ) → list_any (bytes_eq q) (filter_map key_of items) ≡ true → last_put q items ≡ get (fold after w items).pairs q
value_in w items q h = sym (value_is items q) ∙ any_world items start w q h

-- Deltas

or_right : (a b : Bool) → b ≡ true → (a || b) ≡ true
or_right true b h = refl
or_right false b h = h

same_bytes : (k : List ℕ) → bytes_eq k k ≡ true
same_bytes k = (bytes_decides k k).1 refl

-- how a pending key changes a map
abbrev pub changed_at : Pairs → List ℕ × Option (List ℕ) → Option Delta
changed_at a p = change p.0 (get a p.0) p.1

changes_by : (a b : Pairs) (f : List ℕ → Option (List ℕ)) (ks : List (List ℕ)) → ((q : List ℕ) → list_any (bytes_eq q) ks ≡ true → f q ≡ get b q)
    → filter_map (changed_at a) (map (λ k. (k, f k)) ks) ≡ changes a b ks
changes_by a b f [] h = refl
changes_by a b f (k ∷ ks) h =
    ap (λ o. cons_option (change k (get a k) o) (filter_map (changed_at a) (map (λ q. (q, f q)) ks))) (h k (ap (λ t. t || list_any (bytes_eq k) ks) (same_bytes k)))
    ∙ ap (cons_option (change k (get a k) (get b k))) (changes_by a b f ks (λ q t. h q (or_right (bytes_eq q k) (list_any (bytes_eq q) ks) t)))

-- what the pending keys change are the changes of the whole batch
pub pending_changes : (w : World) (items : List Item)
    → filter_map (changed_at w.pairs) (pending items) ≡ changes w.pairs (fold after w items).pairs (firsts (filter_map key_of items))
unfolding pending
pending_changes w items =
    changes_by w.pairs (fold after w items).pairs (λ k. last_put k items) (firsts (filter_map key_of items))
    (λ q t. value_in w items q (sym (firsts_any (filter_map key_of items) q) ∙ t))

-- those changes lead to the map of the fold
pub changes_lead : (w : World) (items : List Item) → IsInOrder w.pairs
    → fold changed w.pairs (changes w.pairs (fold after w items).pairs (firsts (filter_map key_of items))) ≡ (fold after w items).pairs
changes_lead w items s = changed_all w.pairs (fold after w items).pairs (filter_map key_of items) s (in_order-after items w s) (λ q t. sym (kept_key items w q t))

change_none : (k : List ℕ) (o : Option (List ℕ)) → change k o o ≡ None
change_none k None = refl
change_none k (Some u) = ap (λ b. cond b None (Some (record { key = k; kind = Updated; value = Some u; told = refl }))) (same_bytes u)

changes_none : (a : Pairs) (ks : List (List ℕ)) → changes a a ks ≡ []
changes_none a [] = refl
changes_none a (k ∷ ks) = ap (λ o. cons_option o (changes a a ks)) (change_none k (get a k)) ∙ changes_none a ks

-- Status

last_or : (xs : List Status) (d : Status) → unwrap_or (slice_get (reverse xs) 0) d ≡ fold (λ _ s. s) d xs
last_or [] d = refl
last_or (x ∷ xs) d =
    ap (λ ys. unwrap_or (slice_get ys 0) d) (reverse-append (x ∷ []) xs) ∙ first_or (reverse xs) x d ∙ last_or xs x
  where
    first_or : (ys : List Status) (y e : Status) → unwrap_or (slice_get (ys ++ y ∷ []) 0) e ≡ unwrap_or (slice_get ys 0) y
    first_or [] y e = refl
    first_or (z ∷ ys) y e = refl

status_after : (items : List Item) (w : World) → (fold after w items).status ≡ fold (λ _ s. s) w.status (filter_map status_of_item items)
status_after [] w = refl
status_after (Put k v ∷ items) w = status_after items (after w (Put k v))
status_after (Del k ∷ items) w = status_after items (after w (Del k))
status_after (State s ∷ items) w = status_after items (after w (State s))
status_after (Mark ∷ items) w = status_after items w

-- the pending status, or the one before, is that of the fold
pub pending_status : (w : World) (items : List Item) → unwrap_or (last_status items) w.status ≡ (fold after w items).status
unfolding last_status
pending_status w items = last_or (filter_map status_of_item items) w.status ∙ sym (status_after items w)

-- Unchanged

none_at : (ds : List Delta) → (length ds == 0) ≡ true → ds ≡ []
none_at [] h = refl
none_at (d ∷ ds) h = let z : length (d ∷ ds) ≡ 0 = (Decides-eqb (length (d ∷ ds)) 0).0 h in absurd (omega arith)

both : {a b : Bool} → a ≡ true → b ≡ true → (a && b) ≡ true
both {a} {b} p q = ap (λ x. x && b) p ∙ q

left : (a b : Bool) → (a && b) ≡ true → a ≡ true
left true b h = refl
left false b h = absurd (true≢false (sym h))

right : (a b : Bool) → (a && b) ≡ true → b ≡ true
right true b h = h
right false b h = absurd (true≢false (sym h))

same_test : (a b : Bool) → (a ≡ true → b ≡ true) → (b ≡ true → a ≡ true) → a ≡ b
same_test true b f g = sym (f refl)
same_test false true f g = absurd (true≢false (sym (g refl)))
same_test false false f g = refl

-- no delta and the same status exactly where the world is the same
pub same_where_nothing : (w : World) (items : List Item) → IsInOrder w.pairs
    → ((length (changes w.pairs (fold after w items).pairs (firsts (filter_map key_of items))) == 0) && same_status w.status (fold after w items).status) ≡ same_world w (fold after w items)
same_where_nothing w items s =
    let v : World = fold after w items in
    let ks : List (List ℕ) = firsts (filter_map key_of items) in
    let none : Bool = length (changes w.pairs v.pairs ks) == 0 in
    same_test (none && same_status w.status v.status) (same_world w v)
    (λ h.
    let pairs : w.pairs ≡ v.pairs = ap (fold changed w.pairs) (sym (none_at (changes w.pairs v.pairs ks) (left none (same_status w.status v.status) h))) ∙ changes_lead w items s in
    let status : w.status ≡ v.status = same_statuses w.status v.status (right none (same_status w.status v.status) h) in
    (worlds_decide w v).1 (λ i. record { pairs = pairs i; status = status i }))
    (λ h.
    let same : w ≡ v = (worlds_decide w v).0 h in
    both (ap (λ ds. length ds == 0) (ap (λ x. changes w.pairs x.pairs ks) (sym same) ∙ changes_none w.pairs ks)) (ap (λ x. same_status w.status x.status) (sym same) ∙ itself w.status))

-- What is made

-- the map, the deltas and the status that a batch makes over a world
pub record Makes (w : World) (items : List Item) (map : Pairs) (ds : List Delta) (state : Status) : Type 0 where
  pub deltas : ds ≡ changes w.pairs (fold after w items).pairs (firsts (filter_map key_of items))
  pub pairs : map ≡ (fold after w items).pairs
  pub status : state ≡ (fold after w items).status

pub makes : (w : World) (items : List Item) (keys : List (List ℕ × Option (List ℕ))) (state : Option Status) (pairs : Pairs) (ds : List Delta) (status : Status)
    → IsInOrder w.pairs → keys ≡ pending items → state ≡ last_status items → ds ≡ filter_map (changed_at w.pairs) keys → pairs ≡ fold changed w.pairs ds
    → status ≡ unwrap_or state w.status → Makes w items pairs ds status
makes w items keys state pairs ds status s k t d p u =
    let told : ds ≡ changes w.pairs (fold after w items).pairs (firsts (filter_map key_of items)) = d ∙ ap (filter_map (changed_at w.pairs)) k ∙ pending_changes w items in
    record {
      deltas = told;
      pairs = p ∙ ap (fold changed w.pairs) told ∙ changes_lead w items s;
      status = u ∙ ap (λ o. unwrap_or o w.status) t ∙ pending_status w items;
    }

-- nothing is told exactly where the world is the same
pub nothing_told : (w : World) (items : List Item) (pairs : Pairs) (ds : List Delta) (status : Status) → IsInOrder w.pairs → Makes w items pairs ds status
    → ((length ds == 0) && same_status w.status status) ≡ same_world w (fold after w items)
nothing_told w items pairs ds status s m =
    ap (λ x. (length x == 0) && same_status w.status status) m.deltas
    ∙ ap (λ x. (length (changes w.pairs (fold after w items).pairs (firsts (filter_map key_of items))) == 0) && same_status w.status x) m.status
    ∙ same_where_nothing w items s

pub made_world : (w : World) (items : List Item) (pairs : Pairs) (ds : List Delta) (status : Status) (v : World) → Makes w items pairs ds status
    → v.pairs ≡ pairs → v.status ≡ status → v ≡ fold after w items
made_world w items pairs ds status v m p s =
    let e : v.pairs ≡ (fold after w items).pairs = p ∙ m.pairs in
    let f : v.status ≡ (fold after w items).status = s ∙ m.status in
    λ i. record { pairs = e i; status = f i }

pub made_entries : (w : World) (items : List Item) (cut : ℕ) (pairs : Pairs) (ds : List Delta) (status : Status) (e : Entry) → Makes w items pairs ds status
    → e.cut ≡ cut → e.status ≡ status → e.deltas ≡ ds → false ≡ same_world w (fold after w items) → e ∷ [] ≡ next_entries cut w items
made_entries w items cut pairs ds status e m c s d t =
    let v : World = fold after w items in
    let f : e.status ≡ v.status = s ∙ m.status in
    let g : e.deltas ≡ changes w.pairs v.pairs (firsts (filter_map key_of items)) = d ∙ m.deltas in
    let same : e ≡ entry_of cut w v items = λ i. record { cut = c i; status = f i; deltas = g i } in
    ap (λ x. x ∷ []) same ∙ ap (λ b. cond b [] (entry_of cut w v items ∷ [])) t

pub no_entries : (w : World) (items : List Item) (cut : ℕ) → true ≡ same_world w (fold after w items) → [] ≡ next_entries cut w items
no_entries w items cut t = ap (λ b. cond b [] (entry_of cut w (fold after w items) items ∷ [])) t
