-- What a list of items means: a fold into a finite map, cut at positions of the list. Nothing here runs batch by batch.
--     folded items        the map and the status after all items
--     closings, cuts      positions: the number of items up to and including the last
--     book, replay        the changes between the worlds at two cuts, and what a list of such changes leaves
use Rattle.std.specs.Prelude.{ℕ, ◌-◌, ◌%◌, Bool, true, false, cond, not, ◌&&◌, ◌||◌, ◌==◌, List, [], ◌∷◌, length, take, map, Option, None, Some, slice_index, refl}
use Rattle.std.specs.List.{filter, filter_map, fold, suffix_len, slice_range, range_with_len}
use Rattle.std.specs.Ordering.{nat_cmp}
use Rattle.std.specs.Bool.{nat_lt}
use Rattle.std.specs.Cmp.Lexicographic.{slice_cmp, pointwise}
use Rattle.std.specs.Str.{bytes_eq}
use Rattle.std.specs.FinMap.Entries.{find, put, where_key}
use Rattle.ty_base.specs.declared.item.Item.{Item}
use Rattle.ty_base.specs.declared.item.Item.TheVariants.{Put, Del, State, Mark}
use Rattle.ty_base.specs.declared.status.Status.{Status}
use Rattle.ty_base.specs.declared.status.Status.TheVariants.{Wait}
use Rattle.ty_base.specs.Statuses.{same_status}
use Rattle.ty_base.specs.declared.delta.Kind.TheVariants.{New, Updated, Deleted}
use Rattle.ty_base.specs.declared.delta.Delta.{Delta}
use Rattle.ty_base.specs.declared.entry.Entry.{Entry}
use Rattle.ty_base.specs.declared.limits.TheConstants.{BATCH_UPDATES}

-- pairs of a key and a value, in the order of the keys
abbrev pub Pairs : Type 0
Pairs = List (List ℕ × List ℕ)

abbrev pub get : Pairs → List ℕ → Option (List ℕ)
get m q = find (slice_cmp nat_cmp) q m

abbrev pub insert : Pairs → List ℕ → List ℕ → Pairs
insert m k v = put (slice_cmp nat_cmp) k v m

abbrev pub remove : Pairs → List ℕ → Pairs
remove m k = where_key (slice_cmp nat_cmp) (λ x. not (bytes_eq k x)) m

pub record World : Type 0 where
  pub pairs : Pairs
  pub status : Status

abbrev pub start : World
start = record { pairs = []; status = Wait }

abbrev pub after : World → Item → World
after w (Put k v) = record w { pairs = insert w.pairs k v }
after w (Del k) = record w { pairs = remove w.pairs k }
after w (State s) = record w { status = s }
after w Mark = w

abbrev pub folded : List Item → World
folded items = fold after start items

-- Closings

abbrev pub is_update : Item → Bool
is_update (Put k v) = true
is_update (Del k) = true
is_update (State s) = false
is_update Mark = false

-- position p is a closing where item p is no update, or is the 100th, 200th .. update in a row. Where the feed has ended, its end is one too
abbrev pub is_closing : Bool → List Item → ℕ → Bool
is_closing ended items p = (suffix_len is_update (take p items) % BATCH_UPDATES == 0) || (ended && (p == length items))

unfoldable pub closings : Bool → List Item → List ℕ
closings ended items = filter (is_closing ended items) (range_with_len 1 (length items))

-- Cuts and worlds

abbrev pub same_pair : List ℕ × List ℕ → List ℕ × List ℕ → Bool
same_pair a b = bytes_eq a.0 b.0 && bytes_eq a.1 b.1

abbrev pub same_world : World → World → Bool
same_world a b = pointwise same_pair a.pairs b.pairs && same_status a.status b.status

abbrev pub world_at : List Item → ℕ → World
world_at items p = folded (take p items)

-- the cuts among the positions ps, which rise, after a cut at c: the first that differs from c, and then those after it
unfoldable pub cuts_after : List Item → ℕ → List ℕ → List ℕ
cuts_after items c [] = []
cuts_after items c (p ∷ ps) =
    cond (same_world (world_at items c) (world_at items p)) (cuts_after items c ps) (p ∷ cuts_after items p ps)

-- all cuts but the first, which is 0
unfoldable pub cuts : Bool → List Item → List ℕ
cuts ended items = cuts_after items 0 (closings ended items)

abbrev pub last : Bool → List Item → ℕ
last ended items = length (cuts ended items)

abbrev pub cut : Bool → List Item → ℕ → ℕ
cut ended items n = slice_index (0 ∷ cuts ended items) n

abbrev pub world : Bool → List Item → ℕ → World
world ended items n = world_at items (cut ended items n)

-- Deltas, book and replay

-- the last number, or d where there is none
abbrev pub last_of : ℕ → List ℕ → ℕ
last_of d [] = d
last_of d (p ∷ ps) = last_of p ps

-- the last closing before position c, or 0
abbrev pub closing_before : Bool → List Item → ℕ → ℕ
closing_before ended items c = last_of 0 (filter (λ p. nat_lt p c) (closings ended items))

abbrev pub key_of : Item → Option (List ℕ)
key_of (Put k v) = Some k
key_of (Del k) = Some k
key_of (State s) = None
key_of Mark = None

-- each key once, where it stands first
abbrev pub firsts : List (List ℕ) → List (List ℕ)
firsts [] = []
firsts (k ∷ ks) = k ∷ filter (λ q. not (bytes_eq k q)) (firsts ks)

-- how a key's value changed from one map to another, if it did
abbrev pub change : List ℕ → Option (List ℕ) → Option (List ℕ) → Option Delta
change k None None = None
change k None (Some v) = Some (record { key = k; kind = New; value = Some v; told = refl })
change k (Some u) None = Some (record { key = k; kind = Deleted; value = None; told = refl })
change k (Some u) (Some v) = cond (bytes_eq u v) None (Some (record { key = k; kind = Updated; value = Some v; told = refl }))

abbrev pub changes : Pairs → Pairs → List (List ℕ) → List Delta
changes a b ks = filter_map (λ k. change k (get a k) (get b k)) ks

unfoldable pub deltas : Bool → List Item → ℕ → List Delta
deltas ended items n =
    let to = cut ended items n in
    changes (world ended items (n - 1)).pairs (world ended items n).pairs
    (firsts (filter_map key_of (slice_range items (closing_before ended items to) to)))

abbrev pub entry : Bool → List Item → ℕ → Entry
entry ended items n = record {
  cut = cut ended items n;
  status = (world ended items n).status;
  deltas = deltas ended items n;
}

unfoldable pub book : Bool → List Item → List Entry
book ended items = map (entry ended items) (range_with_len 1 (last ended items))

abbrev pub put_value : Pairs → List ℕ → Option (List ℕ) → Pairs
put_value m k None = remove m k
put_value m k (Some v) = insert m k v

abbrev pub changed : Pairs → Delta → Pairs
changed m d = put_value m d.key d.value

abbrev pub published : World → Entry → World
published w e = record { pairs = fold changed w.pairs e.deltas; status = e.status }

unfoldable pub replay : List Entry → World
replay es = fold published start es
