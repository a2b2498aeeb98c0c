-- What `stream` writes is a talk over the book of its items, and the entries of a book leave the worlds.
use Rattle.std.proofs.Common.{◌≡◌, ℕ, zero, suc, ◌+◌, ◌-◌, ◌^◌, ◌<◌, ◌≤◌, Bool, true, false, cond, ◌&&◌, ◌||◌, ◌==◌, ◌%◌, nat_le, List, [], ◌∷◌, ◌++◌, length, take, map, get_or, refl, sym, ap, subst, ◌∙◌, arith, inl, inr, eq-or-lt_of_le, eq-eqb, leb-false, append-nil}
use Rattle.std.specs.Prelude.{None, if◌then◌else◌}
use Rattle.std.specs.List.{filter, range_with_len, suffix_len}
use Rattle.std.proofs.lemmas.Bool.{leb-true}
use Rattle.std.proofs.lemmas.List.{take_all}
use Rattle.ty_base.specs.declared.item.Item.{Item}
use Rattle.ty_base.specs.declared.entry.Entry.{Entry}
use Rattle.ty_base.specs.Feed.{folded, same_world, world_at, world, is_update, is_closing, closings, cuts_after, cuts, last, last_of, book}
use Rattle.ty_base.specs.Readings.{AllNext}
use Rattle.ty_base.proofs.Reading.{cuts_are}
use Rattle.ty_wire.specs.Wire.{frame, frames}
use Rattle.ty_wire.specs.Talk.{talk, Rise}
use Rattle.ty_wire.specs.declared.message.Msg.{Msg}
use Rattle.ty_wire.specs.declared.message.Msg.TheVariants.{ServerHello}
use Rattle.ty_wire.proofs.Talk.{talk-wire}
use Rattle.ty_client.specs.Rebuilt.{ats}
use Rattle.ty_client.specs.Heard.{Hears}
use Rattle.ty_base.specs.Limits.{AreSmall}
use Rattle.ty_base.specs.declared.limits.TheConstants.{INPUT_BYTES, BATCH_UPDATES}
use Rattle.ty_client.specs.Worlds.{rebuilt_world}
use Rattle.ty_client.proofs.Talks.{talk_rebuilds, hello_heard}
use Rattle.ty_client.proofs.Books.{book_length, book_few, book_passes, first_at, whole_at}
use Rattle.ty_top.specs.Streamed.{streamed, worlds_from}

all_rise : (k j most : ℕ) → j + k ≤ most → Rise j (range_with_len (j + 1) k) most
all_rise zero j most h = omega (arith, h)
all_rise (suc k) j most h = (omega arith, all_rise k (j + 1) most (omega (arith, h)))

pub numbers_rise : (items : List Item) (j : ℕ) → j ≤ last true items → Rise j (range_with_len (j + 1) (last true items - j)) (length (book true items))
numbers_rise items j h = all_rise (last true items - j) j (length (book true items)) (omega (arith, book_length true items, h))

-- ---- a front

-- the worlds from a breadcrumb that is there
worlds_are : (items : List Item) (j : ℕ) → j ≤ last true items → worlds_from items j ≡ map (rebuilt_world true items) (j ∷ range_with_len (j + 1) (last true items - j))
worlds_are items j h =
    let more : last true items + 1 - j ≡ suc (last true items - j) = omega (arith, h) in
    ap (λ (n : ℕ). map (rebuilt_world true items) (range_with_len j n)) more

-- there are none from one that isn't
no_worlds : (items : List Item) (j : ℕ) → last true items < j → worlds_from items j ≡ []
no_worlds items j h =
    let none : last true items + 1 - j ≡ 0 = omega (arith, h) in
    ap (λ (n : ℕ). map (rebuilt_world true items) (range_with_len j n)) none

abbrev pub Rebuilds : List Item → ℕ → List ℕ → Type 0
Rebuilds items j bytes = (ms : List Msg) × (k : ℕ) × Hears bytes ms None × (ats ms ≡ take k (worlds_from items j))

from_talk : (items : List Item) (j : ℕ) (bytes more : List ℕ) → AreSmall items → length items < 2 ^ 64 → length bytes < INPUT_BYTES → j ≤ last true items
    → bytes ++ more ≡ frames (talk (book true items) j (range_with_len (j + 1) (last true items - j))) → Rebuilds items j bytes
from_talk items j bytes more p l short h e =
    let es : List Entry = book true items in
    let ns : List ℕ = range_with_len (j + 1) (last true items - j) in
    let rise : Rise j ns (length es) = numbers_rise items j h in
    let r = first_at true items j ns bytes more (talk es j ns) rise (talk_rebuilds es j ns rise) (talk-wire es j ns (book_passes true items p) (book_few true items l) rise) short e in
    (r.0, r.1, r.2, r.3 ∙ ap (take r.1) (sym (worlds_are items j h)))

from_hello : (items : List Item) (j : ℕ) (bytes more : List ℕ) → length bytes < INPUT_BYTES → bytes ++ more ≡ frame (ServerHello 1) → Rebuilds items j bytes
from_hello items j bytes more short e =
    let r = hello_heard bytes more short e in
    (r.0, 0, r.1, r.2)

pub stream_rebuilds : (items : List Item) (j : ℕ) (bytes more : List ℕ) → AreSmall items → length items < 2 ^ 64 → length bytes < INPUT_BYTES → bytes ++ more ≡ streamed items j → Rebuilds items j bytes
unfolding streamed
stream_rebuilds items j bytes more p l short e =
    let n : ℕ = last true items in
    elim (nat_le j n) as (λ b. nat_le j n ≡ b → bytes ++ more ≡ (if b then frames (talk (book true items) j (range_with_len (j + 1) (n - j))) else frame (ServerHello 1)) → Rebuilds items j bytes) [
      | true ↦ λ t f. from_talk items j bytes more p l short (leb-true j n t) f
      | false ↦ λ t f. from_hello items j bytes more short f
    ] refl e

-- ---- the whole

abbrev pub RebuildsAll : List Item → ℕ → List ℕ → Type 0
RebuildsAll items j bytes = (ms : List Msg) × Hears bytes ms None × (ats ms ≡ worlds_from items j)

whole_talk : (items : List Item) (j : ℕ) → AreSmall items → length items < 2 ^ 64 → j ≤ last true items
    → (bytes : List ℕ) → bytes ≡ frames (talk (book true items) j (range_with_len (j + 1) (last true items - j))) → length bytes < INPUT_BYTES → RebuildsAll items j bytes
whole_talk items j p l h bytes e short =
    let es : List Entry = book true items in
    let ns : List ℕ = range_with_len (j + 1) (last true items - j) in
    let rise : Rise j ns (length es) = numbers_rise items j h in
    let brief : length (frames (talk es j ns)) < INPUT_BYTES = subst (λ (x : List ℕ). length x < INPUT_BYTES) e short in
    let r = whole_at true items j ns (talk es j ns) rise (talk_rebuilds es j ns rise) (talk-wire es j ns (book_passes true items p) (book_few true items l) rise) brief in
    (talk es j ns, subst (λ (x : List ℕ). Hears x (talk es j ns) None) (sym e) r.0, r.1 ∙ sym (worlds_are items j h))

whole_hello : (items : List Item) (j : ℕ) → last true items < j → (bytes : List ℕ) → bytes ≡ frame (ServerHello 1) → length bytes < INPUT_BYTES → RebuildsAll items j bytes
whole_hello items j h bytes e short =
    let r = hello_heard bytes [] short (append-nil bytes ∙ e) in
    (r.0, r.1, r.2 ∙ sym (no_worlds items j h))

pub all_rebuilt : (items : List Item) (j : ℕ) → AreSmall items → length items < 2 ^ 64 → length (streamed items j) < INPUT_BYTES → RebuildsAll items j (streamed items j)
unfolding streamed
all_rebuilt items j p l short =
    let n : ℕ = last true items in
    let bytes : Bool → List ℕ = λ b. if b then frames (talk (book true items) j (range_with_len (j + 1) (n - j))) else frame (ServerHello 1) in
    elim (nat_le j n) as (λ b. nat_le j n ≡ b → length (bytes b) < INPUT_BYTES → RebuildsAll items j (bytes b)) [
      | true ↦ λ t s. whole_talk items j p l (leb-true j n t) (bytes true) refl s
      | false ↦ λ t s. whole_hello items j (leb-false j n t) (bytes false) refl s
    ] refl short

-- ---- the last world

cuts_within : (items : List Item) (test : ℕ → Bool) (k a c n : ℕ) → c ≤ n → a + k ≤ n + 1 → last_of c (cuts_after items c (filter test (range_with_len a k))) ≤ n
unfolding cuts_after
cuts_within items test zero a c n h l = h
cuts_within items test (suc k) a c n h l =
    let rest : List ℕ = filter test (range_with_len (a + 1) k) in
    elim (test a) as (λ v. last_of c (cuts_after items c (cond v (a ∷ rest) rest)) ≤ n) [
      | true ↦ elim (same_world (world_at items c) (world_at items a)) as (λ v. last_of c (cond v (cuts_after items c rest) (a ∷ cuts_after items a rest)) ≤ n) [
        | true ↦ cuts_within items test k (a + 1) c n h (omega (arith, l))
        | false ↦ cuts_within items test k (a + 1) a n (omega (arith, l)) (omega (arith, l))
      ]
      | false ↦ cuts_within items test k (a + 1) c n h (omega (arith, l))
    ]

-- no closing behind the last cut differs
same_at_end : (items : List Item) (ps : List ℕ) (c q : ℕ) → AllNext true items c ps → last_of c ps ≤ q → q ≤ length items → is_closing true items q ≡ true → world_at items (last_of c ps) ≡ world_at items q
same_at_end items [] c q h l m t = elim (eq-or-lt_of_le l) [ inl e ↦ ap (world_at items) e | inr r ↦ h q r m t ]
same_at_end items (p ∷ ps) c q h l m t = same_at_end items ps p q h.1 l m t

last_is_at : (cs : List ℕ) (d : ℕ) → get_or (d ∷ cs) (length cs) 0 ≡ last_of d cs
last_is_at [] d = refl
last_is_at (c ∷ cs) d = last_is_at cs c

or_true : (a : Bool) → a || true ≡ true
or_true true = refl
or_true false = refl

end_closes : (items : List Item) → is_closing true items (length items) ≡ true
end_closes items =
    let run : Bool = suffix_len is_update (take (length items) items) % BATCH_UPDATES == 0 in
    ap (λ (b : Bool). run || (true && b)) (eq-eqb (length items) (length items) refl) ∙ or_true run

pub last_world : (items : List Item) → world true items (last true items) ≡ folded items
unfolding cuts closings
last_world items =
    let n : ℕ = length items in
    ap (world_at items) (last_is_at (cuts true items) 0)
    ∙ same_at_end items (cuts true items) 0 n (cuts_are true items) (cuts_within items (is_closing true items) n 1 0 n (omega arith) (omega arith)) (omega arith) (end_closes items)
    ∙ ap folded (take_all n items (omega arith))
