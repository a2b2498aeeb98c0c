-- What the definitions of Feed come to, in other words.
use Rattle.std.proofs.Common.{◌≡◌, ◌≢◌, ℕ, zero, suc, ◌+◌, ◌-◌, ◌%◌, ◌<◌, ◌≤◌, ◌==◌, Bool, true, false, cond, not, ◌&&◌, ◌||◌, List, [], ◌∷◌, length, take, reverse, get_or, refl, sym, ap, subst, ◌∙◌, arith, true≢false, eq-eqb, ne_eqb, eq-or-lt_of_le, inl, inr, add-one}
use Rattle.std.specs.Prelude.{Option, None, Some}
use Rattle.std.specs.List.{find, filter, range_with_len, suffix_len}
use Rattle.std.specs.Str.{bytes_eq}
use Rattle.std.proofs.lemmas.List.Sums.{fold_push, suffix_len-take_yes, suffix_len-take_no}
use Rattle.std.proofs.lemmas.List.{reverse-append, reverse-reverse, get_or_default}
use Rattle.std.proofs.lemmas.Bool.Decides.{Decides-eqb}
use Rattle.ty_base.specs.declared.item.Item.{Item}
use Rattle.ty_base.specs.declared.item.Item.TheVariants.{Put, Del, State, Mark}
use Rattle.ty_base.specs.Feed.{get, World, start, after, folded, is_update, is_closing, cuts_after, cuts, world_at, same_world, closing_before, closings, book, deltas, replay}
use Rattle.ty_base.specs.Readings.{is_about, put_by, last_put, is_state, status_by, last_state, AllNext}
use Rattle.ty_base.proofs.Pairs.{get-put_value, worlds_decide}
use Rattle.ty_base.proofs.Cuts.{passed, passed_more, closing_before_is}

pub last_put_more : (w : World) (x : Item) (q : List ℕ) (o : Option Item) → get w.pairs q ≡ put_by o → get (after w x).pairs q ≡ put_by (cond (is_about q x) (Some x) o)
unfolding cuts_after cuts closings book deltas replay
last_put_more w (Put k v) q o h = get-put_value w.pairs k (Some v) q ∙ (elim (bytes_eq q k) as (λ b. cond b (Some v) (get w.pairs q) ≡ put_by (cond b (Some (Put k v)) o)) [ true ↦ refl | false ↦ h ])
last_put_more w (Del k) q o h = get-put_value w.pairs k None q ∙ (elim (bytes_eq q k) as (λ b. cond b None (get w.pairs q) ≡ put_by (cond b (Some (Del k)) o)) [ true ↦ refl | false ↦ h ])
last_put_more w (State s) q o h = h
last_put_more w Mark q o h = h

-- a key has the value of its last item, if that is a put
from_back : (back : List Item) (q : List ℕ) → get (folded (reverse back)).pairs q ≡ put_by (find (is_about q) back)
unfolding cuts_after cuts closings book deltas replay
from_back [] q = refl
from_back (x ∷ back) q =
    ap (λ xs. get (folded xs).pairs q) (reverse-append (x ∷ []) back)
    ∙ ap (λ w. get w.pairs q) (fold_push after start (reverse back) x)
    ∙ last_put_more (folded (reverse back)) x q (find (is_about q) back) (from_back back q)

pub value_is : (items : List Item) (q : List ℕ) → get (folded items).pairs q ≡ last_put q items
unfolding cuts_after cuts closings book deltas replay
value_is items q = ap (λ xs. get (folded xs).pairs q) (sym (reverse-reverse items)) ∙ from_back (reverse items) q

last_state_more : (w : World) (x : Item) (o : Option Item) → w.status ≡ status_by o → (after w x).status ≡ status_by (cond (is_state x) (Some x) o)
last_state_more w (Put k v) o h = h
last_state_more w (Del k) o h = h
last_state_more w (State s) o h = refl
last_state_more w Mark o h = h

state_from_back : (back : List Item) → (folded (reverse back)).status ≡ status_by (find is_state back)
state_from_back [] = refl
state_from_back (x ∷ back) =
    ap (λ xs. (folded xs).status) (reverse-append (x ∷ []) back)
    ∙ ap (λ w. w.status) (fold_push after start (reverse back) x)
    ∙ last_state_more (folded (reverse back)) x (find is_state back) (state_from_back back)

pub status_is : (items : List Item) → (folded items).status ≡ last_state items
status_is items = ap (λ xs. (folded xs).status) (sym (reverse-reverse items)) ∙ state_from_back (reverse items)

-- the run of updates after one more item
run_more : (items : List Item) (j : ℕ) (x : Item) → j < length items → x ≡ get_or items j x → suffix_len is_update (take (j + 1) items) ≡ cond (is_update x) (1 + suffix_len is_update (take j items)) 0
unfolding cuts_after cuts closings book deltas replay
run_more items j x h e =
    let back : j + 1 - 1 ≡ j = omega arith in
    let at_j : get_or items (j + 1 - 1) x ≡ x = ap (λ k. get_or items k x) back ∙ sym e in
    elim (is_update x) as (λ v. is_update x ≡ v → suffix_len is_update (take (j + 1) items) ≡ cond v (1 + suffix_len is_update (take j items)) 0) [
      | true ↦ λ t. suffix_len-take_yes is_update items (j + 1) x (omega arith) (omega arith) (ap is_update at_j ∙ t) ∙ ap (λ k. 1 + suffix_len is_update (take k items)) back
      | false ↦ λ t. suffix_len-take_no is_update items (j + 1) x (omega arith) (omega arith) (ap is_update at_j ∙ t)
    ] refl

after_update : (s p j : ℕ) → s % 100 + p ≡ j → (1 + s) % 100 + cond (((1 + s) % 100 == 0) || false) (j + 1) p ≡ j + 1
unfolding cuts_after cuts closings book deltas replay
after_update s p j e =
    elim ((1 + s) % 100 == 0) as (λ v. ((1 + s) % 100 == 0) ≡ v → (1 + s) % 100 + cond (v || false) (j + 1) p ≡ j + 1) [
      | true ↦ λ t. let z : (1 + s) % 100 ≡ 0 = (Decides-eqb ((1 + s) % 100) 0).0 t in omega arith
      | false ↦ λ t. let z : (1 + s) % 100 ≢ 0 = (λ y. true≢false (sym ((Decides-eqb ((1 + s) % 100) 0).1 y) ∙ t)) in omega arith
    ] refl

-- the batch that is open after j items holds as many updates as there are positions since the last closing
open_batch : (items : List Item) (j : ℕ) (d : Item) → j ≤ length items → suffix_len is_update (take j items) % 100 + passed (is_closing false items) j ≡ j
unfolding cuts_after cuts closings book deltas replay
open_batch items zero d h = refl
open_batch items (suc j) d h =
    let test : ℕ → Bool = is_closing false items in
    let x : Item = get_or items j d in
    let s : ℕ = suffix_len is_update (take j items) in
    let same : x ≡ get_or items j x = get_or_default items j d x (omega arith) in
    let run : suffix_len is_update (take (j + 1) items) ≡ cond (is_update x) (1 + s) 0 = run_more items j x (omega arith) same in
    let P : ℕ → Type 0 = λ k. suffix_len is_update (take k items) % 100 + passed test k ≡ k in
    let Q : ℕ → Type 0 = λ t. t % 100 + cond ((t % 100 == 0) || false) (j + 1) (passed test j) ≡ j + 1 in
    subst P (add-one j) (
    ap (λ p. suffix_len is_update (take (j + 1) items) % 100 + p) (passed_more test j)
    ∙ subst Q (sym run) (elim (is_update x) as (λ v. Q (cond v (1 + s) 0)) [ true ↦ after_update s (passed test j) j (open_batch items j d (omega arith)) | false ↦ omega arith ]))

hundred : (s p j : ℕ) → s % 100 + p ≡ j → (((1 + s) % 100 == 0) || false) ≡ (j + 1 - p == 100)
unfolding cuts_after cuts closings book deltas replay
hundred s p j e =
    elim ((1 + s) % 100 == 0) as (λ v. ((1 + s) % 100 == 0) ≡ v → (v || false) ≡ (j + 1 - p == 100)) [
      | true ↦ λ t. let z : (1 + s) % 100 ≡ 0 = (Decides-eqb ((1 + s) % 100) 0).0 t in sym (eq-eqb (j + 1 - p) 100 (omega arith))
      | false ↦ λ t. let z : (1 + s) % 100 ≢ 0 = (λ y. true≢false (sym ((Decides-eqb ((1 + s) % 100) 0).1 y) ∙ t)) in sym (ne_eqb (j + 1 - p) 100 (λ y. omega arith))
    ] refl

-- a position is a closing where its item is no update, or is the 100th since the closing before
pub closing_is : (items : List Item) (j : ℕ) (x : Item) → j < length items → x ≡ get_or items j x
    → is_closing false items (j + 1) ≡ (not (is_update x) || (j + 1 - closing_before false items (j + 1) == 100))
unfolding cuts_after cuts closings book deltas replay
closing_is items j x h e =
    let s : ℕ = suffix_len is_update (take j items) in
    let Q : ℕ → Type 0 = λ t. ((t % 100 == 0) || false) ≡ (not (is_update x) || (j + 1 - closing_before false items (j + 1) == 100)) in
    let was : closing_before false items (j + 1) ≡ passed (is_closing false items) j = closing_before_is false items j (length items - j) (omega arith) in
    let open_now : s % 100 + closing_before false items (j + 1) ≡ j = ap (λ p. s % 100 + p) was ∙ open_batch items j x (omega arith) in
    subst Q (sym (run_more items j x h e)) (
    elim (is_update x) as (λ v. ((cond v (1 + s) 0 % 100 == 0) || false) ≡ (not v || (j + 1 - closing_before false items (j + 1) == 100))) [
      | true ↦ hundred s (closing_before false items (j + 1)) j open_now
      | false ↦ refl
    ])

one_more : (P : ℕ → Type 0) (j : ℕ) → ((q : ℕ) → q ≤ j → P q) → P (j + 1) → (q : ℕ) → q ≤ j + 1 → P q
unfolding cuts_after cuts closings book deltas replay
one_more P j h e q l = elim (eq-or-lt_of_le l) [ inl s ↦ subst P (sym s) e | inr s ↦ h q (omega arith) ]

-- each cut is the first closing at which the world differs
next_cut : (ended : Bool) (items : List Item) (n j c : ℕ) → j + n ≡ length items → c ≤ j
    → ((q : ℕ) → q ≤ j → c < q → is_closing ended items q ≡ true → world_at items c ≡ world_at items q)
    → AllNext ended items c (cuts_after items c (filter (is_closing ended items) (range_with_len (j + 1) n)))
unfolding cuts_after cuts closings book deltas replay
next_cut ended items zero j c e l h = λ q a b d. h q (omega arith) a d
next_cut ended items (suc n) j c e l h =
    let test : ℕ → Bool = is_closing ended items in
    let rest : List ℕ = filter test (range_with_len (j + 1 + 1) n) in
    let Same : ℕ → ℕ → Type 0 = λ k q. k < q → test q ≡ true → world_at items k ≡ world_at items q in
    elim (test (j + 1)) as (λ v. test (j + 1) ≡ v → AllNext ended items c (cuts_after items c (cond v ((j + 1) ∷ rest) rest))) [
      | true ↦ λ t.
          elim (same_world (world_at items c) (world_at items (j + 1))) as (λ v. same_world (world_at items c) (world_at items (j + 1)) ≡ v → AllNext ended items c (cond v (cuts_after items c rest) ((j + 1) ∷ cuts_after items (j + 1) rest))) [
            | true ↦ λ s. next_cut ended items n (j + 1) c (omega arith) (omega arith) (one_more (Same c) j h (λ a d. (worlds_decide (world_at items c) (world_at items (j + 1))).0 s))
            | false ↦ λ s. (
              record {
                later = omega arith;
                closes = t;
                differs = λ y. true≢false (sym ((worlds_decide (world_at items c) (world_at items (j + 1))).1 y) ∙ s);
                first = λ q a b d. h q (omega arith) a d;
              },
              next_cut ended items n (j + 1) (j + 1) (omega arith) (omega arith) (λ q b a d. absurd (omega arith)),
            )
          ] refl
      | false ↦ λ t. next_cut ended items n (j + 1) c (omega arith) (omega arith) (one_more (Same c) j h (λ a d. absurd (true≢false (sym d ∙ t))))
    ] refl

pub cuts_are : (ended : Bool) (items : List Item) → AllNext ended items 0 (cuts ended items)
unfolding cuts_after cuts closings book deltas replay
cuts_are ended items = next_cut ended items (length items) 0 0 (omega arith) (omega arith) (λ q b a d. absurd (omega arith))

or_false : (a b : Bool) → ((a || false) || b) ≡ (a || b)
or_false true b = refl
or_false false b = refl

-- the same where the feed may have ended
pub closing_either : (ended : Bool) (items : List Item) (j : ℕ) (x : Item) → j < length items → x ≡ get_or items j x
    → is_closing ended items (j + 1) ≡ (not (is_update x) || (j + 1 - closing_before false items (j + 1) == 100) || (ended && (j + 1 == length items)))
closing_either ended items j x h e =
    let run : Bool = suffix_len is_update (take (j + 1) items) % 100 == 0 in
    let end : Bool = ended && (j + 1 == length items) in
    sym (or_false run end) ∙ ap (λ b. b || end) (closing_is items j x h e)
