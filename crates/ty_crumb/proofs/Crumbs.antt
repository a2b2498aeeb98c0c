-- The next crumb stands for the longer book.
use Rattle.std.proofs.Common.{◌≡◌, ◌≢◌, ℕ, ◌+◌, ◌≤◌, Bool, false, List, [], ◌∷◌, ◌++◌, length, sym, ap, subst, ◌∙◌, arith, append-nil, length-append}
use Rattle.std.specs.List.{fold}
use Rattle.std.proofs.lemmas.List.Sums.{fold_push}
use Rattle.std.proofs.lemmas.List.{take_all}
use Rattle.std.proofs.lemmas.List.FromFn.{length-map-range_with_len}
use Rattle.ty_base.specs.declared.item.Item.{Item}
use Rattle.ty_base.specs.declared.entry.Entry.{Entry}
use Rattle.ty_base.specs.Feed.{World, start, folded, last, cuts, world_at, changed, entry, book, published, replay}
use Rattle.ty_base.proofs.Replay.{replays}
use Rattle.ty_map.specs.Shape.{pairs}
use Rattle.ty_crumb.specs.declared.crumb.Crumb.{Crumb}
use Rattle.ty_crumb.specs.declared.successor.Made.{Made}
use Rattle.ty_crumb.specs.declared.successor.Made.TheVariants.{Unchanged, Crumb as Next}
use Rattle.ty_base.specs.Batches.{IsClosed, IsNextBatch}
use Rattle.ty_crumb.specs.Batches.{next_entries}
use Rattle.ty_crumb.specs.Crumbs.{CrumbStands, world_of, entries_of, IfNext, IsMadeFor}
use Rattle.ty_crumb.proofs.Book.{the_book_grows, settled_end, last_is_at}

book_length : (items : List Item) → length (book false items) ≤ last false items
unfolding book
book_length items = omega (arith, length-map-range_with_len (entry false items) 1 (last false items))

-- the whole book of items that end at a closing leaves their fold
pub replay_closed : (items : List Item) → IsClosed items → replay (book false items) ≡ folded items
replay_closed items closed =
    let n : ℕ = last false items in
    let all : n ≤ n = omega arith in
    ap replay (sym (take_all n (book false items) (book_length items)))
    ∙ replays false items n all
    ∙ ap (world_at items) (last_is_at (cuts false items) 0)
    ∙ settled_end items closed

-- a crumb with these entries' world, and one behind it whose deltas lead to its map
pub stands_next : (c d : Crumb) (es : List Entry) → CrumbStands c es → d.number ≡ c.number + 1 → pairs d.pairs ≡ fold changed (pairs c.pairs) d.deltas
    → CrumbStands d (es ++ record { cut = d.cut; status = d.status; deltas = d.deltas } ∷ [])
unfolding replay
stands_next c d es s n p =
    let e : Entry = record { cut = d.cut; status = d.status; deltas = d.deltas } in
    let w : World = replay es in
    let kept : pairs d.pairs ≡ fold changed w.pairs d.deltas = p ∙ ap (λ x. fold changed x.pairs d.deltas) s.world in
    let world : world_of d ≡ published w e = λ i. record { pairs = kept i; status = d.status } in
    record {
      number = n ∙ ap (λ k. k + 1) s.number ∙ sym (length-append es (e ∷ []));
      cut = sym (fold_push (λ _ x. x.cut) 0 es e);
      deltas = sym (fold_push (λ _ x. x.deltas) [] es e);
      world = world ∙ sym (fold_push published start es e);
    }

longer : (es : List Entry) (e : Entry) → es ++ e ∷ [] ≢ es
longer es e h = omega (arith, length-append es (e ∷ []), ap length h)

-- over a crumb that stands for the book of closed items, what the next batch makes is made for the book with that batch
pub made_for : (c : Crumb) (m : Made) (ended : Bool) (before batch : List Item) (cut : ℕ)
    → IsClosed before → IsNextBatch ended before batch → cut ≡ length before + length batch → CrumbStands c (book false before)
    → entries_of m ≡ next_entries cut (world_of c) batch → IfNext m (λ d. CrumbStands d (book false before ++ entries_of m))
    → IsMadeFor (book false before) (book ended (before ++ batch)) m
made_for c m ended before batch cut closed next at s entries stands =
    let w : world_of c ≡ folded before = s.world ∙ replay_closed before closed in
    let grown : book ended (before ++ batch) ≡ book false before ++ entries_of m =
    the_book_grows ended before batch closed next
    ∙ ap (λ n. book false before ++ next_entries n (folded before) batch) (sym at)
    ∙ ap (λ x. book false before ++ next_entries cut x batch) (sym w)
    ∙ ap (λ xs. book false before ++ xs) (sym entries) in
    cases m (book false before) (book ended (before ++ batch)) grown stands
  where
    cases : (m : Made) (old new : List Entry) → new ≡ old ++ entries_of m → IfNext m (λ d. CrumbStands d (old ++ entries_of m)) → IsMadeFor old new m
    cases Unchanged old new e h = e ∙ append-nil old
    cases (Next d) old new e h = let P : List Entry → Type 0 = CrumbStands d in (subst P (sym e) h, λ f. longer old (record { cut = d.cut; status = d.status; deltas = d.deltas }) (sym e ∙ f))
