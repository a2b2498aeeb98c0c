-- What a batch comes to, over what a publisher keeps.
use Rattle.std.proofs.Common.{◌≡◌, ℕ, ◌+◌, ◌≤◌, Bool, false, List, [], ◌∷◌, ◌++◌, length, refl, sym, ap, ◌∙◌, subst, arith, true≢false}
use Rattle.std.specs.List.{fold}
use Rattle.ty_base.specs.declared.item.Item.{Item}
use Rattle.ty_base.specs.declared.entry.Entry.{Entry}
use Rattle.ty_base.specs.Feed.{World, after, book, folded, replay, same_world}
use Rattle.ty_base.proofs.Pairs.{worlds_decide}
use Rattle.ty_crumb.specs.declared.crumb.Crumb.{Crumb}
use Rattle.ty_base.specs.Batches.{IsClosed, IsNextBatch}
use Rattle.ty_crumb.specs.Batches.{next_entries}
use Rattle.ty_crumb.specs.declared.successor.Made.{Made}
use Rattle.ty_crumb.specs.declared.successor.Made.TheVariants.{Crumb as Next}
use Rattle.ty_crumb.specs.Crumbs.{CrumbStands, world_of, is_unchanged, IfNext, entries_of}
use Rattle.ty_chain.specs.Shown.{entry_by}
use Rattle.ty_crumb.proofs.Book.{the_book_grows}
use Rattle.ty_crumb.proofs.Crumbs.{replay_closed}

-- a batch that changes something has items
pub some_items : (w : World) (items : List Item) → same_world w (fold after w items) ≡ false → 1 ≤ length items
some_items w [] differs = absurd (true≢false (sym ((worlds_decide w w).1 refl) ∙ differs))
some_items w (x ∷ xs) differs = omega arith

-- the next breadcrumb's number is at most the number of items
pub few : (m : Made) (next last : Crumb) (items : List Item) (cut : ℕ) → m ≡ Next next → is_unchanged m ≡ same_world (world_of last) (fold after (world_of last) items)
    → IfNext m (λ d. d.number ≡ last.number + 1) → last.number ≤ cut → next.number ≤ cut + length items
few m next last items cut is same number le =
    let one : next.number ≡ last.number + 1 = subst (λ (x : Made). IfNext x (λ d. d.number ≡ last.number + 1)) is number in
    let some = some_items (world_of last) items (sym same ∙ ap is_unchanged is) in
    omega (arith, one, some, le)

-- over the book of closed items the next breadcrumb's entry leads to the longer book
pub books : (last next : Crumb) (m : Made) (old new : List Entry) (ended : Bool) (before items : List Item) (cut : ℕ) → CrumbStands last old → m ≡ Next next
    → entries_of m ≡ next_entries cut (world_of last) items → new ≡ old ++ entry_by next ∷ []
    → IsClosed before → IsNextBatch ended before items → cut ≡ length before + length items → old ≡ book false before → new ≡ book ended (before ++ items)
books last next m old new ended before items cut stands is made grew closed then at whole =
    let w : world_of last ≡ folded before = stands.world ∙ (ap replay whole ∙ replay_closed before closed) in
    let entry : entry_by next ∷ [] ≡ next_entries cut (world_of last) items = sym (ap entries_of is) ∙ made in
    grew
    ∙ ap (λ (es : List Entry). old ++ es) entry
    ∙ ap (λ (v : World). old ++ next_entries cut v items) w
    ∙ ap (λ n. old ++ next_entries n (folded before) items) at
    ∙ ap (λ (es : List Entry). es ++ next_entries (length before + length items) (folded before) items) whole
    ∙ sym (the_book_grows ended before items closed then)
