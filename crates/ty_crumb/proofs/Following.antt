-- What is owed for a batch follows from the map, the deltas and the status that it makes.
use Rattle.std.proofs.Common.{◌≡◌, ◌+◌, ◌≤◌, ◌&&◌, ◌==◌, ℕ, List, true, false, length, refl, ap, sym, subst, ◌∙◌, arith}
use Rattle.std.specs.Prelude.{Option, Result, Ok, Err, IfOk}
use Rattle.std.specs.List.{fold, count_by}
use Rattle.ty_base.specs.declared.item.Item.{Item}
use Rattle.ty_base.specs.declared.delta.Delta.{Delta}
use Rattle.ty_base.specs.declared.status.Status.{Status}
use Rattle.ty_base.specs.Statuses.{same_status}
use Rattle.ty_base.specs.Feed.{Pairs, World, changed, book, is_update}
use Rattle.ty_map.specs.Fresh.{fresh}
use Rattle.ty_map.specs.Shape.{Shape, pairs}
use Rattle.ty_dedupe.specs.Pending.{pending}
use Rattle.ty_crumb.specs.declared.crumb.Crumb.{Crumb}
use Rattle.ty_crumb.specs.declared.successor.Made.TheVariants.{Unchanged, Crumb as Next}
use Rattle.ty_crumb.specs.Crumbs.{world_of, most_fresh}
use Rattle.ty_crumb.specs.steps.Following.{IsLike, IsMadeOf}
use Rattle.ty_crumb.proofs.Crumbs.{stands_next, made_for}
use Rattle.ty_crumb.proofs.PendingChanges.{Makes, nothing_told, made_world, made_entries, no_entries}
use Rattle.ty_crumb.proofs.Spent.{most_of_batch}

pub if_ok-map : {A E : Type 0} {P Q : A → Type 0} → ((x : A) → P x → Q x) → (r : Result A E) → IfOk r P → IfOk r Q
if_ok-map f (Ok x) h = f x h
if_ok-map f (Err e) h = tt

-- what is made over one crumb is made over each with the same map and status
makes_like : (held last : Crumb) (items : List Item) (map : Pairs) (ds : List Delta) (status : Status) → IsLike held last → Makes (world_of last) items map ds status → Makes (world_of held) items map ds status
makes_like held last items map ds status like made =
    let same : world_of last ≡ world_of held = λ i. record { pairs = pairs (sym like.pairs i); status = sym like.status i } in
    let P : World → Type 0 = λ w. Makes w items map ds status in subst P same made

pub nothing_made : (held last : Crumb) (items : List Item) (cut now : ℕ) (map : Pairs) (ds : List Delta) (status : Status) → IsLike held last → Makes (world_of last) items map ds status
    → true ≡ ((length ds == 0) && same_status last.status status) → IsMadeOf held items cut now Unchanged
nothing_made held last items cut now map ds status like made t =
    let w = world_of held in
    let told = t ∙ ap (λ x. (length ds == 0) && same_status x status) (sym like.status) ∙ nothing_told w items map ds status held.ascending (makes_like held last items map ds status like made) in
    let none = no_entries w items cut told in
    record {
      unchanged = told;
      entries = none;
      number = tt;
      at = tt;
      world = tt;
      few = tt;
      stands = λ es h. tt;
      book = λ ended before closed next at stands. made_for held Unchanged ended before items cut closed next at stands none tt;
    }

pub next_made : (held last next : Crumb) (items : List Item) (cut now : ℕ) (keys : List (List ℕ × Option (List ℕ))) → IsLike held last → Makes (world_of last) items (pairs next.pairs) next.deltas next.status
    → false ≡ ((length next.deltas == 0) && same_status last.status next.status) → next.number ≡ last.number + 1 → next.cut ≡ cut → next.at ≡ now
    → pairs next.pairs ≡ fold changed (pairs last.pairs) next.deltas → fresh last.pairs next.pairs ≤ most_fresh (length (pairs last.pairs)) (length keys)
    → keys ≡ pending items → IsMadeOf held items cut now (Next next)
next_made held last next items cut now keys like made t number at_cut at p few all =
    let w = world_of held in
    let here = makes_like held last items (pairs next.pairs) next.deltas next.status like made in
    let told = t ∙ ap (λ x. (length next.deltas == 0) && same_status x next.status) (sym like.status) ∙ nothing_told w items (pairs next.pairs) next.deltas next.status held.ascending here in
    let entry = made_entries w items cut (pairs next.pairs) next.deltas next.status (record { cut = next.cut; status = next.status; deltas = next.deltas }) here at_cut refl refl told in
    let n : next.number ≡ held.number + 1 = number ∙ ap (λ x. x + 1) (sym like.number) in
    let led : pairs next.pairs ≡ fold changed (pairs held.pairs) next.deltas = p ∙ ap (λ s. fold changed (pairs s) next.deltas) (sym like.pairs) in
    let F : Shape → Type 0 = λ s. fresh s next.pairs ≤ most_fresh (length (pairs s)) (count_by is_update items) in
    let most = most_of_batch (length (pairs last.pairs)) items keys all in
    record {
      unchanged = told;
      entries = entry;
      number = n;
      at = at;
      world = made_world w items (pairs next.pairs) next.deltas next.status (world_of next) here refl refl;
      few = subst F (sym like.pairs) (omega (arith, few, most));
      stands = λ es h. stands_next held next es h n led;
      book = λ ended before closed after at stands. made_for held (Next next) ended before items cut closed after at stands entry (stands_next held next (book false before) stands n led);
    }
