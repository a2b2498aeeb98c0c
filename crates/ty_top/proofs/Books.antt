-- A book's groups, one entry at a time.
use Rattle.std.proofs.Common.{◌≡◌, ℕ, ◌+◌, ◌-◌, ◌<◌, true, cond, List, [], ◌∷◌, ◌++◌, length, take, sym, ap, ◌∙◌, arith, get_or, append_assoc}
use Rattle.std.specs.Prelude.{Some}
use Rattle.std.specs.List.{range_with_len}
use Rattle.std.proofs.lemmas.List.{take_more}
use Rattle.std.proofs.lemmas.List.Sums.{fold-append}
use Rattle.std.proofs.lemmas.Grind.{flat_map-append}
use Rattle.ty_base.specs.declared.entry.Entry.{Entry}
use Rattle.ty_base.specs.declared.item.Item.{Item}
use Rattle.ty_base.specs.Feed.{World, replay, published, start, last_of, book, last, entry}
use Rattle.ty_base.proofs.Cuts.{range_split}
use Rattle.ty_wire.specs.Wire.{frames, frame}
use Rattle.ty_wire.specs.Talk.{talk, opening, groups_after, group_between, group_messages, status_change, world_after}
use Rattle.ty_wire.specs.declared.message.Msg.{Msg}
use Rattle.ty_base.specs.declared.status.Status.TheVariants.{Wait}
use Rattle.ty_wire.specs.declared.message.Msg.TheVariants.{ServerHello}
use Rattle.std.proofs.lemmas.List.FromFn.{length-map-range_with_len}
use Rattle.std.proofs.lemmas.Bool.{le-leb}
use Rattle.ty_top.proofs.Told.{last_of_range, groups_more, one_between}
use Rattle.ty_top.specs.Streamed.{streamed}

pub world_more : (es : List Entry) (i : ℕ) (e : Entry) → i < length es → e ≡ get_or es i e → world_after es (i + 1) ≡ published (world_after es i) e
unfolding replay
world_more es i e h is = ap replay (take_more es i e h) ∙ fold-append published start (take i es) (get_or es i e ∷ []) ∙ ap (published (world_after es i)) (sym is)

-- the groups as far as one entry more
pub groups_step : (es : List Entry) (i : ℕ) (e : Entry) (before now more : List ℕ) → i < length es → e ≡ get_or es i e
    → now ≡ before ++ frames (groups_after es 0 (range_with_len 1 i))
    → more ≡ now ++ frames (group_messages e.deltas (status_change (world_after es i).status e.status) (i + 1))
    → more ≡ before ++ frames (groups_after es 0 (range_with_len 1 (i + 1)))
groups_step es i e before now more h is n m =
    let done : List Msg = groups_after es 0 (range_with_len 1 i) in
    let next : List Msg = group_messages e.deltas (status_change (world_after es i).status e.status) (i + 1) in
    let here : group_between es (last_of 0 (range_with_len 1 i)) (i + 1) ≡ next =
    ap (λ k. group_between es k (i + 1)) (last_of_range i 0 ∙ omega arith)
    ∙ ap (λ ds. group_messages ds (status_change (world_after es i).status (world_after es (i + 1)).status) (i + 1)) (one_between es i e h is)
    ∙ ap (λ (w : World). group_messages e.deltas (status_change (world_after es i).status w.status) (i + 1)) (world_more es i e h is) in
    let all : groups_after es 0 (range_with_len 1 (i + 1)) ≡ done ++ next =
    ap (groups_after es 0) (range_split i 1 1 (i + 1) (omega arith)) ∙ groups_more es 0 (range_with_len 1 i) (i + 1) ∙ ap (λ ms. done ++ ms) here in
    m ∙ ap (λ xs. xs ++ frames next) n ∙ append_assoc before (frames done) (frames next) ∙ ap (λ xs. before ++ xs) (sym (ap frames all ∙ flat_map-append frame done next))

pub streamed_whole : (items : List Item) (bytes : List ℕ) → bytes ≡ frames (opening [] 0) ++ frames (groups_after (book true items) 0 (range_with_len 1 (length (book true items)))) → bytes ≡ streamed items 0
unfolding streamed replay book
streamed_whole items bytes h =
    let es : List Entry = book true items in
    let n : ℕ = last true items in
    let numbers : length es ≡ n = length-map-range_with_len (entry true items) 1 n in
    let less : n - 0 ≡ n = omega arith in
    h
    ∙ ap (λ k. frames (opening [] 0) ++ frames (groups_after es 0 (range_with_len 1 k))) (numbers ∙ sym less)
    ∙ sym (flat_map-append frame (opening es 0) (groups_after es 0 (range_with_len 1 (n - 0))))
    ∙ ap (λ b. cond b (frames (talk es 0 (range_with_len 1 (n - 0)))) (frame (ServerHello 1))) (sym (le-leb 0 n (omega arith)))

pub opening_whole : (a b c : List ℕ) → a ≡ [] → b ≡ a ++ frame (ServerHello 1) → c ≡ b ++ frames (group_messages [] (Some Wait) 0) → c ≡ frames (opening [] 0)
unfolding replay
opening_whole a b c e f g = g ∙ ap (λ x. x ++ frames (group_messages [] (Some Wait) 0)) (f ∙ ap (λ x. x ++ frame (ServerHello 1)) e)
