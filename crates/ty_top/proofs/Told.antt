-- What is told of a book with one entry more.
use Rattle.std.proofs.Common.{◌≡◌, ℕ, zero, suc, ◌+◌, ◌-◌, ◌<◌, ◌≤◌, cond, List, [], ◌∷◌, ◌++◌, length, take, drop, map, refl, sym, ap, ◌∙◌, arith, get_or, append_assoc, append-nil, drop-cons, length-append, length-drop, nat_le}
use Rattle.std.specs.Prelude.{Some, flat_map}
use Rattle.std.specs.List.{range_with_len}
use Rattle.std.proofs.lemmas.List.{take_all, take-append-le, drop-append-le}
use Rattle.std.proofs.lemmas.Bool.{le-leb, lt-leb}
use Rattle.std.proofs.Math.Seq.{get_or-append_seam}
use Rattle.ty_base.specs.declared.entry.Entry.{Entry}
use Rattle.ty_base.specs.Feed.{World, replay, last_of}
use Rattle.ty_base.proofs.Cuts.{range_split}
use Rattle.ty_wire.specs.Talk.{talk, opening, first_group, groups_after, group_between, group_messages, deltas_between, status_change, world_after}
use Rattle.ty_wire.specs.declared.message.Msg.{Msg}
use Rattle.ty_wire.specs.declared.message.Msg.TheVariants.{ServerHello}
use Rattle.ty_base.specs.declared.delta.Kind.TheVariants.{New}

-- the messages from breadcrumb j to the last, or the server hello alone
abbrev pub told : List Entry → ℕ → List Msg
told es j = cond (nat_le j (length es)) (talk es j (range_with_len (j + 1) (length es - j))) (ServerHello 1 ∷ [])

pub last_of_range : (i d : ℕ) → last_of d (range_with_len (d + 1) i) ≡ d + i
last_of_range zero d = omega arith
last_of_range (suc i) d = last_of_range i (d + 1) ∙ omega arith

pub groups_more : (es : List Entry) (from : ℕ) (ns : List ℕ) (m : ℕ) → groups_after es from (ns ++ m ∷ []) ≡ groups_after es from ns ++ group_between es (last_of from ns) m
unfolding groups_after
groups_more es from [] m = append-nil (group_between es from m)
groups_more es from (n ∷ ns) m = ap (λ ms. group_between es from n ++ ms) (groups_more es n ns m) ∙ sym (append_assoc (group_between es from n) (groups_after es n ns) (group_between es (last_of n ns) m))

pub one_between : (es : List Entry) (i : ℕ) (e : Entry) → i < length es → e ≡ get_or es i e → deltas_between es i (i + 1) ≡ e.deltas
one_between es i e h is =
    let one : i + 1 - i ≡ 1 = omega arith in
    ap (λ k. flat_map (λ x. x.deltas) (take k (drop i es))) one
    ∙ ap (λ xs. flat_map (λ x. x.deltas) (take 1 xs)) (drop-cons es i e h)
    ∙ ap (λ x. x.deltas ++ []) (sym is)
    ∙ append-nil e.deltas

pub none_yet : (es : List Entry) (j : ℕ) → length es < j → told es j ≡ ServerHello 1 ∷ []
none_yet es j h = ap (λ b. cond b (talk es j (range_with_len (j + 1) (length es - j))) (ServerHello 1 ∷ [])) (lt-leb j (length es) h)

module _ (es : List Entry) (e : Entry) where
  abbrev longer : List Entry
  longer = es ++ e ∷ []

  world_kept : (n : ℕ) → n ≤ length es → world_after longer n ≡ world_after es n
  world_kept n h = ap replay (take-append-le n es (e ∷ []) h)

  between_kept : (from n : ℕ) → from ≤ n → n ≤ length es → group_between longer from n ≡ group_between es from n
  between_kept from n h k =
      let within : n - from ≤ length (drop from es) = omega (arith, length-drop {A = Entry}) in
      let ds : deltas_between longer from n ≡ deltas_between es from n = ap (λ xs. flat_map (λ x. x.deltas) (take (n - from) xs)) (drop-append-le from es (e ∷ []) (omega arith)) ∙ ap (λ xs. flat_map (λ x. x.deltas) xs) (take-append-le (n - from) (drop from es) (e ∷ []) within) in
      ap (λ xs. group_messages xs (status_change (world_after longer from).status (world_after longer n).status) n) ds
      ∙ ap (λ (w : World). group_messages (deltas_between es from n) (status_change w.status (world_after longer n).status) n) (world_kept from (omega arith))
      ∙ ap (λ (w : World). group_messages (deltas_between es from n) (status_change (world_after es from).status w.status) n) (world_kept n k)

  groups_kept : (k from : ℕ) → from + k ≤ length es → groups_after longer from (range_with_len (from + 1) k) ≡ groups_after es from (range_with_len (from + 1) k)
  unfolding groups_after
  groups_kept zero from h = refl
  groups_kept (suc k) from h =
      ap (λ ms. ms ++ groups_after longer (from + 1) (range_with_len (from + 1 + 1) k)) (between_kept from (from + 1) (omega arith) (omega arith))
      ∙ ap (λ ms. group_between es from (from + 1) ++ ms) (groups_kept k (from + 1) (omega arith))

  first_kept : (n : ℕ) → n ≤ length es → first_group longer n ≡ first_group es n
  first_kept n h = ap (λ (w : World). group_messages (map (λ p. record { key = p.0; kind = New; value = Some p.1; told = refl }) w.pairs) (Some w.status) n) (world_kept n h)

  length_longer : length longer ≡ length es + 1
  length_longer = length-append es (e ∷ [])

  entry_here : e ≡ get_or longer (length es) e
  entry_here = sym (get_or-append_seam es e [] e)

  world_here : world_after longer (length es) ≡ replay es
  world_here = world_kept (length es) (omega arith) ∙ ap replay (take_all (length es) es (omega arith))

  world_there : world_after longer (length es + 1) ≡ replay longer
  world_there = ap replay (take_all (length es + 1) longer (omega (arith, length_longer)))

  -- from the last entry before to this one
  last_between : group_between longer (length es) (length es + 1) ≡ group_messages e.deltas (status_change (replay es).status (replay longer).status) (length es + 1)
  last_between =
      ap (λ ds. group_messages ds (status_change (world_after longer (length es)).status (world_after longer (length es + 1)).status) (length es + 1)) (one_between longer (length es) e (omega (arith, length_longer)) entry_here)
      ∙ ap (λ (w : World). group_messages e.deltas (status_change w.status (world_after longer (length es + 1)).status) (length es + 1)) world_here
      ∙ ap (λ (w : World). group_messages e.deltas (status_change (replay es).status w.status) (length es + 1)) world_there

  -- where breadcrumb j was told already, its deltas follow
  pub told_after : (j : ℕ) → j ≤ length es → told longer j ≡ told es j ++ group_messages e.deltas (status_change (replay es).status (replay longer).status) (length es + 1)
  told_after j h =
      let k : ℕ = length es - j in
      let ns : List ℕ = range_with_len (j + 1) k in
      let more : length longer - j ≡ k + 1 = omega (arith, length_longer) in
      let at_end : last_of j ns ≡ length es = last_of_range k j ∙ omega arith in
      ap (λ b. cond b (talk longer j (range_with_len (j + 1) (length longer - j))) (ServerHello 1 ∷ [])) (le-leb j (length longer) (omega (arith, length_longer)))
      ∙ ap (λ n. talk longer j (range_with_len (j + 1) n)) more
      ∙ ap (λ xs. opening longer j ++ groups_after longer j xs) (range_split k (j + 1) 1 (length es + 1) (omega arith))
      ∙ ap (λ ms. opening longer j ++ ms) (groups_more longer j ns (length es + 1))
      ∙ ap (λ ms. ServerHello 1 ∷ (ms ++ (groups_after longer j ns ++ group_between longer (last_of j ns) (length es + 1)))) (first_kept j h)
      ∙ ap (λ ms. opening es j ++ (ms ++ group_between longer (last_of j ns) (length es + 1))) (groups_kept k j (omega arith))
      ∙ ap (λ n. opening es j ++ (groups_after es j ns ++ group_between longer n (length es + 1))) at_end
      ∙ ap (λ ms. opening es j ++ (groups_after es j ns ++ ms)) last_between
      ∙ sym (append_assoc (opening es j) (groups_after es j ns) (group_messages e.deltas (status_change (replay es).status (replay longer).status) (length es + 1)))
      ∙ ap (λ b. cond b (talk es j ns) (ServerHello 1 ∷ []) ++ group_messages e.deltas (status_change (replay es).status (replay longer).status) (length es + 1)) (sym (le-leb j (length es) h))

  -- where this is breadcrumb j, its snapshot is told
  pub told_first : (j : ℕ) → j ≡ length es + 1 → told longer j ≡ told es j ++ group_messages (map (λ p. record { key = p.0; kind = New; value = Some p.1; told = refl }) (replay longer).pairs) (Some (replay longer).status) (length es + 1)
  unfolding groups_after
  told_first j h =
      let none : length longer - (length es + 1) ≡ 0 = omega (arith, length_longer) in
      ap (told longer) h
      ∙ ap (λ b. cond b (talk longer (length es + 1) (range_with_len (length es + 1 + 1) (length longer - (length es + 1)))) (ServerHello 1 ∷ [])) (le-leb (length es + 1) (length longer) (omega (arith, length_longer)))
      ∙ ap (λ n. talk longer (length es + 1) (range_with_len (length es + 1 + 1) n)) none
      ∙ append-nil (opening longer (length es + 1))
      ∙ ap (λ (w : World). ServerHello 1 ∷ group_messages (map (λ p. record { key = p.0; kind = New; value = Some p.1; told = refl }) w.pairs) (Some w.status) (length es + 1)) world_there
      ∙ ap (λ ms. ms ++ group_messages (map (λ p. record { key = p.0; kind = New; value = Some p.1; told = refl }) (replay longer).pairs) (Some (replay longer).status) (length es + 1)) (sym (none_yet es j (omega (arith, h))))

  -- where breadcrumb j comes later, nothing is
  pub told_before : (j : ℕ) → length es + 1 < j → told longer j ≡ told es j
  told_before j h =
      ap (λ b. cond b (talk longer j (range_with_len (j + 1) (length longer - j))) (ServerHello 1 ∷ [])) (lt-leb j (length longer) (omega (arith, length_longer)))
      ∙ sym (none_yet es j (omega arith))
