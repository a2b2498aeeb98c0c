-- The book of a feed with more bytes behind, or at its end, is the book before with more entries behind.
use Rattle.std.proofs.Common.{◌≡◌, ℕ, zero, suc, ◌+◌, ◌-◌, ◌<◌, ◌≤◌, ◌&&◌, Bool, true, false, cond, List, [], ◌∷◌, ◌++◌, map, refl, sym, ap, ◌∙◌, arith, append-nil}
use Rattle.std.specs.Prelude.{not}
use Rattle.std.specs.List.{filter_map, take_while, range_with_len}
use Rattle.std.proofs.lemmas.List.{map-append}
use Rattle.std.proofs.lemmas.List.Elements.{filter_map-append}
use Rattle.std.proofs.lemmas.List.Sums.{take_while-cons}
use Rattle.ty_base.specs.declared.item.Item.{Item}
use Rattle.ty_base.specs.declared.entry.Entry.{Entry}
use Rattle.ty_base.specs.Feed.{cut, last, world, deltas, entry, book}
use Rattle.ty_base.proofs.Cuts.{range_split}
use Rattle.ty_base.proofs.More.{last_more, cut_more, same_world_more, deltas_more}
use Rattle.ty_intake.specs.Lines.{Feed, fed_with, ended_now, Cut, cut_of, is_too_much, last_line, lines_of}
use Rattle.ty_intake.specs.Line.{item_by}
use Rattle.ty_intake.specs.Batches.{is_good, items_of}
use Rattle.ty_intake.specs.steps.Progress.{behind}
use Rattle.ty_intake.proofs.LongerFeeds.{cut-more}
use Rattle.ty_intake.proofs.StoppedFeeds.{going, over, cut_part, lines-going}

-- More items

map_same : {X : Type 0} (f g : ℕ → X) (k a : ℕ) → ((n : ℕ) → a ≤ n → n < a + k → f n ≡ g n) → map f (range_with_len a k) ≡ map g (range_with_len a k)
map_same f g zero a h = refl
map_same f g (suc k) a h =
    ap (λ x. x ∷ map f (range_with_len (a + 1) k)) (h a (omega arith) (omega arith))
    ∙ ap (λ xs. g a ∷ xs) (map_same f g k (a + 1) (λ n l m. h n (omega arith) (omega arith)))

module _ (ended : Bool) (items more : List Item) where
  entry_more : (n : ℕ) → n ≤ last false items → entry ended (items ++ more) n ≡ entry false items n
  entry_more n h =
      let c : cut ended (items ++ more) n ≡ cut false items n = cut_more ended items more n h in
      let w : world ended (items ++ more) n ≡ world false items n = same_world_more ended items more n h in
      let d : deltas ended (items ++ more) n ≡ deltas false items n = deltas_more ended items more n h in
      λ i. record { cut = c i; status = (w i).status; deltas = d i }

  book_more : (entries : List Entry) × (book ended (items ++ more) ≡ book false items ++ entries)
  unfolding book
  book_more =
      let f : ℕ → Entry = entry ended (items ++ more) in
      let n : ℕ = last false items in
      let m : ℕ = last ended (items ++ more) - n in (
        map f (range_with_len (n + 1) m),
        ap (λ k. map f (range_with_len 1 k)) (omega (arith, last_more ended items more))
            ∙ ap (map f) (range_split n 1 m (n + 1) (omega arith))
            ∙ map-append f (range_with_len 1 n) (range_with_len (n + 1) m)
            ∙ ap (λ l. l ++ map f (range_with_len (n + 1) m)) (map_same f (entry false items) n 1 (λ k a b. entry_more k (omega arith))),
      )

-- More lines

good_more : (ls ms : List (List ℕ)) → (rest : List (List ℕ)) × (take_while is_good (ls ++ ms) ≡ take_while is_good ls ++ rest)
good_more [] ms = (take_while is_good ms, refl)
good_more (l ∷ ls) ms =
    let r = good_more ls ms in
    let G : Bool → List (List ℕ) → List (List ℕ) = λ b xs. cond b (l ∷ take_while is_good xs) [] in
    let cut_all : (b : Bool) → (rest : List (List ℕ)) × (G b (ls ++ ms) ≡ G b ls ++ rest) = λ b. elim b as (λ v. (rest : List (List ℕ)) × (G v (ls ++ ms) ≡ G v ls ++ rest)) [
      | true ↦ (r.0, ap (λ (xs : List (List ℕ)). l ∷ xs) r.1)
      | false ↦ ([], refl)
    ] in
    let c = cut_all (is_good l) in
    (c.0, take_while-cons is_good l (ls ++ ms) ∙ c.1 ∙ ap (λ xs. xs ++ c.0) (sym (take_while-cons is_good l ls)))

items_more : (old new : Feed) (more : List (List ℕ)) → lines_of new ≡ lines_of old ++ more → (items : List Item) × (items_of new ≡ items_of old ++ items)
unfolding items_of
items_more old new more e =
    let r = good_more (lines_of old) more in (
      filter_map item_by r.0,
      ap (λ ls. filter_map item_by (take_while is_good ls)) e ∙ ap (filter_map item_by) r.1 ∙ filter_map-append item_by (take_while is_good (lines_of old)) r.0,
    )

-- More bytes, and the end

abbrev pub IsLonger : Feed → Feed → Type 0
IsLonger old new = (entries : List Entry) × (book new.ended (items_of new) ≡ book old.ended (items_of old) ++ entries)

longer : (bytes : List ℕ) (new : Feed) (more : List (List ℕ)) → lines_of new ≡ lines_of (going bytes) ++ more → IsLonger (going bytes) new
longer bytes new more e =
    let i = items_more (going bytes) new more e in
    let b = book_more new.ended (items_of (going bytes)) i.0 in
    (b.0, ap (book new.ended) i.1 ∙ b.1)

same : (feed : Feed) → IsLonger feed feed
same feed = ([], sym (append-nil (book feed.ended (items_of feed))))

fed : (bytes piece : List ℕ) (ended : Bool) → IsLonger (record { bytes = bytes; ended = ended }) (fed_with (record { bytes = bytes; ended = ended }) piece)
fed bytes piece true = same (over bytes)
fed bytes piece false =
    let c = cut-more bytes piece in
    let more : List (List ℕ) = (behind (cut_part bytes).rest c.0.lines c.0.rest).lines in
    longer bytes (going (bytes ++ piece)) more
    (lines-going (bytes ++ piece) ∙ ap (λ (x : Cut). x.lines) c.1 ∙ ap (λ ls. ls ++ more) (sym (lines-going bytes)))

pub fed_longer : (feed : Feed) (piece : List ℕ) → IsLonger feed (fed_with feed piece)
fed_longer feed piece = fed feed.bytes piece feed.ended

lines_over : (bytes : List ℕ) → lines_of (over bytes) ≡ (cut_part bytes).lines ++ last_line (true && not (is_too_much (over bytes))) (cut_part bytes).rest
unfolding lines_of cut_of
lines_over bytes = refl

ends : (bytes : List ℕ) (ended : Bool) → IsLonger (record { bytes = bytes; ended = ended }) (over bytes)
ends bytes true = same (over bytes)
ends bytes false =
    let more : List (List ℕ) = last_line (true && not (is_too_much (over bytes))) (cut_part bytes).rest in
    longer bytes (over bytes) more (lines_over bytes ∙ ap (λ ls. ls ++ more) (sym (lines-going bytes)))

pub ended_longer : (feed : Feed) → IsLonger feed (ended_now feed)
ended_longer feed = ends feed.bytes feed.ended
