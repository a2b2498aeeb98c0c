-- What one more item changes.
use Rattle.std.proofs.Common.{◌≡◌, ℕ, ◌+◌, ◌-◌, ◌<◌, Bool, true, false, cond, List, [], ◌∷◌, ◌++◌, length, take, get_or, refl, sym, ap, ◌∙◌, arith, add_comm, append-nil}
use Rattle.std.specs.Prelude.{None, Some}
use Rattle.std.specs.List.{filter, range_with_len, suffix_len}
use Rattle.std.proofs.lemmas.List.Elements.{filter-append}
use Rattle.std.proofs.lemmas.List.Sums.{suffix_len-take_yes, suffix_len-take_no, fold_more}
use Rattle.ty_base.specs.declared.item.Item.{Item}
use Rattle.ty_base.specs.declared.item.Item.TheVariants.{Put, Del, State, Mark}
use Rattle.ty_base.specs.Feed.{World, get, start, folded, after, is_update}
use Rattle.ty_plain.specs.steps.Scans.{value_behind}
use Rattle.ty_base.proofs.Cuts.{range_split}
use Rattle.ty_base.proofs.Pairs.{get-put_value}

pub closings_more : (test : ℕ → Bool) (i : ℕ) → filter test (range_with_len 1 (i + 1)) ≡ filter test (range_with_len 1 i) ++ cond (test (i + 1)) ((i + 1) ∷ []) []
closings_more test i = ap (filter test) (range_split i 1 1 (i + 1) (omega arith)) ∙ filter-append test (range_with_len 1 i) (range_with_len (i + 1) 1)

pub closing_pushed : (test : ℕ → Bool) (i : ℕ) (xs ys : List ℕ) → test (i + 1) ≡ true → xs ≡ filter test (range_with_len 1 i) → ys ≡ xs ++ (i + 1) ∷ [] → ys ≡ filter test (range_with_len 1 (i + 1))
closing_pushed test i xs ys t e p = p ∙ ap (λ zs. zs ++ (i + 1) ∷ []) e ∙ sym (closings_more test i ∙ ap (λ b. filter test (range_with_len 1 i) ++ cond b ((i + 1) ∷ []) []) t)

pub closing_skipped : (test : ℕ → Bool) (i : ℕ) (xs : List ℕ) → test (i + 1) ≡ false → xs ≡ filter test (range_with_len 1 i) → xs ≡ filter test (range_with_len 1 (i + 1))
closing_skipped test i xs t e = e ∙ sym (closings_more test i ∙ ap (λ b. filter test (range_with_len 1 i) ++ cond b ((i + 1) ∷ []) []) t ∙ append-nil _)

pub run_more : (items : List Item) (i : ℕ) (x : Item) → i < length items → x ≡ get_or items i x → suffix_len is_update (take (i + 1) items) ≡ cond (is_update x) (suffix_len is_update (take i items) + 1) 0
run_more items i x h e =
    let before : i + 1 - 1 ≡ i = omega arith in
    elim (is_update x) as (λ v. is_update x ≡ v → suffix_len is_update (take (i + 1) items) ≡ cond v (suffix_len is_update (take i items) + 1) 0) [
      | true ↦ λ t.
          let yes : is_update (get_or items (i + 1 - 1) x) ≡ true = ap (λ k. is_update (get_or items k x)) before ∙ ap is_update (sym e) ∙ t in
          let more : suffix_len is_update (take (i + 1) items) ≡ 1 + suffix_len is_update (take (i + 1 - 1) items) = suffix_len-take_yes is_update items (i + 1) x (omega arith) (omega arith) yes in
          more ∙ ap (λ k. 1 + suffix_len is_update (take k items)) before ∙ add_comm 1 _
      | false ↦ λ t.
          let no : is_update (get_or items (i + 1 - 1) x) ≡ false = ap (λ k. is_update (get_or items k x)) before ∙ ap is_update (sym e) ∙ t in
          suffix_len-take_no is_update items (i + 1) x (omega arith) (omega arith) no
    ] refl

pub ruleset run_steps = (closings_more, run_more)

pub value_after : (w : World) (x : Item) (q : List ℕ) → get (after w x).pairs q ≡ value_behind q x (get w.pairs q)
value_after w (Put k v) q = get-put_value w.pairs k (Some v) q
value_after w (Del k) q = get-put_value w.pairs k None q
value_after w (State s) q = refl
value_after w Mark q = refl

pub ruleset value_steps = (value_after)

pub world_step : (items : List Item) (i : ℕ) (x : Item) → i < length items → x ≡ get_or items i x → folded (take (i + 1) items) ≡ after (folded (take i items)) x
world_step items i x h e = fold_more after start items i x h ∙ ap (after (folded (take i items))) (sym e)

pub value_step : (items : List Item) (i : ℕ) (x : Item) (q : List ℕ) → i < length items → x ≡ get_or items i x → get (folded (take (i + 1) items)).pairs q ≡ value_behind q x (get (folded (take i items)).pairs q)
value_step items i x q h e = ap (λ w. get w.pairs q) (world_step items i x h e) ∙ value_after (folded (take i items)) x q
