-- Printing one after the other, as a loop does.
use Rattle.std.proofs.Common.{◌≡◌, ℕ, ◌+◌, ◌<◌, ◌≤◌, min, max, List, [], ◌∷◌, ◌++◌, length, get_or, drop, codes, sym, ap, ◌∙◌, append_assoc, arith}
use Rattle.std.proofs.lemmas.List.{at_drop_more, at_drop_all, append-nil}
use Rattle.ty_select.specs.declared.selector.Selector.{Selector}
use Rattle.ty_select.specs.Forms.{form, forms_of}
use Rattle.ty_select.specs.steps.Forms.{forms}
use Rattle.ty_select.specs.Text.{quoted_text, quoted_texts, printed, parted, deepest, depth}

here_next : {X : Type 0} (xs : List X) (i : ℕ) (v : X) → i < length xs → v ≡ get_or xs i v → drop i xs ≡ v ∷ drop (i + 1) xs
here_next {X} xs i v lt is = at_drop_more (λ (l : List X). l) xs i v lt ∙ ap (λ x. x ∷ drop (i + 1) xs) (sym is)

nothing_left : {X : Type 0} (xs : List X) (i : ℕ) → length xs ≤ i → drop i xs ≡ []
nothing_left {X} xs i le = at_drop_all (λ (l : List X). l) xs i le

regroup : (out before item rest : List ℕ) → ((out ++ before) ++ item) ++ rest ≡ out ++ (before ++ (item ++ rest))
regroup out before item rest = simp append_assoc

module _ (vs : List (List ℕ)) (i : ℕ) (out before total : List ℕ) where
  pub listed_on : (v : List ℕ) → i < length vs → v ≡ get_or vs i v → out ++ quoted_texts before (drop i vs) ≡ total → ((out ++ before) ++ quoted_text v) ++ quoted_texts (codes ", ") (drop (i + 1) vs) ≡ total
  listed_on v lt is so_far =
      regroup out before (quoted_text v) (quoted_texts (codes ", ") (drop (i + 1) vs)) ∙ sym (ap (λ l. out ++ quoted_texts before l) (here_next vs i v lt is)) ∙ so_far

  pub listed_all : length vs ≤ i → out ++ quoted_texts before (drop i vs) ≡ total → out ≡ total
  listed_all le so_far = sym (append-nil out) ∙ sym (ap (λ l. out ++ quoted_texts before l) (nothing_left vs i le)) ∙ so_far

module _ (ss : List Selector) (i : ℕ) (out before mark total : List ℕ) where
  pub parted_on : (s : Selector) → i < length ss → s ≡ get_or ss i s → out ++ parted before mark (forms_of (forms (drop i ss))) ≡ total
      → ((out ++ before) ++ printed (form s)) ++ parted mark mark (forms_of (forms (drop (i + 1) ss))) ≡ total
  parted_on s lt is so_far =
      regroup out before (printed (form s)) (parted mark mark (forms_of (forms (drop (i + 1) ss)))) ∙ sym (ap (λ l. out ++ parted before mark (forms_of (forms l))) (here_next ss i s lt is)) ∙ so_far

  pub parted_all : length ss ≤ i → out ++ parted before mark (forms_of (forms (drop i ss))) ≡ total → out ≡ total
  parted_all le so_far = sym (append-nil out) ∙ sym (ap (λ l. out ++ parted before mark (forms_of (forms l))) (nothing_left ss i le)) ∙ so_far

most_of : (a d r m : ℕ) → max (max a (min d m)) (min r m) ≡ max a (min (max d r) m)
most_of a d r m = omega arith

module _ (ss : List Selector) (i most m total : ℕ) where
  pub deeper : (s : Selector) → i < length ss → s ≡ get_or ss i s → max most (min (deepest (forms_of (forms (drop i ss)))) m) ≡ total
      → max (max most (min (depth (form s)) m)) (min (deepest (forms_of (forms (drop (i + 1) ss)))) m) ≡ total
  deeper s lt is so_far =
      most_of most (depth (form s)) (deepest (forms_of (forms (drop (i + 1) ss)))) m ∙ sym (ap (λ l. max most (min (deepest (forms_of (forms l))) m)) (here_next ss i s lt is)) ∙ so_far

  pub deepest_of_all : length ss ≤ i → max most (min (deepest (forms_of (forms (drop i ss)))) m) ≡ total → most ≡ total
  deepest_of_all le so_far =
      let e : max most (min (deepest (forms_of (forms (drop i ss)))) m) ≡ max most (min 0 m) = ap (λ l. max most (min (deepest (forms_of (forms l))) m)) (nothing_left ss i le) in
      let z : max most (min 0 m) ≡ most = omega arith in
      sym z ∙ sym e ∙ so_far
