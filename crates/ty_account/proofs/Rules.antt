-- What a step on the word does to the rule.
use Rattle.std.proofs.Common.{◌≡◌, ℕ, ◌+◌, ◌*◌, ◌<◌, ◌≤◌, ◌^◌, ◌==◌, Fits as Holds, w64, Bool, true, false, List, [], ◌∷◌, ◌++◌, length, refl, ap, sym, ◌∙◌, subst, arith, inr, append-nil}
use Rattle.std.proofs.lemmas.Bool.Decides.{nat_tests}
use Rattle.std.specs.Prelude.{None, Some}
use mathlib.Core.List.{IsPrefix}
use prog.Atomic.{either}
use Rattle.logbook.specs.Pages.{Cell, cell, keeps, no_nib, Step, step, View, Moves, Goes}
use Rattle.ty_base.specs.declared.entry.Entry.{Entry}
use Rattle.ty_account.specs.declared.history.Mark.{Mark}
use Rattle.ty_account.specs.declared.history.Mark.TheVariants.{Opened, Entered, Closed}
use Rattle.ty_account.specs.steps.Replies.{Reply}
use Rattle.ty_account.specs.steps.Histories.{is_closed, is_legal, word_of, word_weight, no_mark, IsChain, Fits}
use Rattle.ty_account.specs.steps.Rules.{IsRuled, added_by, Moved, Looks, Adds}
use Rattle.ty_account.proofs.Histories.{same_length, legal_more, word_more}
use Rattle.ty_account.proofs.Prefixes.{prefix_whole}
use Rattle.ty_account.proofs.Chains.{chain_entered, chain_closed}

-- the word has room for a mark
pub fits_by : (n by : ℕ) → by ≤ 2 → n ≤ 2 * 2 ^ 40 → Holds w64 (n + by)
fits_by n by b le = record { fits = omega (arith, le, b) }

pub weight_small : {X : Type 0} (m : Mark X) → word_weight m ≤ 2
weight_small (Opened p x) = omega arith
weight_small (Entered e p x) = omega arith
weight_small Closed = omega arith

-- a mark that fits is added
pub added_one : {X : Type 0} (stands : X → List Entry → Type 0) (h : List (Mark X)) (m : Mark X) → Fits stands h m → added_by true m ≡ m ∷ []
added_one stands h (Opened p x) fits = absurd fits
added_one stands h (Entered e p x) fits = refl
added_one stands h Closed fits = refl

module _ {X : Type 0} (stands : X → List Entry → Type 0) where
  abbrev shown : List (Mark X) → List (Mark X)
  shown h = h

  -- a history grows by a mark that fits
  pub grows : (h : List (Mark X)) → is_legal h ≡ true → is_closed h ≡ false → IsChain stands h → (m : Mark X) → Fits stands h m → (is_legal (h ++ m ∷ []) ≡ true) × IsChain stands (h ++ m ∷ []) × (added_by true m ≡ m ∷ [])
  grows h l o c (Opened p x) fits = absurd fits
  grows h l o c (Entered e p x) fits = (legal_more h (Entered e p x) l o refl, chain_entered stands h l o c e p x fits, refl)
  grows h l o c Closed fits = (legal_more h Closed l o refl, chain_closed stands h l o c, refl)

  module _ (v : List (Mark X)) where
    abbrev view : View (Mark X) (Reply X)
    view = (v, (no_nib, None))

    -- a look leaves the history as it is, and tells it
    pub looks_moves : Moves (IsRuled stands) shown (Moved no_mark) 0 view (λ n. n) (Looks stands (step 0 0 0 no_mark) view)
    looks_moves cells h kept begins away =
        let all : h ++ [] ≡ h = append-nil h in
        let reply : Reply X = record { marker = record {}; found = length h; added = true; all = h ++ [] } in
        let chain : IsChain stands (h ++ []) = subst (IsChain stands) (sym all) kept.chain in
        let legal : is_legal (h ++ []) ≡ true = ap is_legal all ∙ kept.legal in
        let word : word_of h ≡ word_of (h ++ []) = ap word_of (sym all) in
        let P : List Cell → Type 0 = λ c. (0 < length c) × ((cell c 0).1 ≡ true) × Goes (IsRuled stands) shown (Moved no_mark) 0 view (λ n. n) (Looks stands (step 0 0 0 no_mark) view) c h in
        subst P (sym kept.words) (
          omega arith,
          refl,
          (
            keeps,
            [],
            Some reply,
            tt,
            record { words = ap (λ (w : ℕ). (w, true) ∷ []) word; legal = legal; chain = chain },
            inr (reply, refl, refl, (refl, refl, refl)),
            record { word = word; legal = legal; chain = chain; told = (reply, refl, refl) },
          ),
        )

    module _ (m : Mark X) (old new : ℕ) where
      abbrev changed : ℕ → ℕ
      changed n = either (n == old) new n

      abbrev Now : List Cell → List (Mark X) → Type 0
      Now cells h = Goes (IsRuled stands) shown (Moved m) 0 view changed (Adds stands (step 0 old new m) view) cells h

      -- the history as it is, with the mark where the word was the expected one
      goes : is_legal v ≡ true → is_closed v ≡ false → old ≡ word_of v → new ≡ old + word_weight m → Fits stands v m → (h : List (Mark X)) → is_legal h ≡ true → IsChain stands h → IsPrefix v h → (b : Bool) → (word_of h == old) ≡ b → Now ((word_of h, true) ∷ []) h
      goes lv ov is more fits h lh chain begins true same =
          let here : word_of h ≡ old = grind (arith, nat_tests) in
          let long : length h ≡ length v = same_length v h lv lh ov (here ∙ is) in
          let e : v ≡ h = prefix_whole v h begins (omega (arith, long)) in
          let oh : is_closed h ≡ false = ap is_closed (sym e) ∙ ov in
          let g = grows h lh oh chain m (subst (λ (z : List (Mark X)). Fits stands z m) e fits) in
          let reply : Reply X = record { marker = record {}; found = length h; added = true; all = h ++ m ∷ [] } in
          let n : either (word_of h == old) new (word_of h) ≡ word_of (h ++ m ∷ []) = rw same (more ∙ (ap (λ w. w + word_weight m) (sym here) ∙ sym (word_more h m oh))) in
          let moved : Moved m h (h ++ m ∷ []) reply = (refl, ap (λ (ms : List (Mark X)). h ++ ms) (sym g.2), refl) in (
            keeps,
            m ∷ [],
            Some reply,
            tt,
            record { words = ap (λ (w : ℕ). (w, true) ∷ []) n; legal = g.0; chain = g.1 },
            inr (reply, refl, refl, moved),
            record { before = h; reply = reply; seen = begins; legal = lh; word = refl; moved = moved; added = sym same; ran = refl },
          )
      goes lv ov is more fits h lh chain begins false same =
          let all : h ++ [] ≡ h = append-nil h in
          let reply : Reply X = record { marker = record {}; found = length h; added = false; all = h ++ [] } in
          let n : either (word_of h == old) new (word_of h) ≡ word_of (h ++ []) = rw same (ap word_of (sym all)) in (
            keeps,
            [],
            Some reply,
            tt,
            record { words = ap (λ (w : ℕ). (w, true) ∷ []) n; legal = ap is_legal all ∙ lh; chain = subst (IsChain stands) (sym all) chain },
            inr (reply, refl, refl, (refl, refl, refl)),
            record { before = h; reply = reply; seen = begins; legal = lh; word = refl; moved = (refl, refl, refl); added = sym same; ran = refl },
          )

      -- whatever the book is, the exchange adds the mark where the word is the expected one, and says whether it did
      pub adds_moves : is_legal v ≡ true → is_closed v ≡ false → old ≡ word_of v → new ≡ old + word_weight m → Fits stands v m
          → Moves (IsRuled stands) shown (Moved m) 0 view changed (Adds stands (step 0 old new m) view)
      adds_moves lv ov is more fits cells h kept begins away =
          let P : List Cell → Type 0 = λ c. (0 < length c) × ((cell c 0).1 ≡ true) × Now c h in
          subst P (sym kept.words) (omega arith, refl, goes lv ov is more fits h kept.legal kept.chain begins (word_of h == old) refl)

  -- who knows the whole list by its right adds the mark to it
  pub adds_whole : (s : Step (Mark X)) (v w : View (Mark X) (Reply X)) (found : ℕ) → Adds stands s v found w → (answer : Reply X) (about : List (Mark X)) → word_of v.0 ≡ s.old → w.1.1 ≡ Some answer → answer.found ≡ length about → about ≡ v.0 → added_by true s.ask ≡ s.ask ∷ []
      → (w.0 ≡ v.0 ++ s.ask ∷ []) × (answer.all ≡ w.0)
  adds_whole s v w found e answer about is ran long whole one =
      let same_reply : e.reply ≡ answer = cc (e.ran, ran) in
      let replied : e.reply.found ≡ length v.0 = ap (λ r. r.found) same_reply ∙ (long ∙ ap length whole) in
      let same : v.0 ≡ e.before = prefix_whole v.0 e.before e.seen (omega (arith, e.moved.0, replied)) in
      let here : found ≡ s.old = sym e.word ∙ (sym (ap word_of same) ∙ is) in
      let yes : (found == s.old) ≡ true = rw here (grind (arith, nat_tests)) in
      let added : e.reply.added ≡ true = e.added ∙ yes in (
        e.moved.1 ∙ (ap (λ b. e.before ++ added_by b s.ask) added ∙ (ap (λ (ms : List (Mark X)). e.before ++ ms) one ∙ ap (λ l. l ++ s.ask ∷ []) (sym same))),
        ap (λ r. r.all) (sym same_reply) ∙ e.moved.2,
      )
