-- How a spot's entries go on in a longer history.
use Rattle.std.proofs.Common.{◌≡◌, ℕ, zero, suc, ◌+◌, ◌<◌, ◌≤◌, Bool, true, false, List, [], ◌∷◌, ◌++◌, length, take, drop, refl, ap, sym, ◌∙◌, subst, arith, take_all, take-append-drop}
use Rattle.std.proofs.lemmas.List.{take-append-le, length-append}
use Rattle.std.specs.Prelude.{Some}
use mathlib.Core.List.{IsPrefix}
use denote.RawPtr.{Ptr}
use Rattle.ty_base.specs.declared.entry.Entry.{Entry}
use Rattle.ty_account.specs.Known.{Known, Standpoint, Stays, HasWalked, at_rest}
use Rattle.ty_account.specs.declared.history.Mark.{Mark}
use Rattle.ty_account.specs.declared.history.Mark.TheVariants.{Entered}
use Rattle.ty_account.specs.declared.node.Place.{Place}
use Rattle.ty_account.specs.steps.Histories.{Site, entries_in, nodes_in, is_closed, is_legal, site_at, next_in, next_of, StartsAt, Ends}
use Rattle.ty_account.proofs.Chains.{is_inside, is_there, still, last_at, some_is}
use Rattle.ty_account.proofs.Histories.{nodes_long, nodes_append, entered_entries, prefix_begins}
use Rattle.ty_account.proofs.Prefixes.{prefix_whole}

take_none : {A : Type 0} (es : List A) → take zero es ≡ []
take_none [] = refl
take_none (x ∷ es) = refl

take_one : {A : Type 0} (n : ℕ) (es : List A) → n < length es → (e : A) × (take (suc n) es ≡ take n es ++ e ∷ [])
take_one n [] less = absurd (omega (arith, less))
take_one zero (x ∷ es) less = (x, ap (λ l. x ∷ l) (take_none es))
take_one (suc n) (x ∷ es) less = let r = take_one n es (omega (arith, less)) in (r.0, ap (λ l. x ∷ l) r.1)

take_still : {A : Type 0} (n : ℕ) (xs ys : List A) → IsPrefix xs ys → n ≤ length xs → take n ys ≡ take n xs
take_still n xs ys p less = ap (take n) (sym p.1) ∙ take-append-le n xs p.0 less

-- a beginning of a list begins it
pub take_begins : {A : Type 0} (n : ℕ) (es : List A) → IsPrefix (take n es) es
take_begins n es = (drop n es, take-append-drop n es)

module _ {X : Type 0} (h k : List (Mark X)) (n : ℕ) (s : Site X) (legal : is_legal h ≡ true) (begins : IsPrefix h k) (here : site_at (nodes_in h) n ≡ Some s) where
  -- a node's place is at most the number of entries
  pub short : n ≤ length (entries_in h)
  short = let less = is_inside (nodes_in h) n s here in omega (arith, less, nodes_long h legal)

  -- where the longer history has no more entries, they are the spot's
  pub at_end : length (entries_in k) ≤ n → entries_in k ≡ take n (entries_in h)
  at_end less =
      let p = prefix_begins h k begins in
      let same : entries_in h ≡ entries_in k = prefix_whole (entries_in h) (entries_in k) p (omega (arith, less, short)) in
      sym same ∙ sym (take_all n (entries_in h) (omega (arith, less, ap length same)))

  -- else it has one that comes next
  pub comes_next : n < length (entries_in k) → (e : Entry) × (take (n + 1) (entries_in k) ≡ take n (entries_in h) ++ e ∷ [])
  comes_next less =
      let one = take_one n (entries_in k) less in
      let up : n + 1 ≡ suc n = omega arith in
      let still = take_still n (entries_in h) (entries_in k) (prefix_begins h k begins) short in
      (one.0, ap (λ m. take m (entries_in k)) up ∙ (one.1 ∙ ap (λ l. l ++ one.0 ∷ []) still))

pub rests : {X : Type 0} (b : Bool) (old new : Standpoint X) (front : Known) → Stays old new front b → HasWalked (at_rest b) old new front
rests true old new front s = s
rests false old new front s = s

-- the first node stays where it is
pub starts_still : {X : Type 0} (p : Ptr) (h k : List (Mark X)) → is_legal h ≡ true → IsPrefix h k → StartsAt p h → StartsAt p k
starts_still p h k legal begins starts s is =
    let one = is_there (nodes_in h) 0 (omega (arith, nodes_long h legal)) in
    let same : one.0 ≡ s = some_is (sym (still h k 0 one.0 begins one.1) ∙ is) in
    ap (λ t. t.0) (sym same) ∙ starts one.0 one.1

-- a history to which an entry was added ends with its node
pub ends_entered : {X : Type 0} (h : List (Mark X)) → is_legal h ≡ true → is_closed h ≡ false → (e : Entry) (p : Ptr) (x : Place X) → Ends (h ++ Entered e p x ∷ []) (next_in x.node)
ends_entered {X} h legal is_open e p x s is =
    let more = h ++ Entered e p x ∷ [] in
    let nodes_are : nodes_in more ≡ nodes_in h ++ (p, x) ∷ [] = nodes_append h (Entered e p x ∷ []) in
    let entries_are = (entered_entries h e p x is_open).0 in
    let at : length (entries_in more) ≡ length (nodes_in h) = omega (arith, ap length entries_are, length-append (entries_in h) (e ∷ []), nodes_long h legal) in
    let found : site_at (nodes_in h ++ (p, x) ∷ []) (length (nodes_in h)) ≡ Some s = subst (λ (k : ℕ). site_at (nodes_in h ++ (p, x) ∷ []) k ≡ Some s) at (ap (λ (ss : List (Site X)). site_at ss (length (entries_in more))) (sym nodes_are) ∙ is) in
    ap next_of (some_is (sym (last_at (nodes_in h) (p, x)) ∙ found))
