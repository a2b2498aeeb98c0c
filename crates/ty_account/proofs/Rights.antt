-- What the book keeps, how it begins, and how a step trades it. Assumes `Logic`.
use Rattle.std.proofs.Common.{◌≡◌, ℕ, zero, suc, Bool, true, false, List, [], ◌∷◌, ◌++◌, length, refl, sym, ap, ◌∙◌, subst, append-nil}
use Rattle.std.specs.Prelude.{None, Some}
use seplogic.Ra.Ura.{Ura}
use mathlib.Mathlib.Data.Part.{◌∈◌}
use base.Fraction.{full_share}
use base.FractionLaws.{not-OpDef-full_share}
use base.Share.{quarter, three_quarters}
use base.Logic.{SProp, ent, sep, wand, ex, ex_e, guard, guard_e, all, upd, emp, via, upd_i, id⊢, fst∗}
use base.Fml.{Fml, Share, ftrue, fsep, fex}
use base.Shift.{Keyless}
use types.Logic.{Logic, sem}
use types.Owned.{basic}
use types.Keyed.{entry, entry_glue, entry_keyless, entries_new, entries_take}
use types.Kit.{‵, raw, ◌⊛◌, some, given, later, ◌$◌, ◌∵◌, !, qed, by, drop, move, keep, split, join, fsplit, fjoin, fpick, fpack, learn, show, frame, each, assume, suffices, settle, done, use0, use1, use2, use3, updating, await, now, pick, rewrite}
use denote.Steps.{nothing}
use denote.RattleType.{RattleType}
use denote.RawPtr.{Ptr}
use denote.Param.Laws.{Laws}
use denote.Param.Send.{IsSend, IsSync, sendable}
use denote.Struct.Lending.{lent_at_shr_laws}
use Rattle.logbook.specs.Kept.{halved, part, roster, offer, offer_owns}
use Rattle.logbook.proofs.Roster.{resets, joined}
use Rattle.ty_account.specs.contracts.node.Place as Place
use Rattle.ty_account.proofs.node.Place.TheLaws.{the_row_laws as place_laws}
use Rattle.ty_account.specs.declared.history.Mark.{Mark}
use Rattle.ty_account.specs.declared.history.Mark.TheVariants.{Opened, Entered, Closed}
use Rattle.ty_account.specs.steps.Replies.{Reply}
use Rattle.ty_account.specs.steps.Blocks.{all_of, lent, deed, all_lent}
use Rattle.ty_account.specs.steps.Histories.{Site, nodes_in, no_mark, site_at}
use Rattle.ty_account.specs.steps.Rules.{added_by, Moved}
use Rattle.ty_account.specs.steps.Rights.{number_of, life_of, right_owns, last_owns, rights, deeds, owed, kept, reading, taking, entering}
use Rattle.ty_account.proofs.Histories.{nodes_append}
use Rattle.ty_account.proofs.Chains.{some_is, none_is_not}
use Rattle.ty_account.proofs.Crossing.{all_lent_keyless, all_deeds_keyless}

place_sync : (R : RattleType) → IsSync R → IsSync (Place.the_row R)
place_sync R y = search sendable depth 30

place_send : (R : RattleType) → IsSend R → IsSend (Place.the_row R)
place_send R s = search sendable depth 30

-- what is kept names no token of one thread
pub kept_calm : (R : RattleType) → IsSend R → IsSync R → (names : List ℕ) (h : List (Mark R.Denot)) → Keyless (kept R names h)
kept_calm R s y names h = (
  entry_keyless halved (number_of names) 0 _,
  (all_lent_keyless (Place.the_row R) (place_sync R y) (life_of names) (nodes_in h), either),
)
  where
    either : (spent : Bool) → Keyless (owed R names h spent)
    either true = entry_keyless halved (number_of names) 1 _
    either false = all_deeds_keyless (Place.the_row R) (place_send R s) (life_of names) (nodes_in h)

nothing_added : {X : Type 0} (b : Bool) → added_by {X = X} b no_mark ≡ []
nothing_added true = refl
nothing_added false = refl

module _ {M : Type 1} {𝓤 : Ura M} (𝓛 : Logic 𝓤) where
  open 𝓛 use {H}

  abbrev Pr : Type 2
  Pr = SProp 𝓤

  abbrev ◌⊢◌ : Pr → Pr → Type 1
  P ⊢ Q = ent 𝓤 P Q

  abbrev ⟦◌⟧ : Fml → Pr
  ⟦ P ⟧ = sem 𝓛 P

  infix 26 ◌⊢◌
  -- the right to enter a history of one mark, beside what the book keeps for it, and the last right
  abbrev pub Begun : ℕ → Pr
  Begun δ = sep 𝓤 ⟦ part δ 0 quarter 1 ⟧ (sep 𝓤 ⟦ part δ 0 three_quarters 1 ⟧ ⟦ part δ 1 full_share 0 ⟧)

  pub begun : emp 𝓤 ⊢ H.⇛ (ex 𝓤 Begun)
  begun = qed 𝓛 [] ∵ updating ! $
      use0 𝓛 (later (some (λ (δ : ℕ). ‵ (roster δ 0 [])))) (via 𝓤 _ (entries_new halved 𝓛 0 (λ _. (full_share, 0))) (basic 𝓛 _)) $ await ! tt $ pick ! (λ δ.
      use1 𝓛 (‵ (part δ 0 full_share 0) ⊛ ‵ (roster δ 1 [])) (entries_take halved 𝓛 δ 0 (λ _. (full_share, 0))) $ split ! $
      use1 𝓛 (later (‵ (part δ 0 quarter 1) ⊛ ‵ (part δ 0 three_quarters 1))) (via 𝓤 _ (resets 𝓛 δ 0 0 1) (basic 𝓛 _)) $ await ! tt $ split ! $
      move ! (2 ∷ []) $ use1 𝓛 (‵ (part δ 1 full_share 0) ⊛ ‵ (roster δ 2 [])) (entries_take halved 𝓛 δ 1 (λ _. (full_share, 0))) $ split ! $
      keep ! (2 ∷ 3 ∷ 0 ∷ []) $ move ! (1 ∷ 2 ∷ []) $ join ! $ move ! (1 ∷ 0 ∷ []) $ join ! $ use1 𝓛 (raw (Begun δ)) (id⊢ 𝓤 _) $ now ! $ show ! Begun δ $ done !)

  -- nobody has the last right twice
  once : (δ k v w : ℕ) (Z : Pr) → sep 𝓤 ⟦ part δ k full_share v ⟧ ⟦ part δ k full_share w ⟧ ⊢ Z
  once δ k v w Z = let F : Share × ℕ → Pr = λ x. guard 𝓤 (x ∈ halved.op (full_share, v) (full_share, w)) ⟦ entry halved δ k x ⟧ in
      via 𝓤 (ex 𝓤 F) (entry_glue halved 𝓛 δ k (full_share, v) (full_share, w)) (ex_e 𝓤 F (λ x. guard_e 𝓤 (x ∈ halved.op (full_share, v) (full_share, w)) ⟦ entry halved δ k x ⟧ (λ m. absurd (not-OpDef-full_share full_share m.0.0))))

  module _ {X : Type 0} (F : Ptr → X → Fml) where
    all_append : (ls ms : List (Ptr × X)) → sep 𝓤 ⟦ all_of F ls ⟧ ⟦ all_of F ms ⟧ ⊢ ⟦ all_of F (ls ++ ms) ⟧
    all_append [] ms = qed 𝓛 (‵ ftrue ∷ ‵ (all_of F ms) ∷ []) ∵ drop ! $ done !
    all_append (l ∷ ls) ms = qed 𝓛 (‵ (all_of F (l ∷ ls)) ∷ ‵ (all_of F ms) ∷ []) ∵ fsplit ! $ move ! (1 ∷ 2 ∷ []) $ use2 𝓛 (‵ (all_of F (ls ++ ms))) (all_append ls ms) $ move ! (1 ∷ 0 ∷ []) $ fjoin ! $ done !

    all_twice : ((p : Ptr) (x : X) → ⟦ F p x ⟧ ⊢ sep 𝓤 ⟦ F p x ⟧ ⟦ F p x ⟧) → (ls : List (Ptr × X)) → ⟦ all_of F ls ⟧ ⊢ sep 𝓤 ⟦ all_of F ls ⟧ ⟦ all_of F ls ⟧
    all_twice two [] = qed 𝓛 (‵ ftrue ∷ []) ∵ nothing ! $ done !
    all_twice two (l ∷ ls) = qed 𝓛 (‵ (all_of F (l ∷ ls)) ∷ []) ∵ fsplit ! $ use1 𝓛 (‵ (F l.0 l.1) ⊛ ‵ (F l.0 l.1)) (two l.0 l.1) $ split ! $ move ! (2 ∷ []) $ use1 𝓛 (‵ (all_of F ls) ⊛ ‵ (all_of F ls)) (all_twice two ls) $ split ! $
        move ! (2 ∷ 0 ∷ []) $ fjoin ! $ move ! (2 ∷ 1 ∷ []) $ fjoin ! $ done !

  module _ (R : RattleType) (L : Laws R) (names : List ℕ) where
    abbrev P : RattleType
    P = Place.the_row R

    abbrev life : ℕ
    life = life_of names

    -- one of the rights to read
    pub picked : (ss : List (Site R.Denot)) (n : ℕ) (s : Site R.Denot) → site_at ss n ≡ Some s → ⟦ all_lent P life ss ⟧ ⊢ ⟦ lent P life s.0 s.1 ⟧
    picked [] n s is = absurd (none_is_not is)
    picked (t ∷ ss) zero s is = qed 𝓛 (‵ (all_lent P life (t ∷ ss)) ∷ []) ∵ fsplit ! $ keep ! (0 ∷ []) $ by ! (subst (λ (r : Site R.Denot). ⟦ lent P life t.0 t.1 ⟧ ⊢ ⟦ lent P life r.0 r.1 ⟧) (some_is is) (id⊢ 𝓤 _))
    picked (t ∷ ss) (suc n) s is = qed 𝓛 (‵ (all_lent P life (t ∷ ss)) ∷ []) ∵ fsplit ! $ keep ! (1 ∷ []) $ by ! (picked ss n s is)

    read_twice : (h : List (Mark R.Denot)) → ⟦ rights R names h ⟧ ⊢ sep 𝓤 ⟦ rights R names h ⟧ ⟦ rights R names h ⟧
    read_twice h = all_twice (lent P life) (λ p x. (lent_at_shr_laws P (place_laws R L).shr_laws p x).contraction M 𝓤 𝓛 (life ∷ [])) (nodes_in h)

    -- what is had of a mark's node is had where the mark is added
    added_all : (F : Ptr → P.Denot → Fml) (b : Bool) (m : Mark R.Denot) → ⟦ all_of F (nodes_in (m ∷ [])) ⟧ ⊢ ⟦ all_of F (nodes_in (added_by b m)) ⟧
    added_all F true (Opened p x) = qed 𝓛 (‵ (all_of F (nodes_in (Opened p x ∷ []))) ∷ []) ∵ drop ! $ nothing ! $ done !
    added_all F true (Entered e p x) = id⊢ 𝓤 _
    added_all F true Closed = id⊢ 𝓤 _
    added_all F false m = qed 𝓛 (‵ (all_of F (nodes_in (m ∷ []))) ∷ []) ∵ drop ! $ nothing ! $ done !

    all_added : (F : Ptr → P.Denot → Fml) (h : List (Mark R.Denot)) (b : Bool) (m : Mark R.Denot) → sep 𝓤 ⟦ all_of F (nodes_in h) ⟧ ⟦ all_of F (nodes_in (m ∷ [])) ⟧ ⊢ ⟦ all_of F (nodes_in (h ++ added_by b m)) ⟧
    all_added F h b m = qed 𝓛 (‵ (all_of F (nodes_in h)) ∷ ‵ (all_of F (nodes_in (m ∷ []))) ∷ []) ∵ move ! (1 ∷ []) $ use1 𝓛 (‵ (all_of F (nodes_in (added_by b m)))) (added_all F b m) $ move ! (1 ∷ 0 ∷ []) $
        use2 𝓛 (‵ (all_of F (nodes_in h ++ nodes_in (added_by b m)))) (all_append F (nodes_in h) (nodes_in (added_by b m))) $ rewrite ! 0 (λ (ss : List (Site R.Denot)). ‵ (all_of F ss)) (sym (nodes_append h (added_by b m))) refl $ done !

    owed_added : (spent : Bool) (h : List (Mark R.Denot)) (b : Bool) (m : Mark R.Denot) → sep 𝓤 ⟦ owed R names h spent ⟧ ⟦ deeds R names (m ∷ []) ⟧ ⊢ ⟦ owed R names (h ++ added_by b m) spent ⟧
    owed_added true h b m = fst∗ 𝓤 ⟦ last_owns names ⟧ ⟦ deeds R names (m ∷ []) ⟧
    owed_added false h b m = all_added (deed P life) h b m

    abbrev Beside : List (Mark R.Denot) → Fml
    Beside h = fsep (rights R names h) (fex Bool (owed R names h))

    -- what is kept beside the number grows by what is had of a mark's node
    taken_in : (h : List (Mark R.Denot)) (b : Bool) (m : Mark R.Denot) → sep 𝓤 ⟦ Beside h ⟧ (sep 𝓤 ⟦ rights R names (m ∷ []) ⟧ ⟦ deeds R names (m ∷ []) ⟧) ⊢ ⟦ Beside (h ++ added_by b m) ⟧
    taken_in h b m = let g = h ++ added_by b m in qed 𝓛 (‵ (Beside h) ∷ ‵ (rights R names (m ∷ [])) ∷ ‵ (deeds R names (m ∷ [])) ∷ []) ∵ fsplit ! $ move ! (0 ∷ 2 ∷ []) $ use2 𝓛 (‵ (rights R names g)) (all_added (lent P life) h b m) $
        move ! (1 ∷ []) $ fpick ! (λ spent. move ! (0 ∷ 2 ∷ []) $ use2 𝓛 (‵ (owed R names g spent)) (owed_added spent h b m) $ fpack ! Bool (owed R names g) spent $ move ! (1 ∷ 0 ∷ []) $ fjoin ! $ done !)

    module _ (about : List (Mark R.Denot)) (mark : Mark R.Denot) where
      abbrev Marks3 : Type 0
      Marks3 = List (Mark R.Denot) × List (Mark R.Denot) × Reply R.Denot

      -- what a step from one history to another makes of what is kept
      abbrev Trade : Marks3 → Pr
      Trade z = wand 𝓤 ⟦ kept R names z.0 ⟧ (upd 𝓤 (sep 𝓤 ⟦ kept R names z.1 ⟧ ⟦ entering names about z.2 ⟧))

      -- with the right a step finds the history as long as the right says, and moves the number, with what is had of the mark's node
      pub adding : sep 𝓤 ⟦ right_owns names (Some (length about)) ⟧ (sep 𝓤 ⟦ rights R names (mark ∷ []) ⟧ ⟦ deeds R names (mark ∷ []) ⟧) ⊢ ⟦ offer (kept R names) (Moved mark) (entering names about) ⟧
      adding = let δ = number_of names in let n = length about in
          qed 𝓛 (‵ (part δ 0 three_quarters n) ∷ ‵ (rights R names (mark ∷ [])) ∷ ‵ (deeds R names (mark ∷ [])) ∷ []) ∵
          each ! (λ z. all 𝓤 (λ (_ : Moved mark z.0 z.1 z.2). Trade z)) (λ z. each ! (λ _. Trade z) (λ moved.
          let found = length z.0 in let after = length z.1 in let Traded = sep 𝓤 ⟦ kept R names z.1 ⟧ ⟦ entering names about z.2 ⟧ in
          assume ! (‵ (kept R names z.0)) $ fsplit ! $
          -- [the book's part; what is beside it; the pen's part; what is had of the node, twice]
          move ! (1 ∷ 3 ∷ 4 ∷ []) $ use3 𝓛 (‵ (Beside (z.0 ++ added_by z.2.added mark))) (taken_in z.0 z.2.added mark) $ rewrite ! 0 (λ (h : List (Mark R.Denot)). ‵ (Beside h)) (sym moved.1) refl $
          move ! (1 ∷ 2 ∷ []) $ use2 𝓛 (given (found ≡ n) (‵ (part δ 0 full_share found))) (joined 𝓛 δ 0 found n) $ learn ! (λ same.
          use1 𝓛 (raw (upd 𝓤 (sep 𝓤 ⟦ part δ 0 quarter after ⟧ ⟦ part δ 0 three_quarters after ⟧))) (resets 𝓛 δ 0 found after) $
          settle 𝓛 Traded (‵ (part δ 0 quarter after) ⊛ ‵ (part δ 0 three_quarters after)) $ split ! $ suffices ! _ (upd_i 𝓤 Traded) $
          move ! (0 ∷ 2 ∷ []) $ fjoin ! $ frame ! $ rewrite ! 0 (λ (k : ℕ). ‵ (part δ 0 three_quarters k)) (ap length (sym moved.2)) refl $
          nothing ! $ fpack ! (z.2.found ≡ n) (λ _. ftrue) (moved.0 ∙ same) $ fjoin ! $ done !)))

    -- a look reads what is there
    pub looks : emp 𝓤 ⊢ ⟦ offer_owns (kept R names) (Moved no_mark) (reading R names) None ⟧
    looks = qed 𝓛 [] ∵
        each ! (λ (z : List (Mark R.Denot) × List (Mark R.Denot) × Reply R.Denot). all 𝓤 (λ (_ : Moved no_mark z.0 z.1 z.2). wand 𝓤 ⟦ kept R names z.0 ⟧ (upd 𝓤 (sep 𝓤 ⟦ kept R names z.1 ⟧ ⟦ reading R names z.2 ⟧)))) (λ z.
        each ! (λ _. wand 𝓤 ⟦ kept R names z.0 ⟧ (upd 𝓤 (sep 𝓤 ⟦ kept R names z.1 ⟧ ⟦ reading R names z.2 ⟧))) (λ moved.
        let same : z.1 ≡ z.0 = moved.1 ∙ (ap (λ (ms : List (Mark R.Denot)). z.0 ++ ms) (nothing_added z.2.added) ∙ append-nil z.0) in
        assume ! (‵ (kept R names z.0)) $ suffices ! _ (upd_i 𝓤 (sep 𝓤 ⟦ kept R names z.1 ⟧ ⟦ reading R names z.2 ⟧)) $ rewrite ! 0 (λ (h : List (Mark R.Denot)). ‵ (kept R names h)) (sym same) refl $
        fsplit ! $ move ! (1 ∷ []) $ fsplit ! $ use1 𝓛 (‵ (rights R names z.1) ⊛ ‵ (rights R names z.1)) (read_twice z.1) $ split ! $
        -- [the rights, twice; the deeds; the number]
        rewrite ! 1 (λ (h : List (Mark R.Denot)). ‵ (rights R names h)) (sym moved.2) refl $ move ! (0 ∷ 2 ∷ []) $ fjoin ! $ move ! (2 ∷ 0 ∷ []) $ fjoin ! $ frame ! $ done !))

    swaps : (spent : Bool) (h : List (Mark R.Denot)) → sep 𝓤 ⟦ owed R names h spent ⟧ ⟦ last_owns names ⟧ ⊢ sep 𝓤 ⟦ fex Bool (owed R names h) ⟧ ⟦ deeds R names h ⟧
    swaps true h = once (number_of names) 1 0 0 _
    swaps false h = qed 𝓛 (‵ (deeds R names h) ∷ ‵ (last_owns names) ∷ []) ∵ move ! (1 ∷ []) $ fpack ! Bool (owed R names h) true $ frame ! $ done !

    -- the last right is left for the deeds
    pub takes : ⟦ last_owns names ⟧ ⊢ ⟦ offer_owns (kept R names) (Moved no_mark) (taking R names) None ⟧
    takes = qed 𝓛 (‵ (last_owns names) ∷ []) ∵
        each ! (λ (z : List (Mark R.Denot) × List (Mark R.Denot) × Reply R.Denot). all 𝓤 (λ (_ : Moved no_mark z.0 z.1 z.2). wand 𝓤 ⟦ kept R names z.0 ⟧ (upd 𝓤 (sep 𝓤 ⟦ kept R names z.1 ⟧ ⟦ taking R names z.2 ⟧)))) (λ z.
        each ! (λ _. wand 𝓤 ⟦ kept R names z.0 ⟧ (upd 𝓤 (sep 𝓤 ⟦ kept R names z.1 ⟧ ⟦ taking R names z.2 ⟧))) (λ moved.
        let same : z.1 ≡ z.0 = moved.1 ∙ (ap (λ (ms : List (Mark R.Denot)). z.0 ++ ms) (nothing_added z.2.added) ∙ append-nil z.0) in
        assume ! (‵ (kept R names z.0)) $ suffices ! _ (upd_i 𝓤 (sep 𝓤 ⟦ kept R names z.1 ⟧ ⟦ taking R names z.2 ⟧)) $ rewrite ! 0 (λ (h : List (Mark R.Denot)). ‵ (kept R names h)) (sym same) refl $
        fsplit ! $ move ! (1 ∷ []) $ fsplit ! $ move ! (1 ∷ []) $ fpick ! (λ spent. move ! (0 ∷ 3 ∷ []) $ use2 𝓛 (‵ (fex Bool (owed R names z.1)) ⊛ ‵ (deeds R names z.1)) (swaps spent z.1) $ split ! $
        -- [what is owed; the deeds; the rights; the number]
        rewrite ! 1 (λ (h : List (Mark R.Denot)). ‵ (deeds R names h)) (sym moved.2) refl $ move ! (2 ∷ 0 ∷ []) $ fjoin ! $ move ! (2 ∷ 0 ∷ []) $ fjoin ! $ frame ! $ done !)))
