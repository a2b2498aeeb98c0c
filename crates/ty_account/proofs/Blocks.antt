-- A block has a box's two fields and owns what a box at its address owns, so the kit's steps on a box serve for it. Assumes `Logic`.
use Rattle.ty_account.proofs.Walking.{◌≡◌, ℕ, List, [], ◌∷◌, ◌++◌, ◌∙◌, ap, full_share, Val, vstruct, of_list, id⊢, fdead, ‵, ◌⊛◌, later, ◌$◌, ◌∵◌, !, qed, move, drop, split, fsplit, fjoin, fpick, feq_l, use1, use2, updating, await, now, done, RattleType, RawPtr, Tuple, Ptr, block_ptr, ptr_val, ent, sep, sem, Lft, lent_back}
use seplogic.Ra.Ura.{Ura}
use mir.Syntax.{Dict, impl, tnil, dnil}
use mir.Raw.{raw as bare}
use types.Logic.{Logic}
use types.Kit.{Item, Goal, Seq, Step, step}
use denote.Memory.{part_at}
use denote.Param.Laws.{Laws}
use Rattle.core.specs.declared.alloc.Allocator.{Ghosts}
use Rattle.core.proofs.alloc.Calls.{Fits, token, handle_tells}
use Rattle.std_alloc.proofs.BoxSteps.Form.{Bx, X, D, R, P, B, τ, word, handle}
use Rattle.std_alloc.proofs.BoxSteps.Steps.{box_out, box_in}
use Rattle.std.specs.contracts.alloc.Global as Heap
use Rattle.std.specs.contracts.impls.GlobalAllocator.TheImpl.{ghosts}
use Rattle.std_heap.proofs.Global.TheLaws.{the_row_laws as heap_laws}
use Rattle.ty_account.proofs.Pairs.{both}
use Rattle.ty_account.specs.steps.Blocks.{all_deeds, all_blocks, IsFirst}
use Rattle.ty_account.specs.contracts.block.Block as block

-- the types of a block: its value's, and its allocator's
abbrev pub form : (T : RattleType) → Laws T → (A : RattleType) → Laws A → Ghosts A.Denot → Dict → Dict → Bx
form T L A LA g d dd = record { row = T; laws = L; al = record { row = A; laws = LA; g = g; d = d; drops = dd } }

-- those of a block of the heap
abbrev pub heap_form : (T : RattleType) → Laws T → Bx
heap_form T L = form T L Heap.the_row heap_laws ghosts (impl [] tnil dnil) (impl [] tnil dnil)

module _ (E : Bx) where
  abbrev pub Block : RattleType
  Block = block.the_row (R E) (P E) E.al.g

  abbrev pub boxed : Block.Denot → D E
  boxed v = record { ptr = v.at; alloc = v.alloc; value = v.value }

  module _ {M : Type 1} {𝓤 : Ura M} {𝓛 : Logic 𝓤} {K : Type 0} {Γ : List (Item 𝓤)} {G : Goal 𝓤 𝓛.H} where
    -- a block by value is its value in memory, the right to free it, and the handle
    pub block_out : K → (v : Block.Denot) (vs : List Val)
        → ((b o : ℕ) (h : Val) → v.at ≡ block_ptr b o → vs ≡ word E h b o ∷ [] → Fits E.al h
        → Seq K 𝓛 (‵ (part_at (R E) full_share v.value b o) ∷ ‵ (token E.al v.alloc (bare (τ E)) (block_ptr b o)) ∷ ‵ (handle E v.alloc h) ∷ Γ) G)
        → Seq K 𝓛 (‵ (Block.own_val v vs) ∷ Γ) G
    block_out t v vs k = use1 𝓛 (‵ ((B E).own_val (boxed v) vs)) (id⊢ 𝓤 _) $ box_out E t (boxed v) vs k

    pub block_in : K → (h : Val) (v : Block.Denot) (b o : ℕ) (x : X E) → v.at ≡ block_ptr b o → v.value ≡ x
        → Step K 𝓛 (‵ (Block.own_val v (word E h b o ∷ [])) ∷ Γ) G (‵ (part_at (R E) full_share x b o) ∷ ‵ (token E.al v.alloc (bare (τ E)) (block_ptr b o)) ∷ ‵ (handle E v.alloc h) ∷ Γ) G
    block_in t h v b o x e f = step (λ s. box_in E t {hv = h} (boxed v) b o x e f $ use1 𝓛 (‵ (Block.own_val v (word E h b o ∷ []))) (id⊢ 𝓤 _) $ s)

    -- a pointer and a handle, as a pair
    pub address_out : K → (r : Ptr × E.al.row.Denot) (us : List Val) → ((h : Val) → us ≡ both (ptr_val r.0) h ∷ [] → Fits E.al h → Seq K 𝓛 (‵ (handle E r.1 h) ∷ Γ) G)
        → Seq K 𝓛 (‵ ((Tuple (RawPtr ∷ P E ∷ [])).own_val r us) ∷ Γ) G
    address_out t r us k = fpick t (λ vss. fsplit t $ feq_l t (λ whole. fsplit t $ feq_l t (λ first. fsplit t $ handle_tells E.al t r.1 vss.1.0 (λ h second fits. move t (1 ∷ []) $ drop t $
        k h (whole ∙ (λ j. vstruct (of_list (first j ++ (second j ++ []))) ∷ [])) fits))))

-- the first of some blocks, and the others
pub first_is : {Y : Type 0} (p : Ptr) (ls : List (Ptr × Y)) → IsFirst p ls → (x : Y) × (rest : List (Ptr × Y)) × (ls ≡ (p, x) ∷ rest)
first_is p [] is = absurd is
first_is p (l ∷ ls) is = (l.1, ls, ap (λ (q : Ptr). (q, l.1) ∷ ls) is)

-- once the life is over all blocks that were lent for it are owned
pub all_back : {M : Type 1} {𝓤 : Ura M} (𝓛 : Logic 𝓤) (T : RattleType) (life : ℕ) (ls : List (Ptr × T.Denot))
    → ent 𝓤 (sep 𝓤 (sem 𝓛 (fdead (life ∷ []))) (sem 𝓛 (all_deeds T life ls))) (𝓛.H.⇛ (sem 𝓛 (all_blocks T ls)))
all_back {𝓤 = 𝓤} 𝓛 T life [] = qed 𝓛 (‵ (fdead (life ∷ [])) ∷ ‵ (all_deeds T life []) ∷ []) ∵ drop ! $ updating ! $ now ! $ done !
all_back {𝓤 = 𝓤} 𝓛 T life (l ∷ ls) = let α : Lft = life ∷ [] in qed 𝓛 (‵ (fdead α) ∷ ‵ (all_deeds T life (l ∷ ls)) ∷ []) ∵ updating ! $
    use1 𝓛 (‵ (fdead α) ⊛ ‵ (fdead α)) (𝓛.lfts.dead_dup α) $ split ! $ move ! (2 ∷ []) $ fsplit ! $ move ! (2 ∷ 0 ∷ []) $ lent_back ! tt $ move ! (2 ∷ 1 ∷ []) $
    use2 𝓛 (later (‵ (all_blocks T ls))) (all_back 𝓛 T life ls) $ await ! tt $ move ! (1 ∷ 0 ∷ []) $ fjoin ! $ now ! $ done !
