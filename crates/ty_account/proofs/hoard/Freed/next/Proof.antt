-- `next` makes a block of the first address and the right to what lies there.
use Rattle.ty_account.proofs.Walking.{List, [], ◌∷◌, refl, Val, vptr, a_type, inst_fn, SProp, emp, id⊢, tables, ‵, raw, ◌⊛◌, ◌$◌, ◌∵◌, !, qed, by, move, keep, split, fsplit, fjoin, heard, rewrite, use0, use1, use2, no_more, and_then, returns, enter, alloc_all, pass_all, free_all, look_at, get, sets, agg, WpFn, Ptr, block_ptr, null_ptr, ptr_val, in_a_block, RawPtr, RattleType, owns, types_at, yes, no, plain, nothing, alive, fact, fact_i, ◌⊑◌, Stays, stay_dropped, Goes-dropped, walk_of, proved, token, Token, token_told, token_made, ends, param, layouts, Tuple}
use mir.Raw.{raw as bare}
use base.Logic.{never, fst∗}
use types.Logic.{sem}
use types.Kit.{regoal, prop}
use denote.Memory.{lone}
use denote.RawPtr.{rawptr_vals, rawptr_Tells}
use Rattle.std_alloc.proofs.BoxSteps.Form.{Bx, word}
use Rattle.std.proofs.Handle.{heap_val, heap_Tells}
use Rattle.std.specs.contracts.alloc.Global as Heap
use Rattle.std.specs.contracts.impls.GlobalAllocator.TheImpl.{ghosts}
use Rattle.ty_account.proofs.Pairs.{both, paired}
use Rattle.ty_account.proofs.Blocks.{heap_form, block_in, first_is}
use Rattle.ty_account.specs.steps.Blocks.{heap, owned_block, all_blocks, IsFirst}
use Rattle.ty_account.specs.contracts.block.Block as block
use Rattle.ty_account.specs.contracts.hoard.Freed as Freed
use Rattle.ty_account.specs.contracts.hoard.Freed.next.{ended, clauses}
use Rattle.ty_account.specs.contracts.hoard.Freed.next.Key.{name as #self}
use Rattle.ty_account.proofs.hoard.Freed.next.Statement.{statement}
use Rattle.ty_account.proofs.hoard.Freed.next.Code as code

pub next_spec : {M : Type 1} → statement M
next_spec 𝓤 𝓛 𝓜 𝓡 wired T L =
    let H = 𝓛.H in let 𝓣 = tables 𝓤 H 𝓜 𝓡 𝓡.env in let R : RattleType = param 0 T in let E : Bx = heap_form T L in let F : RattleType = Freed.the_row R in let C : RattleType = block.the_row R Heap.the_row ghosts in let En = ended T in
    let inst = layouts (a_type ∷ []) (T, tt) in let fn = inst_fn inst code.function in let c = clauses T 𝓛 𝓜.mem 𝓡.returns in
    let hs : Stays En.signature.params En.kept = (stay_dropped (plain (λ _. F)) no, (stay_dropped (plain (λ _. Heap.the_row)) yes, (stay_dropped (plain (λ _. RawPtr)) yes, tt))) in
    proved 𝓛 En hs c 𝓜 𝓡 (Goes-dropped 𝓛 1 (plain (λ _. F)) no (λ κs x f. refl), (Goes-dropped 𝓛 1 (plain (λ _. Heap.the_row)) yes (λ κs x f. refl), (Goes-dropped 𝓛 1 (plain (λ _. RawPtr)) yes (λ κs x f. refl), tt))) (#self inst) fn (code.unfolded 𝓤 H 𝓜 𝓡 wired (T, tt))
    (λ κs. ((λ x. token ∷ []), ((λ x. heap_val ∷ []), (rawptr_vals, tt)))) (λ κs. ((λ x vs is. token_told R vs is.0), (heap_Tells, (rawptr_Tells, tt)))) (λ κs qs bounds a gh are.
    let me = a.0 in let handle = a.1.0 in let at : Ptr = a.1.1.0 in let Is : Type 0 = IsFirst at me.lots in
    let y : Ptr → (walk_of 𝓛 En hs c).Ghost = λ z. ((κs, qs, bounds, a, (token ∷ [], (heap_val ∷ [], (rawptr_vals z, tt)))), gh) in let Post : Ptr → Val → SProp 𝓤 = λ z. (walk_of 𝓛 En hs c).post (y z) in
    qed 𝓛 ((raw (alive 𝓛 En.signature κs qs) ⊛ ‵ (owns (types_at En.signature.params κs) a (y at).0.4)) ∷ raw (fact 𝓤 (κs.0 ⊑ T.lives)) ∷ raw (fact 𝓤 Is) ∷ []) ∵ keep ! (2 ∷ 0 ∷ []) $ heard ! Is (λ is. split ! $
    let one = first_is at me.lots is in let x : R.Denot = one.0 in let rest : List (Ptr × R.Denot) = one.1 in
    move ! (1 ∷ []) $ fsplit ! $ fsplit ! $ move ! (2 ∷ []) $ fsplit ! $ keep ! (3 ∷ 0 ∷ 4 ∷ []) $ rewrite ! 0 (λ (ls : List (Ptr × R.Denot)). ‵ (all_blocks R ls)) one.2 refl $ fsplit ! $
    in_a_block ! at (λ p. owned_block R p x) (fst∗ 𝓤 (never 𝓤) (sem 𝓛 (ghosts.dealloc_token heap (bare (lone R.mir)) null_ptr))) (λ b o e. fsplit ! $
    regoal ! (λ z. prop (WpFn 𝓤 H 𝓣.C 𝓣.Λ fn (token ∷ heap_val ∷ ptr_val z ∷ []) (Post z))) e refl $
    -- [the value; the right to free it; the other blocks; the handle; what is alive]
    enter ! 𝓣.C 𝓣.Λ fn (token ∷ heap_val ∷ vptr b o ∷ []) (Post (block_ptr b o)) $ alloc_all ! (λ l. pass_all ! refl ((tt, (tt, tt)), ((tt, ((tt, tt), tt)), ((tt, tt), tt))) $
    sets ! (agg ! (and_then ! (get ! refl) (and_then ! (get ! refl) (no_more !)))) refl (tt, (tt, (((tt, tt), tt), tt))) $ sets ! (agg ! (no_more !)) refl (tt, tt) $ sets ! (agg ! (and_then ! (get ! refl) (no_more !))) refl (tt, (tt, tt)) $
    sets ! (agg ! (and_then ! (get ! refl) (and_then ! (get ! refl) (no_more !)))) refl (tt, ((tt, (((tt, tt), tt), tt)), ((tt, tt), tt))) $
    let w : Val = word E heap_val b o in let made : C.Denot = record { at = at; alloc = handle; value = x } in let others : F.Denot = record { marker = record {}; lots = rest } in
    move ! (0 ∷ 1 ∷ 3 ∷ []) $ block_in E ! heap_val made b o x e refl $ use1 𝓛 (‵ (C.own_val made (w ∷ []))) (id⊢ 𝓤 _) $
    move ! (1 ∷ []) $ use0 𝓛 (‵ ((Token R).own_val (record {}, tt) (token ∷ []))) (token_made R 𝓛) $ fjoin ! $ move ! (1 ∷ 0 ∷ []) $ use2 𝓛 (‵ ((Tuple (C ∷ F ∷ [])).own_val (made, others) (both w token ∷ []))) (paired 𝓛 C F made others w token) $
    nothing ! $ nothing ! $ fjoin ! $ nothing ! $ fjoin ! $ nothing ! $ fjoin ! $
    returns ! (look_at ! 0 refl) $ free_all ! refl $ keep ! (2 ∷ 0 ∷ 1 ∷ []) $ by ! (ends 𝓛 En hs c (y (block_ptr b o)) (both w token) (made, others) (tt, (tt, (tt, tt))) (tt, (tt, (tt, tt))) (fact_i 𝓤 _ (emp 𝓤) one.2))))))
