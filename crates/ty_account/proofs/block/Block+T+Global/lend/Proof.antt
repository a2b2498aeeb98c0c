-- `lend` borrows the block for the hoard's life, and shares the borrow.
use Rattle.ty_account.proofs.Walking.{◌≡◌, List, [], ◌∷◌, ◌++◌, refl, sym, ap, subst, Lft, Share, Val, vptr, a_type, dcons, dnil, inst_fn, full_share, SProp, ent, wand, apply∗, emp, id⊢, flft, ftrue, Incl-trans, meet_⊑_left, meet_⊑_right, ◌⊑◌, Lends-one, Lends-first, Lends-lies, lent_at, bor_new, tables, ‵, raw, ◌⊛◌, some, later, ◌$◌, ◌∵◌, !, qed, by, move, keep, drop, split, split3, join, fsplit, fjoin, pick, heard, suffices, await, use0, use1, use2, no_more, and_then, returns, enter, alloc_all, pass_all, free_all, look_at, get, sets, agg, WpFn, Ptr, block_ptr, RattleType, owns, types_at, yes, no, plain, RefOf, nothing, unhide, fact, fact_i, Stays, stay_dropped, Goes-dropped, walk_of, proved_at, param, param_laws, bounded, token, Token, token_made, Tuple}
use mir.Raw.{raw as bare}
use denote.Memory.{lone}
use denote.RawPtr.{lies_at}
use Rattle.atomic_table.proofs.Walks.{leaves}
use Rattle.core.proofs.alloc.Calls.{Goes-blank}
use Rattle.std_alloc.proofs.BoxSteps.Form.{Bx, word, box_typed}
use Rattle.std.specs.contracts.alloc.Global as Heap
use Rattle.std.specs.contracts.impls.GlobalAllocator.TheImpl.{ghosts}
use Rattle.ty_account.proofs.Pairs.{both, paired}
use Rattle.ty_account.proofs.Blocks.{heap_form, Block, block_out}
use Rattle.ty_account.specs.contracts.block.Block as block
use Rattle.ty_account.specs.contracts.hoard.Hoard as Hoard
use Rattle.ty_account.specs.contracts.hoard.Known as Known
use Rattle.ty_account.specs.contracts.hoard.Deeds as Deeds
use Rattle.ty_account.specs.contracts.block.Block+T+Global.lend.{ended, clauses}
use Rattle.ty_account.specs.contracts.block.Block+T+Global.lend.Key.{name as #self}
use Rattle.ty_account.proofs.block.Block+T+Global.lend.Statement.{statement}
use Rattle.ty_account.proofs.block.Block+T+Global.lend.Code as code

pub lend_spec : {M : Type 1} → statement M
lend_spec 𝓤 𝓛 𝓜 𝓡 wired T L dx glue =
    let H = 𝓛.H in let 𝓣 = tables 𝓤 H 𝓜 𝓡 𝓡.env in let R : RattleType = param 0 T in let LR = param_laws 0 T L in let E : Bx = heap_form T L in let En = ended T dx in let c = clauses T dx 𝓛 𝓜.mem 𝓡.returns in
    let inst = bounded (a_type ∷ []) (T, tt) (dcons dx dnil) in let fn = inst_fn inst code.function in let C : RattleType = block.the_row R Heap.the_row ghosts in let K : RattleType = Known.the_row R in let D : RattleType = Deeds.the_row R in
    let self = RefOf (0 ∷ []) tt (plain (λ _. Hoard.the_row)) (λ _. tt) in let hs : Stays En.signature.params En.kept = (stay_dropped (plain (λ _. C)) no, (stay_dropped self yes, tt)) in
    proved_at 𝓛 En hs c 𝓜 𝓡 (Goes-blank 𝓛 2 (plain (λ _. C)) no (λ κs x f. tt), (Goes-dropped 𝓛 2 self yes (λ κs x f. refl), tt)) (#self inst) fn (code.unfolded 𝓤 H 𝓜 𝓡 wired (T, tt) dx) (λ z are.
    let κs = z.0.0 in let qs = z.0.1 in let me = z.0.3.1.0.now in let v = z.0.3.0 in let x : R.Denot = v.value in let α : Lft = me.life ∷ [] in let κ : Lft = κs.0 in let q : Share = qs.0 in let μ : Lft = κs.1.0 in let r : Share = qs.1.0 in
    let Post : Val → SProp 𝓤 = (walk_of 𝓛 En hs c).post z in let Run : List Val → SProp 𝓤 = λ ws. WpFn 𝓤 H 𝓣.C 𝓣.Λ fn ws Post in let Again : SProp 𝓤 = H.⇛ (𝓛.A.lft κ q) in let p : Val = vptr z.0.3.1.0.ref_ptr.0 z.0.3.1.0.ref_ptr.1 in
    qed 𝓛 (((‵ (flft κ q) ⊛ ‵ (flft μ r) ⊛ ‵ ftrue) ⊛ ‵ (owns (types_at En.signature.params κs) z.0.3 z.0.4)) ∷ raw ((c κs z.0.3).requires z.1) ∷ []) ∵
    move ! (1 ∷ []) $ use1 𝓛 (raw (fact 𝓤 (μ ⊑ T.lives)) ⊛ ‵ ftrue) (id⊢ 𝓤 _) $ split ! $ move ! (0 ∷ 2 ∷ []) $ heard ! (μ ⊑ T.lives) (λ inc. split ! $ split ! $ move ! (1 ∷ []) $ split ! $ move ! (3 ∷ []) $ fsplit ! $ move ! (1 ∷ []) $ fsplit ! $ fsplit ! $ move ! (1 ∷ []) $ unhide ! $ fsplit ! $ drop ! $ keep ! (3 ∷ 2 ∷ 0 ∷ 4 ∷ 6 ∷ []) $
    -- [the block; nothing; the borrow ends before the life; T's token; the borrow's token]
    use1 𝓛 (‵ ((Block E).own_val v z.0.4.0)) (id⊢ 𝓤 _) $ block_out E ! v z.0.4.0 (λ b o h e ws fits. let w : Val = word E h b o in let at : Ptr = block_ptr b o in
    suffices ! (Run (w ∷ p ∷ [])) (subst (λ (us : List Val). ent 𝓤 (Run (w ∷ p ∷ [])) (Run us)) (sym (λ i. ws i ++ (are.1.0.0 i ++ []))) (id⊢ 𝓤 (Run (w ∷ p ∷ [])))) $
    enter ! 𝓣.C 𝓣.Λ fn (w ∷ p ∷ []) Post $ alloc_all ! (λ l. pass_all ! refl (box_typed E h b o fits, ((tt, tt), tt)) $
    -- [the value; the right to free it; the handle; nothing; the borrow ends before the life; T's token; the borrow's token]
    move ! (4 ∷ 6 ∷ []) $ use2 𝓛 (later (some (λ (s : Share). ‵ (flft α s) ⊛ raw (wand 𝓤 (𝓛.A.lft α s) Again)))) (Lends-one 𝓛 𝓜 𝓡 κ α q) $ await ! tt $ pick ! (λ s. split ! $
    move ! (2 ∷ 3 ∷ []) $ fjoin ! $ bor_new ! tt α $ move ! (2 ∷ 6 ∷ []) $ join ! $ move ! (1 ∷ 0 ∷ []) $
    use2 𝓛 (later (‵ (lent_at R at x α) ⊛ ‵ (flft α s) ⊛ ‵ (flft μ r)))
    (Lends-first 𝓛 (lies_at R full_share at x) (ghosts.dealloc_token v.alloc (bare (lone R.mir)) at) (lent_at R at x) R.lives (Lends-lies 𝓛 R R.lives at x (LR.shares 𝓛 x)) α ((α, s) ∷ (μ, r) ∷ []) (Incl-trans (meet_⊑_right α μ) inc) (meet_⊑_left α μ)) $
    await ! tt $ split3 ! $ move ! (1 ∷ 4 ∷ []) $ use2 𝓛 (later (‵ (flft κ q))) (apply∗ 𝓤 (𝓛.A.lft α s) Again) $ await ! tt $
    sets ! (agg ! (no_more !)) refl (tt, tt) $ sets ! (agg ! (and_then ! (get ! refl) (no_more !))) refl (tt, (tt, tt)) $ sets ! (agg ! (no_more !)) refl (tt, tt) $ sets ! (agg ! (and_then ! (get ! refl) (no_more !))) refl (tt, (tt, tt)) $
    sets ! (agg ! (and_then ! (get ! refl) (and_then ! (get ! refl) (no_more !)))) refl (tt, ((tt, tt), ((tt, tt), tt))) $
    -- [the borrow's token; what is lent; T's token; the block later; the handle; nothing]
    let k : K.Denot = record { marker = record {}; at = at; life = me.life; value = x } in let ds : D.Denot = record { marker = record {}; life = me.life; lots = (at, x) ∷ [] } in
    let KnownIs : Type 0 = (at ≡ v.at) × (me.life ≡ me.life) × (x ≡ x) in let DeedIs : Type 0 = (me.life ≡ me.life) × (ds.lots ≡ (v.at, x) ∷ []) in
    move ! (1 ∷ []) $ use0 𝓛 (‵ ((Token R).own_val (record {}, tt) (token ∷ []))) (token_made R 𝓛) $ fjoin ! $
    move ! (3 ∷ []) $ nothing ! $ move ! (1 ∷ 0 ∷ []) $ fjoin ! $ use0 𝓛 (‵ ((Token R).own_val (record {}, tt) (token ∷ []))) (token_made R 𝓛) $ fjoin ! $
    move ! (1 ∷ 0 ∷ []) $ use2 𝓛 (‵ ((Tuple (K ∷ D ∷ [])).own_val (k, ds) (both token token ∷ []))) (paired 𝓛 K D k ds token token) $
    move ! (2 ∷ 4 ∷ []) $ join ! $ move ! (2 ∷ 0 ∷ []) $ join ! $ use0 𝓛 (raw (fact 𝓤 DeedIs)) (fact_i 𝓤 DeedIs (emp 𝓤) (refl, ap (λ (n : Ptr). (n, x) ∷ []) (sym e))) $ use0 𝓛 (raw (fact 𝓤 KnownIs)) (fact_i 𝓤 KnownIs (emp 𝓤) (sym e, refl, refl)) $ join ! $
    nothing ! $ nothing ! $ fjoin ! $ nothing ! $ fjoin ! $
    returns ! (look_at ! 0 refl) $ free_all ! refl $ keep ! (2 ∷ 0 ∷ 3 ∷ 1 ∷ []) $ by ! (leaves 𝓛 En hs c z (both token token) (k, ds) (tt, (tt, tt)) (tt, (tt, tt))))))))
