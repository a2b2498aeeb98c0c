-- `get` reads through the pointer, for as long as the hoard is borrowed.
use Rattle.ty_account.proofs.Walking.{◌≡◌, ℕ, List, [], ◌∷◌, refl, Val, vptr, named, a_type, inst_fn, SProp, emp, tables, ‵, raw, ◌⊛◌, ◌$◌, ◌∵◌, !, qed, by, move, keep, drop, split, fsplit, fjoin, stop, of_opd, returns, enter, alloc_all, pass_all, free_all, look_at, get, through, sets, RattleType, owns, types_at, yes, plain, RefOf, RawPtr, nothing, hide, unhide, alive, fact_i, Stays, stay_dropped, Goes-dropped, walk_of, proved, ends, shr_vals, shr_Tells, param, layouts}
use base.Logic.{never, fst∗}
use types.Kit.{regoal, prop}
use denote.Memory.{shared_of}
use denote.RawPtr.{block_of, count_of}
use Rattle.core.proofs.alloc.Shapes.{after}
use denote.RawPtr.{rawptr_vals, rawptr_Tells}
use Rattle.ty_account.proofs.Walking.{Lft, Ptr, block_ptr, ptr_val, in_a_block, ShrRef, lent_at, lent_at_shr_laws, param_laws, fact, ◌⊑◌, heard, rewrite, use2, WpFn, feq_i, addr, sem, null_ptr, env, exec, at_ret, first, blocks, sets_last}
use Rattle.ty_account.specs.steps.Blocks.{lent}
use Rattle.ty_account.specs.contracts.hoard.Hoard as Hoard
use Rattle.ty_account.specs.contracts.hoard.Known as Known
use Rattle.ty_account.specs.contracts.hoard.Hoard.get.{ended, clauses}
use Rattle.ty_account.specs.contracts.hoard.Hoard.get.Key.{name as #self}
use Rattle.ty_account.proofs.hoard.Hoard.get.Statement.{statement}
use Rattle.ty_account.proofs.hoard.Hoard.get.Code as code

pub get_spec : {M : Type 1} → statement M
get_spec {M} 𝓤 𝓛 𝓜 𝓡 wired T L =
    let H = 𝓛.H in let 𝓣 = tables 𝓤 H 𝓜 𝓡 𝓡.env in let R : RattleType = param 0 T in let K : RattleType = Known.the_row R in let En = ended T in let inst = layouts (a_type ∷ []) (T, tt) in let fn = inst_fn inst code.function in let c = clauses T 𝓛 𝓜.mem 𝓡.returns in
    let self = RefOf (0 ∷ []) tt (plain (λ _. Hoard.the_row)) (λ _. tt) in let known = RefOf (1 ∷ []) tt (plain (λ _. K)) (λ _. tt) in let hs : Stays En.signature.params En.kept = (stay_dropped self yes, (stay_dropped (plain (λ _. RawPtr)) yes, (stay_dropped known yes, tt))) in
    proved 𝓛 En hs c 𝓜 𝓡 (Goes-dropped 𝓛 3 self yes (λ κs x f. refl), (Goes-dropped 𝓛 3 (plain (λ _. RawPtr)) yes (λ κs x f. refl), (Goes-dropped 𝓛 3 known yes (λ κs x f. refl), tt))) (#self inst) fn (code.unfolded 𝓤 H 𝓜 𝓡 wired (T, tt))
    (λ κs. (shr_vals, (rawptr_vals, (shr_vals, tt)))) (λ κs. (shr_Tells (named 0) κs.0 Hoard.the_row, (rawptr_Tells, (shr_Tells (named 1) κs.1.0 K, tt)))) (λ κs qs bounds a gh are.
    let me = a.0.now in let at : Ptr = a.1.0 in let it = a.1.1.0.now in let κ : Lft = κs.0 in let p : Val = vptr a.0.ref_ptr.0 a.0.ref_ptr.1 in let k : Val = vptr a.1.1.0.ref_ptr.0 a.1.1.0.ref_ptr.1 in
    let y : Ptr → (walk_of 𝓛 En hs c).Ghost = λ z. ((κs, qs, bounds, a, (p ∷ [], (rawptr_vals z, (k ∷ [], tt)))), gh) in let Post : Ptr → Val → SProp 𝓤 = λ z. (walk_of 𝓛 En hs c).post (y z) in
    let x : R.Denot = it.value in let laws = lent_at_shr_laws R (param_laws 0 T L).shr_laws at x in let Same : Type 0 = (it.life ≡ me.life) × (it.at ≡ at) in
    qed 𝓛 ((raw (alive 𝓛 En.signature κs qs) ⊛ ‵ (owns (types_at En.signature.params κs) a (p ∷ [], (rawptr_vals at, (k ∷ [], tt))))) ∷ raw (fact 𝓤 (κs.1.1.0 ⊑ T.lives)) ∷ raw (fact 𝓤 Same) ∷ []) ∵ keep ! (2 ∷ 0 ∷ []) $
    heard ! Same (λ same. split ! $ move ! (1 ∷ []) $ fsplit ! $ fsplit ! $ keep ! (1 ∷ 2 ∷ 3 ∷ []) $ unhide ! $ fsplit ! $ drop ! $ move ! (1 ∷ []) $ fsplit ! $ drop ! $ fsplit ! $ fsplit ! $ keep ! (1 ∷ 3 ∷ 4 ∷ []) $ unhide ! $ fsplit ! $ drop ! $
    -- [what is known; the borrow ends before the life; what is alive]
    rewrite ! 0 (λ (n : ℕ). ‵ (lent R n it.at x)) same.0 refl $ rewrite ! 0 (λ (z : Ptr). ‵ (lent R me.life z x)) same.1 refl $ move ! (1 ∷ 0 ∷ []) $ use2 𝓛 (‵ (lent_at R at x κ)) (laws.mono M 𝓤 𝓛 κ (me.life ∷ [])) $
    in_a_block ! at (λ z. lent_at R z x κ) (fst∗ 𝓤 (never 𝓤) (sem 𝓛 (shared_of R x (block_of null_ptr) (count_of null_ptr) κ))) (λ b o e. let ref : (ShrRef (named 0) κ R).Denot = record { ref_ptr = (b, o); now = x } in
    regoal ! (λ z. prop (WpFn 𝓤 H 𝓣.C 𝓣.Λ fn (p ∷ ptr_val z ∷ k ∷ []) (Post z))) e refl $
    enter ! 𝓣.C 𝓣.Λ fn (p ∷ vptr b o ∷ k ∷ []) (Post (block_ptr b o)) $ alloc_all ! (λ l. pass_all ! refl ((tt, tt), ((tt, tt), ((tt, tt), tt))) $ let Ev = env fn.locals l in
    first ! $ blocks ! $ sets_last ! (addr ! (through ! refl (stop !))) refl (tt, tt) $ exec ! 𝓣.C 𝓣.Λ Ev (after 1 fn.body) (at_ret Ev (Post (block_ptr b o))) $ sets ! (of_opd ! (get ! refl)) refl (tt, tt) $
    fsplit ! $ drop ! $ hide ! $ feq_i ! (List Val) (vptr b o ∷ []) (vptr b o ∷ []) refl $ fjoin ! $ nothing ! $ nothing ! $ fjoin ! $ nothing ! $ fjoin ! $ nothing ! $ fjoin ! $
    returns ! (look_at ! 0 refl) $ free_all ! refl $ keep ! (2 ∷ 0 ∷ 1 ∷ []) $ by ! (ends 𝓛 En hs c (y (block_ptr b o)) (vptr b o) ref (tt, (tt, (tt, tt))) (tt, (tt, (tt, tt))) (fact_i 𝓤 _ (emp 𝓤) refl))))))
