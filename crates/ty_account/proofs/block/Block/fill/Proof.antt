-- `fill` writes through the block's pointer.
use Rattle.ty_account.proofs.Walking.{◌≡◌, List, [], ◌∷◌, ◌++◌, refl, sym, subst, Val, a_type, dcons, dnil, inst_fn, full_share, SProp, ent, emp, id⊢, WpFn, tables, ‵, raw, ◌⊛◌, some, given, at_ret, ◌$◌, ◌∵◌, !, qed, by, move, keep, drop, split, fsplit, fjoin, pick, learn, suffices, use0, use1, use2, stop, fld, of_opd, no_more, and_then, first, blocks, exec, returns, enter, alloc_all, pass_all, free_all, look_at, get, get_in, through, sets, env, agg, sub, whole, fact, fact_i, no, owns, types_at, plain, nothing, alive, bounded, Stays, stay_dropped, Goes-dropped, walk_of, proved_at}
use base.Fml.{fat}
use types.Run.{assigns_last, store}
use denote.Memory.{part_at}
use Rattle.atomic_table.proofs.Walks.{leaves}
use Rattle.core.proofs.alloc.Calls.{Goes-blank}
use Rattle.core.proofs.alloc.Shapes.{after}
use Rattle.std_alloc.proofs.BoxSteps.Form.{Bx, R, τ, own, Good, word, box_typed}
use Rattle.std_alloc.proofs.BoxSteps.Steps.{el_out, el_in, el_tells}
use Rattle.ty_account.proofs.Blocks.{form, Block, block_out, block_in}
use Rattle.ty_account.specs.contracts.block.Block.fill.{ended, clauses}
use Rattle.ty_account.specs.contracts.block.Block.fill.Key.{name as #self}
use Rattle.ty_account.proofs.block.Block.fill.Statement.{statement}
use Rattle.ty_account.proofs.block.Block.fill.Code as code

pub fill_spec : {M : Type 1} → statement M
fill_spec 𝓤 𝓛 𝓜 𝓡 wired T A L LA g d dx dd allocator glue glued =
    let H = 𝓛.H in let 𝓣 = tables 𝓤 H 𝓜 𝓡 𝓡.env in let E : Bx = form T L A LA g d dd in let En = ended T A g d dx dd in let c = clauses T A g d dx dd 𝓛 𝓜.mem 𝓡.returns in
    let inst = bounded (a_type ∷ a_type ∷ []) (T, (A, tt)) (dcons d (dcons dx (dcons dd dnil))) in let fn = inst_fn inst code.function in
    let hs : Stays En.signature.params En.kept = (stay_dropped (plain (λ _. Block E)) no, (stay_dropped (plain (λ _. R E)) no, tt)) in
    proved_at 𝓛 En hs c 𝓜 𝓡 (Goes-blank 𝓛 2 (plain (λ _. Block E)) no (λ κs x f. tt), (Goes-dropped 𝓛 2 (plain (λ _. R E)) no (λ κs x f. refl), tt)) (#self inst) fn (code.unfolded 𝓤 H 𝓜 𝓡 wired (T, (A, tt)) d dx dd) (λ z are.
    let κs = z.0.0 in let qs = z.0.1 in let v = z.0.3.0 in let x = z.0.3.1.0 in let a = v.alloc in
    let Post : Val → SProp 𝓤 = (walk_of 𝓛 En hs c).post z in let Run : List Val → SProp 𝓤 = λ ws. WpFn 𝓤 H 𝓣.C 𝓣.Λ fn ws Post in
    qed 𝓛 ((raw (alive 𝓛 En.signature κs qs) ⊛ ‵ (owns (types_at En.signature.params κs) z.0.3 z.0.4)) ∷ raw ((c κs z.0.3).requires z.1) ∷ []) ∵ keep ! (0 ∷ []) $ split ! $ move ! (1 ∷ []) $ fsplit ! $
    block_out E ! v z.0.4.0 (λ b o h e ws fits. move ! (3 ∷ []) $ fsplit ! $ el_tells E ! x z.0.4.1.0 (λ u us good.
    let w : Val = word E h b o in let typed = box_typed E h b o fits in
    suffices ! (Run (w ∷ u ∷ [])) (subst (λ (rs : List Val). ent 𝓤 (Run (w ∷ u ∷ [])) (Run rs)) (sym (λ i. ws i ++ (us i ++ []))) (id⊢ 𝓤 (Run (w ∷ u ∷ [])))) $
    enter ! 𝓣.C 𝓣.Λ fn (w ∷ u ∷ []) Post $ alloc_all ! (λ l. pass_all ! refl (typed, (good, tt)) $ let Ev = env fn.locals l in
    -- [the value; nothing; the old one in memory; the right to free it; the handle; what is alive]
    move ! (2 ∷ []) $ use1 𝓛 (some (λ (r : Val). given (Good E r) (‵ (fat full_share (τ E) b o r) ⊛ ‵ (own E v.value (r ∷ []))))) (el_out E 𝓛 v.value b o) $ pick ! (λ old. learn ! (λ was. split ! $ move ! (1 ∷ []) $ drop ! $
    sets ! (of_opd ! (get_in ! (fld ! refl (stop !)) (sub ! 0 refl (whole !)))) refl (tt, tt) $ sets ! (of_opd ! (get_in ! (fld ! refl (stop !)) (sub ! 1 refl (whole !)))) refl fits $
    first ! $ blocks ! $ sets ! (of_opd ! (get ! refl)) refl good $ assigns_last ! (of_opd ! (get ! refl)) (through ! refl (stop !)) (store ! 0 refl good) $ exec ! 𝓣.C 𝓣.Λ Ev (after 3 fn.body) (at_ret Ev Post) $
    sets ! (of_opd ! (get ! refl)) refl fits $ sets ! (agg ! (and_then ! (get ! refl) (and_then ! (get ! refl) (no_more !)))) refl typed $
    -- [the cell; the value; nothing; the right to free it; the handle; what is alive]
    let made : (Block E).Denot = record { at = v.at; alloc = a; value = x } in let Told : Type 0 = (v.at ≡ v.at) × (x ≡ x) in
    use2 𝓛 (‵ (part_at (R E) full_share x b o)) (el_in E 𝓛 x b o u) $ move ! (0 ∷ 2 ∷ 3 ∷ []) $ block_in E ! h made b o x e refl $
    use0 𝓛 (raw (fact 𝓤 Told)) (fact_i 𝓤 Told (emp 𝓤) (refl, refl)) $ nothing ! $ nothing ! $ fjoin ! $ nothing ! $ fjoin ! $
    returns ! (look_at ! 0 refl) $ free_all ! refl $ keep ! (4 ∷ 0 ∷ 2 ∷ 1 ∷ []) $ by ! (leaves 𝓛 En hs c z w made ((tt, (tt, tt)), (tt, tt)) (tt, (tt, tt)))))))))
