-- `entering` makes an update of the right, and of what is had of the node.
use Rattle.ty_account.proofs.Walking.{◌≡◌, ℕ, List, [], ◌∷◌, ◌∙◌, refl, Val, vptr, named, a_type, dcons, dnil, inst_fn, SProp, emp, tables, ‵, raw, ◌⊛◌, ◌$◌, ◌∵◌, !, qed, by, move, keep, drop, split, fsplit, fjoin, heard, rewrite, use0, use3, no_more, and_then, returns, enter, alloc_all, pass_all, free_all, look_at, get, sets, agg, Ptr, RattleType, RefOf, owns, types_at, unit, yes, no, plain, nothing, unhide, alive, fact, fact_i, Stays, stay_dropped, Goes-dropped, walk_of, proved, token, Token, token_told, token_made, ends, shr_vals, shr_Tells, param, param_laws, bounded}
use Rattle.std.specs.Prelude.{Option, None, Some, length}
use Rattle.logbook.specs.Kept.{offer_owns}
use Rattle.ty_account.specs.contracts.node.Place as Place
use Rattle.ty_account.specs.contracts.hoard.Known as Known
use Rattle.ty_account.specs.contracts.hoard.Deeds as Deeds
use Rattle.ty_account.specs.contracts.right.Right as Right
use Rattle.ty_account.specs.contracts.right.Entering as Entering
use Rattle.ty_account.specs.declared.history.Mark.{Mark}
use Rattle.ty_account.specs.declared.history.Mark.TheVariants.{Entered}
use Rattle.ty_account.specs.steps.Blocks.{lent, all_deeds}
use Rattle.ty_account.specs.steps.Rights.{life_of, right_owns, kept, entering}
use Rattle.ty_account.specs.steps.Rules.{Moved}
use Rattle.ty_account.proofs.Rights.{adding}
use Rattle.ty_account.proofs.Rows.{SeenRow, Offers}
use Rattle.ty_account.specs.contracts.right.Right.entering.{ended, clauses}
use Rattle.ty_account.specs.contracts.right.Right.entering.Key.{name as #self}
use Rattle.ty_account.proofs.right.Right.entering.Statement.{statement}
use Rattle.ty_account.proofs.right.Right.entering.Code as code

pub entering_spec : {M : Type 1} → statement M
entering_spec 𝓤 𝓛 𝓜 𝓡 wired T E L LE g d ge de _ _ =
    let H = 𝓛.H in let 𝓣 = tables 𝓤 H 𝓜 𝓡 𝓡.env in let R : RattleType = param 0 T in let V : RattleType = param 1 E in let P : RattleType = Place.the_row R in let K : RattleType = Known.the_row P in let D : RattleType = Deeds.the_row P in let S : RattleType = SeenRow R g in let En = ended T E g d ge de in
    let inst = bounded (a_type ∷ a_type ∷ []) (T, (E, tt)) (dcons d (dcons de dnil)) in let fn = inst_fn inst code.function in let c = clauses T E g d ge de 𝓛 𝓜.mem 𝓡.returns in let All : RattleType = Offers R Entering.the_row in
    let seen = RefOf (0 ∷ []) tt (plain (λ _. S)) (λ _. tt) in let value = RefOf (1 ∷ []) tt (plain (λ _. V)) (λ _. tt) in let known = RefOf (2 ∷ []) tt (plain (λ _. K)) (λ _. tt) in
    let hs : Stays En.signature.params En.kept = (stay_dropped (plain (λ _. Right.the_row)) yes, (stay_dropped seen yes, (stay_dropped value yes, (stay_dropped known yes, (stay_dropped (plain (λ _. D)) no, tt))))) in
    proved 𝓛 En hs c 𝓜 𝓡 (Goes-dropped 𝓛 5 (plain (λ _. Right.the_row)) yes (λ κs x f. refl), (Goes-dropped 𝓛 5 seen yes (λ κs x f. refl), (Goes-dropped 𝓛 5 value yes (λ κs x f. refl), (Goes-dropped 𝓛 5 known yes (λ κs x f. refl), (Goes-dropped 𝓛 5 (plain (λ _. D)) no (λ κs x f. refl), tt)))))
    (#self inst) fn (code.unfolded 𝓤 H 𝓜 𝓡 wired (T, (E, tt)) d de)
    (λ κs. ((λ x. token ∷ []), (shr_vals, (shr_vals, (shr_vals, ((λ x. token ∷ []), tt))))))
    (λ κs. ((λ x vs is. token_told unit vs is.0), (shr_Tells (named 0) κs.0 S, (shr_Tells (named 1) κs.1.0 V, (shr_Tells (named 2) κs.1.1.0 K, ((λ x vs is. token_told P vs is.0), tt)))))) (λ κs qs bounds a gh are.
    let me = a.0 in let log = a.1.0.now in let k = a.1.1.1.0.now in let ds = a.1.1.1.1.0 in
    let p : Val = vptr a.1.0.ref_ptr.0 a.1.0.ref_ptr.1 in let q : Val = vptr a.1.1.0.ref_ptr.0 a.1.1.0.ref_ptr.1 in let r : Val = vptr a.1.1.1.0.ref_ptr.0 a.1.1.1.0.ref_ptr.1 in
    let Asked : Type 0 = (me.names ≡ log.names) × (me.held ≡ Some (length log.log)) × (k.life ≡ life_of log.names) × (ds.life ≡ k.life) × (ds.lots ≡ (k.at, k.value) ∷ []) in let mark : Mark R.Denot = Entered (ge.entry a.1.1.0.now) k.at k.value in
    let y : (walk_of 𝓛 En hs c).Ghost = ((κs, qs, bounds, a, (token ∷ [], (p ∷ [], (q ∷ [], (r ∷ [], (token ∷ [], tt)))))), gh) in let Post : Val → SProp 𝓤 = (walk_of 𝓛 En hs c).post y in
    qed 𝓛 ((raw (alive 𝓛 En.signature κs qs) ⊛ ‵ (owns (types_at En.signature.params κs) a y.0.4)) ∷ raw (fact 𝓤 _) ∷ raw (fact 𝓤 _) ∷ raw (fact 𝓤 Asked) ∷ []) ∵ keep ! (3 ∷ 0 ∷ []) $ heard ! Asked (λ asked. split ! $
    move ! (1 ∷ []) $ fsplit ! $ fsplit ! $ move ! (2 ∷ []) $ fsplit ! $ drop ! $ fsplit ! $ drop ! $ fsplit ! $ fsplit ! $ move ! (1 ∷ []) $ unhide ! $ fsplit ! $ move ! (3 ∷ []) $ fsplit ! $ fsplit ! $ keep ! (7 ∷ 4 ∷ 1 ∷ 8 ∷ []) $
    rewrite ! 0 (λ (ns : List ℕ). ‵ (right_owns ns me.held)) asked.0 refl $ rewrite ! 0 (λ (o : Option ℕ). ‵ (right_owns log.names o)) asked.1 refl $ rewrite ! 1 (λ (n : ℕ). ‵ (lent P n k.at k.value)) asked.2 refl $
    rewrite ! 2 (λ (n : ℕ). ‵ (all_deeds P n ds.lots)) (asked.3 ∙ asked.2) refl $ rewrite ! 2 (λ (ls : List (Ptr × P.Denot)). ‵ (all_deeds P (life_of log.names) ls)) asked.4 refl $
    move ! (1 ∷ []) $ nothing ! $ move ! (1 ∷ 0 ∷ []) $ fjoin ! $ move ! (1 ∷ 0 ∷ []) $
    use3 𝓛 (‵ (offer_owns (kept R log.names) (Moved mark) (entering log.names log.log) None)) (adding 𝓛 R (param_laws 0 T L) log.names log.log mark) $
    -- [the update; what is alive]
    enter ! 𝓣.C 𝓣.Λ fn (token ∷ p ∷ q ∷ r ∷ token ∷ []) Post $ alloc_all ! (λ l. pass_all ! refl ((tt, (tt, tt)), ((tt, tt), ((tt, tt), ((tt, tt), ((tt, (tt, tt)), tt))))) $
    use0 𝓛 (‵ ((Token All).own_val (record {}, tt) (token ∷ []))) (token_made All 𝓛) $ fjoin ! $
    sets ! (agg ! (no_more !)) refl (tt, tt) $ sets ! (agg ! (and_then ! (get ! refl) (no_more !))) refl (tt, (tt, tt)) $
    nothing ! $ nothing ! $ fjoin ! $ nothing ! $ fjoin ! $ nothing ! $ fjoin ! $ nothing ! $ fjoin ! $ nothing ! $ fjoin ! $
    returns ! (look_at ! 0 refl) $ free_all ! refl $ keep ! (2 ∷ 0 ∷ 1 ∷ []) $
    by ! (ends 𝓛 En hs c y token (record { marker = record {}; names = log.names; ask = mark; about = log.log; state = None }) (tt, (tt, (tt, (tt, (tt, tt))))) (tt, (tt, (tt, (tt, (tt, tt))))) (fact_i 𝓤 _ (emp 𝓤) (refl, refl, refl, refl))))))
