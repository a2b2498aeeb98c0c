-- `looking` makes an update of nothing: the right to read can be had twice.
use Rattle.ty_account.proofs.Walking.{[], ◌∷◌, refl, Val, vptr, named, a_type, dcons, dnil, inst_fn, SProp, emp, tables, ‵, raw, ◌⊛◌, ◌$◌, ◌∵◌, !, qed, by, keep, split, fjoin, use0, no_more, and_then, returns, enter, alloc_all, pass_all, free_all, look_at, get, sets, agg, RattleType, RefOf, owns, types_at, yes, plain, nothing, alive, fact_i, Stays, stay_dropped, Goes-dropped, walk_of, proved, token, Token, token_made, ends, shr_vals, shr_Tells, param, param_laws, bounded}
use Rattle.std.specs.Prelude.{None}
use Rattle.logbook.specs.Kept.{offer_owns}
use Rattle.ty_account.specs.contracts.reads.Reading as Reading
use Rattle.ty_account.specs.steps.Histories.{no_mark}
use Rattle.ty_account.specs.steps.Rights.{kept, reading}
use Rattle.ty_account.specs.steps.Rules.{Moved}
use Rattle.ty_account.proofs.Rights.{looks}
use Rattle.ty_account.proofs.Rows.{SeenRow, Offers}
use Rattle.ty_account.specs.contracts.reads.looking.{ended, clauses}
use Rattle.ty_account.specs.contracts.reads.looking.Key.{name as #self}
use Rattle.ty_account.proofs.reads.looking.Statement.{statement}
use Rattle.ty_account.proofs.reads.looking.Code as code

pub looking_spec : {M : Type 1} → statement M
looking_spec 𝓤 𝓛 𝓜 𝓡 wired T L g d _ =
    let H = 𝓛.H in let 𝓣 = tables 𝓤 H 𝓜 𝓡 𝓡.env in let R : RattleType = param 0 T in let S : RattleType = SeenRow R g in let En = ended T g d in
    let inst = bounded (a_type ∷ []) (T, tt) (dcons d dnil) in let fn = inst_fn inst code.function in let c = clauses T g d 𝓛 𝓜.mem 𝓡.returns in let All : RattleType = Offers R Reading.the_row in
    let seen = RefOf (0 ∷ []) tt (plain (λ _. S)) (λ _. tt) in let hs : Stays En.signature.params En.kept = (stay_dropped seen yes, tt) in
    proved 𝓛 En hs c 𝓜 𝓡 (Goes-dropped 𝓛 2 seen yes (λ κs x f. refl), tt) (#self inst) fn (code.unfolded 𝓤 H 𝓜 𝓡 wired (T, tt) d)
    (λ κs. (shr_vals, tt)) (λ κs. (shr_Tells (named 0) κs.0 S, tt)) (λ κs qs bounds a gh are.
    let log = a.0.now in let p : Val = vptr a.0.ref_ptr.0 a.0.ref_ptr.1 in
    let y : (walk_of 𝓛 En hs c).Ghost = ((κs, qs, bounds, a, (p ∷ [], tt)), gh) in let Post : Val → SProp 𝓤 = (walk_of 𝓛 En hs c).post y in
    qed 𝓛 ((raw (alive 𝓛 En.signature κs qs) ⊛ ‵ (owns (types_at En.signature.params κs) a y.0.4)) ∷ raw ((c κs a).requires gh) ∷ []) ∵ keep ! (0 ∷ []) $ split ! $ keep ! (0 ∷ []) $
    use0 𝓛 (‵ (offer_owns (kept R log.names) (Moved no_mark) (reading R log.names) None)) (looks 𝓛 R (param_laws 0 T L) log.names) $
    -- [the update; what is alive]
    enter ! 𝓣.C 𝓣.Λ fn (p ∷ []) Post $ alloc_all ! (λ l. pass_all ! refl ((tt, tt), tt) $
    use0 𝓛 (‵ ((Token All).own_val (record {}, tt) (token ∷ []))) (token_made All 𝓛) $ fjoin ! $
    sets ! (agg ! (no_more !)) refl (tt, tt) $ sets ! (agg ! (and_then ! (get ! refl) (no_more !))) refl (tt, (tt, tt)) $
    nothing ! $ nothing ! $ fjoin ! $
    returns ! (look_at ! 0 refl) $ free_all ! refl $ keep ! (2 ∷ 0 ∷ 1 ∷ []) $
    by ! (ends 𝓛 En hs c y token (record { marker = record {}; names = log.names; ask = no_mark; about = []; state = None }) (tt, tt) (tt, tt) (fact_i 𝓤 _ (emp 𝓤) (refl, refl, refl, refl)))))
