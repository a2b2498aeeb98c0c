-- `back` takes the right out of what the step gained.
use Rattle.ty_account.proofs.Walking.{[], ◌∷◌, refl, Val, a_type, dcons, dnil, inst_fn, SProp, emp, tables, ‵, raw, ◌⊛◌, ◌$◌, ◌∵◌, !, qed, by, move, keep, drop, split, fsplit, fjoin, fpick, use0, no_more, and_then, returns, enter, alloc_all, pass_all, free_all, look_at, get, sets, agg, RattleType, owns, types_at, unit, no, plain, nothing, alive, fact_i, Stays, stay_dropped, Goes-dropped, walk_of, proved, token, Token, token_told, token_made, ends, param, bounded}
use Rattle.std.specs.Prelude.{Some, length}
use Rattle.ty_account.specs.contracts.right.Entering as Entering
use Rattle.ty_account.specs.contracts.right.EnteringGainMarkReply.TheImpl as entering
use Rattle.ty_account.proofs.Rows.{GainedRow, Gains}
use Rattle.ty_account.specs.contracts.right.Right.back.{ended, clauses}
use Rattle.ty_account.specs.contracts.right.Right.back.Key.{name as #self}
use Rattle.ty_account.proofs.right.Right.back.Statement.{statement}
use Rattle.ty_account.proofs.right.Right.back.Code as code

pub back_spec : {M : Type 1} → statement M
back_spec 𝓤 𝓛 𝓜 𝓡 wired T L g d _ =
    let H = 𝓛.H in let 𝓣 = tables 𝓤 H 𝓜 𝓡 𝓡.env in let R : RattleType = param 0 T in let G : RattleType = GainedRow R g Entering.the_row (entering.ghosts R g entering.no_dict) in let En = ended T g d in
    let inst = bounded (a_type ∷ []) (T, tt) (dcons d dnil) in let fn = inst_fn inst code.function in let c = clauses T g d 𝓛 𝓜.mem 𝓡.returns in
    let hs : Stays En.signature.params En.kept = (stay_dropped (plain (λ _. G)) no, tt) in
    proved 𝓛 En hs c 𝓜 𝓡 (Goes-dropped 𝓛 1 (plain (λ _. G)) no (λ κs x f. refl), tt) (#self inst) fn (code.unfolded 𝓤 H 𝓜 𝓡 wired (T, tt) d)
    (λ κs. ((λ x. token ∷ []), tt)) (λ κs. ((λ x vs is. token_told (Gains R Entering.the_row) vs is.0), tt)) (λ κs qs bounds a gh are.
    let gained = a.0 in let y : (walk_of 𝓛 En hs c).Ghost = ((κs, qs, bounds, a, (token ∷ [], tt)), gh) in let Post : Val → SProp 𝓤 = (walk_of 𝓛 En hs c).post y in
    qed 𝓛 ((raw (alive 𝓛 En.signature κs qs) ⊛ ‵ (owns (types_at En.signature.params κs) a y.0.4)) ∷ raw ((c κs a).requires gh) ∷ []) ∵ keep ! (0 ∷ []) $ split ! $
    move ! (1 ∷ []) $ fsplit ! $ fsplit ! $ keep ! (1 ∷ 3 ∷ []) $ fsplit ! $ fpick ! (λ found. drop ! $
    -- [the right; what is alive]
    enter ! 𝓣.C 𝓣.Λ fn (token ∷ []) Post $ alloc_all ! (λ l. pass_all ! refl ((tt, (tt, tt)), tt) $
    use0 𝓛 (‵ ((Token unit).own_val (record {}, tt) (token ∷ []))) (token_made unit 𝓛) $ fjoin ! $
    sets ! (agg ! (no_more !)) refl (tt, tt) $ sets ! (agg ! (and_then ! (get ! refl) (no_more !))) refl (tt, (tt, tt)) $
    nothing ! $ nothing ! $ fjoin ! $
    returns ! (look_at ! 0 refl) $ free_all ! refl $ keep ! (2 ∷ 0 ∷ 1 ∷ []) $
    by ! (ends 𝓛 En hs c y token (record { marker = record {}; names = gained.names; held = Some (length gained.answer.all) }) (tt, tt) (tt, tt) (fact_i 𝓤 _ (emp 𝓤) (found, refl, refl))))))
