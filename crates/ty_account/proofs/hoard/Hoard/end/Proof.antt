-- `end` ends the lifetime, after which each block is owned again.
use Rattle.ty_account.proofs.Walking.{◌≡◌, ℕ, [], ◌∷◌, refl, Val, a_type, inst_fn, SProp, emp, tables, ‵, raw, ◌⊛◌, later, ◌$◌, ◌∵◌, !, qed, by, move, keep, split, fsplit, fjoin, heard, rewrite, await, use0, use2, no_more, and_then, returns, enter, alloc_all, pass_all, free_all, look_at, get, sets, agg, lft_end, RattleType, owns, types_at, unit, yes, no, plain, nothing, alive, fact, fact_i, ◌⊑◌, Stays, stay_dropped, Goes-dropped, walk_of, proved, token, Token, token_told, token_made, ends, param, layouts}
use Rattle.ty_account.proofs.Blocks.{all_back}
use Rattle.ty_account.specs.steps.Blocks.{all_deeds, all_blocks}
use Rattle.ty_account.specs.contracts.hoard.Hoard as Hoard
use Rattle.ty_account.specs.contracts.hoard.Deeds as Deeds
use Rattle.ty_account.specs.contracts.hoard.Hoard.end.{ended, clauses}
use Rattle.ty_account.specs.contracts.hoard.Hoard.end.Key.{name as #self}
use Rattle.ty_account.proofs.hoard.Hoard.end.Statement.{statement}
use Rattle.ty_account.proofs.hoard.Hoard.end.Code as code

pub end_spec : {M : Type 1} → statement M
end_spec 𝓤 𝓛 𝓜 𝓡 wired T L =
    let H = 𝓛.H in let 𝓣 = tables 𝓤 H 𝓜 𝓡 𝓡.env in let R : RattleType = param 0 T in let D : RattleType = Deeds.the_row R in let En = ended T in let inst = layouts (a_type ∷ []) (T, tt) in let fn = inst_fn inst code.function in let c = clauses T 𝓛 𝓜.mem 𝓡.returns in
    let hs : Stays En.signature.params En.kept = (stay_dropped (plain (λ _. Hoard.the_row)) yes, (stay_dropped (plain (λ _. D)) no, tt)) in
    proved 𝓛 En hs c 𝓜 𝓡 (Goes-dropped 𝓛 1 (plain (λ _. Hoard.the_row)) yes (λ κs x f. refl), (Goes-dropped 𝓛 1 (plain (λ _. D)) no (λ κs x f. refl), tt)) (#self inst) fn (code.unfolded 𝓤 H 𝓜 𝓡 wired (T, tt))
    (λ κs. ((λ x. token ∷ []), ((λ x. token ∷ []), tt))) (λ κs. ((λ x vs is. token_told unit vs is.0), ((λ x vs is. token_told R vs is.0), tt))) (λ κs qs bounds a gh are.
    let me = a.0 in let ds = a.1.0 in let y : (walk_of 𝓛 En hs c).Ghost = ((κs, qs, bounds, a, (token ∷ [], (token ∷ [], tt))), gh) in let Post : Val → SProp 𝓤 = (walk_of 𝓛 En hs c).post y in
    qed 𝓛 ((raw (alive 𝓛 En.signature κs qs) ⊛ ‵ (owns (types_at En.signature.params κs) a y.0.4)) ∷ raw (fact 𝓤 (κs.0 ⊑ T.lives)) ∷ raw (fact 𝓤 (ds.life ≡ me.life)) ∷ []) ∵ keep ! (2 ∷ 0 ∷ []) $ heard ! (ds.life ≡ me.life) (λ same. split ! $
    move ! (1 ∷ []) $ fsplit ! $ fsplit ! $ move ! (2 ∷ []) $ fsplit ! $ fsplit ! $ keep ! (4 ∷ 1 ∷ 5 ∷ []) $ rewrite ! 1 (λ (n : ℕ). ‵ (all_deeds R n ds.lots)) same refl $
    -- [the life's token; the deeds; what is alive]
    enter ! 𝓣.C 𝓣.Λ fn (token ∷ token ∷ []) Post $ alloc_all ! (λ l. pass_all ! refl ((tt, (tt, tt)), ((tt, (tt, tt)), tt)) $ lft_end ! tt $ use2 𝓛 (later (‵ (all_blocks R ds.lots))) (all_back 𝓛 R me.life ds.lots) $ await ! tt $
    sets ! (agg ! (no_more !)) refl (tt, tt) $ sets ! (agg ! (and_then ! (get ! refl) (no_more !))) refl (tt, (tt, tt)) $
    use0 𝓛 (‵ ((Token R).own_val (record {}, tt) (token ∷ []))) (token_made R 𝓛) $ fjoin ! $ nothing ! $ nothing ! $ fjoin ! $ nothing ! $ fjoin ! $
    returns ! (look_at ! 0 refl) $ free_all ! refl $ keep ! (2 ∷ 0 ∷ 1 ∷ []) $ by ! (ends 𝓛 En hs c y token (record { marker = record {}; lots = ds.lots }) (tt, (tt, tt)) (tt, (tt, tt)) (fact_i 𝓤 _ (emp 𝓤) refl)))))
