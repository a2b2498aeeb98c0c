-- `pick` takes one right to read out of what a look gained.
use Rattle.ty_account.proofs.Walking.{ℕ, ◌<◌, [], ◌∷◌, refl, Val, vint, w64, a_type, dcons, dnil, inst_fn, SProp, emp, tables, ‵, raw, ◌⊛◌, ◌$◌, ◌∵◌, !, qed, by, move, keep, split, fsplit, fjoin, heard, use0, use1, no_more, and_then, returns, enter, alloc_all, pass_all, free_all, look_at, get, sets, agg, RattleType, owns, types_at, yes, no, plain, u64, nothing, alive, fact, fact_i, Stays, stay_dropped, Goes-dropped, walk_of, proved, token, Token, token_told, token_made, ends, param, param_laws, bounded}
use Rattle.std.specs.Prelude.{length}
use denote.Plain.{uint_vals, uint_Tells}
use Rattle.ty_account.specs.contracts.node.Place as Place
use Rattle.ty_account.specs.contracts.reads.Reading as Reading
use Rattle.ty_account.specs.contracts.reads.ReadingGainMarkReply.TheImpl as reading
use Rattle.ty_account.specs.steps.Blocks.{lent}
use Rattle.ty_account.specs.steps.Histories.{Site, nodes_in}
use Rattle.ty_account.specs.steps.Rights.{life_of}
use Rattle.ty_account.proofs.Chains.{is_there}
use Rattle.ty_account.proofs.Rights.{picked}
use Rattle.ty_account.proofs.Rows.{GainedRow, Gains}
use Rattle.ty_account.specs.contracts.reads.pick.{ended, clauses}
use Rattle.ty_account.specs.contracts.reads.pick.Key.{name as #self}
use Rattle.ty_account.proofs.reads.pick.Statement.{statement}
use Rattle.ty_account.proofs.reads.pick.Code as code

pub pick_spec : {M : Type 1} → statement M
pick_spec 𝓤 𝓛 𝓜 𝓡 wired T L g d _ =
    let H = 𝓛.H in let 𝓣 = tables 𝓤 H 𝓜 𝓡 𝓡.env in let R : RattleType = param 0 T in let P : RattleType = Place.the_row R in let G : RattleType = GainedRow R g Reading.the_row (reading.ghosts R g reading.no_dict) in let En = ended T g d in
    let inst = bounded (a_type ∷ []) (T, tt) (dcons d dnil) in let fn = inst_fn inst code.function in let c = clauses T g d 𝓛 𝓜.mem 𝓡.returns in
    let hs : Stays En.signature.params En.kept = (stay_dropped (plain (λ _. G)) no, (stay_dropped (plain (λ _. u64)) yes, tt)) in
    proved 𝓛 En hs c 𝓜 𝓡 (Goes-dropped 𝓛 1 (plain (λ _. G)) no (λ κs x f. refl), (Goes-dropped 𝓛 1 (plain (λ _. u64)) yes (λ κs x f. refl), tt)) (#self inst) fn (code.unfolded 𝓤 H 𝓜 𝓡 wired (T, tt) d)
    (λ κs. ((λ x. token ∷ []), (uint_vals w64, tt))) (λ κs. ((λ x vs is. token_told (Gains R Reading.the_row) vs is.0), (uint_Tells w64, tt))) (λ κs qs bounds a gh are.
    let gained = a.0 in let n : ℕ = a.1.0 in let ss = nodes_in gained.answer.all in let life : ℕ = life_of gained.names in
    let y : (walk_of 𝓛 En hs c).Ghost = ((κs, qs, bounds, a, (token ∷ [], (vint w64 n ∷ [], tt))), gh) in let Post : Val → SProp 𝓤 = (walk_of 𝓛 En hs c).post y in
    qed 𝓛 ((raw (alive 𝓛 En.signature κs qs) ⊛ ‵ (owns (types_at En.signature.params κs) a y.0.4)) ∷ raw (fact 𝓤 _) ∷ raw (fact 𝓤 (n < length ss)) ∷ []) ∵ keep ! (2 ∷ 0 ∷ []) $ heard ! (n < length ss) (λ inside. split ! $
    let found = is_there ss n inside in let s : Site R.Denot = found.0 in
    move ! (1 ∷ []) $ fsplit ! $ fsplit ! $ keep ! (1 ∷ 3 ∷ []) $ use1 𝓛 (‵ (lent P life s.0 s.1)) (picked 𝓛 R (param_laws 0 T L) gained.names ss n s found.1) $
    -- [the right; what is alive]
    enter ! 𝓣.C 𝓣.Λ fn (token ∷ vint w64 n ∷ []) Post $ alloc_all ! (λ ls. pass_all ! refl ((tt, (tt, tt)), ((tt, record { fits = are.1.0.1 }), tt)) $
    use0 𝓛 (‵ ((Token P).own_val (record {}, tt) (token ∷ []))) (token_made P 𝓛) $ fjoin ! $
    sets ! (agg ! (no_more !)) refl (tt, tt) $ sets ! (agg ! (and_then ! (get ! refl) (no_more !))) refl (tt, (tt, tt)) $
    nothing ! $ nothing ! $ fjoin ! $ nothing ! $ fjoin ! $
    returns ! (look_at ! 0 refl) $ free_all ! refl $ keep ! (2 ∷ 0 ∷ 1 ∷ []) $
    by ! (ends 𝓛 En hs c y token (record { marker = record {}; at = s.0; life = life; value = s.1 }) (tt, (tt, tt)) (tt, (tt, tt)) (fact_i 𝓤 _ (emp 𝓤) (refl, found.1))))))
