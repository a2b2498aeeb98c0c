-- `begin` makes the numbers that the book, the pen and the last holder share, and gives the book the first node.
use Rattle.ty_account.proofs.Walking.{◌≡◌, ℕ, List, [], ◌∷◌, refl, Val, vptr, named, a_type, dcons, dnil, inst_fn, SProp, emp, id⊢, full_share, tables, ‵, raw, ◌⊛◌, some, later, ◌$◌, ◌∵◌, !, qed, by, move, keep, split, split3, fsplit, fjoin, fpack, pick, heard, rewrite, await, use0, use1, use3, no_more, and_then, returns, enter, alloc_all, pass_all, free_all, look_at, get, sets, agg, Ptr, RattleType, RefOf, owns, types_at, unit, yes, no, plain, nothing, unhide, alive, fact, fact_i, Stays, stay_dropped, Goes-dropped, walk_of, proved, token, Token, token_told, token_made, ends, shr_vals, shr_Tells, param, bounded, Tuple}
use Rattle.std.specs.Prelude.{Bool, false, Some}
use base.Share.{quarter, three_quarters}
use Rattle.logbook.specs.Kept.{part}
use Rattle.ty_account.specs.contracts.node.Place as Place
use Rattle.ty_account.specs.contracts.hoard.Known as Known
use Rattle.ty_account.specs.contracts.hoard.Deeds as Deeds
use Rattle.ty_account.specs.contracts.right.Right as Right
use Rattle.ty_account.specs.contracts.last.Last as Last
use Rattle.ty_account.specs.declared.history.Mark.{Mark}
use Rattle.ty_account.specs.declared.history.Mark.TheVariants.{Opened}
use Rattle.ty_account.specs.steps.Blocks.{all_deeds}
use Rattle.ty_account.specs.steps.Rights.{owed}
use Rattle.ty_account.proofs.Pairs.{all_three, tripled}
use Rattle.ty_account.proofs.Rights.{Begun, begun}
use Rattle.ty_account.proofs.Rows.{StartRow, Starts}
use Rattle.ty_account.specs.contracts.right.Right.begin.{ended, clauses}
use Rattle.ty_account.specs.contracts.right.Right.begin.Key.{name as #self}
use Rattle.ty_account.proofs.right.Right.begin.Statement.{statement}
use Rattle.ty_account.proofs.right.Right.begin.Code as code

pub begin_spec : {M : Type 1} → statement M
begin_spec 𝓤 𝓛 𝓜 𝓡 wired T L g d _ =
    let H = 𝓛.H in let 𝓣 = tables 𝓤 H 𝓜 𝓡 𝓡.env in let R : RattleType = param 0 T in let P : RattleType = Place.the_row R in let K : RattleType = Known.the_row P in let D : RattleType = Deeds.the_row P in let S : RattleType = StartRow R g in let En = ended T g d in
    let inst = bounded (a_type ∷ []) (T, tt) (dcons d dnil) in let fn = inst_fn inst code.function in let c = clauses T g d 𝓛 𝓜.mem 𝓡.returns in
    let known = RefOf (0 ∷ []) tt (plain (λ _. K)) (λ _. tt) in let hs : Stays En.signature.params En.kept = (stay_dropped known yes, (stay_dropped (plain (λ _. D)) no, tt)) in
    proved 𝓛 En hs c 𝓜 𝓡 (Goes-dropped 𝓛 2 known yes (λ κs x f. refl), (Goes-dropped 𝓛 2 (plain (λ _. D)) no (λ κs x f. refl), tt)) (#self inst) fn (code.unfolded 𝓤 H 𝓜 𝓡 wired (T, tt) d)
    (λ κs. (shr_vals, ((λ x. token ∷ []), tt))) (λ κs. (shr_Tells (named 0) κs.0 K, ((λ x vs is. token_told P vs is.0), tt))) (λ κs qs bounds a gh are.
    let k = a.0.now in let ds = a.1.0 in let p : Val = vptr a.0.ref_ptr.0 a.0.ref_ptr.1 in let Asked : Type 0 = (ds.life ≡ k.life) × (ds.lots ≡ (k.at, k.value) ∷ []) in
    let y : (walk_of 𝓛 En hs c).Ghost = ((κs, qs, bounds, a, (p ∷ [], (token ∷ [], tt))), gh) in let Post : Val → SProp 𝓤 = (walk_of 𝓛 En hs c).post y in
    qed 𝓛 ((raw (alive 𝓛 En.signature κs qs) ⊛ ‵ (owns (types_at En.signature.params κs) a y.0.4)) ∷ raw (fact 𝓤 _) ∷ raw (fact 𝓤 Asked) ∷ []) ∵ keep ! (2 ∷ 0 ∷ []) $ heard ! Asked (λ asked. split ! $
    move ! (1 ∷ []) $ fsplit ! $ fsplit ! $ move ! (1 ∷ []) $ unhide ! $ fsplit ! $ move ! (3 ∷ []) $ fsplit ! $ fsplit ! $ keep ! (4 ∷ 1 ∷ 6 ∷ []) $
    rewrite ! 1 (λ (n : ℕ). ‵ (all_deeds P n ds.lots)) asked.0 refl $ rewrite ! 1 (λ (ls : List (Ptr × P.Denot)). ‵ (all_deeds P k.life ls)) asked.1 refl $
    -- [the right to read the first node; its deed; what is alive]
    enter ! 𝓣.C 𝓣.Λ fn (p ∷ token ∷ []) Post $ alloc_all ! (λ l. pass_all ! refl ((tt, tt), ((tt, (tt, tt)), tt)) $
    use0 𝓛 (later (some (λ (δ : ℕ). raw (Begun 𝓛 δ)))) (begun 𝓛) $ await ! tt $ pick ! (λ δ.
    let names : List ℕ = δ ∷ k.life ∷ [] in let h : List (Mark R.Denot) = Opened k.at k.value ∷ [] in let start : S.Denot = record { marker = record {}; names = names; shown = h } in
    let right : Right.the_row.Denot = record { marker = record {}; names = names; held = Some 1 } in let last : Last.the_row.Denot = record { marker = record {}; names = names } in
    use1 𝓛 (‵ (part δ 0 quarter 1) ⊛ ‵ (part δ 0 three_quarters 1) ⊛ ‵ (part δ 1 full_share 0)) (id⊢ 𝓤 _) $ split3 ! $
    -- [the book's part; the pen's; the last right; the right to read; the deed]
    move ! (4 ∷ []) $ fpack ! Bool (owed R names h) false $ move ! (4 ∷ []) $ nothing ! $ move ! (1 ∷ 0 ∷ []) $ fjoin ! $ fjoin ! $ move ! (1 ∷ 0 ∷ []) $ fjoin ! $
    use0 𝓛 (‵ ((Token (Starts R)).own_val (record {}, tt) (token ∷ []))) (token_made (Starts R) 𝓛) $ fjoin ! $
    move ! (1 ∷ []) $ use0 𝓛 (‵ ((Token unit).own_val (record {}, tt) (token ∷ []))) (token_made unit 𝓛) $ fjoin ! $
    move ! (2 ∷ []) $ use0 𝓛 (‵ ((Token unit).own_val (record {}, tt) (token ∷ []))) (token_made unit 𝓛) $ fjoin ! $
    move ! (2 ∷ 1 ∷ 0 ∷ []) $ use3 𝓛 (‵ ((Tuple (S ∷ Right.the_row ∷ Last.the_row ∷ [])).own_val (start, right, last) (all_three token token token ∷ []))) (tripled 𝓛 S Right.the_row Last.the_row start right last token token token) $
    sets ! (agg ! (no_more !)) refl (tt, tt) $ sets ! (agg ! (and_then ! (get ! refl) (no_more !))) refl (tt, (tt, tt)) $ sets ! (agg ! (no_more !)) refl (tt, tt) $ sets ! (agg ! (and_then ! (get ! refl) (no_more !))) refl (tt, (tt, tt)) $
    sets ! (agg ! (no_more !)) refl (tt, tt) $ sets ! (agg ! (and_then ! (get ! refl) (no_more !))) refl (tt, (tt, tt)) $
    sets ! (agg ! (and_then ! (get ! refl) (and_then ! (get ! refl) (and_then ! (get ! refl) (no_more !))))) refl (tt, ((tt, tt), ((tt, tt), ((tt, tt), tt)))) $
    nothing ! $ nothing ! $ fjoin ! $ nothing ! $ fjoin ! $
    returns ! (look_at ! 0 refl) $ free_all ! refl $ keep ! (2 ∷ 0 ∷ 1 ∷ []) $ by ! (ends 𝓛 En hs c y (all_three token token token) (start, right, last) (tt, (tt, tt)) (tt, (tt, tt)) (fact_i 𝓤 _ (emp 𝓤) (refl, refl, refl, refl, refl)))))))
