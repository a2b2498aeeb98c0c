-- What a pair by value owns. Assumes `Logic`.
use Rattle.ty_account.proofs.Walking.{List, [], ◌∷◌, ◌++◌, refl, Val, vstruct, vcons, vnil, of_list, ent, sep, sem, feq, fsep, RattleType, owns, Valss, Tuple, ‵, ◌$◌, ◌∵◌, !, qed, move, fjoin, fjoin3, fpack, feq_i, done, nothing}
use seplogic.Ra.Ura.{Ura}
use types.Logic.{Logic}

abbrev pub both : Val → Val → Val
both v w = vstruct (vcons v (vcons w vnil))

pub paired : {M : Type 1} {𝓤 : Ura M} (𝓛 : Logic 𝓤) (P Q : RattleType) (x : P.Denot) (y : Q.Denot) (v w : Val)
    → ent 𝓤 (sep 𝓤 (sem 𝓛 (P.own_val x (v ∷ []))) (sem 𝓛 (Q.own_val y (w ∷ [])))) (sem 𝓛 ((Tuple (P ∷ Q ∷ [])).own_val (x, y) (both v w ∷ [])))
paired 𝓛 P Q x y v w = qed 𝓛 (‵ (P.own_val x (v ∷ [])) ∷ ‵ (Q.own_val y (w ∷ [])) ∷ []) ∵
    nothing ! $ move ! (1 ∷ 2 ∷ 0 ∷ []) $ fjoin3 ! $ feq_i ! (List Val) (both v w ∷ []) (both v w ∷ []) refl $ fjoin ! $
    fpack ! (Valss (P ∷ Q ∷ [])) (λ vss. fsep (feq (List Val) (both v w ∷ []) (vstruct (of_list (vss.0 ++ (vss.1.0 ++ []))) ∷ [])) (owns (P ∷ Q ∷ []) (x, (y, tt)) vss)) (v ∷ [], (w ∷ [], tt)) $ done !

abbrev pub all_three : Val → Val → Val → Val
all_three u v w = vstruct (vcons u (vcons v (vcons w vnil)))

pub tripled : {M : Type 1} {𝓤 : Ura M} (𝓛 : Logic 𝓤) (P Q S : RattleType) (x : P.Denot) (y : Q.Denot) (z : S.Denot) (u v w : Val)
    → ent 𝓤 (sep 𝓤 (sem 𝓛 (P.own_val x (u ∷ []))) (sep 𝓤 (sem 𝓛 (Q.own_val y (v ∷ []))) (sem 𝓛 (S.own_val z (w ∷ []))))) (sem 𝓛 ((Tuple (P ∷ Q ∷ S ∷ [])).own_val (x, y, z) (all_three u v w ∷ [])))
tripled 𝓛 P Q S x y z u v w = qed 𝓛 (‵ (P.own_val x (u ∷ [])) ∷ ‵ (Q.own_val y (v ∷ [])) ∷ ‵ (S.own_val z (w ∷ [])) ∷ []) ∵
    nothing ! $ move ! (3 ∷ 0 ∷ []) $ fjoin ! $ move ! (2 ∷ 0 ∷ []) $ fjoin ! $ move ! (1 ∷ 0 ∷ []) $ fjoin ! $ feq_i ! (List Val) (all_three u v w ∷ []) (all_three u v w ∷ []) refl $ fjoin ! $
    fpack ! (Valss (P ∷ Q ∷ S ∷ [])) (λ vss. fsep (feq (List Val) (all_three u v w ∷ []) (vstruct (of_list (vss.0 ++ (vss.1.0 ++ (vss.1.1.0 ++ [])))) ∷ [])) (owns (P ∷ Q ∷ S ∷ []) (x, (y, (z, tt))) vss)) (u ∷ [], (v ∷ [], (w ∷ [], tt))) $ done !
