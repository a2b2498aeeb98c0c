-- A `&` to a hoard ends before the hoard's life. Assumes `Logic`.
use mathlib.Core.List.{[], ◌∷◌, ◌++◌}
use seplogic.Ra.Ura.{Ura}
use base.Fraction.{full_share}
use base.Fml.{Lft, fbor, flft}
use base.Before.{before}
use contract.BorrowLft.{meet_⊑_left}
use types.Logic.{Logic, lfts}
use types.Kit.{‵, raw, ◌$◌, ◌∵◌, !, qed, move, use0, use2, updating, now, done}
use types.Tokens.{bor_fracture}
use types.Na.{before-Incl, before_lent}
use denote.Sharing.{ends}
use denote.SharingLaws.{ends_shr_laws}
use denote.Builtin.{unit}
use denote.Param.Shared.{copy_shared}
use denote.Struct.Laws.{field_copy}
use denote.Struct.Lending.{Lends, of_Lends}
use Rattle.core.specs.contracts.marker.PhantomData as marker
use Rattle.ty_account.specs.contracts.hoard.Hoard as C
use Rattle.ty_account.proofs.hoard.Hoard.TheLaw.Statement.{statement}
use Prim.Native.Nat.{ℕ}

-- a borrow of the life's token shows that the borrow ends first
lends_life : {M : Type 1} {𝓤 : Ura M} (𝓛 : Logic 𝓤) (ν : ℕ) (l : Lft) → Lends 𝓛 (flft (ν ∷ []) full_share) (ends (ν ∷ [])) l
lends_life {𝓤 = 𝓤} 𝓛 ν l κ ts inc sp = let α : Lft = ν ∷ [] in
    qed 𝓛 (‵ (fbor κ (flft α full_share)) ∷ raw (lfts 𝓛 ts) ∷ []) ∵ updating ! $ bor_fracture ! tt (λ q. flft α q) full_share $
    use0 𝓛 (‵ (before (α ++ κ) α)) (before-Incl 𝓛 (α ++ κ) α (meet_⊑_left α κ)) $ move ! (1 ∷ 0 ∷ []) $ use2 𝓛 (‵ (before κ α)) (before_lent 𝓛 κ α α) $ now ! $ done !

pub shares : statement
shares = of_Lends C.struct (C.the_codes (marker.the_row unit).coded) C.the_heap C.the_lent (λ d p. ends_shr_laws (d.life ∷ []))
    (copy_shared (marker.the_field unit) (field_copy (marker.the_type unit) tt), tt)
    (λ M 𝓤 𝓛 d p. lends_life 𝓛 d.life C.the_row.lives)
