-- A `&` to a `Known` holds what it knows, which can be had twice. Assumes `Logic`.
use mathlib.Core.List.{[], ◌∷◌}
use denote.RattleType.{RattleType}
use denote.SharingLaws.{held_shr_laws}
use denote.Param.Laws.{Laws}
use denote.Param.Shared.{copy_shared}
use denote.Struct.Laws.{field_copy}
use denote.Struct.Lending.{of_Lends, lent_at, lent_at_shr_laws}
use Rattle.core.specs.contracts.marker.PhantomData as marker
use Rattle.ty_account.specs.steps.Blocks.{lent}
use Rattle.ty_account.specs.contracts.hoard.Known as C
use Rattle.ty_account.proofs.hoard.Known.TheLaw.Statement.{statement}
use Rattle.logbook.proofs.Fields.{lends_twice}

pub shares : (T : RattleType) (L : Laws T) → statement T L
shares T L = of_Lends (C.struct T) (C.the_codes T.Denot T.coded (marker.the_row T).coded) (C.the_heap T) (C.the_lent T)
    (λ d p. held_shr_laws (d.life ∷ []) (lent_at T d.at d.value) (lent_at_shr_laws T L.shr_laws d.at d.value))
    (copy_shared (marker.the_field T) (field_copy (marker.the_type T) tt), tt)
    (λ M 𝓤 𝓛 d p. lends_twice 𝓛 (lent T d.life d.at d.value) ((lent_at_shr_laws T L.shr_laws d.at d.value).contraction M 𝓤 𝓛 (d.life ∷ [])) (C.the_row T).lives)
