-- A buffer that takes in items one after another.
use Rattle.std.proofs.Common.{◌≡◌, ℕ, List, [], ◌∷◌, ◌++◌, append_assoc, append-nil, sym, ap, subst, ◌∙◌}
use Rattle.std.specs.Prelude.{Option}
use Rattle.ty_base.specs.declared.item.Item.{Item}
use Rattle.ty_base.specs.declared.status.Status.{Status}
use Rattle.ty_dedupe.specs.Pending.{BufferStands}

abbrev Buffered : Type 0
Buffered = List (List ℕ × Option (List ℕ)) × Option Status

-- of all items those before the rest are in the buffer
pub record DrainsTo (buffer : Buffered) (all rest : List Item) : Type 0 where
  pub taken : List Item
  pub stands : BufferStands buffer taken
  pub whole : taken ++ rest ≡ all

pub taken_none : (buffer : Buffered) (all rest : List Item) → BufferStands buffer [] → rest ≡ all → DrainsTo buffer all rest
taken_none buffer all rest s e = record { taken = []; stands = s; whole = e }

pub taken_more : (now next : Buffered) (all before rest : List Item) (x : Item) → DrainsTo now all before → before ≡ x ∷ rest
    → ((items : List Item) → BufferStands now items → BufferStands next (items ++ x ∷ [])) → DrainsTo next all rest
taken_more now next all before rest x d e more = record {
  taken = d.taken ++ x ∷ [];
  stands = more d.taken d.stands;
  whole = append_assoc d.taken (x ∷ []) rest ∙ ap (λ l. d.taken ++ l) (sym e) ∙ d.whole;
}

pub taken_all : (buffer : Buffered) (all rest : List Item) → DrainsTo buffer all rest → rest ≡ [] → BufferStands buffer all
taken_all buffer all rest d e =
    let P : List Item → Type 0 = BufferStands buffer in
    subst P (sym (append-nil d.taken) ∙ ap (λ l. d.taken ++ l) (sym e) ∙ d.whole) d.stands
