-- The text of one delta, as `json`'s writer gives it.
use Rattle.std.proofs.Common.{◌≡◌, ℕ, List, [], ◌∷◌, ◌++◌, refl, true, ap, ◌∙◌, append_assoc}
use Rattle.std.specs.Prelude.{Option, None, Some}
use Rattle.json.specs.Print.{print, print_from, escape_byte}
use Rattle.ty_base.specs.Kinds.{tells}
use Rattle.ty_base.specs.declared.delta.Kind.{Kind}
use Rattle.ty_base.specs.declared.delta.Kind.TheVariants.{New, Updated, Deleted}
use Rattle.ty_base.specs.declared.delta.Delta.{Delta}
use Rattle.ty_wire.specs.Wire.{delta_text}
use Rattle.ty_wire.specs.steps.Tokens.{delta_tokens}
use Rattle.json.specs.Token.{Token}
use Rattle.ty_group.specs.steps.Pieces.{piece}

by_parts : (k : List ℕ) (kind : Kind) (v : Option (List ℕ)) (t : tells kind v ≡ true) → print (delta_tokens (record { key = k; kind = kind; value = v; told = t })) ≡ delta_text (record { key = k; kind = kind; value = v; told = t })
unfolding print_from escape_byte
by_parts k New None t = refl
by_parts k New (Some v) t = refl
by_parts k Updated None t = refl
by_parts k Updated (Some v) t = refl
by_parts k Deleted None t = refl
by_parts k Deleted (Some v) t = refl

pub print-delta_tokens : (d : Delta) → print (delta_tokens d) ≡ delta_text d
print-delta_tokens d = by_parts d.key d.kind d.value d.told

pub piece_behind : (d : Delta) (text before with_it now : List ℕ) (ts : List Token) → before ≡ text → ts ≡ delta_tokens d → with_it ≡ before ++ print ts → now ≡ with_it ++ 44 ∷ [] → now ≡ text ++ piece d
piece_behind d text before with_it now ts b t w e =
    e ∙ ap (λ (x : List ℕ). x ++ 44 ∷ []) (w ∙ ap (λ (x : List ℕ). x ++ print ts) b ∙ ap (λ (x : List ℕ). text ++ x) (ap print t ∙ print-delta_tokens d)) ∙ append_assoc text (delta_text d) (44 ∷ [])

-- a frame that is written part by part
pub frame_of_parts : (before len first text last : List ℕ) (a b c d : List ℕ) → a ≡ before ++ len → b ≡ a ++ first → c ≡ b ++ text → d ≡ c ++ last → d ≡ before ++ (len ++ (first ++ (text ++ last)))
frame_of_parts before len first text last a b c d p q r s =
    s ∙ ap (λ (x : List ℕ). x ++ last) (r ∙ ap (λ (x : List ℕ). x ++ text) (q ∙ ap (λ (x : List ℕ). x ++ first) p))
    ∙ append_assoc ((before ++ len) ++ first) text last ∙ append_assoc (before ++ len) first (text ++ last) ∙ append_assoc before len (first ++ (text ++ last))
