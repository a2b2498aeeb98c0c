-- The kinds without rules of their own.
use Rattle.std.proofs.Common.{◌≡◌, ℕ, Bool, true, false, List, refl, None}
use Rattle.std.specs.Prelude.{codes}
use Rattle.std.specs.Bool.{Decides}
use Rattle.std.specs.Str.{bytes_eq}
use Rattle.std.proofs.lemmas.Slice.Eq.{bytes_eq-Decides}
use Rattle.serde_json.specs.Data.{Data}
use Rattle.ty_values.specs.Kinds.{spec_of}

refuted : {P : Type 0} (r : Bool) → Decides r P → ¬ P → r ≡ false
refuted true d never = absurd (never (d.0 refl))
refuted false d never = refl

unlike : (kind word : List ℕ) → ¬ (kind ≡ word) → bytes_eq kind word ≡ false
unlike kind word never = refuted (bytes_eq kind word) (bytes_eq-Decides kind word) never

pub no_rules : (kind : List ℕ) (d : Data)
    → ¬ (kind ≡ codes "NetworkPolicy") → ¬ (kind ≡ codes "GlobalNetworkPolicy") → ¬ (kind ≡ codes "Profile")
    → ¬ (kind ≡ codes "NetworkSet") → ¬ (kind ≡ codes "GlobalNetworkSet") → ¬ (kind ≡ codes "HostEndpoint")
    → ¬ (kind ≡ codes "IPPool") → ¬ (kind ≡ codes "Tier") → spec_of kind d ≡ None
no_rules kind d a b c e f g h i =
    rw (
      unlike kind (codes "NetworkPolicy") a,
      unlike kind (codes "GlobalNetworkPolicy") b,
      unlike kind (codes "Profile") c,
      unlike kind (codes "NetworkSet") e,
      unlike kind (codes "GlobalNetworkSet") f,
      unlike kind (codes "HostEndpoint") g,
      unlike kind (codes "IPPool") h,
      unlike kind (codes "Tier") i,
    ) refl
