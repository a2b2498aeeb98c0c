-- A chain that gives the words of a line, of which so many came.
use Rattle.std.proofs.Common.{◌≡◌, ℕ, ◌<◌, List, [], ◌∷◌, length, Option, Some, None, refl, arith, ap}
use Rattle.std.specs.Iterator.Runs.{Run, EachRunFrom}
use Rattle.std.proofs.lemmas.Iterator.{YieldsList}
use Rattle.std.proofs.lemmas.Iterator.Consumers.{YieldsList-turn, YieldsList-end}
use Rattle.ty_script.specs.Script.{event_of_one, event_of_two, event_of_words}

past_three : (ws : List (List ℕ)) → 3 < length ws → None ≡ event_of_words ws
past_three [] h = refl
past_three (a ∷ []) h = absurd (omega arith)
past_three (a ∷ b ∷ []) h = absurd (omega arith)
past_three (a ∷ b ∷ d ∷ []) h = absurd (omega arith)
past_three (a ∷ b ∷ d ∷ e ∷ ws) h = refl

module _ {S A : Type 0} {steps : S → Option A → S → Type 0} {v : A → List ℕ} {s : S} {all : List (List ℕ)} where
  -- the clause `runs` of a chain's last call names the steps that the chain's proof is about
  pub by_steps : {P : Run steps → Type 0} → EachRunFrom steps s P → YieldsList steps v s all → YieldsList steps v s all
  by_steps runs road = road

  pub none : YieldsList steps v s all → (t : S) → steps s None t → None ≡ event_of_words all
  none road t end = ap event_of_words (YieldsList-end road [] s refl None t refl end).0

  pub one : YieldsList steps v s all → (x : A) (s1 t : S) → steps s (Some x) s1 → steps s1 None t → None ≡ event_of_words all
  one road x s1 t first end = ap event_of_words (YieldsList-end road (x ∷ []) s1 (s1, first, refl) None t refl end).0

  pub two : YieldsList steps v s all → (x y : A) (s1 s2 t : S) → steps s (Some x) s1 → steps s1 (Some y) s2 → steps s2 None t
      → event_of_one (v x) (v y) ≡ event_of_words all
  two road x y s1 s2 t first second end = ap event_of_words (YieldsList-end road (x ∷ y ∷ []) s2 (s1, first, (s2, second, refl)) None t refl end).0

  pub three : YieldsList steps v s all → (x y z : A) (s1 s2 s3 t : S) → steps s (Some x) s1 → steps s1 (Some y) s2 → steps s2 (Some z) s3 → steps s3 None t
      → event_of_two (v x) (v y) (v z) ≡ event_of_words all
  three road x y z s1 s2 s3 t first second third end =
      ap event_of_words (YieldsList-end road (x ∷ y ∷ z ∷ []) s3 (s1, first, (s2, second, (s3, third, refl))) None t refl end).0

  pub four : YieldsList steps v s all → (x y z w : A) (s1 s2 s3 t : S) → steps s (Some x) s1 → steps s1 (Some y) s2 → steps s2 (Some z) s3 → steps s3 (Some w) t
      → None ≡ event_of_words all
  four road x y z w s1 s2 s3 t first second third fourth =
      past_three all (YieldsList-turn road (x ∷ y ∷ z ∷ []) s3 (s1, first, (s2, second, (s3, third, refl))) (Some w) t w refl fourth).0
