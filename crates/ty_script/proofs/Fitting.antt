-- What is said is within the limits of a script.
use Rattle.std.proofs.Common.{◌≡◌, ℕ, ◌≤◌, List, [], ◌∷◌, Bool, true, false, cond, ◌&&◌, Option, Some, None, refl, subst, option_map, option_and_then, codes}
use Rattle.std.specs.Prelude.{nat_le}
use Rattle.std.specs.Str.{bytes_eq}
use Rattle.std.proofs.lemmas.Bool.{leb-true}
use Rattle.ty_base.specs.Numbers.{read_number}
use Rattle.ty_script.specs.declared.event.Event.{Event}
use Rattle.ty_script.specs.declared.event.Event.TheVariants.{Join, Step, Get, Hear, Cut, Tick}
use Rattle.ty_script.specs.declared.event.TheConstants.{CLIENTS, GET_BYTES, TICK_MILLISECONDS}
use Rattle.ty_script.specs.Fits.{FitsScript}
use Rattle.ty_script.specs.Script.{number_to, event_of_one, event_of_two, event_of_words}

within : (most n m : ℕ) (a b : Bool) → nat_le 1 n ≡ a → nat_le n most ≡ b → cond (a && b) (Some n) None ≡ Some m → (1 ≤ m) × (m ≤ most)
within most n m false b ea eb h = absurd (cc)
within most n m true false ea eb h = absurd (cc)
within most n m true true ea eb h =
    let e : n ≡ m = cc in
    let P : ℕ → Type 0 = λ k. (1 ≤ k) × (k ≤ most) in
    subst P e (leb-true 1 n ea, leb-true n most eb)

number_within : (most m : ℕ) (o : Option ℕ) → option_and_then (λ n. cond (nat_le 1 n && nat_le n most) (Some n) None) o ≡ Some m → (1 ≤ m) × (m ≤ most)
number_within most m None h = absurd (cc)
number_within most m (Some n) h = within most n m (nat_le 1 n) (nat_le n most) refl refl h

-- an event of one number, whose numbers from 1 to a limit fit
of_number : (line text : List ℕ) (most : ℕ) (make : ℕ → Event) → ((n : ℕ) → (1 ≤ n) × (n ≤ most) → FitsScript line (make n))
    → (e : Event) → option_map make (number_to most text) ≡ Some e → FitsScript line e
of_number line text most make fits e h = go (number_to most text) refl h
  where
    go : (o : Option ℕ) → number_to most text ≡ o → option_map make o ≡ Some e → FitsScript line e
    go None at h = absurd (cc)
    go (Some n) at h =
        let made : make n ≡ e = cc in
        subst (FitsScript line) made (fits n (number_within most n (read_number text) at))

-- one of two ways
either : (line : List ℕ) (e : Event) (b : Bool) (x y : Option Event) → (x ≡ Some e → FitsScript line e) → (y ≡ Some e → FitsScript line e)
    → cond b x y ≡ Some e → FitsScript line e
either line e true x y first second h = first h
either line e false x y first second h = second h

of_one : (line name number : List ℕ) (e : Event) → event_of_one name number ≡ Some e → FitsScript line e
of_one line name number e =
    either line e (bytes_eq name (codes "join")) _ _ (of_number line number CLIENTS (λ n. Join n) (λ n f. f) e) (
    either line e (bytes_eq name (codes "step")) _ _ (of_number line number CLIENTS (λ n. Step n) (λ n f. f) e) (
    either line e (bytes_eq name (codes "hear")) _ _ (of_number line number CLIENTS (λ n. Hear n) (λ n f. f) e) (
    either line e (bytes_eq name (codes "cut")) _ _ (of_number line number CLIENTS (λ n. Cut n) (λ n f. f) e) (
    either line e (bytes_eq name (codes "tick")) _ _ (of_number line number TICK_MILLISECONDS (λ n. Tick n) (λ n f. f) e) (λ h. absurd (cc))))))

of_client : (line client count : List ℕ) (e : Event)
    → option_and_then (λ c. option_map (λ n. Get c n) (number_to GET_BYTES count)) (number_to CLIENTS client) ≡ Some e → FitsScript line e
of_client line client count e h = go (number_to CLIENTS client) refl h
  where
    go : (o : Option ℕ) → number_to CLIENTS client ≡ o → option_and_then (λ c. option_map (λ n. Get c n) (number_to GET_BYTES count)) o ≡ Some e → FitsScript line e
    go None at h = absurd (cc)
    go (Some c) at h = of_number line count GET_BYTES (λ n. Get c n) (λ n f. (number_within CLIENTS c (read_number client) at, f)) e h

of_two : (line name client count : List ℕ) (e : Event) → event_of_two name client count ≡ Some e → FitsScript line e
of_two line name client count e = either line e (bytes_eq name (codes "get")) _ _ (of_client line client count e) (λ h. absurd (cc))

pub words_fit : (line : List ℕ) (ws : List (List ℕ)) (e : Event) → event_of_words ws ≡ Some e → FitsScript line e
words_fit line [] e h = absurd (cc)
words_fit line (a ∷ []) e h = absurd (cc)
words_fit line (a ∷ b ∷ []) e h = of_one line a b e h
words_fit line (a ∷ b ∷ c ∷ []) e h = of_two line a b c e h
words_fit line (a ∷ b ∷ c ∷ d ∷ ws) e h = absurd (cc)
