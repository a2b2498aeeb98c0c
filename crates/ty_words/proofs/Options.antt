-- The options in their turn.
use Rattle.std.proofs.Common.{◌≡◌, ◌∙◌, ap, refl, sym, ℕ, ◌+◌, ◌<◌, ◌≤◌, Bool, true, false, ◌&&◌, ◌||◌, List, [], ◌∷◌, length, get_or, drop, map, Bor}
use Rattle.std.specs.Prelude.{fold}
use Rattle.std.specs.List.{list_all, list_any}
use Rattle.std.specs.Str.{bytes_eq}
use Rattle.std.proofs.lemmas.List.{at_drop_more, at_drop_all}
use Rattle.clap.specs.Walk.{texts}
use Rattle.clap.specs.Words.{App, Rule, Text, with_rule}
use Rattle.ty_words.specs.Cli.{option_rule}

-- a command with these options more
abbrev pub with_options : App → List (Bor Text) → App
with_options a names = fold with_rule a (map option_rule (texts names))

pub one_option_more : (a b : App) (r : Rule) (names : List (Bor Text)) (i : ℕ) (d : Bor Text) {whole : App} → i < length names → b ≡ with_rule a r → r ≡ option_rule (get_or names i d).now → with_options a (drop i names) ≡ whole → with_options b (drop (i + 1) names) ≡ whole
one_option_more a b r names i d here adds is so_far =
    ap (λ (x : App). with_options x (drop (i + 1) names)) (adds ∙ ap (with_rule a) is) ∙ sym (at_drop_more (with_options a) names i d here) ∙ so_far

pub no_option_left : (a : App) (names : List (Bor Text)) (i : ℕ) {whole : App} → length names ≤ i → with_options a (drop i names) ≡ whole → a ≡ whole
no_option_left a names i end so_far = sym (at_drop_all (with_options a) names i end) ∙ so_far

-- all of the names pass
abbrev pub all_pass : (Text → Bool) → List (Bor Text) → Bool
all_pass test names = list_all test (texts names)

pub one_passes : (test : Text → Bool) (names : List (Bor Text)) (i : ℕ) (d : Bor Text) {whole : Bool} → i < length names → test (get_or names i d).now ≡ true → all_pass test (drop i names) ≡ whole → all_pass test (drop (i + 1) names) ≡ whole
one_passes test names i d here passes so_far =
    sym (at_drop_more (all_pass test) names i d here ∙ ap (λ (b : Bool). b && all_pass test (drop (i + 1) names)) passes) ∙ so_far

pub one_fails : (test : Text → Bool) (names : List (Bor Text)) (i : ℕ) (d : Bor Text) {whole : Bool} → i < length names → test (get_or names i d).now ≡ false → all_pass test (drop i names) ≡ whole → false ≡ whole
one_fails test names i d here fails so_far =
    sym (at_drop_more (all_pass test) names i d here ∙ ap (λ (b : Bool). b && all_pass test (drop (i + 1) names)) fails) ∙ so_far

pub none_left : (test : Text → Bool) (names : List (Bor Text)) (i : ℕ) {whole : Bool} → length names ≤ i → all_pass test (drop i names) ≡ whole → true ≡ whole
none_left test names i end so_far = sym (at_drop_all (all_pass test) names i end) ∙ so_far

pub any_of_texts : (name : Text) (names : List (Bor Text)) → list_any (λ (y : Bor Text). bytes_eq y.now name) names ≡ list_any (λ (t : Text). bytes_eq t name) (texts names)
any_of_texts name [] = refl
any_of_texts name (x ∷ xs) = ap (λ (b : Bool). bytes_eq x.now name || b) (any_of_texts name xs)
