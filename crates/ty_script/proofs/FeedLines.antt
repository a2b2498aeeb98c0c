-- Lines that begin like a feed line, from a place on.
use Rattle.std.proofs.Common.{◌≡◌, ℕ, ◌+◌, ◌<◌, ◌≤◌, ◌==◌, List, true, false, cond, length, get_or, drop, ◌∙◌, sym, ap}
use Rattle.std.proofs.lemmas.List.{at_drop_more, at_drop_all}
use Rattle.ty_script.specs.Script.{may_lead, is_like_feed}

at : (line : List ℕ) (i : ℕ) → i < length line
    → is_like_feed (drop i line) ≡ cond (may_lead (get_or line i 0)) (is_like_feed (drop (i + 1) line)) (get_or line i 0 == 123)
at line i h = at_drop_more is_like_feed line i 0 h

-- a byte that may lead tells nothing
pub led : (line : List ℕ) (i : ℕ) → i < length line → may_lead (get_or line i 0) ≡ true
    → is_like_feed (drop i line) ≡ is_like_feed line → is_like_feed (drop (i + 1) line) ≡ is_like_feed line
led line i h lead e = sym (ap (λ b. cond b (is_like_feed (drop (i + 1) line)) (get_or line i 0 == 123)) lead) ∙ sym (at line i h) ∙ e

-- the first other byte tells
pub told : (line : List ℕ) (i : ℕ) → i < length line → may_lead (get_or line i 0) ≡ false
    → is_like_feed (drop i line) ≡ is_like_feed line → (get_or line i 0 == 123) ≡ is_like_feed line
told line i h lead e = sym (ap (λ b. cond b (is_like_feed (drop (i + 1) line)) (get_or line i 0 == 123)) lead) ∙ sym (at line i h) ∙ e

-- a blank line is one
pub blank : (line : List ℕ) (i : ℕ) → length line ≤ i → is_like_feed (drop i line) ≡ is_like_feed line → true ≡ is_like_feed line
blank line i h e = sym (at_drop_all is_like_feed line i h) ∙ e
