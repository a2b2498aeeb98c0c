-- What a line like a feed line says.
use Rattle.std.proofs.Common.{◌≡◌, ℕ, List, true, cond, Some, None, ◌∙◌, ap}
use Rattle.std.specs.Str.{IsUtf8, is_utf8}
use Rattle.std.proofs.lemmas.Str.{is_utf8-from_IsUtf8}
use Rattle.ty_script.specs.declared.event.Event.TheVariants.{Line}
use Rattle.ty_script.specs.Script.{is_like_feed, words, event_of_words, event_of}

pub feed_line_said : (line : List ℕ) → is_like_feed line ≡ true → IsUtf8 line → event_of line ≡ Some (Line line)
unfolding event_of
feed_line_said line like utf8 =
    ap (λ b. cond b (cond (is_utf8 line) (Some (Line line)) None) (event_of_words (words line))) like
    ∙ ap (λ b. cond b (Some (Line line)) None) (is_utf8-from_IsUtf8 line utf8)
