use Rattle.std.proofs.Common.{◌∙◌, ap, sym, Some}
use Rattle.std.proofs.lemmas.Result.{IfOk-weaker}
use Rattle.ty_script.proofs.Fitting.{words_fit}
use Rattle.ty_script.specs.Script.{words}
use Rattle.ty_script.proofs.Said.{feed_line_said}
use Rattle.ty_script.proofs.script.read_event.Goals as goal

pub returns-then-is_like_feed-clause-says : goal.returns-then-is_like_feed-clause-says
returns-then-is_like_feed-clause-says c =
    IfOk-weaker c.feed_line.result _ _
    (λ e said. feed_line_said c.args.line.now (sym c.is_like_feed.ensures ∙ c.if-is_like_feed.true) said.1 ∙ ap (λ f. Some f) (sym said.0))
    c.feed_line.ensures.says

pub returns-then-is_like_feed-clause-no_memory : goal.returns-then-is_like_feed-clause-no_memory
returns-then-is_like_feed-clause-no_memory c short =
    feed_line_said c.args.line.now (sym c.is_like_feed.ensures ∙ c.if-is_like_feed.true) (c.feed_line.ensures.no_memory short)

pub returns-in-Some-clause-fits : goal.returns-in-Some-clause-fits
returns-in-Some-clause-fits c = words_fit c.args.line.now (words c.args.line.now) c.in-Some.event (sym c.event_in_words.ensures ∙ c.in-Some.is)
