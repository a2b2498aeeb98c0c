use Rattle.std.proofs.Common.{◌≡◌, ◌∙◌, List, ℕ, ap, sym, subst, arith, length, map}
use Rattle.std.specs.List.{range_with_len}
use Rattle.ty_base.specs.Feed as feed
use Rattle.ty_base.specs.Feed.{cuts, book}
use Rattle.ty_plain.specs.steps.Scans.{NeverFall}
use Rattle.ty_plain.proofs.Books.{closings_rise, here_within, last_within, next_entry, book_step, next_last}
use Rattle.ty_plain.proofs.entries.book.Goals as goal

pub cuts_among-requires : goal.cuts_among-requires
unfolding cuts book
cuts_among-requires c = subst (λ (ps : List ℕ). NeverFall 0 (length c.args.items.now) ps) (sym (c.deref.ensures.value ∙ c.in_ok-closings.ensures)) (closings_rise c.args.ended c.args.items.now)

pub entry-requires-clause-last : goal.entry-requires-clause-last
unfolding cuts book
entry-requires-clause-last c =
    let cs : c.deref-c-items.result.now ≡ feed.cuts c.args.ended c.args.items.now = c.deref-c-items.ensures.value ∙ c.in_ok-cuts.ensures ∙ ap (feed.cuts_after c.args.items.now 0) (c.deref.ensures.value ∙ c.in_ok-closings.ensures) in
    last_within c.args.ended c.args.items.now c.deref-c-items.result.now c.loop-c.c-index c.loop-c.last cs c.loop-c-test.true c.loop-c.invariant.behind

pub entry-requires-clause-here : goal.entry-requires-clause-here
unfolding cuts book
entry-requires-clause-here c =
    let cs : c.deref-c-items.result.now ≡ feed.cuts c.args.ended c.args.items.now = c.deref-c-items.ensures.value ∙ c.in_ok-cuts.ensures ∙ ap (feed.cuts_after c.args.items.now 0) (c.deref.ensures.value ∙ c.in_ok-closings.ensures) in
    here_within c.args.ended c.args.items.now c.deref-c-items.result.now c.loop-c.c-index cs c.loop-c-test.true

pub loop-c-preserved : goal.loop-c-preserved
unfolding cuts book
loop-c-preserved c =
    let cs : c.deref-c-items.result.now ≡ feed.cuts c.args.ended c.args.items.now = c.deref-c-items.ensures.value ∙ c.in_ok-cuts.ensures ∙ ap (feed.cuts_after c.args.items.now 0) (c.deref.ensures.value ∙ c.in_ok-closings.ensures) in
    let ps : c.deref-in-loop-c.result.now ≡ feed.closings c.args.ended c.args.items.now = c.deref-in-loop-c.ensures.value ∙ c.in_ok-closings.ensures in
    record {
      told = book_step c.args.ended c.args.items.now c.loop-c.c-index c.loop-c.book.items c.push.new.self.items c.in_ok-next.next c.loop-c.invariant.told
          (c.in_ok-next.ensures ∙ next_entry c.args.ended c.args.items.now c.deref-in-loop-c.result.now c.deref-c-items.result.now c.loop-c.c-index c.loop-c.last ps cs c.loop-c.invariant.behind)
          c.in_ok-push.ensures.items;
      behind = next_last c.deref-c-items.result.now c.loop-c.c-index;
    }

pub returns : goal.returns
unfolding cuts book
returns c =
    let cs : c.deref-c-items.result.now ≡ feed.cuts c.args.ended c.args.items.now = c.deref-c-items.ensures.value ∙ c.in_ok-cuts.ensures ∙ ap (feed.cuts_after c.args.items.now 0) (c.deref.ensures.value ∙ c.in_ok-closings.ensures) in
    let at : c.loop-c.c-index ≡ length c.deref-c-items.result.now = omega arith in
    c.loop-c.invariant.told ∙ ap (λ n. map (feed.entry c.args.ended c.args.items.now) (range_with_len 1 n)) (at ∙ ap length cs)
