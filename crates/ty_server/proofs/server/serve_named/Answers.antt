use Rattle.std.proofs.Common.{rules, ◌≡◌, ◌∙◌, sym, ap, subst, length, map}
use Rattle.std.specs.Prelude.{All}
use Rattle.ty_account.specs.Known.{Known}
use Rattle.ty_server.specs.steps.Posts.{door_of, HasAccount, IsWithin}
use Rattle.ty_server.proofs.Posts.{written_whole, front_account, all_account, all_within, whole_server}
use Rattle.ty_server.proofs.server.serve_named.Goals as goal

pub met-front-requires-clause-fronts : goal.met-front-requires-clause-fronts
met-front-requires-clause-fronts g c =
    let posts = c.deref_mut.result.now in
    let after = c.serve_all-feed.new.posts in
    let same : length posts ≡ length after = search rules in
    let account = ap (λ (k : Known). k.account) (c.front_copy-front.ensures ∙ c.front.ensures.whole) ∙ c.front.ensures.account in
    let fronts : All (HasAccount g.N.Named.account) posts =
    subst (All (HasAccount g.N.Named.account)) (sym c.deref_mut.ensures.value) (front_account g.N.Named.account c.front_copy-front.result c.posts_of.new.posts.items account c.posts_of.ensures.fronts) in
    subst (All (HasAccount g.N.Named.account)) (sym (c.deref.ensures.value ∙ written_whole _ after _ (search rules)))
    (all_account g.D.Door.gave g.D.Door.got g.D.Door.count g.D.Door.sight g.D.Link.Link.sight g.D.Link.Link.count (g.C.Clock.gives c.args.clock.now) g.N.Named.account posts after same c.serve_all-feed.ensures.staffed.each fronts)

pub short_of-short-requires-clause-within : goal.short_of-short-requires-clause-within
short_of-short-requires-clause-within g c =
    let posts = c.deref_mut.result.now in
    let after = c.serve_all-feed.new.posts in
    let same : length posts ≡ length after = search rules in
    subst (All IsWithin) (sym (c.deref-3.ensures.value ∙ written_whole _ after _ (search rules)))
    (all_within g.D.Door.gave g.D.Door.got g.D.Door.count g.D.Door.sight g.D.Link.Link.sight g.D.Link.Link.count (g.C.Clock.gives c.args.clock.now) posts after same c.serve_all-feed.ensures.staffed.each)

pub returns-clause-served : goal.returns-clause-served
returns-clause-served g c =
    let posts = c.deref_mut.result.now in
    let after = c.serve_all-feed.new.posts in
    let same : length posts ≡ length after = search rules in
    let before : map door_of posts ≡ c.args.doors.now.items = ap (map door_of) c.deref_mut.ensures.value ∙ c.posts_of.ensures.doors ∙ ap (λ v. v.items) c.replace.ensures.value in
    whole_server g.D.Door.gave g.D.Door.got g.D.Door.count g.D.Door.sight g.D.Link.Link.sight g.D.Link.Link.count (g.C.Clock.gives c.args.clock.now)
    (record { front = c.met-front.result; feed = c.serve_all-feed.result.0; door = c.failed_first-door.result; short = c.short_of-short.result })
    posts after c.deref.result.now c.deref-2.result.now c.deref-3.result.now c.args.doors.now.items c.doors_of.new.doors.items same c.serve_all-feed.ensures.staffed
    before (c.doors_of.ensures ∙ ap (map door_of) (written_whole _ after _ (search rules)))
    (c.deref.ensures.value ∙ written_whole _ after _ (search rules)) c.met-front.ensures.met
    (c.deref-2.ensures.value ∙ written_whole _ after _ (search rules)) c.failed_first-door.ensures
    (c.deref-3.ensures.value ∙ written_whole _ after _ (search rules)) c.short_of-short.ensures
