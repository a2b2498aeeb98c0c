use Rattle.std.proofs.Common.{subst}
use Rattle.ty_account.specs.Known.{Known, KnowsMore}
use Rattle.ty_chain.proofs.Shown.{knows_trans}
use Rattle.ty_server.proofs.Posts.{met_more}
use Rattle.ty_server.proofs.server.met.Goals as goal

pub loop-post-preserved : goal.loop-post-preserved
loop-post-preserved g c = record {
  more = knows_trans c.args.front c.loop-post.all c.meet.new.front c.loop-post.invariant.more c.meet.ensures.this;
  met = met_more c.args.posts.now c.loop-post.post-index c.post-item.result c.loop-post.all c.meet.new.front c.loop-post-test.true c.post-item.is c.meet.ensures.this
      (let P : Known → Type 0 = λ k. KnowsMore k c.meet.new.front in subst P c.front.ensures c.meet.ensures.that) c.loop-post.invariant.met;
}
