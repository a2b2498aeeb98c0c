use Rattle.std.proofs.Common.{◌<◌, ℕ, slice_index_or}
use Rattle.ty_account.specs.Known.{KnowsMore}
use Rattle.ty_server.proofs.server.met.Given as goal

abbrev pub invariant-loop-post : goal.invariant-loop-post
invariant-loop-post g l = record {
  more : KnowsMore l.fn.front l.all;
  met : (k : ℕ) (d : _) → k < l.post-index → KnowsMore (slice_index_or l.posts k d).worker.front l.all;
}
