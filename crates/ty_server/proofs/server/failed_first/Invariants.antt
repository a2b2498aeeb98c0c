use Rattle.std.proofs.Common.{◌≡◌, drop, map}
use Rattle.ty_server.specs.WholeServer.{first_failed}
use Rattle.ty_server.specs.steps.Posts.{run_of}
use Rattle.ty_server.proofs.server.failed_first.Given as goal

abbrev pub invariant-loop-post : goal.invariant-loop-post
invariant-loop-post g l = record {
  at : l.place ≡ l.post-index;
  owed : first_failed l.post-index (map run_of (drop l.post-index l.posts)) ≡ first_failed 0 (map run_of l.posts);
}
