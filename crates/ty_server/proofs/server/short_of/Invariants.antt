use Rattle.std.proofs.Common.{◌≡◌, ◌≤◌, ◌*◌, take}
use Rattle.std.specs.Prelude.{sum_by}
use Rattle.ty_server.specs.declared.worker.TheConstants.{MOST_LINKS}
use Rattle.ty_server.proofs.server.short_of.Given as goal

abbrev pub invariant-loop-post : goal.invariant-loop-post
invariant-loop-post g l = record {
  sum : l.short ≡ sum_by (λ p. p.worker.short) (take l.post-index l.posts);
  most : l.short ≤ l.post-index * MOST_LINKS;
}
