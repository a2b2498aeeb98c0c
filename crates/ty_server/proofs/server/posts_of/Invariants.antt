use Rattle.std.proofs.Common.{◌≡◌, ◌≤◌, ◌+◌, ◌++◌, map, vec_len, vec_capacity}
use Rattle.std.specs.List.{All}
use Rattle.std.specs.Vec.Iter.{into_iter_items, into_iter_len}
use Rattle.ty_server.specs.steps.Posts.{door_of, HasFront}
use Rattle.ty_server.proofs.server.posts_of.Given as goal

abbrev pub invariant-loop-door : goal.invariant-loop-door
invariant-loop-door g l = record {
  can : (goal.iterator-loop-door g).can_next l.door-iterator;
  ends : (goal.iterator-loop-door g).is_finite l.door-iterator;
  moved : map door_of l.posts.items ++ into_iter_items l.door-iterator ≡ l.fn.held.items;
  fronts : All (HasFront l.fn.front) l.posts.items;
  room : vec_len l.posts + into_iter_len l.door-iterator ≤ vec_capacity l.posts;
}
