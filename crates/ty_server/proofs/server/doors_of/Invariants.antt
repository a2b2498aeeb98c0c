use Rattle.std.proofs.Common.{◌≡◌, ◌≤◌, ◌+◌, ◌++◌, map, vec_len, vec_capacity}
use Rattle.std.specs.Vec.Iter.{into_iter_items, into_iter_len}
use Rattle.ty_server.specs.steps.Posts.{door_of}
use Rattle.ty_server.proofs.server.doors_of.Given as goal

abbrev pub invariant-loop-post : goal.invariant-loop-post
invariant-loop-post g l = record {
  can : (goal.iterator-loop-post g).can_next l.post-iterator;
  ends : (goal.iterator-loop-post g).is_finite l.post-iterator;
  moved : l.doors.items ++ map door_of (into_iter_items l.post-iterator) ≡ map door_of l.fn.posts.items;
  room : vec_len l.doors + into_iter_len l.post-iterator ≤ vec_capacity l.doors;
}
