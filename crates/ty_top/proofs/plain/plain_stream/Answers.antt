use Rattle.std.proofs.Common.{◌≡◌, [], ◌++◌, ◌∙◌, ap, sym, subst, List, length, true}
use Rattle.std.specs.List.{All, range_with_len}
use Rattle.ty_base.specs.declared.entry.Entry.{Entry}
use Rattle.ty_base.specs.Feed.{book}
use Rattle.ty_base.specs.Limits.{deltas_fit}
use Rattle.ty_wire.specs.Wire.{frames}
use Rattle.ty_wire.specs.Talk.{opening, groups_after}
use Rattle.ty_top.proofs.Books.{streamed_whole}
use Rattle.ty_top.proofs.Limits.{book_within}
use Rattle.ty_top.proofs.plain.plain_stream.Goals as goal

pub write_entries-requires : goal.write_entries-requires
write_entries-requires c =
    let P : List Entry → Type 0 = λ es. All (λ e. deltas_fit e.deltas ≡ true) es in
    subst P (sym (c.deref.ensures.value ∙ c.in_ok-book.ensures)) (book_within c.args.items.now c.requires)

pub returns : goal.returns
returns c =
    let book_is : c.deref.result.now ≡ book true c.args.items.now = c.deref.ensures.value ∙ c.in_ok-book.ensures in
    streamed_whole c.args.items.now c.write_entries.new.out.items
    (c.in_ok-write_entries.ensures
    ∙ ap (λ xs. xs ++ frames (groups_after c.deref.result.now 0 (range_with_len 1 (length c.deref.result.now)))) c.in_ok-out.ensures
    ∙ ap (λ es. frames (opening [] 0) ++ frames (groups_after es 0 (range_with_len 1 (length es)))) book_is)
