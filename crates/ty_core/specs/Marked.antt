-- The marks of a talk, by those that the program keeps.
use Rattle.ty_marks.specs.Marks.{Mark, start, group, ping}
use Rattle.ty_core.specs.declared.client.Mark.{Mark as Kept}
use Rattle.ty_core.specs.declared.client.Mark.TheVariants.{Start, Group, Ping}

abbrev pub the_mark : Kept → Mark
the_mark (Start n) = start n
the_mark (Group n) = group n
the_mark (Ping ts) = ping ts
