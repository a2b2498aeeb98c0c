-- Which doors the words ask for.
use Rattle.std.specs.Prelude.{Option, None, Some}
use Rattle.ty_words.specs.declared.words.Command.{Command}
use Rattle.ty_words.specs.declared.words.Command.TheVariants.{Stream, Follow, Sim, Load, Serve, FollowAt}
use Rattle.ty_top.specs.declared.wanted.Needs.{Needs as Doors}
use Rattle.ty_top.specs.declared.wanted.Needs.TheVariants.{Nothing, Listen, Dial}

abbrev pub needs_of : Option Command → Doors
needs_of None = Nothing
needs_of (Some (Stream from)) = Nothing
needs_of (Some (Follow brief)) = Nothing
needs_of (Some Sim) = Nothing
needs_of (Some (Load number)) = Nothing
needs_of (Some (Serve words)) = Listen words.at words.workers
needs_of (Some (FollowAt words)) = Dial words.at
