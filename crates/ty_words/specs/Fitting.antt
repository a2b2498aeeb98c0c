-- Limits of what the words give.
use Rattle.std.specs.Prelude.{◌≤◌, ⊤, ℕ, length, Option, None, Some}
use Rattle.ty_base.specs.declared.limits.TheConstants.{HOST_BYTES}
use Rattle.ty_words.specs.declared.words.Command.{Command}
use Rattle.ty_words.specs.declared.words.Command.TheVariants.{Stream, Follow, FollowAt, Sim, Load, Serve}

-- a follower's host is within the limit of a hello
abbrev pub Fits : Option Command → Type 0
Fits None = ⊤
Fits (Some (Stream from)) = ⊤
Fits (Some (Follow brief)) = ⊤
Fits (Some (FollowAt words)) = length words.host ≤ HOST_BYTES
Fits (Some Sim) = ⊤
Fits (Some (Load number)) = ⊤
Fits (Some (Serve words)) = ⊤
