use Rattle.ty_bench.proofs.last_held.Given as goal

-- the account that was just opened
abbrev pub ghosts-publish_and_hold : goal.ghosts-publish_and_hold
ghosts-publish_and_hold g a = record { account = a.opening.account }
