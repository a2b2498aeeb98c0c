use Rattle.ty_bench.proofs.chain_steps.Given as goal

-- the account that was just opened
abbrev pub ghosts-publish_and_follow : goal.ghosts-publish_and_follow
ghosts-publish_and_follow g a = record { account = a.opening.account }
