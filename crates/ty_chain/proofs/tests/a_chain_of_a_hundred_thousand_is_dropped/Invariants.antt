use Rattle.ty_chain.proofs.tests.a_chain_of_a_hundred_thousand_is_dropped.Given as goal

-- the account that was just opened
abbrev pub ghosts-publish_and_drop : goal.ghosts-publish_and_drop
ghosts-publish_and_drop g a = record { account = a.opening.account }
