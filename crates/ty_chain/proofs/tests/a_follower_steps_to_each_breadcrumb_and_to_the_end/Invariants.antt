use Rattle.ty_chain.proofs.tests.a_follower_steps_to_each_breadcrumb_and_to_the_end.Given as goal

-- the account that was just opened
abbrev pub ghosts-follow_one : goal.ghosts-follow_one
ghosts-follow_one g a = record { account = a.opening.account }
