use Rattle.ty_chain.proofs.tests.a_new_follower_stands_at_what_was_posted_last.Given as goal

-- the account that was just opened
abbrev pub ghosts-enter_late : goal.ghosts-enter_late
ghosts-enter_late g a = record { account = a.opening.account }
