use Rattle.ty_chain.proofs.tests.followers_in_eight_threads_end_at_one_breadcrumb.Given as goal

-- the account that was just opened
abbrev pub ghosts-fan_out : goal.ghosts-fan_out
ghosts-fan_out g a = record { account = a.opening.account }
