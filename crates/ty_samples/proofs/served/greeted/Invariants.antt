use Rattle.ty_samples.proofs.served.greeted.Given as goal

-- the account that was just opened
abbrev pub ghosts-serve_once : goal.ghosts-serve_once
ghosts-serve_once g a = record { account = a.opening.account }
