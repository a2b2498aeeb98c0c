use Rattle.ty_server.proofs.tests.a_worker_serves_one_client_after_another.Given as goal

-- the account that was just opened
abbrev pub ghosts-run_once : goal.ghosts-run_once
ghosts-run_once g a = record { account = a.opening.account }
