use Rattle.ty_server.proofs.tests.a_client_is_greeted_and_served_or_left.Given as goal

-- the account that was just opened
abbrev pub ghosts-serve_one : goal.ghosts-serve_one
ghosts-serve_one g a = record { account = a.opening.account }
