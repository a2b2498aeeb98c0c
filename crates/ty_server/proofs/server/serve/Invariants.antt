use Rattle.ty_server.proofs.server.serve.Given as goal

-- the account that was just opened
abbrev pub ghosts-serve_named : goal.ghosts-serve_named
ghosts-serve_named g a = record { account = a.opening.account }
