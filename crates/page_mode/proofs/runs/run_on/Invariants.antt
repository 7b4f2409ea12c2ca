use Rattle.page_mode.proofs.runs.run_on.Given as goal

abbrev pub ghosts-run_from : goal.ghosts-run_from
ghosts-run_from g a = record { left = g.I.Read.remaining a.input; held = g.O.Write.contents a.output }
