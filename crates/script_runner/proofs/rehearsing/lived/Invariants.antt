use Rattle.script_runner.proofs.rehearsing.lived.Given as goal

-- the board that was just made
abbrev pub ghosts-live : goal.ghosts-live
ghosts-live g a = record { board = a.blank.board; opening = a.blank.opening }
