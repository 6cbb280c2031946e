use Rattle.nbdj_pipe.proofs.session.pipe.Given as goal

-- the board that was just made
abbrev pub ghosts-pipe_over : goal.ghosts-pipe_over
ghosts-pipe_over g a = record { board = a.blank.board; opening = a.blank.opening }
