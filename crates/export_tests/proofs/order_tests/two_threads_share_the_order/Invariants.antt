use Rattle.export_tests.proofs.order_tests.two_threads_share_the_order.Given as goal

-- the board that was just made
abbrev pub ghosts-share : goal.ghosts-share
ghosts-share g a = record { board = a.start.blank.board; opening = a.start.blank.opening }
