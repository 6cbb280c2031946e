use Rattle.image_files.proofs.targets.StreamTargetTarget.write_zeroes.Given as goal

abbrev pub decreases-loop-left : goal.decreases-loop-left
decreases-loop-left g l = l.left
