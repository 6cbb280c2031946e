use Rattle.std.proofs.Common.{sym}
use Rattle.shared_cache.specs.laws.Indexed.{held_before}
use Rattle.shared_cache.specs.laws.Lookups.{blocks-free_frame, without_missing}
use Rattle.shared_cache.proofs.cached_blocks.CachedBlocks.release.Goals as goal

pub returns-in-Some-clause-blocks : goal.returns-in-Some-clause-blocks
returns-in-Some-clause-blocks c =
    (blocks-free_frame c.args.self.now c.free_frame.new.self c.in-Some.frame c.args.block c.frame_of.ensures.held c.in-Some.ensures.found c.free_frame.ensures.pool c.free_frame.ensures.blocks).0

pub returns-in-Some-clause-missing : goal.returns-in-Some-clause-missing
returns-in-Some-clause-missing c =
    (blocks-free_frame c.args.self.now c.free_frame.new.self c.in-Some.frame c.args.block c.frame_of.ensures.held c.in-Some.ensures.found c.free_frame.ensures.pool c.free_frame.ensures.blocks).1

pub returns-in-Some-clause-held_left : goal.returns-in-Some-clause-held_left
returns-in-Some-clause-held_left c frame some = held_before c.in-Some.frame frame _ _ c.free_frame.ensures.pool some

pub returns-in-None-clause-blocks : goal.returns-in-None-clause-blocks
returns-in-None-clause-blocks c = sym (without_missing c.args.block c.args.self.now c.in-None.ensures.missing)
