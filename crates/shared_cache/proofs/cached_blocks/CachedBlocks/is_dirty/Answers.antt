use Rattle.std.proofs.Common.{◌∙◌, sym}
use Rattle.shared_cache.specs.laws.Lookups.{is_dirty-frame, is_dirty-missing}
use Rattle.shared_cache.proofs.cached_blocks.CachedBlocks.is_dirty.Goals as goal

pub returns-in-Some : goal.returns-in-Some
returns-in-Some c =
    c.is_dirty.ensures ∙ is_dirty-frame _ c.args.self.now c.in-Some.frame c.args.block c.self.view_is c.frame_of.ensures.held c.in-Some.ensures.found

pub returns-in-None : goal.returns-in-None
returns-in-None c = sym (is_dirty-missing c.args.block c.args.self.now c.in-None.ensures.missing)
