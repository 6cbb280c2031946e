use Rattle.std.proofs.Common.{slice_get, ap, ◌∙◌, sym}
use Rattle.shared_cache.specs.CachedBlocks.{CachedState}
use Rattle.shared_cache.proofs.FrameBytes.{bytes_found, bytes_missing}
use Rattle.shared_cache.proofs.cached_blocks.CachedBlocks.bytes.Goals as goal

pub returns-in-Some : goal.returns-in-Some
returns-in-Some c =
    bytes_found c.args.self.now c.in-Some.frame c.args.block _ c.requires c.in-Some.ensures.found
    (ap (λ (held : CachedState). slice_get held.pool.bytes c.in-Some.frame) (sym c.self.view_is) ∙ c.bytes.ensures)

pub returns-in-None : goal.returns-in-None
returns-in-None c = bytes_missing c.args.self.now c.args.block c.in-None.ensures.missing
