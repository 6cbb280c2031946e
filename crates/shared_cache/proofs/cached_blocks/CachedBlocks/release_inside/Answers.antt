use Rattle.std.proofs.Common.{ap, ◌∙◌}
use Rattle.image_model.specs.Image.{covers}
use Rattle.shared_cache.specs.Blocks.{BlocksState, without}
use Rattle.shared_cache.specs.laws.Ranges.{covers_true, left_out}
use Rattle.shared_cache.proofs.cached_blocks.CachedBlocks.release_inside.Goals as goal

pub returns-then-block-first-clause-left : goal.returns-then-block-first-clause-left
returns-then-block-first-clause-left c =
    ap (λ (s : BlocksState). without (covers c.args.first c.args.count) s) c.release.ensures.blocks
    ∙ left_out c.args.first c.args.count c.args.block _ (covers_true c.args.first c.args.count c.args.block c.if-first-block.true c.if-block-first.true)
