use Rattle.std.proofs.Common.{refl, ap, ◌∙◌, arith}
use Rattle.std.proofs.lemmas.Bool.{le-leb}
use Rattle.shared_cache.specs.Blocks.{available_frames}
use Rattle.shared_cache.specs.Cache.{CacheState}
use Rattle.shared_cache.specs.laws.Ranges.{missing_at_most}
use Rattle.shared_cache.specs.laws.Views.{once_seen}
use Rattle.shared_cache.proofs.cache.Cache.has_frames.Goals as goal

pub returns-then-count-available_frames-clause-enough : goal.returns-then-count-available_frames-clause-enough
returns-then-count-available_frames-clause-enough c =
    let found = c.available_frames-available_frames.ensures ∙ ap (λ (cache : CacheState). available_frames cache.blocks) c.self.view_is in
    let most = missing_at_most c.args.first c.args.count c.args.self.now.blocks in
    let below = c.if-count-available_frames.true in
    (λ is. omega (arith, found, most, below), λ fits. rw (le-leb c.args.count c.available_frames-available_frames.result below) refl)

pub returns-then-count-available_frames-clause-once : goal.returns-then-count-available_frames-clause-once
returns-then-count-available_frames-clause-once c = once_seen c.self.inside.held _ c.self.invariant.held_kept (ap (λ (cache : CacheState). cache.blocks) c.self.view_is)

pub returns-else-count-available_frames-clause-once : goal.returns-else-count-available_frames-clause-once
returns-else-count-available_frames-clause-once c = once_seen c.self.inside.held _ c.self.invariant.held_kept (ap (λ (cache : CacheState). cache.blocks) c.self.view_is)
