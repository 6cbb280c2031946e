use Rattle.std.proofs.Common.{◌∙◌, refl, sym}
use Rattle.std.proofs.lemmas.Bool.{false≢true}
use Rattle.shared_cache.specs.laws.Lookups.{blocks-fill, is_cached-frame, no_frame_now}
use Rattle.shared_cache.proofs.cached_blocks.CachedBlocks.fill.Goals as goal

pub returns-in-Some-clause-ok : goal.returns-in-Some-clause-ok
returns-in-Some-clause-ok c = rw (is_cached-frame c.args.self.now c.in-Some.field-0 c.args.block c.in-Some.ensures.found) refl

pub returns-in-Some-clause-no_frame : goal.returns-in-Some-clause-no_frame
returns-in-Some-clause-no_frame c =
    (λ e. absurd (false≢true e), λ has. sym has.0 ∙ is_cached-frame c.args.self.now c.in-Some.field-0 c.args.block c.in-Some.ensures.found)

pub returns-in-Err-clause-no_frame : goal.returns-in-Err-clause-no_frame
returns-in-Err-clause-no_frame c =
    (λ _. no_frame_now c.args.block c.args.self.now c.in-None.ensures.missing (c.in-Err.ensures.no_frame.0 refl), λ _. refl)

pub returns-in-Ok-clause-ok : goal.returns-in-Ok-clause-ok
returns-in-Ok-clause-ok c =
    blocks-fill c.args.self.now c.take.new.self c.assign_clean.new.self c.in-Ok.frame c.args.block c.args.bytes.now c.in-None.ensures.missing
    c.in-Ok.ensures.held c.in-Ok.ensures.free c.in-Ok.ensures.taken c.assign_clean.ensures.pool c.assign_clean.ensures.blocks
