use Rattle.std.proofs.Common.{◌∙◌, refl, sym}
use Rattle.shared_cache.specs.laws.Ranges.{clean_done, clean_step, same_held}
use Rattle.shared_cache.proofs.cached_blocks.CachedBlocks.clean_through.Goals as goal

pub loop-init : goal.loop-init
loop-init c = record { same = refl; held = c.requires }

pub loop-smaller : goal.loop-smaller
loop-smaller c =
    (clean_step c.loop.self c.clean_front.new.self c.in-Some.field-0 c.args.number c.loop.invariant.held (sym c.in-Some.ensures.front) c.in-Some.ensures.pool c.in-Some.ensures.blocks).1

pub loop-preserved : goal.loop-preserved
loop-preserved c = record {
  same =
      (clean_step c.loop.self c.clean_front.new.self c.in-Some.field-0 c.args.number c.loop.invariant.held (sym c.in-Some.ensures.front) c.in-Some.ensures.pool c.in-Some.ensures.blocks).0
      ∙ c.loop.invariant.same;
  held = c.in-Some.ensures.held;
}

pub returns-clause-blocks : goal.returns-clause-blocks
returns-clause-blocks c =
    same_held c.loop.self c.clean_front.new.self c.in_default.ensures.none c.in_default.ensures.blocks
    ∙ clean_done c.loop.self c.args.number c.loop.invariant.held (sym c.in_default.ensures.front) ∙ c.loop.invariant.same
