use Rattle.std.proofs.Common.{length, arith, ap, refl}
use Rattle.shared_cache.specs.laws.Lookups.{blocks-put, blocks-write_again, counted_missing, no_frame_now, order_put}
use Rattle.shared_cache.proofs.cached_blocks.CachedBlocks.put.Goals as goal

pub unreachable-requires : goal.unreachable-requires
unreachable-requires c =
    let one = counted_missing c.args.block c.args.self.now c.in-None.ensures.missing in
    let none = no_frame_now c.args.block c.args.self.now c.in-None.ensures.missing (c.in_default.ensures.no_frame.0 refl) in
    let few = c.requires.frames in
    omega (arith, one, few, none.1, ap length none.2)

pub returns-in-Some-clause-blocks : goal.returns-in-Some-clause-blocks
returns-in-Some-clause-blocks c =
    blocks-write_again c.args.self.now c.write_again.new.self c.in-Some.frame c.args.block c.args.number c.args.bytes.now c.frame_of.ensures.held c.in-Some.ensures.found
    c.write_again.ensures.pool c.write_again.ensures.blocks

pub returns-in-Some-clause-order : goal.returns-in-Some-clause-order
returns-in-Some-clause-order c = rw c.write_again.ensures.pool (order_put c.in-Some.frame c.args.number c.args.self.now.pool c.requires.order)

pub returns-in-Ok-clause-blocks : goal.returns-in-Ok-clause-blocks
returns-in-Ok-clause-blocks c =
    blocks-put c.args.self.now c.take.new.self c.assign_dirty.new.self c.in-Ok.frame c.args.block c.args.number c.args.bytes.now c.in-None.ensures.missing
    c.in-Ok.ensures.held c.in-Ok.ensures.free c.in-Ok.ensures.taken c.assign_dirty.ensures.pool c.assign_dirty.ensures.blocks

pub returns-in-Ok-clause-order : goal.returns-in-Ok-clause-order
returns-in-Ok-clause-order c =
    rw c.assign_dirty.ensures.pool (order_put c.in-Ok.frame c.args.number c.take.new.self.pool (rw c.in-Ok.ensures.dirty c.requires.order))
