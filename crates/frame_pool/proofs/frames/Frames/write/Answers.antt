use Rattle.std.proofs.Common.{Bool, List, Some, None, set, map, is_some, true, ap, sym, ◌∙◌}
use Rattle.std.proofs.lemmas.List.{map-set}
use Rattle.std.proofs.Math.Seq.{map-set_same}
use Rattle.frame_pool.proofs.FramesWithBytes.{told_written}
use Rattle.frame_pool.proofs.frames.Frames.write.Goals as goal

pub write_over-requires : goal.write_over-requires
write_over-requires c = told_written _ _ c.args.frame _ c.self.view_is c.is_written.ensures c.if-is_written.true

pub invariant_of-self : goal.invariant_of-self
invariant_of-self c =
    let had = told_written _ _ c.args.frame _ c.self.view_is c.is_written.ensures c.if-is_written.true in
    c.self.invariant
    ∙ sym (map-set_same is_some c.self.inside.region c.args.frame (Some c.args.bytes.now) None (sym (ap is_some had.1)))
    ∙ sym (ap (map is_some) c.write_over.ensures)

pub invariant_of-self-else-is_written : goal.invariant_of-self-else-is_written
invariant_of-self-else-is_written c =
    ap (λ (flags : List Bool). set flags c.args.frame true) c.self.invariant
    ∙ sym (map-set is_some c.self.inside.region c.args.frame (Some c.args.bytes.now))
    ∙ sym (ap (map is_some) c.write.ensures)
