use Rattle.std.proofs.Common.{rules}
use Rattle.frame_pool.proofs.FramesWithBytes.{told_unwritten, told_written}
use Rattle.frame_pool.proofs.frames.Frames.bytes.Goals as goal

pub get-requires : goal.get-requires
get-requires c = told_written _ _ c.args.frame _ c.self.view_is c.is_written.ensures c.if-is_written.true

pub returns-else-is_written : goal.returns-else-is_written
returns-else-is_written c = told_unwritten c.args.self.now c.args.frame _ _ c.is_written.ensures c.if-is_written.false (search rules)
