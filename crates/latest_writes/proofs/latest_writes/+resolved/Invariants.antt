use Rattle.std.proofs.Common.{length}
use Rattle.latest_writes.proofs.latest_writes.+resolved.Given as goal

abbrev pub decreases-resolved : goal.decreases-resolved
decreases-resolved l = length l.touched.now
