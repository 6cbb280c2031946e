use Rattle.std.proofs.Common.{◌∙◌}
use Rattle.server_tests.proofs.SnapshotIsRight.{vouched}
use Rattle.server_tests.proofs.snapshot.SnapshotReadUnlocked.vouch.Goals as goal

pub returns : goal.returns
returns g c = λ fits.
    vouched c.args.self.now.copy.items c.args.bytes.now c.args.self.now.geometry.blocks c.args.self.now.geometry.area c.args.self.now.base _
    c.args._first c.args._span c.args._order.now c.args.geometry.now
    (c.fits.ensures.blocks fits) (c.fits.ensures.area fits) (c.fits.ensures.base fits ∙ c.number.ensures) (c.fits.ensures.whole fits)
    c.requires.noted c.requires.from c.requires.given
