-- what an opening makes of a device that it has read
use Rattle.std.specs.Prelude.{◌≡◌, [], false}
use Rattle.device_image.specs.Keeper.{KeeperState, One}
use Rattle.device_image.specs.Remembers.{Remembers}

-- the keeper works, one area is in use, and its list is empty
pub record IsRecovered {D : Type 0} (keeper : KeeperState D) : Type 0 where
  pub works : keeper.failed ≡ false
  pub phase : keeper.phase ≡ One
  pub used : keeper.used ≡ 0
  pub turned : keeper.turned ≡ []
  pub lefts : keeper.lefts ≡ []
  pub base : keeper.base ≡ keeper.count
  pub remembers : Remembers keeper []
