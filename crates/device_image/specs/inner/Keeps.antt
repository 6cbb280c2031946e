-- what an area lists
use Rattle.std.specs.Prelude.{ℕ, List}
use Rattle.disk_model.specs.Disk.{State}
use Rattle.journal_format.specs.Area.{AreaState}
use Rattle.journal_format.specs.Spelling.{StoredGroup}
use Rattle.device_image.specs.Keeps.{IsListed}

-- the area lists some groups
pub record HoldsListed (area : AreaState) (first : ℕ) (state : State) : Type 0 where
  pub groups : List StoredGroup
  pub listed : IsListed area first groups state
