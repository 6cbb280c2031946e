-- A content that an opening refuses stands for no image.
use Rattle.std.proofs.Common.{ℕ, List, length}
use Rattle.device_image.specs.Stands.{StandsFor}
use Rattle.device_image.specs.laws.Sole.{groups_sound, map_sound}
use Rattle.header_slots.specs.laws.Sole.{held_or_none, held_or_bad}
use Rattle.image_model.specs.Image.{Image}
use Rattle.checkpoint.specs.Opening.{IsPassing, IsRefused}
use Rattle.checkpoint.specs.declared.fault.KeeperFault.{KeeperFault}
use Rattle.checkpoint.specs.declared.fault.KeeperFault.TheVariants.{NoMemory, DeviceFault, BadMap, NoHeader, BadHeader, NumbersFull, AreaFull, OutOfOrder, DamagedGroup, NotNow, Failed, AreaSmall}

module _ (content : List ℕ) (image : Image) (number : ℕ) (stands : StandsFor content image number) where
  pub never_refused : (fault : KeeperFault) → IsRefused fault content → (IsPassing fault → ⊥) → ⊥
  never_refused NoMemory refused lasting = lasting tt
  never_refused DeviceFault refused lasting = lasting tt
  never_refused BadMap refused lasting = map_sound content image number stands refused
  never_refused NoHeader refused lasting = held_or_none content (length content) stands.header stands.slot stands.in_force refused
  never_refused BadHeader refused lasting = held_or_bad content (length content) stands.header stands.slot stands.in_force refused
  never_refused NumbersFull refused lasting = refused
  never_refused AreaFull refused lasting = refused
  never_refused OutOfOrder refused lasting = refused
  never_refused DamagedGroup refused lasting = groups_sound content image number stands refused
  never_refused NotNow refused lasting = refused
  never_refused Failed refused lasting = refused
  never_refused AreaSmall refused lasting = refused
