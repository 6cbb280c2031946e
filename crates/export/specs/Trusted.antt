-- what is trusted of a device that is served
use Rattle.std.specs.Prelude.{◌≡◌, Option, Some, []}
use Rattle.device_image.specs.Holds.{Holds}
use Rattle.device_image.specs.Keeper.{KeeperState}
use Rattle.device_image.specs.Stands.{stored_image}
use Rattle.disk_model.specs.Disk.{State}
use Rattle.image_model.specs.Image.{Image}
use Rattle.shared_store.specs.Orders.{IsRight, SpanRead}

-- The device of a keeper that has just opened it is honest, and holds this image.
pub record IsTrusted {D : Type 0} (state : D → State) (honest : D → Type 0) (keeper : KeeperState D) (image : Image) : Type 0 where
  pub sure : honest keeper.disk
  pub holds : Holds keeper (state keeper.disk) image [] []

-- the image that map and data of a keeper's device hold
abbrev pub image_found : {D : Type 0} → (D → State) → KeeperState D → Image
image_found state keeper = stored_image (state keeper.disk).seen keeper.geometry keeper.memory.map

-- The device of a keeper that has just opened it is trusted, and each read that a second handle vouches for is right.
pub record IsTrustedWith {D H : Type 0} (state : D → State) (honest : D → Type 0) (vouches : H → SpanRead → Type 0) (keeper : KeeperState D) (second_handle : Option H) (image : Image) : Type 0 where
  pub device : IsTrusted state honest keeper image
  pub reads : (handle : H) → second_handle ≡ Some handle → (read : SpanRead) → vouches handle read → IsRight keeper.count image read
