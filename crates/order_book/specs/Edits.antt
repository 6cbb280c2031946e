-- what an edit in bytes becomes over what is in memory of an image
use Rattle.std.specs.Prelude.{ℕ, ◌≡◌, ◌+◌, ◌/◌, ◌%◌, ◌==◌, ◌&&◌, Bool, true, false, not, if◌then◌else◌, List, [], length, slice_index, Option, Some, None}
use Rattle.alloc_map.specs.Codes.{state_at}
use Rattle.device_image.specs.Keeper.{KeeperState}
use Rattle.device_image.specs.Holds.{Holds, joined}
use Rattle.disk_model.specs.Disk.{State}
use Rattle.disk_model.specs.Faults.{counted}
use Rattle.image_model.specs.declared.command.Command.{Command}
use Rattle.image_model.specs.declared.command.Kind.TheVariants.{Data}
use Rattle.image_model.specs.Change.{Change, change_of}
use Rattle.image_model.specs.Edit.{ByteEdit, BytesPut, BytesZeroed, BytesTrimmed, becomes, meets, spans}
use Rattle.image_model.specs.Image.{Image, apply, apply_all}
use Rattle.nbd_wire.specs.Request.{Message}
use Rattle.export_model.specs.Log.{edit_asked, is_write}
use Rattle.export_model.specs.declared.connection.Connection.TheVariants.{Requested}
use Rattle.marks.specs.declared.view.Client.{Client}
use Rattle.marks.specs.Known.{PassState}
use Rattle.order_book.specs.Cached.{ShowsCommand}
use Rattle.order_book.specs.Order.{OrderState, refusal_for, with_command}
use Rattle.order_book.specs.Reading.{IsCleanAt}
use Rattle.order_book.specs.Shown.{ShowsImage}
use Rattle.order_book.specs.declared.fault.OrderFault.{OrderFault}
use Rattle.order_book.specs.declared.fault.OrderFault.TheVariants.{NoMemory, DeviceFault, NumbersFull, Failed, NoRoom, Stopped}
use Rattle.shared_cache.specs.Blocks.{is_cached}
use Rattle.shared_cache.specs.Cache.{CacheState, bytes_seen}

-- whether an edit needs the old bytes of a block: it puts or zeroes some of its bytes, and not all of them
abbrev pub is_in_part : ℕ → ℕ → ℕ → Bool
is_in_part offset count block = meets offset count block && not (spans offset count block)

abbrev pub needs_old : ByteEdit → ℕ → Bool
needs_old (BytesPut offset bytes) block = is_in_part offset (length bytes) block
needs_old (BytesZeroed offset count kind) block = is_in_part offset count block
needs_old (BytesTrimmed offset count) block = false

-- The edit needs the old bytes of the block, which is data and held by no frame.
abbrev pub IsMissing : ByteEdit → CacheState → ℕ → Type 0
IsMissing edit cache block = (needs_old edit block ≡ true) × (state_at cache.states block ≡ Data) × (is_cached block cache.blocks ≡ false)

-- There is such a block.
abbrev pub LacksOld : ByteEdit → CacheState → Type 0
LacksOld edit cache = (block : ℕ) × IsMissing edit cache block

-- the bytes of a block that are in memory, or else these
abbrev pub bytes_or : Option (List ℕ) → List ℕ → List ℕ
bytes_or None other = other
bytes_or (Some bytes) other = bytes

-- the image that is in memory, where of the blocks that are missing one has the bytes `head` and each other one the bytes `tail`
abbrev pub image_with : CacheState → ℕ → List ℕ → List ℕ → Image
image_with cache first head tail = record {
  blocks = length cache.states;
  byte = λ place. slice_index (bytes_or (bytes_seen cache (place / 4096)) (if place / 4096 == first then head else tail)) (place % 4096);
  kind = λ block. state_at cache.states block;
}

-- the image that is in memory, where blocks that are missing are zero
abbrev pub image_in : CacheState → Image
image_in cache = image_with cache 0 [] []

-- Nothing refuses the edit before old bytes that it needs are read, and one of these blocks is missing. The room is that of the
-- command that the edit becomes, which the states alone tell.
pub record NeedsDevice (order : OrderState) (edit : ByteEdit) : Type 0 where
  pub accepted : refusal_for order (becomes edit (image_in order.cache)) ≡ None
  pub lacks : LacksOld edit order.cache

-- The edit is the last command of the order, as what it becomes over this image, and a pass has it as its own, one more than before.
pub record TakesEdit (edit : ByteEdit) (image : Image) (old new : OrderState) (before after : PassState) : Type 0 where
  pub command : Command
  pub is : change_of command ≡ becomes edit image
  pub taken : new ≡ with_command old command
  pub pass : after ≡ record before { history = new.history; accepted = old.mark + 1; own = record { count = before.own.count + 1; last = Some (record { number = old.mark + 1; change = becomes edit image }) }; client = after.client }
  -- what is known then of the image, block by block and as a whole
  pub seen : ShowsCommand (becomes edit image) old.cache new.cache
  pub shown : (other : Image) → ShowsImage other old.cache → ShowsImage (apply (becomes edit image) other) new.cache

-- The image is the order's own: memory shows it, and the keeper of an honest device holds what the order has clean.
pub record IsKnownBy {D : Type 0} (state : D → State) (honest : D → Type 0) (keeper : KeeperState D) (order : OrderState) (image : Image) : Type 0 where
  pub sure : honest keeper.disk
  pub base : Image
  pub fronts : List (List Change)
  pub last : List Change
  pub holds : Holds keeper (state keeper.disk) base fronts last
  pub shows : ShowsImage image order.cache
  pub clean : IsCleanAt base (joined fronts) image order.dirty

-- A client has asked for the edit, and where the device is trusted memory shows what the history made of the image.
pub record HasAskedEdit (trusted : Type 0) (image : Image) (order : OrderState) (edit : ByteEdit) (client : Client) : Type 0 where
  pub speaks : client.speaks ≡ true
  pub request : Message
  pub asks : client.state ≡ Requested request
  pub write : is_write request ≡ true
  pub asked : edit_asked request ≡ edit
  pub shows : trusted → ShowsImage (apply_all order.history image) order.cache

-- the keeper after an edit was refused, and its device as it then is: memory may be refused once the device was read
abbrev pub keeper_after : {D : Type 0} → OrderFault → KeeperState D → D → KeeperState D
keeper_after NoMemory keeper disk = record keeper { disk = disk }
keeper_after DeviceFault keeper disk = record keeper { disk = disk; failed = true }
keeper_after NumbersFull keeper disk = keeper
keeper_after Failed keeper disk = keeper
keeper_after NoRoom keeper disk = keeper
keeper_after Stopped keeper disk = keeper

-- the number of faults of the device after an edit was refused
abbrev pub faults_after : OrderFault → ℕ → ℕ
faults_after NoMemory faults = faults
faults_after DeviceFault faults = counted faults
faults_after NumbersFull faults = faults
faults_after Failed faults = faults
faults_after NoRoom faults = faults
faults_after Stopped faults = faults
