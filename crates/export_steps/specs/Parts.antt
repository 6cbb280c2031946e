-- The relation between a world and the parts of an export: connections, order and keeper.
use Rattle.std.specs.Prelude.{ℕ, ◌≡◌, ◌+◌, ◌-◌, ◌≤◌, ◌<◌, true, false, if◌then◌else◌, Option, Some, None, IfSome, List, [], ◌∷◌, ◌++◌, length, map, drop, take, slice_index_or}
use Rattle.device_image.specs.Holds.{Holds}
use Rattle.device_image.specs.Keeper.{KeeperState, Phase, One, Copying, Mapped}
use Rattle.device_image.specs.Remembers.{Remembers}
use Rattle.device_image.specs.Stands.{StandsFor}
use Rattle.disk_model.specs.Disk.{State, MayLeave}
use Rattle.image_model.specs.Change.{Change, AreChanges, change_of}
use Rattle.image_model.specs.Image.{Image}
use Rattle.journal_format.specs.Group.{Numbered}
use Rattle.order_book.specs.Order.{OrderState}
use Rattle.order_book.specs.Shown.{ShowsImage}
use Rattle.export_steps.specs.Bench.{BenchState, ConnectionsState}
use Rattle.export_model.specs.declared.connection.Connection.{Connection}
use Rattle.export_model.specs.declared.connection.Connection.TheVariants.{Closed}
use Rattle.image_model.specs.Bodies.{body_bytes}
use Rattle.export_model.specs.Run.{IsReached}
use Rattle.export_model.specs.Checkpoint.{is_turned, last_turned, to_copy}
use Rattle.export_model.specs.World.{World, Stage, area_bytes, dirty_behind, image_after}

-- The content stands for the image after some first commands of the order, `least` of them or more, and for the number
-- of the last of these.
pub record StandsAfter (order : List Change) (image : Image) (opening least : ℕ) (content : List ℕ) : Type 0 where
  pub count : ℕ
  pub reaches : least ≤ count
  pub within : count ≤ length order
  pub stands : StandsFor content (image_after order count image) (opening + count)

-- the commands of an order after the first N, up to another number of them
abbrev pub part : List Change → ℕ → ℕ → List Change
part order from until = take (until - from) (drop from order)

-- how many commands stand before the last area in use
abbrev pub turned_at : Stage → ℕ
turned_at stage = last_turned stage.base stage.turned

-- the commands in each of the areas before the last
abbrev pub fronts_of : List Change → ℕ → List ℕ → List (List Change)
fronts_of order base [] = []
fronts_of order base (first ∷ rest) = part order base first ∷ fronts_of order first rest

abbrev pub fronts_at : Stage → List (List Change)
fronts_at stage = fronts_of stage.order stage.base stage.turned

-- how many blocks each of these areas has to copy
abbrev pub copies_of : List Change → ℕ → List ℕ → List ℕ
copies_of order base [] = []
copies_of order base (first ∷ rest) = to_copy base first order ∷ copies_of order first rest

-- how many of them each leaves to copy, where the first leaves this many, and nothing of the others is copied
abbrev pub lefts_by : List Change → ℕ → List ℕ → List ℕ
lefts_by order left [] = []
lefts_by order left (first ∷ rest) = left ∷ copies_of order first rest

abbrev pub lefts_at : Stage → List ℕ
lefts_at stage = lefts_by stage.order stage.left stage.turned

-- the numbers of commands that are counted from an opening on
abbrev pub numbers_of : ℕ → List ℕ → List ℕ
numbers_of opening [] = []
numbers_of opening (count ∷ counts) = (opening + count) ∷ numbers_of opening counts

-- the commands in the last area
abbrev pub last_commands : Stage → List Change
last_commands stage = part stage.order (turned_at stage) stage.stored

-- where the checkpoint is
abbrev pub phase_at : Stage → Phase
phase_at stage = if is_turned stage.turned then (if stage.mapped then Mapped else Copying stage.left) else One

-- the commands of a group in hand
abbrev pub commands_in : Option Numbered → List Change
commands_in None = []
commands_in (Some group) = map change_of group.commands

-- The order of commands and the group in hand are a world's: what is not stored is the group and what is pending.
pub record IsOrderOf (stage : Stage) (order : OrderState) (group : Option Numbered) : Type 0 where
  pub opening : order.opening ≡ stage.setting.opening
  pub durable : order.durable ≡ stage.setting.opening + stage.durable
  pub sealed : order.sealed ≡ stage.setting.opening + stage.sealed
  pub mark : order.mark ≡ stage.setting.opening + length stage.order
  pub behind : drop stage.stored stage.order ≡ commands_in group ++ map change_of order.pending
  pub hand : stage.sealed ≡ stage.stored + length (commands_in group)
  pub first : IfSome group (λ held. held.first ≡ stage.setting.opening + stage.stored + 1)
  pub some : IfSome group (λ held. 1 ≤ length held.commands)
  pub bodies : order.bodies ≡ map body_bytes (drop stage.durable stage.order)
  pub dirty : order.dirty ≡ dirty_behind stage.cleaned stage
  pub frames : order.frames ≡ stage.setting.frames
  pub blocks : length order.cache.states ≡ stage.setting.geometry.blocks
  pub area : order.area ≡ area_bytes stage
  pub stopped : order.stopped ≡ stage.stopped
  -- the last number has 64 bits
  pub fits : order.mark < 18446744073709551616

-- the keeper, whose device counts this many faults, is a world's
pub record IsKeeperOf {D : Type 0} (stage : Stage) (keeper : KeeperState D) (failures : ℕ) : Type 0 where
  pub geometry : keeper.geometry ≡ stage.setting.geometry
  pub count : keeper.count ≡ stage.setting.opening + stage.stored
  pub base : keeper.base ≡ stage.setting.opening + stage.base
  pub turned : keeper.turned ≡ numbers_of stage.setting.opening stage.turned
  pub lefts : keeper.lefts ≡ lefts_at stage
  pub generation : keeper.generation ≡ stage.generation
  pub phase : keeper.phase ≡ phase_at stage
  pub used : keeper.used ≡ stage.at
  pub failed : keeper.failed ≡ stage.stopped
  pub faults : failures ≡ stage.faults
  -- the image takes the commands, and the keeper remembers those in its last area
  pub takes : AreChanges stage.setting.geometry.blocks stage.order
  pub remembers : Remembers keeper (last_commands stage)

-- what each connection is at
abbrev pub AreConnectionsOf : World → List Connection → Type 0
AreConnectionsOf world connections = (connection : ℕ) → slice_index_or connections connection Closed ≡ world.connections connection

-- The keeper, whose device is in this state, is that of a world: as long as the device hasn't failed the keeper holds the
-- image up to the base and what is stored above it, and whatever a crash may leave reaches all that is stored.
pub record IsDiskOf {D : Type 0} (stage : Stage) (keeper : KeeperState D) (state : State) : Type 0 where
  pub holds : stage.stopped ≡ false → Holds keeper state (image_after stage.order stage.base stage.setting.image) (fronts_at stage) (last_commands stage)
  pub leaves : (content : List ℕ) → MayLeave state content → StandsAfter stage.order stage.setting.image stage.setting.opening stage.stored content

-- What the order knows of the image is that after all of its commands.
abbrev pub Shows : Stage → OrderState → Type 0
Shows stage order = ShowsImage (image_after stage.order (length stage.order) stage.setting.image) order.cache

-- Order, keeper and connections are of a world that a schedule leads to. If the keeper's device is honest, it is of
-- that world too, with the world's opening image, and so is what the order knows of it. A device that the world trusts is.
pub record IsExportOf {D : Type 0} (world : World) (order : OrderState) (keeper : KeeperState D) (failures : ℕ) (connections : ConnectionsState)
    (honest : Type 0) (state : State) : Type 0 where
  pub of_order : IsOrderOf world.stage order connections.group
  pub of_keeper : IsKeeperOf world.stage keeper failures
  pub of_states : AreConnectionsOf world connections.states
  pub flags : connections.flags ≡ world.stage.setting.flags
  pub mode : connections.mode ≡ world.stage.setting.mode
  pub reached : IsReached world
  pub disk : honest → IsDiskOf world.stage keeper state
  pub shows : honest → Shows world.stage order
  pub sure : world.stage.setting.trusted ≡ true → honest

-- the same, and the log of the bench is the world's
pub record IsWorldOf {D : Type 0} (world : World) (order : OrderState) (keeper : KeeperState D) (failures : ℕ) (bench : BenchState)
    (honest : Type 0) (state : State) : Type 0 where
  pub of_export : IsExportOf world order keeper failures bench.connections honest state
  pub log : bench.log ≡ world.log
