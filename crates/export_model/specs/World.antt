-- The world of an export: its connections, the order of write commands, and what of it is stored.
use Rattle.std.specs.Prelude.{ℕ, ◌+◌, ◌-◌, ◌&&◌, ◌==◌, Bool, false, nat_le, nat_lt, if◌then◌else◌, List, [], length, drop, take}
use Rattle.image_model.specs.Bodies.{body_bytes, bodies_bytes}
use Rattle.image_model.specs.Change.{Change}
use Rattle.image_model.specs.Dirty.{Dirty, dirty_blocks, frames_suffice}
use Rattle.image_model.specs.Image.{Image, apply_all}
use Rattle.image_model.specs.Layout.{area_size_of, areas_of}
use Rattle.image_model.specs.declared.geometry.Geometry.{Geometry}
use Rattle.nbd_wire.specs.declared.message.SessionFlags.{SessionFlags}
use Rattle.export_model.specs.declared.connection.Connection.{Connection}
use Rattle.export_model.specs.declared.connection.Connection.TheVariants.{Idle, Closed}
use Rattle.export_model.specs.declared.event.Event.{Event}
use Rattle.export_model.specs.declared.step.Mode.{Mode}

-- what stays as it is as long as the device isn't opened again
pub record Setting : Type 0 where
  pub geometry : Geometry
  pub flags : SessionFlags
  pub mode : Mode
  -- how many connections there are, and the most blocks that may be dirty
  pub connections : ℕ
  pub frames : ℕ
  -- what the opening left: the image, all of it in map and data, the number of its last command, and the generation of the
  -- header in force
  pub image : Image
  pub opening : ℕ
  pub generation : ℕ
  -- how many faults the device had counted when it was opened
  pub failures : ℕ
  -- whether the device is trusted to follow the disk model
  pub trusted : Bool

-- What an order and a keeper show of a world. Commands are counted from the opening on: the number of the first is the
-- opening's and one.
pub record Stage : Type 0 where
  pub setting : Setting
  -- the order of write commands
  pub order : List Change
  -- how many commands are in groups, stored, and durable
  pub sealed : ℕ
  pub stored : ℕ
  pub durable : ℕ
  -- where in its area of the journal the next group begins
  pub at : ℕ
  -- how many commands map and data hold
  pub base : ℕ
  -- of each area in use but the last, in the order of the ring, how many commands were stored when the next came into use
  pub turned : List ℕ
  -- how many blocks of the first of several areas in use are left to copy, and whether the map after that area is written
  pub left : ℕ
  pub mapped : Bool
  -- of how many commands, from the first on, the frames of dirty blocks were let go
  pub cleaned : ℕ
  -- the generation of the header in force
  pub generation : ℕ
  -- whether a call of the device has failed, and how many faults it has counted
  pub stopped : Bool
  pub faults : ℕ

pub record World : Type 0 where
  pub stage : Stage
  -- what each step did, the first of them first
  pub log : List Event
  -- of each connection the place in the log where it sent its last request, of each command that of its request
  pub places : ℕ → ℕ
  pub paired : ℕ → ℕ
  -- of each READ and BLOCK_STATUS that was answered with what an image holds, by the place in the log where it was sent, how many
  -- commands that image is after
  pub shown : ℕ → ℕ
  pub connections : ℕ → Connection

-- the image after the first `count` commands of an order
abbrev pub image_after : List Change → ℕ → Image → Image
image_after order count image = apply_all (take count order) image

-- the function with another value at one place
abbrev pub put : {X : Type 0} → (ℕ → X) → ℕ → X → ℕ → X
put function place value k = if k == place then value else function k

-- a world in which nothing has happened yet: the opening left an empty journal
abbrev pub fresh : Setting → World
fresh given = record {
  stage = record {
    setting = given;
    order = [];
    sealed = 0;
    stored = 0;
    durable = 0;
    at = 0;
    base = 0;
    turned = [];
    left = 0;
    mapped = false;
    cleaned = 0;
    generation = given.generation;
    stopped = false;
    faults = given.failures;
  };
  log = [];
  places = λ connection. 0;
  paired = λ command. 0;
  shown = λ place. 0;
  connections = λ connection. if nat_lt connection given.connections then Idle else Closed;
}

-- the number of the last command
abbrev pub last_number : World → ℕ
last_number world = world.stage.setting.opening + length world.stage.order

-- the group in hand: the commands that are sealed and not stored
abbrev pub in_hand : World → List Change
in_hand world = take (world.stage.sealed - world.stage.stored) (drop world.stage.stored world.stage.order)

-- the blocks whose last touch by the commands after the first `count` is a write, each with the number of that write
abbrev pub dirty_behind : ℕ → Stage → Dirty
dirty_behind count stage = dirty_blocks (stage.setting.opening + count) (drop count stage.order)

-- whether a command has room: its blocks and the dirty ones in the frames, and its body and those of the commands
-- that aren't durable in 67,108,864 bytes
abbrev pub has_room : World → Change → Bool
has_room world command =
    frames_suffice world.stage.setting.frames (dirty_behind world.stage.cleaned world.stage) (last_number world + 1) command
    && nat_le (bodies_bytes (drop world.stage.durable world.stage.order) + body_bytes command) 67108864

-- how many journal areas there are, and the bytes of each
abbrev pub areas_at : Stage → ℕ
areas_at stage = areas_of stage.setting.geometry.layout

abbrev pub area_bytes : Stage → ℕ
area_bytes stage = area_size_of stage.setting.geometry.layout stage.setting.geometry.area

-- whether the group in hand and the gate after it fit the area
abbrev pub fits : World → Bool
fits world = nat_le (world.stage.at + 17 + bodies_bytes (in_hand world) + 1) (area_bytes world.stage)
