-- The invariant of a board, which each step keeps: its words, the history, what each seat knows of them, and the log, if one is kept.
-- All words but the first two are always 0: a step that changes no number is an exchange on one of these.
use Rattle.std.specs.Prelude.{ℕ, ◌≡◌, ◌≤◌, ◌+◌, ◌<◌, true, false, None, List, [], ◌∷◌, length, replicate}
use mathlib.Core.Option.{some}
use mathlib.Core.List.{IsPrefix}
use lib.ListN.{get_elem?}
use Rattle.atomic_table.specs.Table.{State}
use Rattle.image_model.specs.Change.{Change}
use Rattle.image_model.specs.Image.{Image}
use Rattle.export_model.specs.OneLog.{events_of}
use Rattle.export_model.specs.World.{World as LogWorld}
use Rattle.export_model.specs.declared.connection.Connection.TheVariants.{Idle}
use Rattle.export_model.specs.declared.step.Mode.{Mode}
use Rattle.export_model.specs.laws.Good.{IsGood}
use Rattle.export_model.specs.laws.Knows.{Knows}
use Rattle.marks.specs.Client.{nobody}
use Rattle.marks.specs.declared.said.Said.{Said}
use Rattle.marks.specs.declared.view.Transcript.{Transcript}
use Rattle.marks.specs.declared.view.View.{View}

-- What there is to be known: the number before the first command, the history, the durable number, the base, and which seats raise
-- them.
pub record World : Type 0 where
  pub opening : ℕ
  pub history : List Change
  pub durable : ℕ
  pub base : ℕ
  pub order : ℕ
  pub keeper : ℕ

-- A seat knows a beginning of the history and no greater numbers than there are; the one that raises something knows it as it
-- is, and no other raises it.
pub record Fits (world : World) (seat : ℕ) (view : View) : Type 0 where
  pub opened : view.spent ≡ false → view.opening ≡ world.opening
  pub seen : IsPrefix view.seen world.history
  pub durable : view.durable ≤ world.durable
  pub base : view.base ≤ world.base
  pub told : IsPrefix view.told world.history
  pub told_durable : view.told_durable ≤ world.durable
  pub told_base : view.told_base ≤ world.base
  pub as_order : view.raises_accepted ≡ true → (seat ≡ world.order) × (view.seen ≡ world.history)
  pub as_keeper : view.raises_durable ≡ true → (seat ≡ world.keeper) × (view.durable ≡ world.durable) × (view.base ≡ world.base)

-- The log with the world of an export whose connections the clients are; which seat makes them, how many were made, and which seat has
-- each.
pub record Room : Type 0 where
  pub world : LogWorld
  pub maker : ℕ
  pub made : ℕ
  pub holder : ℕ → ℕ

-- A client's seat has it, and knows what it sent, was answered and is at; of the history it knows all that was told before it sent its
-- last request.
pub record FitsClient (room : Room) (seat : ℕ) (view : View) : Type 0 where
  pub here : room.holder view.client.by ≡ seat
  pub made : view.client.by < room.made
  pub mine : events_of view.client.by room.world.log ≡ view.client.mine
  pub state : room.world.connections view.client.by ≡ view.client.state
  pub alone : view.gathered ≡ []
  pub knows : Knows room.world view.client.by (length view.seen)

-- each client that is gone is had by this seat, and all that the log has of it is known
abbrev pub AreGathered : Room → ℕ → List Transcript → Type 0
AreGathered room seat [] = Unit {0}
AreGathered room seat (t ∷ ts) = (room.holder t.by ≡ seat) × (t.by < room.made) × (events_of t.by room.world.log ≡ t.events) × AreGathered room seat ts

pub record FitsLog (room : Room) (seat : ℕ) (view : View) : Type 0 where
  pub as_maker : view.makes ≡ true → (seat ≡ room.maker) × (view.made ≡ room.made)
  pub as_client : view.client.speaks ≡ true → FitsClient room seat view
  pub gathered : AreGathered room seat view.gathered

-- The history is the order of a world that each step of a connection keeps good, and each seat fits. A client that wasn't made has done
-- nothing.
pub record IsLogged (trusted : Type 0) (mode : Mode) (image : Image) (opening : ℕ) (history : List Change) (durable : ℕ) (views : List View) : Type 0 where
  pub room : Room
  pub good : IsGood trusted room.world
  pub mode_is : room.world.stage.setting.mode ≡ mode
  pub image_is : room.world.stage.setting.image ≡ image
  pub opened : room.world.stage.setting.opening ≡ opening
  pub order : room.world.stage.order ≡ history
  pub stored : opening + room.world.stage.durable ≡ durable
  pub unmade : (by : ℕ) → room.made ≤ by → (events_of by room.world.log ≡ []) × (room.world.connections by ≡ Idle) × Knows room.world by 0
  pub each : (seat : ℕ) (view : View) → get_elem? views seat ≡ some view → FitsLog room seat view

-- what is durable was accepted, and each seat fits
pub record IsBoard (logs trusted : Type 0) (mode : Mode) (image : Image) (table : State Said View) : Type 0 where
  pub world : World
  pub words : table.words ≡ (world.opening + length world.history) ∷ world.durable ∷ replicate 526 0
  pub ordered : world.durable ≤ world.opening + length world.history
  pub each : (seat : ℕ) (view : View) → get_elem? table.views seat ≡ some view → Fits world seat view
  pub logged : logs → IsLogged trusted mode image world.opening world.history world.durable table.views

-- the first seat has all rights, the history is empty, and the numbers are the opening's
abbrev pub first_view : ℕ → View
first_view number = record {
  raises_accepted = true;
  raises_durable = true;
  makes = true;
  spent = false;
  opening = number;
  seen = [];
  durable = number;
  base = number;
  told = [];
  told_durable = 0;
  told_base = 0;
  commands = 0;
  own = None;
  client = nobody;
  made = 0;
  gathered = [];
}
