-- The state under the keeper lock.
use Rattle.std.specs.Prelude.{ℕ, ◌≡◌, ◌+◌, ◌≤◌, true, false, List, [], ◌∷◌, ◌++◌, length}
use mathlib.Core.List.{IsPrefix}
use Rattle.device_image.specs.Holds.{Holds, joined}
use Rattle.device_image.specs.Keeper.{KeeperState}
use Rattle.disk_model.specs.Disk.{LeavesOnly, MayLeave, State}
use Rattle.image_model.specs.Change.{Change}
use Rattle.image_model.specs.Image.{Image, apply_all}
use Rattle.marks.specs.Known.{KeeperKnows}
use Rattle.shared_store.specs.Parts.{StandsWithin}

-- a keeper with its seat
pub record SeatedState (D : Type 0) : Type 0 where
  pub seat : KeeperKnows
  pub keeper : KeeperState D

-- a device of no bytes, for names of exports of which nothing is said
abbrev pub empty_device : State
empty_device = record { seen = []; unsynced = λ place. ⊥; loose = λ place. ⊥; moment = 0; left_since = λ moment content. ⊥ }

-- the numbers of the last commands in areas that hold these, one area after another, where the last one in front has this number
abbrev pub ends_of : ℕ → List (List Change) → List ℕ
ends_of number [] = []
ends_of number (front ∷ fronts) = (number + length front) ∷ ends_of (number + length front) fronts

-- What the keeper has stored is a prefix of the history that its seat knows: what map and data hold, then what stands in each area
-- before the last, then what stands in the last. If the device is trusted, the keeper holds just these commands over the image of
-- the opening; after a device fault, whatever a crash leaves has at least these.
pub record IsOfHistory {D : Type 0} (state : D → State) (honest : D → Type 0) (opening : ℕ) (image : Image) (trusted : Type 0) (seat : KeeperKnows) (keeper : KeeperState D) : Type 0 where
  pub copied : List Change
  pub fronts : List (List Change)
  pub last : List Change
  pub base : keeper.base ≡ opening + length copied
  pub turned : keeper.turned ≡ ends_of keeper.base fronts
  pub count : keeper.count ≡ keeper.base + length (joined fronts) + length last
  pub within : IsPrefix ((copied ++ joined fronts) ++ last) seat.history
  pub blocks : keeper.geometry.blocks ≡ image.blocks
  pub sure : trusted → honest keeper.disk
  pub holds : trusted → keeper.failed ≡ false → Holds keeper (state keeper.disk) (apply_all copied image) fronts last
  pub leaves : trusted → keeper.failed ≡ true → (content : List ℕ) → MayLeave (state keeper.disk) content
      → StandsWithin opening image seat.history keeper.count content
  -- what the seat has raised the durable number to is stored, and it knows the base
  pub seat_durable : seat.durable ≤ keeper.count
  pub seat_base : seat.base ≡ keeper.base

-- A crash at any moment from the opening on leaves the image after a prefix of the history.
abbrev pub HasLeft : State → State → ℕ → Image → List Change → Type 0
HasLeft start now opening image history = LeavesOnly start now (StandsWithin opening image history opening)

-- What the keeper has stored is a prefix of the history. If the device is trusted, so is all that a crash may have left since the
-- opening.
pub record KeepsHistory {D : Type 0} (state : D → State) (honest : D → Type 0) (opening : ℕ) (image : Image) (start : State) (trusted : Type 0) (seat : KeeperKnows) (keeper : KeeperState D) : Type 0 where
  pub stored : IsOfHistory state honest opening image trusted seat keeper
  pub passed : trusted → HasLeft start (state keeper.disk) opening image seat.history
