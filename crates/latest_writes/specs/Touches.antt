-- The last touches of blocks. A place is a byte of the area.
use Rattle.std.specs.Prelude.{ℕ, ◌+◌, ◌-◌, ◌*◌, ◌≤◌, if◌then◌else◌, Option, Some, None}
use Rattle.image_model.specs.Image.{covers}
use Rattle.journal_format.specs.declared.touch.Touch.{Touch}
use Rattle.journal_format.specs.declared.touch.Touch.TheVariants as journal
use Rattle.latest_writes.specs.declared.touch.LastTouch.{LastTouch}
use Rattle.latest_writes.specs.declared.touch.LastTouch.TheVariants.{Put, Clear}

-- what a touch of some blocks is for one of them, this many after the first
abbrev pub touch_within : ℕ → LastTouch → LastTouch
touch_within blocks (Put place) = Put (place + 4096 * blocks)
touch_within blocks (Clear kind) = Clear kind

-- what a touch of this many blocks from `first` on says of a block
abbrev pub said_by : ℕ → ℕ → LastTouch → ℕ → Option LastTouch
said_by first blocks touch block = if covers first blocks block then Some (touch_within (block - first) touch) else None

-- the later of two touches of a block
abbrev pub later : Option LastTouch → Option LastTouch → Option LastTouch
later touch None = touch
later touch (Some second) = Some second

-- the bytes of a put of this many blocks end at this place at the latest
abbrev pub HasBytesWithin : ℕ → ℕ → LastTouch → Type 0
HasBytesWithin end blocks (Put place) = place + 4096 * blocks ≤ end
HasBytesWithin end blocks (Clear kind) = Unit {0}

-- a touch by an area that begins at this place of the device, as its journal has it
abbrev pub on_device : ℕ → LastTouch → Touch
on_device from (Put place) = journal.Put (from + place)
on_device from (Clear kind) = journal.Clear kind

abbrev pub touch_on_device : ℕ → Option LastTouch → Option Touch
touch_on_device from None = None
touch_on_device from (Some touch) = Some (on_device from touch)
