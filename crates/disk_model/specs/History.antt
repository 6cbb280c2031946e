-- What a simulated device did since its last crash: its writes, each with the bytes that it wrote over, and its good
-- syncs. The bytes as they are now and this history give the content at each earlier moment. The entries stand in the
-- order of the calls; a history is read from the newest on.
use Rattle.std.specs.Prelude.{◌≡◌, ℕ, ◌+◌, ◌≤◌, ◌<◌, ◌⊎◌, List, [], ◌∷◌, ◌++◌, length, take, drop, slice_index, slice_index_or}
use Rattle.disk_model.specs.declared.history.Entry.{Entry}
use Rattle.disk_model.specs.declared.history.Entry.TheVariants.{Written, Synced}
use Rattle.disk_model.specs.declared.history.CrashChoice.{CrashChoice}
use Rattle.disk_model.specs.declared.history.CrashChoice.TheVariants.{Fill, Old, New}
use Rattle.disk_model.specs.Disk.{State, InRange}

-- the content with these bytes at `offset`
abbrev pub patched : List ℕ → ℕ → List ℕ → List ℕ
patched content offset bytes = take offset content ++ (bytes ++ drop (length bytes) (drop offset content))

-- where the range of a write ends
abbrev pub entry_end : Entry → ℕ
entry_end (Written write) = write.offset + length write.before.items
entry_end Synced = 0

-- each write lies inside a device of this many bytes
abbrev pub IsInside : List Entry → ℕ → Type 0
IsInside entries size = (k : ℕ) → entry_end (slice_index_or entries k Synced) ≤ size

-- the content before this, given the content after it
abbrev pub content_before : Entry → List ℕ → List ℕ
content_before (Written write) content = patched content write.offset write.before.items
content_before Synced content = content

-- the places written since the last good sync
abbrev pub unsynced_by : List Entry → ℕ → Type 0
unsynced_by [] place = ⊥
unsynced_by (Synced ∷ older) place = ⊥
unsynced_by (Written write ∷ older) place = unsynced_by older place ⊎ InRange write.offset (length write.before.items) place

-- the content at the last good sync, or at the last crash where there was none since
abbrev pub synced_content : List Entry → List ℕ → List ℕ
synced_content [] content = content
synced_content (Synced ∷ older) content = content
synced_content (Written write ∷ older) content = synced_content older (patched content write.offset write.before.items)

-- as many bytes as in `content`, and the same at each other place
pub record DiffersAt (places : ℕ → Type 0) (content left : List ℕ) : Type 0 where
  pub size : length left ≡ length content
  pub bytes : (place : ℕ) → slice_index left place < 256
  pub same : (place : ℕ) → (places place → ⊥) → slice_index left place ≡ slice_index content place

-- what a crash may have left when this many entries stood in the history, or at some moment after that
abbrev pub left_by : List Entry → List ℕ → ℕ → List ℕ → Type 0
left_by [] content moment left = DiffersAt (unsynced_by []) content left
left_by (entry ∷ older) content moment left =
    DiffersAt (unsynced_by (entry ∷ older)) content left ⊎ ((moment ≤ length older) × left_by older (content_before entry content) moment left)

-- the device with this history and these bytes
abbrev pub state_of : List Entry → List ℕ → State
state_of history content = record { seen = content; unsynced = unsynced_by history; loose = λ place. ⊥; moment = length history; left_since = left_by history content }

-- at each of these places that byte, and elsewhere what stood there
pub record IsFilled (places : ℕ → Type 0) (byte : ℕ) (content left : List ℕ) : Type 0 where
  pub filled : (place : ℕ) → places place → slice_index left place ≡ byte
  pub others : (place : ℕ) → (places place → ⊥) → slice_index left place ≡ slice_index content place

-- what a crash leaves by this choice of what was seen, where these places are unsynced and this content is synced
abbrev pub IsLeftBy : CrashChoice → (ℕ → Type 0) → List ℕ → List ℕ → List ℕ → Type 0
IsLeftBy (Fill byte) unsynced synced seen left = IsFilled unsynced byte seen left
IsLeftBy Old unsynced synced seen left = left ≡ synced
IsLeftBy New unsynced synced seen left = left ≡ seen
