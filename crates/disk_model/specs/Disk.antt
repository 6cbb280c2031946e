-- What a device is at one moment, what its calls make of it, and what a crash may leave.
--
-- A place is a byte of the device, counted from its start; a set of places is a predicate on them. The definitions
-- bound these sets from above: where fewer places are unsynced than they allow, a crash leaves less.
use Rattle.std.specs.Prelude.{◌≡◌, ℕ, ◌+◌, ◌≤◌, ◌<◌, ◌⊎◌, List, length, slice_index}

-- a device at one moment
pub record State : Type 1 where
  -- the bytes that a read gives
  pub seen : List ℕ
  -- the places written since the last good sync: after a crash any byte may stand there
  pub unsynced : ℕ → Type 0
  -- the places that were unsynced when a write or a sync failed, a failed write's own among them: until a good sync a read may
  -- give any byte there
  pub loose : ℕ → Type 0
  -- a number that doesn't fall
  pub moment : ℕ
  -- what a crash at some moment from that one on may have left, during a call or between two
  pub left_since : ℕ → List ℕ → Type 0

-- the places of `count` bytes from `offset` on
abbrev pub InRange : ℕ → ℕ → ℕ → Type 0
InRange offset count place = (offset ≤ place) × (place < offset + count)

-- no place is unsynced: so it is after a good sync
abbrev pub IsAllSynced : State → Type 0
IsAllSynced state = (place : ℕ) → state.unsynced place → ⊥

-- A device that is found after a crash that left this content: a read gives it, and all of it is synced.
pub record IsFound (content : List ℕ) (state : State) : Type 0 where
  pub seen : state.seen ≡ content
  pub synced : IsAllSynced state

-- no place of the range is unsynced
abbrev pub IsSyncedIn : State → ℕ → ℕ → Type 0
IsSyncedIn state offset count = (place : ℕ) → InRange offset count place → state.unsynced place → ⊥

-- no place is loose, as long as no write or sync failed since the last good sync
abbrev pub IsSteady : State → Type 0
IsSteady state = (place : ℕ) → state.loose place → ⊥

-- What a crash now may leave: as many bytes, any of them at unsynced places, and what a read gives at all others.
pub record MayLeave (state : State) (content : List ℕ) : Type 0 where
  pub size : length content ≡ length state.seen
  pub bytes : (place : ℕ) → slice_index content place < 256
  pub same : (place : ℕ) → (state.unsynced place → ⊥) → slice_index content place ≡ slice_index state.seen place

-- What a crash may leave while a write of `count` bytes at `offset` is under way: any bytes there too.
pub record MayLeaveTorn (state : State) (offset count : ℕ) (content : List ℕ) : Type 0 where
  pub size : length content ≡ length state.seen
  pub bytes : (place : ℕ) → slice_index content place < 256
  pub same : (place : ℕ) → (state.unsynced place → ⊥) → (InRange offset count place → ⊥) → slice_index content place ≡ slice_index state.seen place

-- What reads may give from now on if nothing is written: any bytes at loose places, and the same at all others.
pub record MayRead (state : State) (content : List ℕ) : Type 0 where
  pub size : length content ≡ length state.seen
  pub bytes : (place : ℕ) → slice_index content place < 256
  pub same : (place : ℕ) → (state.loose place → ⊥) → slice_index content place ≡ slice_index state.seen place

-- after a read, good or failed
pub record IsKept (before after : State) : Type 0 where
  pub seen : MayRead before after.seen
  pub unsynced : (place : ℕ) → after.unsynced place → before.unsynced place
  pub loose : (place : ℕ) → after.loose place → before.loose place

-- after a good write of these bytes at `offset`: a read gives them there, and elsewhere what it gave before
pub record IsWritten (before : State) (offset : ℕ) (bytes : List ℕ) (after : State) : Type 0 where
  pub written : (k : ℕ) → k < length bytes → (before.loose (offset + k) → ⊥) → slice_index after.seen (offset + k) ≡ slice_index bytes k
  pub others : (place : ℕ) → (InRange offset (length bytes) place → ⊥) → (before.loose place → ⊥) → slice_index after.seen place ≡ slice_index before.seen place
  pub unsynced : (place : ℕ) → after.unsynced place → before.unsynced place ⊎ InRange offset (length bytes) place
  pub loose : (place : ℕ) → after.loose place → before.loose place

-- after a failed write of `count` bytes at `offset`: any bytes may be read there, and at the other unsynced places
pub record IsWriteFailed (before : State) (offset count : ℕ) (after : State) : Type 0 where
  pub seen : MayLeaveTorn before offset count after.seen
  pub unsynced : (place : ℕ) → after.unsynced place → before.unsynced place ⊎ InRange offset count place
  pub loose : (place : ℕ) → after.loose place → before.unsynced place ⊎ InRange offset count place

-- after a good sync: a crash leaves what a read gives, which is what it gave before but at places that were loose
pub record IsSynced (before after : State) : Type 0 where
  pub seen : MayRead before after.seen
  pub synced : IsAllSynced after

-- after a failed sync: any bytes may be read at the unsynced places
pub record IsSyncFailed (before after : State) : Type 0 where
  pub seen : MayLeave before after.seen
  pub unsynced : (place : ℕ) → after.unsynced place → before.unsynced place
  pub loose : (place : ℕ) → after.loose place → before.unsynced place

-- after a good write of these bytes at `offset` and a good sync
pub record IsStored (before : State) (offset : ℕ) (bytes : List ℕ) (after : State) : Type 0 where
  pub written : (k : ℕ) → k < length bytes → (before.loose (offset + k) → ⊥) → slice_index after.seen (offset + k) ≡ slice_index bytes k
  pub others : (place : ℕ) → (InRange offset (length bytes) place → ⊥) → (before.loose place → ⊥) → slice_index after.seen place ≡ slice_index before.seen place
  pub synced : IsAllSynced after

-- A crash at any moment between two states, the first and the last among them, leaves only what has P.
pub record LeavesOnly (before after : State) (P : List ℕ → Type 0) : Type 0 where
  pub later : before.moment ≤ after.moment
  pub each : (content : List ℕ) → after.left_since before.moment content → P content
  -- of a crash since an earlier moment: it left what it might have left already, or what has P
  pub adds : (moment : ℕ) (content : List ℕ) → moment ≤ before.moment → after.left_since moment content → before.left_since moment content ⊎ P content
  -- nothing that a crash might have left is forgotten
  pub keeps : (moment : ℕ) (content : List ℕ) → moment ≤ before.moment → before.left_since moment content → after.left_since moment content

-- what holds of an honest device of this many bytes at each moment
pub record IsSound (extent : ℕ) (state : State) : Type 0 where
  pub size : length state.seen ≡ extent
  -- a device as it reads is one of the contents that a crash now may leave
  pub as_read : MayLeave state state.seen
  pub loose : (place : ℕ) → state.loose place → state.unsynced place
  -- the present moment is one of those since an earlier one
  pub counts_now : (moment : ℕ) (content : List ℕ) → moment ≤ state.moment → MayLeave state content → state.left_since moment content
  -- from the present moment on there is no other
  pub only_now : (content : List ℕ) → state.left_since state.moment content → MayLeave state content
  -- what a crash since a later moment may have left, it may have left since an earlier one
  pub falls : (earlier later : ℕ) (content : List ℕ) → earlier ≤ later → later ≤ state.moment → state.left_since later content → state.left_since earlier content
