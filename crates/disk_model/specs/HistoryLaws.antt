-- A device that keeps its history is sound.
use Rattle.std.specs.Prelude.{ℕ, ◌<◌, ◌≤◌, List, [], ◌∷◌, length, slice_index, refl}
use Rattle.std.proofs.Common.{inl, inr, arith}
use Rattle.disk_model.specs.declared.history.Entry.{Entry}
use Rattle.disk_model.specs.Disk.{IsSound}
use Rattle.disk_model.specs.History.{DiffersAt, content_before, unsynced_by, left_by, state_of}

pub left_now : (history : List Entry) (content : List ℕ) (moment : ℕ) (left : List ℕ) → DiffersAt (unsynced_by history) content left → left_by history content moment left
left_now [] content moment left now = now
left_now (entry ∷ older) content moment left now = inl now

pub left_only_now : (history : List Entry) (content left : List ℕ) → left_by history content (length history) left → DiffersAt (unsynced_by history) content left
left_only_now [] content left now = now
left_only_now (entry ∷ older) content left (inl now) = now
left_only_now (entry ∷ older) content left (inr earlier) = absurd (omega (arith, earlier.0))

pub left_since_earlier : (history : List Entry) (content : List ℕ) (earlier later : ℕ) (left : List ℕ) → earlier ≤ later → left_by history content later left → left_by history content earlier left
left_since_earlier [] content earlier later left before since = since
left_since_earlier (entry ∷ older) content earlier later left before (inl now) = inl now
left_since_earlier (entry ∷ older) content earlier later left before (inr was) = inr (omega (arith, before, was.0), left_since_earlier older (content_before entry content) earlier later left before was.1)

pub sound_state : (history : List Entry) (content : List ℕ) → ((place : ℕ) → slice_index content place < 256) → IsSound (length content) (state_of history content)
sound_state history content bytes = record {
  size = refl;
  as_read = record { size = refl; bytes = bytes; same = λ place synced. refl };
  loose = λ place loose. absurd loose;
  counts_now = λ moment left earlier now. left_now history content moment left (record { size = now.size; bytes = now.bytes; same = now.same });
  only_now = λ left since. let now = left_only_now history content left since in record { size = now.size; bytes = now.bytes; same = now.same };
  falls = λ earlier later left before reached since. left_since_earlier history content earlier later left before since;
}
