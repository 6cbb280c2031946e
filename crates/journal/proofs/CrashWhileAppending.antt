-- What a crash may leave while a group is written after its gate, and the gate then opened.
use Rattle.std.proofs.Common.{◌≡◌, inl, inr, ℕ, ◌+◌, List, [], ◌∷◌, length, slice_index, subst, add-zero, sym, ◌∙◌, arith}
use Rattle.disk_model.specs.Disk.{State, InRange, IsSyncedIn, IsSound, IsStored, IsWritten, MayLeaveTorn}
use Rattle.disk_model.specs.laws.Contents.{stored_first}
use Rattle.journal_format.specs.GroupList.{StandsAt}
use Rattle.journal_format.specs.inner.GroupList.{LeavesGateOrBytes, IsOpenBefore}

-- the body is torn, and the gate is as it was
module _ (extent : ℕ) (before : State) (gate : ℕ) (bytes : List ℕ) (sound : IsSound extent before) (stable : IsSyncedIn before gate (1 + length bytes)) where
  pub torn_body : (content : List ℕ) → MayLeaveTorn before (gate + 1) (length bytes) content → LeavesGateOrBytes before gate bytes content
  torn_body content left = record {
    others = record {
      size = left.size;
      bytes = left.bytes;
      same = λ place synced outside. left.same place synced (λ within. outside (omega (arith, within.0), omega (arith, within.1)));
    };
    guarded = inl (left.same gate (stable gate (omega arith, omega arith)) (λ within. absurd (omega (arith, within.0))));
  }

  module _ (mid : State) (stored : IsStored before (gate + 1) bytes mid) (mid_sound : IsSound extent mid) where
    mid_size : length mid.seen ≡ length before.seen
    mid_size = mid_sound.size ∙ sym sound.size

    mid_others : (place : ℕ) → (before.unsynced place → ⊥) → (InRange gate (1 + length bytes) place → ⊥) → slice_index mid.seen place ≡ slice_index before.seen place
    mid_others place synced outside =
        stored.others place (λ within. outside (omega (arith, within.0), omega (arith, within.1))) (λ loose. synced (sound.loose place loose))

    mid_whole : StandsAt mid.seen (gate + 1) bytes
    mid_whole k below = stored.written k below (λ loose. stable (gate + 1 + k) (omega arith, omega (arith, below)) (sound.loose (gate + 1 + k) loose))

    -- the gate is torn, and the body stands after it
    pub torn_gate : (content : List ℕ) → MayLeaveTorn mid gate 1 content → LeavesGateOrBytes before gate bytes content
    torn_gate content left = record {
      others = record {
        size = left.size ∙ mid_size;
        bytes = left.bytes;
        same = λ place synced outside. left.same place (stored.synced place) (λ within. outside (omega (arith, within.0), omega (arith, within.1))) ∙ mid_others place synced outside;
      };
      guarded = inr (λ k below. left.same (gate + 1 + k) (stored.synced (gate + 1 + k)) (λ within. absurd (omega (arith, within.1))) ∙ mid_whole k below);
    }

    pub opened : (after : State) → IsSound extent after → IsStored mid gate (1 ∷ []) after → IsOpenBefore before gate bytes after
    opened after after_sound opening = record {
      gate_open = stored_first mid after gate (1 ∷ []) opening (omega arith) (λ loose. stored.synced gate (mid_sound.loose gate loose));
      whole = λ k below. stays (gate + 1 + k) (λ within. absurd (omega (arith, within.1))) ∙ mid_whole k below;
      others = record {
        size = after_sound.size ∙ sym sound.size;
        bytes = after_sound.as_read.bytes;
        same = λ place synced outside. stays place (λ within. outside (omega (arith, within.0), omega (arith, within.1))) ∙ mid_others place synced outside;
      };
      same = λ place outside steady.
          stays place (λ within. outside (omega (arith, within.0), omega (arith, within.1)))
          ∙ stored.others place (λ within. outside (omega (arith, within.0), omega (arith, within.1))) steady;
      synced = opening.synced;
    }
      where
        stays : (place : ℕ) → (InRange gate 1 place → ⊥) → slice_index after.seen place ≡ slice_index mid.seen place
        stays place outside = opening.others place outside (λ loose. stored.synced place (mid_sound.loose place loose))

-- a byte that was written is read at its place
pub first_written : (before after : State) (place byte : ℕ) → IsWritten before place (byte ∷ []) after → (before.loose place → ⊥) → slice_index after.seen place ≡ byte
first_written before after place byte done sure =
    subst (λ (at : ℕ). (before.loose at → ⊥) → slice_index after.seen at ≡ byte) (add-zero place) (done.written 0 (omega arith)) sure
