-- A device whose headers are closed after a first sync.
use Rattle.std.proofs.Common.{◌≡◌, ◌∙◌, ℕ, List}
use Rattle.disk_model.specs.Disk.{State, IsSound, IsSteady, IsSynced, LeavesOnly, MayLeave}
use Rattle.disk_model.specs.laws.Moments.{goes_on, weakens}
use Rattle.checkpoint.specs.Format.{LeavesButGates}

-- what it might have left before the sync differs in no place that was synced
pub left_before : (before : State) (content : List ℕ) → MayLeave before content → LeavesButGates before content
left_before before content left = record { size = left.size; bytes = left.bytes; same = λ place synced zero one. left.same place synced }

module _ (extent : ℕ) (before mid : State) (sound : IsSound extent before) (synced : IsSynced before mid) (sound_mid : IsSound extent mid) where
  pub settled : IsSteady mid
  settled place loose = synced.synced place (sound_mid.loose place loose)

  but_gates : (content : List ℕ) → LeavesButGates mid content → LeavesButGates before content
  but_gates content left = record {
    size = left.size ∙ synced.seen.size;
    bytes = left.bytes;
    same = λ place stable zero one. left.same place (synced.synced place) zero one ∙ synced.seen.same place (λ loose. stable (sound.loose place loose));
  }

  pub closed_moments : {after : State} → LeavesOnly before mid (MayLeave before) → LeavesOnly mid after (LeavesButGates mid) → LeavesOnly before after (LeavesButGates before)
  closed_moments first second = goes_on (weakens first (left_before before)) second but_gates
