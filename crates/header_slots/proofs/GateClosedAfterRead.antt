-- a gate that is closed after a read
use Rattle.std.proofs.Common.{ℕ, inr, List, [], ◌∷◌, sym, ◌∙◌, arith}
use Rattle.disk_model.specs.Disk.{State, IsKept, IsSound, IsStored, IsSyncedIn, MayLeaveTorn}
use Rattle.disk_model.specs.laws.Contents.{stored_first}
use Rattle.image_model.specs.declared.side.Side.{Side}
use Rattle.header_slots.specs.Slots.{slot_at, IsOpen}
use Rattle.header_slots.specs.Change.{IsGateClosed, LeavesClosing}

-- a gate that was closed after a read, and is stable
pub gate_closed : {extent : ℕ} (old mid after : State) → IsSound extent old → IsSound extent after → (slot : Side) → IsSyncedIn old (slot_at slot) 1 → IsKept old mid
    → IsStored mid (slot_at slot) (0 ∷ []) after → IsGateClosed old slot after
gate_closed old mid after sound after_sound slot synced kept stored = record {
  closed = λ is_open.
      let zero = stored_first mid after (slot_at slot) (0 ∷ []) stored (omega arith)
      (λ loose. synced (slot_at slot) (omega arith, omega arith) (sound.loose (slot_at slot) (kept.loose (slot_at slot) loose))) in
      omega (arith, zero, is_open);
  others = λ place other steady.
      stored.others place (λ within. other (omega (arith, within))) (λ loose. steady (kept.loose place loose)) ∙ kept.seen.same place steady;
  unsynced = λ place unsynced. absurd (stored.synced place unsynced);
  loose = λ place loose. absurd (stored.synced place (after_sound.loose place loose));
}

-- what a crash leaves while an open gate is closed, by what it was before the read
pub closing_left : {extent : ℕ} (old mid : State) → IsSound extent old → (slot : Side) → IsSyncedIn old (slot_at slot) 1 → IsKept old mid → IsOpen mid.seen slot
    → (content : List ℕ) → MayLeaveTorn mid (slot_at slot) 1 content → LeavesClosing old slot content
closing_left old mid sound slot synced kept is_open content torn = inr (
  sym (kept.seen.same (slot_at slot) (λ loose. synced (slot_at slot) (omega arith, omega arith) (sound.loose (slot_at slot) loose))) ∙ is_open,
  record {
    size = torn.size ∙ kept.seen.size;
    bytes = torn.bytes;
    same = λ place stable outside.
        torn.same place (λ unsynced. stable (kept.unsynced place unsynced)) outside ∙ kept.seen.same place (λ loose. stable (sound.loose place loose));
  },
)
