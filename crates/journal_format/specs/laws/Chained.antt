-- Reads one after another.
use Rattle.std.proofs.Common.{ℕ, refl, ◌∙◌}
use Rattle.disk_model.specs.Disk.{State, IsSound, IsKept, MayLeave, LeavesOnly}
use Rattle.disk_model.specs.laws.Moments.{begins, goes_on}
use Rattle.journal_format.specs.Reading.{IsOnlyRead}

pub none_read : {extent : ℕ} {state : State} → IsSound extent state → IsOnlyRead state state
none_read sound = record {
  kept = record {
    seen = record { size = refl; bytes = sound.as_read.bytes; same = λ place sure. refl };
    unsynced = λ place unsynced. unsynced;
    loose = λ place loose. loose;
  };
  any_moment = begins sound (λ content left. left);
}

pub one_read : {before after : State} → IsKept before after → LeavesOnly before after (MayLeave before) → IsOnlyRead before after
one_read kept any_moment = record { kept = kept; any_moment = any_moment }

pub reads_on : {extent : ℕ} {before mid after : State} → IsSound extent before → IsOnlyRead before mid → IsOnlyRead mid after → IsOnlyRead before after
reads_on sound first second = record {
  kept = record {
    seen = record {
      size = second.kept.seen.size ∙ first.kept.seen.size;
      bytes = second.kept.seen.bytes;
      same = λ place sure. second.kept.seen.same place (λ loose. sure (first.kept.loose place loose)) ∙ first.kept.seen.same place sure;
    };
    unsynced = λ place unsynced. first.kept.unsynced place (second.kept.unsynced place unsynced);
    loose = λ place loose. first.kept.loose place (second.kept.loose place loose);
  };
  any_moment = goes_on first.any_moment second.any_moment (λ content left. record {
    size = left.size ∙ first.kept.seen.size;
    bytes = left.bytes;
    same = λ place synced. left.same place (λ unsynced. synced (first.kept.unsynced place unsynced)) ∙ first.kept.seen.same place (λ loose. synced (sound.loose place loose));
  });
}
