-- What is said of a scrambling device's content: nothing, because it isn't honest.
use Rattle.std.specs.Prelude.{[]}
use Rattle.disk_model.specs.Disk.{State}

abbrev pub unknown : State
unknown = record { seen = []; unsynced = λ place. ⊥; loose = λ place. ⊥; moment = 0; left_since = λ moment content. ⊥ }
