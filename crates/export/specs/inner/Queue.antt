-- A definition for contracts of the queue.
use Rattle.std.specs.Prelude.{◌≡◌}
use Rattle.marks.specs.declared.name.BoardName.{Ghosts as BoardName}
use Rattle.shared_store.specs.declared.name.ImageName.{Ghosts as ImageName}
use Rattle.export.specs.declared.commit_queue.CommitQueue.{CommitQueue}
use Rattle.export.specs.declared.name.ExportName.{Ghosts as ExportName}

-- What requests are served under stays: the base that the order has noted, and the most bytes of commands that may be pending.
abbrev pub KeepsBounds : {B : Type 0} {export : ExportName B} {image : ImageName B} {board : BoardName B} → CommitQueue B export image board
    → CommitQueue B export image board → Type 0
KeepsBounds old new = (new.noted_base ≡ old.noted_base) × (new.most_pending ≡ old.most_pending)
