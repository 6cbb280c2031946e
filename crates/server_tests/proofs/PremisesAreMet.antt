-- A log whose premises are met.
use Rattle.std.proofs.Common.{List, ℕ}
use Rattle.disk_model.specs.Disk.{State}
use Rattle.export.specs.Left.{KeepsLog}
use Rattle.export_model.specs.OneLog.{RosterState}
use Rattle.export_model.specs.declared.step.Mode.{Mode}
use Rattle.image_model.specs.Change.{Change}
use Rattle.image_model.specs.Image.{Image}

pub unconditional : (trusted sure : Type 0) (mode : Mode) (start now : State) (opening : ℕ) (image : Image) (history : List Change) (roster : RosterState) → trusted → sure
    → KeepsLog trusted mode sure start now opening image history roster → KeepsLog (Unit {0}) mode (Unit {0}) start now opening image history roster
unconditional trusted sure mode start now opening image history roster trusts is kept = record {
  durable = kept.durable;
  log = record {
    log = kept.log.log;
    paired = kept.log.paired;
    shown = kept.log.shown;
    legal = kept.log.legal;
    covers = kept.log.covers;
    reads = λ _. kept.log.reads trusts;
    edits = λ _. kept.log.edits trusts;
    all = kept.log.all;
    others = kept.log.others;
  };
  left = λ _. kept.left is;
}
