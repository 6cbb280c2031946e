-- What is left of a device that was served.
use Rattle.std.specs.Prelude.{IsOk, OnOk}
use Rattle.std.proofs.Common.{◌≡◌, ℕ, ◌+◌, ◌≤◌, false, List, [], Result, Ok, Err, length, refl, subst, sym, arith}
use Rattle.device_image.specs.Stands.{StandsFor}
use Rattle.disk_model.specs.Disk.{LeavesOnly, State}
use Rattle.disk_model.specs.laws.Moments.{weakens}
use Rattle.export.specs.Left.{KeepsLog, LeavesHistory}
use Rattle.export_model.specs.OneLog.{IsOneLog}
use Rattle.export_model.specs.World.{Setting}
use Rattle.export_model.specs.declared.step.Mode.{Mode}
use Rattle.export_model.specs.laws.Good.{covers_durable, good_quiet, quiet, reads_fit}
use Rattle.image_model.specs.declared.geometry.Geometry.{Geometry}
use Rattle.image_model.specs.Change.{Change}
use Rattle.image_model.specs.Image.{Image}
use Rattle.shared_store.specs.Parts.{StandsWithin}

-- a device of which nobody was served, from an earlier moment on
pub from_start : (start now : State) (opening count : ℕ) (image : Image) → opening ≡ count → LeavesOnly start now (λ content. StandsFor content image opening)
    → LeavesHistory now now count image [] count → LeavesHistory start now opening image [] opening
from_start start now opening count image same from law =
    record { passed = weakens from stands; left = λ content leaves. subst (λ (n : ℕ). StandsWithin n image [] n content) (sym same) (law.left content leaves) }
  where
    stands : (content : List ℕ) → StandsFor content image opening → StandsWithin opening image [] opening content
    stands content is = record { stored = []; begins = ([], refl); reaches = omega arith; stands = subst (λ (n : ℕ). StandsFor content image n) (omega arith) is }

-- with another least number
pub reaching : (start now : State) (opening : ℕ) (image : Image) (history : List Change) (least other : ℕ)
    → ((content : List ℕ) (is : StandsWithin opening image history least content) → other ≤ opening + length is.stored) → LeavesHistory start now opening image history least
    → LeavesHistory start now opening image history other
reaching start now opening image history least other reaches is = record {
  passed = is.passed;
  left = λ content leaves. let it = is.left content leaves in record { stored = it.stored; begins = it.begins; reaches = reaches content it; stands = it.stands };
}

pub on_ok : {T E : Type 0} {A B : Type 0} (result : Result T E) → OnOk result A → (A → B) → OnOk result B
on_ok (Ok value) is then = then is
on_ok (Err error) is then = tt

pub ok_of : {T U E F : Type 0} (A : Type 0) (result : Result T E) (earlier : Result U F) → OnOk result (IsOk earlier) → OnOk earlier A → OnOk result A
ok_of A (Ok value) (Ok done) is then = then
ok_of A (Ok value) (Err error) is then = cc is
ok_of A (Err error) earlier is then = tt

pub both_ok : {T E : Type 0} (A B : Type 0) (result : Result T E) → OnOk result A → OnOk result B → OnOk result (A × B)
both_ok A B (Ok value) first second = (first, second)
both_ok A B (Err error) first second = tt

-- a log of nothing
pub no_log : (geometry : Geometry) (trusted : Type 0) (mode : Mode) (image : Image) → IsOneLog trusted mode image [] 0 (record { made = 0; calls = [] })
no_log geometry trusted mode image =
    let setting : Setting = record { geometry = geometry; flags = record { structured = false; context = false }; mode = mode; connections = 0; frames = 0; image = image; opening = 0; generation = 0; failures = 0; trusted = false } in
    let good = good_quiet trusted setting in record {
      log = [];
      paired = λ command. 0;
      shown = λ place. 0;
      legal = good.sound.legal;
      covers = covers_durable (quiet setting) good.sound;
      reads = reads_fit trusted (quiet setting) good;
      edits = good.edits;
      all = tt;
      others = λ by above. refl;
    }

-- of a device of which nobody was served there is one
pub unlogged : (geometry : Geometry) (trusted : Type 0) (mode : Mode) (sure : Type 0) (start now : State) (opening : ℕ) (image : Image) → (sure → LeavesHistory start now opening image [] opening)
    → KeepsLog trusted mode sure start now opening image [] (record { made = 0; calls = [] })
unlogged geometry trusted mode sure start now opening image left = record {
  durable = 0;
  log = no_log geometry trusted mode image;
  left = λ known. subst (LeavesHistory start now opening image []) (omega arith) (left known);
}
