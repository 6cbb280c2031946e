use Rattle.std.proofs.Common.{◌≡◌, ⊎_elim, ℕ, ◌+◌, ◌∷◌, [], List, Option, Some, ◌∙◌, ap, refl, arith}
use Rattle.std.proofs.lemmas.Result.{IfOk-from_err}
use Rattle.disk_model.specs.Faults.{counted}
use Rattle.image_model.specs.Change.{edge_count}
use Rattle.image_model.specs.declared.command.Edges.{Edges}
use Rattle.journal_format.specs.Faults.{faults_by}
use Rattle.journal_format.specs.declared.fault.JournalFault.TheVariants.{DeviceFault, DamagedGroup}
use Rattle.journal_format.specs.declared.touch.TouchedRange.{TouchedRange}
use Rattle.journal_format.specs.inner.Scanning.{IsEdgedKind, touch_of_head}
use Rattle.journal_format.specs.Scanning.{IsScanFault}
use Rattle.journal_format.specs.Touches.{edge_ranges}
use Rattle.journal_format.specs.laws.Chained.{none_read, reads_on}
use Rattle.journal_format.specs.laws.Found.{no_head, no_edges, no_change, no_room, change_found, edged_or_not, head_within}
use Rattle.journal_format.proofs.RefusalHandedOn.{err_with, not_damaged, ok_apart}
use Rattle.journal_format.proofs.scan.Place.command.Goals as goal

pub returns-then-end-place-lt-COMMAND_HEAD_BYTES : goal.returns-then-end-place-lt-COMMAND_HEAD_BYTES
returns-then-end-place-lt-COMMAND_HEAD_BYTES g c = record {
  causes = tt;
  extent = refl;
  faults_ok = tt;
  faults_err = refl;
  honest = (λ honest. honest, λ honest. honest);
  only_read = λ honest. none_read (g.met.D.Disk.sound c.args.disk.now honest);
  read_as = λ honest content known. known;
  inside = tt;
  within = tt;
  found = λ honest content known. tt;
  damaged = λ honest content known damaged.
      let area = c.args.self.now in
      no_head area.blocks area.blocks_fit content (area.from + c.args.place) (area.from + c.args.end) (omega (arith, c.if-end-place-lt-COMMAND_HEAD_BYTES.true, c.requires.order));
}

pub returns-in_err-head : goal.returns-in_err-head
returns-in_err-head g c = record {
  causes = err_with c.from_residual.result DeviceFault IsScanFault c.from_residual.ensures.1 tt;
  extent = c.in_err-head.ensures.extent;
  faults_ok = IfOk-from_err c.from_residual.result _ c.from_residual.ensures.0;
  faults_err = err_with c.from_residual.result DeviceFault (λ fault. g.D.Disk.faults c.command_head.new.disk ≡ faults_by fault (g.D.Disk.faults c.args.disk.now)) c.from_residual.ensures.1 c.in_err-head.ensures.faults;
  honest = c.in_err-head.ensures.honest;
  only_read = c.in_err-head.ensures.only_read;
  read_as = c.in_err-head.ensures.read_as;
  inside = IfOk-from_err c.from_residual.result _ c.from_residual.ensures.0;
  within = IfOk-from_err c.from_residual.result _ c.from_residual.ensures.0;
  found = λ honest content known. IfOk-from_err c.from_residual.result _ c.from_residual.ensures.0;
  damaged = λ honest content known damaged. absurd (not_damaged c.from_residual.result c.from_residual.ensures.1 damaged);
}

pub returns-then-end-place : goal.returns-then-end-place
returns-then-end-place g c = record {
  causes = tt;
  extent = c.in_ok-head.ensures.extent;
  faults_ok = tt;
  faults_err = c.in_ok-head.ensures.faults;
  honest = c.in_ok-head.ensures.honest;
  only_read = c.in_ok-head.ensures.only_read;
  read_as = c.in_ok-head.ensures.read_as;
  inside = tt;
  within = tt;
  found = λ honest content known. tt;
  damaged = λ honest content known damaged.
      let area = c.args.self.now in
      let head = c.in_ok-head.head in
      ⊎_elim
      (λ edged. no_edges area.blocks area.blocks_fit content (area.from + c.args.place) head.kind head.first head.blocks head.first_fits head.blocks_fit
      (c.in_ok-head.ensures.bytes honest content known) edged (area.from + c.args.end) (omega (arith, c.bytes.ensures.edged edged, c.if-end-place.true, c.requires.order)))
      (λ other. absurd (omega (arith, c.bytes.ensures.other other, c.if-end-place.true, c.if-end-place-lt-COMMAND_HEAD_BYTES.false)))
      (edged_or_not head.kind);
}

pub returns-in_err-edges : goal.returns-in_err-edges
returns-in_err-edges g c = record {
  causes = err_with c.from_residual-in_err-edges.result DeviceFault IsScanFault c.from_residual-in_err-edges.ensures.1 tt;
  extent = c.in_err-edges.ensures.extent ∙ c.in_ok-head.ensures.extent;
  faults_ok = IfOk-from_err c.from_residual-in_err-edges.result _ c.from_residual-in_err-edges.ensures.0;
  faults_err = err_with c.from_residual-in_err-edges.result DeviceFault (λ fault. g.D.Disk.faults c.edges.new.disk ≡ faults_by fault (g.D.Disk.faults c.args.disk.now)) c.from_residual-in_err-edges.ensures.1 (c.in_err-edges.ensures.faults ∙ ap counted c.in_ok-head.ensures.faults);
  honest =
      let first = c.in_ok-head.ensures in
      let second = c.in_err-edges.ensures in
      (λ honest. first.honest.0 (second.honest.0 honest), λ honest. second.honest.1 (first.honest.1 honest));
  only_read = λ honest. reads_on (g.met.D.Disk.sound c.args.disk.now honest) (c.in_ok-head.ensures.only_read honest) (c.in_err-edges.ensures.only_read (c.in_ok-head.ensures.honest.1 honest));
  read_as = λ honest content known.
      let first = c.in_ok-head.ensures in
      c.in_err-edges.ensures.read_as (first.honest.1 honest) content (first.read_as honest content known);
  inside = IfOk-from_err c.from_residual-in_err-edges.result _ c.from_residual-in_err-edges.ensures.0;
  within = IfOk-from_err c.from_residual-in_err-edges.result _ c.from_residual-in_err-edges.ensures.0;
  found = λ honest content known. IfOk-from_err c.from_residual-in_err-edges.result _ c.from_residual-in_err-edges.ensures.0;
  damaged = λ honest content known damaged. absurd (not_damaged c.from_residual-in_err-edges.result c.from_residual-in_err-edges.ensures.1 damaged);
}

pub returns-in_default : goal.returns-in_default
returns-in_default g c = record {
  causes = tt;
  extent = c.in_ok-edges.ensures.extent ∙ c.in_ok-head.ensures.extent;
  faults_ok = tt;
  faults_err = c.in_ok-edges.ensures.faults ∙ c.in_ok-head.ensures.faults;
  honest =
      let first = c.in_ok-head.ensures in
      let second = c.in_ok-edges.ensures in
      (λ honest. first.honest.0 (second.honest.0 honest), λ honest. second.honest.1 (first.honest.1 honest));
  only_read = λ honest. reads_on (g.met.D.Disk.sound c.args.disk.now honest) (c.in_ok-head.ensures.only_read honest) (c.in_ok-edges.ensures.only_read (c.in_ok-head.ensures.honest.1 honest));
  read_as = λ honest content known.
      let first = c.in_ok-head.ensures in
      c.in_ok-edges.ensures.read_as (first.honest.1 honest) content (first.read_as honest content known);
  inside = tt;
  within = tt;
  found = λ honest content known. tt;
  damaged = λ honest content known damaged.
      let area = c.args.self.now in
      let head = c.in_ok-head.head in
      let known_then = c.in_ok-head.ensures.read_as honest content known in
      no_change area.blocks area.blocks_fit content (area.from + c.args.place) head.kind head.first head.blocks c.in_ok-edges.edges head.first_fits head.blocks_fit (c.in_ok-head.ensures.bytes honest content known)
      (c.in_ok-edges.ensures.said (c.in_ok-head.ensures.honest.1 honest) content known_then)
      (area.from + c.args.end) c.in_default.ensures.none;
}

pub returns-then-end-bytes : goal.returns-then-end-bytes
returns-then-end-bytes g c = record {
  causes = tt;
  extent = c.in_ok-edges.ensures.extent ∙ c.in_ok-head.ensures.extent;
  faults_ok = tt;
  faults_err = c.in_ok-edges.ensures.faults ∙ c.in_ok-head.ensures.faults;
  honest =
      let first = c.in_ok-head.ensures in
      let second = c.in_ok-edges.ensures in
      (λ honest. first.honest.0 (second.honest.0 honest), λ honest. second.honest.1 (first.honest.1 honest));
  only_read = λ honest. reads_on (g.met.D.Disk.sound c.args.disk.now honest) (c.in_ok-head.ensures.only_read honest) (c.in_ok-edges.ensures.only_read (c.in_ok-head.ensures.honest.1 honest));
  read_as = λ honest content known.
      let first = c.in_ok-head.ensures in
      c.in_ok-edges.ensures.read_as (first.honest.1 honest) content (first.read_as honest content known);
  inside = tt;
  within = tt;
  found = λ honest content known. tt;
  damaged = λ honest content known damaged.
      let area = c.args.self.now in
      let head = c.in_ok-head.head in
      let known_then = c.in_ok-head.ensures.read_as honest content known in
      no_room area.blocks area.blocks_fit content (area.from + c.args.place) head.kind head.first head.blocks c.in_ok-edges.edges head.first_fits head.blocks_fit (c.in_ok-head.ensures.bytes honest content known)
      (c.in_ok-edges.ensures.said (c.in_ok-head.ensures.honest.1 honest) content known_then)
      (area.from + c.args.end) _ c.in-Some.ensures.some (omega (arith, c.if-end-bytes.true));
}

-- the place of the data, with the area's first byte before or after
moved_plain : (from place first blocks kind : ℕ) (ranges : List TouchedRange)
    → ((IsEdgedKind kind → ⊥) → ranges ≡ record { first = first; blocks = blocks; touch = touch_of_head kind (from + (place + 13)) } ∷ [])
    → (IsEdgedKind kind → ⊥) → ranges ≡ record { first = first; blocks = blocks; touch = touch_of_head kind (from + place + 13) } ∷ []
moved_plain from place first blocks kind ranges plain other =
    let at : from + (place + 13) ≡ from + place + 13 = omega arith in
    plain other ∙ ap (λ (p : ℕ). let made : TouchedRange = record { first = first; blocks = blocks; touch = touch_of_head kind p } in made ∷ []) at

moved_edged : (from place first blocks kind : ℕ) (edges : Option Edges) (ranges : List TouchedRange)
    → (IsEdgedKind kind → (own : Edges) → edges ≡ Some own
    → ranges ≡ record { first = first; blocks = blocks; touch = touch_of_head kind (from + (place + 13)) } ∷ edge_ranges first blocks own (from + (place + 13) + 1) (edge_count own))
    → IsEdgedKind kind → (own : Edges) → edges ≡ Some own
    → ranges ≡ record { first = first; blocks = blocks; touch = touch_of_head kind (from + place + 13) } ∷ edge_ranges first blocks own (from + place + 13 + 1) (edge_count own)
moved_edged from place first blocks kind edges ranges edged is own same =
    let at : from + (place + 13) ≡ from + place + 13 = omega arith in
    edged is own same ∙ ap (λ (p : ℕ). let made : TouchedRange = record { first = first; blocks = blocks; touch = touch_of_head kind p } in made ∷ edge_ranges first blocks own (p + 1) (edge_count own)) at

pub returns : goal.returns
returns g c = record {
  causes = tt;
  extent = c.in_ok-edges.ensures.extent ∙ c.in_ok-head.ensures.extent;
  faults_ok = c.in_ok-edges.ensures.faults ∙ c.in_ok-head.ensures.faults;
  faults_err = tt;
  honest =
      let first = c.in_ok-head.ensures in
      let second = c.in_ok-edges.ensures in
      (λ honest. first.honest.0 (second.honest.0 honest), λ honest. second.honest.1 (first.honest.1 honest));
  only_read = λ honest. reads_on (g.met.D.Disk.sound c.args.disk.now honest) (c.in_ok-head.ensures.only_read honest) (c.in_ok-edges.ensures.only_read (c.in_ok-head.ensures.honest.1 honest));
  read_as = λ honest content known.
      let first = c.in_ok-head.ensures in
      c.in_ok-edges.ensures.read_as (first.honest.1 honest) content (first.read_as honest content known);
  inside = (omega arith, omega (arith, c.if-end-bytes.false));
  within =
      let area = c.args.self.now in
      let head = c.in_ok-head.head in
      head_within area.blocks head.kind head.first head.blocks c.in_ok-edges.edges c.in-Some.data area.from (area.from + (c.args.place + 13 + c.in-Some.data)) (area.from + c.args.place) c.in-Some.ensures.some
      (omega arith) (omega arith) _
      (moved_plain area.from c.args.place head.first head.blocks head.kind _ c.touch.ensures.plain)
      (moved_edged area.from c.args.place head.first head.blocks head.kind c.in_ok-edges.edges _ c.touch.ensures.edged);
  found = λ honest content known.
      let area = c.args.self.now in
      let head = c.in_ok-head.head in
      let known_then = c.in_ok-head.ensures.read_as honest content known in
      let end_is : area.from + c.args.place + 13 + c.in-Some.data ≡ area.from + (c.args.place + 13 + c.in-Some.data) = omega arith in
      change_found area.blocks area.blocks_fit content (area.from + c.args.place) head.kind head.first head.blocks c.in_ok-edges.edges c.in-Some.data _ c.in-Some.ensures.some head.blocks_fit
      (c.in_ok-head.ensures.bytes honest content known)
      (c.in_ok-edges.ensures.said (c.in_ok-head.ensures.honest.1 honest) content known_then)
      (omega (arith, known.scanned.inside, c.if-end-bytes.false, c.requires.inside)) end_is _
      (moved_plain area.from c.args.place head.first head.blocks head.kind _ c.touch.ensures.plain)
      (moved_edged area.from c.args.place head.first head.blocks head.kind c.in_ok-edges.edges _ c.touch.ensures.edged);
  damaged = λ honest content known damaged. absurd (ok_apart _ DamagedGroup damaged);
}

pub edges-requires-clause-inside : goal.edges-requires-clause-inside
edges-requires-clause-inside g c edged =
    omega (arith, c.bytes.ensures.edged edged, c.if-end-place.false, c.requires.order, c.requires.inside)
