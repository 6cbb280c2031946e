use Rattle.std.proofs.Common.{◌≡◌, ℕ, [], ◌∷◌, subst, ◌∙◌, ap, arith, sym}
use Rattle.std.proofs.lemmas.Result.{on_ok_weaker, IfOk-from_err}
use Rattle.disk_model.specs.Disk.{IsWritten}
use Rattle.disk_model.specs.Faults.{counted, faults_after}
use Rattle.header_slots.specs.Slots.{IsBodyWritten}
use Rattle.header_slots.specs.declared.header.Header.{Header}
use Rattle.image_model.specs.declared.side.Side.TheVariants.{Zero}
use Rattle.image_model.specs.declared.geometry.Geometry.{Geometry}
use Rattle.journal_format.specs.Area.{AreaState}
use Rattle.regions.specs.Layout.{area_at, map_at}
use Rattle.checkpoint.proofs.ExcludedRefusals.{failed_counted}
use Rattle.checkpoint.proofs.DeviceWhileFormatted.{body_moments, data_stay, gate_moments, map_moments, parts_written}
use Rattle.checkpoint.proofs.format.write_parts.Goals as goal

pub returns-clause-any_moment : goal.returns-clause-any_moment
returns-clause-any_moment g c honest closed =
    let from : c.new-area.result.from ≡ c.area_from.result = ap (λ (area : AreaState). area.from) c.new-area.ensures in
    let gate = c.in_ok-close_first.ensures in
    let map = c.in_ok-write_at.ensures in
    body_moments _ closed c.new-area.result.from (omega (arith, c.area_from.ensures.place, from)) _ (gate.written honest) c.map_from.result (omega (arith, c.map_from.ensures.place)) _
    (gate.any_moment honest) (map.any_moment (gate.honest.1 honest)) (map.written (gate.honest.1 honest)) (c.fill_slot.ensures.any_moment (map.honest.1 (gate.honest.1 honest)))

pub returns-clause-fresh : goal.returns-clause-fresh
returns-clause-fresh g c honest closed =
    let geometry = c.args.geometry in
    let gate = c.in_ok-close_first.ensures in
    let map = c.in_ok-write_at.ensures in
    let one_honest = gate.honest.1 honest in
    let same = c.from_geometry-regions.ensures in
    let from : c.new-area.result.from ≡ area_at geometry 0 = ap (λ (area : AreaState). area.from) c.new-area.ensures ∙ c.area_from.ensures.place ∙ ap (λ (size : Geometry). area_at size 0) same in
    let map_is : c.map_from.result ≡ map_at geometry Zero = c.map_from.ensures.place ∙ ap (λ (size : Geometry). map_at size Zero) same in
    let before = g.D.Disk.state c.args.disk.now in
    let one = g.D.Disk.state c.close_first.new.disk in
    let two = g.D.Disk.state c.write_at.new.self in
    let three = g.D.Disk.state c.fill_slot.new.disk in
    on_ok_weaker c.fill_slot.result
    (λ written. parts_written geometry before one two three closed.steady c.args.map.now c.bytes.result.now c.bytes.ensures c.requires.blocks
    (subst (λ (place : ℕ). IsWritten before place (0 ∷ []) one) from (gate.written honest))
    (subst (λ (place : ℕ). IsWritten one place c.bytes.result.now two) map_is (map.written one_honest))
    (subst (λ (header : Header). IsBodyWritten two Zero header three) c.first_header.ensures written))
    (c.fill_slot.ensures.written (map.honest.1 one_honest))

pub returns-clause-honest : goal.returns-clause-honest
returns-clause-honest g c =
    let first = c.in_ok-close_first.ensures in
    let second = c.in_ok-write_at.ensures in
    let third = c.fill_slot.ensures in
    (λ honest. first.honest.0 (second.honest.0 (third.honest.0 honest)), λ honest. third.honest.1 (second.honest.1 (first.honest.1 honest)))

pub returns-in_err-close_first : goal.returns-in_err-close_first
returns-in_err-close_first g c = record {
  extent = c.in_err-close_first.ensures.extent;
  faults = c.in_err-close_first.ensures.faults ∙ sym (failed_counted c.from_residual.result _ c.from_residual.ensures.0);
  honest = c.in_err-close_first.ensures.honest;
  closed = λ honest closed. IfOk-from_err c.from_residual.result _ c.from_residual.ensures.0;
  fresh = λ honest closed. IfOk-from_err c.from_residual.result _ c.from_residual.ensures.0;
  stays = λ honest closed. IfOk-from_err c.from_residual.result _ c.from_residual.ensures.0;
  any_moment = λ honest closed.
      let from : c.new-area.result.from ≡ c.area_from.result = ap (λ (area : AreaState). area.from) c.new-area.ensures in
      gate_moments _ closed c.new-area.result.from (omega (arith, c.area_from.ensures.place, from)) (c.close_first.ensures.any_moment honest);
}

pub returns-in_err-write_at : goal.returns-in_err-write_at
returns-in_err-write_at g c = record {
  extent = c.in_err-write_at.ensures.extent ∙ c.in_ok-close_first.ensures.extent;
  faults = c.in_err-write_at.ensures.faults ∙ ap counted c.in_ok-close_first.ensures.faults ∙ sym (failed_counted c.from_residual-in_err-write_at.result _ c.from_residual-in_err-write_at.ensures.0);
  honest =
      let first = c.in_ok-close_first.ensures in
      let second = c.write_at.ensures in
      (λ honest. first.honest.0 (second.honest.0 honest), λ honest. second.honest.1 (first.honest.1 honest));
  closed = λ honest closed. IfOk-from_err c.from_residual-in_err-write_at.result _ c.from_residual-in_err-write_at.ensures.0;
  fresh = λ honest closed. IfOk-from_err c.from_residual-in_err-write_at.result _ c.from_residual-in_err-write_at.ensures.0;
  stays = λ honest closed. IfOk-from_err c.from_residual-in_err-write_at.result _ c.from_residual-in_err-write_at.ensures.0;
  any_moment = λ honest closed.
      let from : c.new-area.result.from ≡ c.area_from.result = ap (λ (area : AreaState). area.from) c.new-area.ensures in
      let gate = c.in_ok-close_first.ensures in
      map_moments _ closed c.new-area.result.from (omega (arith, c.area_from.ensures.place, from)) _ (gate.written honest) c.map_from.result (omega (arith, c.map_from.ensures.place)) _
      (gate.any_moment honest) (c.write_at.ensures.any_moment (gate.honest.1 honest));
}

pub returns-clause-extent : goal.returns-clause-extent
returns-clause-extent g c =
    c.fill_slot.ensures.extent ∙ c.in_ok-write_at.ensures.extent ∙ c.in_ok-close_first.ensures.extent

pub returns-clause-faults : goal.returns-clause-faults
returns-clause-faults g c =
    c.fill_slot.ensures.faults ∙ ap (faults_after c.fill_slot.result) (c.in_ok-write_at.ensures.faults ∙ c.in_ok-close_first.ensures.faults)

pub returns-clause-stays : goal.returns-clause-stays
returns-clause-stays g c honest closed =
    let geometry = c.args.geometry in
    let gate = c.in_ok-close_first.ensures in
    let map = c.in_ok-write_at.ensures in
    let one_honest = gate.honest.1 honest in
    let same = c.from_geometry-regions.ensures in
    let from : c.new-area.result.from ≡ area_at geometry 0 = ap (λ (area : AreaState). area.from) c.new-area.ensures ∙ c.area_from.ensures.place ∙ ap (λ (size : Geometry). area_at size 0) same in
    let map_is : c.map_from.result ≡ map_at geometry Zero = c.map_from.ensures.place ∙ ap (λ (size : Geometry). map_at size Zero) same in
    let before = g.D.Disk.state c.args.disk.now in
    let one = g.D.Disk.state c.close_first.new.disk in
    let two = g.D.Disk.state c.write_at.new.self in
    let three = g.D.Disk.state c.fill_slot.new.disk in
    on_ok_weaker c.fill_slot.result
    (λ written. data_stay geometry before one two three closed.steady c.args.map.now c.bytes.result.now c.bytes.ensures c.requires.blocks
    (subst (λ (place : ℕ). IsWritten before place (0 ∷ []) one) from (gate.written honest))
    (subst (λ (place : ℕ). IsWritten one place c.bytes.result.now two) map_is (map.written one_honest))
    (subst (λ (header : Header). IsBodyWritten two Zero header three) c.first_header.ensures written))
    (c.fill_slot.ensures.written (map.honest.1 one_honest))
