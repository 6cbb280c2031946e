use Rattle.std.proofs.Common.{◌≡◌, ℕ, List, length, Err, rules, sym, ◌∙◌, subst}
use Rattle.std.proofs.lemmas.Result.{IfOk-from_err}
use Rattle.disk_model.specs.Disk.{IsSound}
use Rattle.header_slots.specs.Slots.{HoldsHeader}
use Rattle.image_model.specs.declared.command.Kind.{Kind}
use Rattle.journal_format.specs.laws.Chained.{one_read, reads_on}
use Rattle.regions.specs.Layout.{map_at}
use Rattle.regions.specs.Map.{HoldsMap, IsMapReading}
use Rattle.regions.specs.declared.fault.RegionFault.{RegionFault}
use Rattle.checkpoint.specs.Keeper.{AreSized}
use Rattle.checkpoint.proofs.SyncedReads.{at_refusal, groups_refused, header_read, header_refused, header_stays, map_refused, map_stays, seen_same, still_synced}
use Rattle.checkpoint.proofs.opening.read_parts.Goals as goal

-- That it is the map slot which the header names is searched for.
map_there : {content : List ℕ} {place other blocks more : ℕ} {states : List Kind} → HoldsMap content place blocks states → place ≡ other → blocks ≡ more → HoldsMap content other more states
map_there {content} {place} {other} {blocks} {more} {states} held same all =
    subst (λ (p : ℕ). HoldsMap content p more states) same (subst (λ (n : ℕ). HoldsMap content place n states) all held)

refused_there : (content : List ℕ) (place other blocks more : ℕ) (fault : RegionFault) → IsMapReading content place blocks (Err fault) → place ≡ other → blocks ≡ more → IsMapReading content other more (Err fault)
refused_there content place other blocks more fault reading same all =
    subst (λ (p : ℕ). IsMapReading content p more (Err fault)) same (subst (λ (n : ℕ). IsMapReading content place n (Err fault)) all reading)

pub returns-in_err-header-clause-read : goal.returns-in_err-header-clause-read
returns-in_err-header-clause-read g c honest synced =
    let call = c.in_err-header.ensures in
    let sound = g.met.D.Disk.sound c.read_current.new.disk (call.honest.1 honest) in
    at_refusal _ _ _ _ c.from_residual.ensures.1 (header_refused _ _ c.in_err-header.field-0.0 (sym call.extent ∙ sym sound.size) (call.reading honest))

pub returns-in_err-map-clause-only_read : goal.returns-in_err-map-clause-only_read
returns-in_err-map-clause-only_read g c honest =
    let first = c.in_ok-header.ensures in
    let second = c.in_err-map.ensures in
    reads_on (g.met.D.Disk.sound c.args.disk.now honest) (one_read (first.kept honest) (first.any_moment honest)) (one_read (second.kept (first.honest.1 honest)) (second.any_moment (first.honest.1 honest)))

pub returns-in_err-map-clause-read : goal.returns-in_err-map-clause-read
returns-in_err-map-clause-read g c honest synced =
    let first = c.in_ok-header.ensures in
    let second = c.in_err-map.ensures in
    let one_honest = first.honest.1 honest in
    let sound = g.met.D.Disk.sound c.read_current.new.disk one_honest in
    let one_synced = still_synced synced (one_read (first.kept honest) (first.any_moment honest)) in
    let same = seen_same sound one_synced (one_read (second.kept one_honest) (second.any_moment one_honest)) in
    let header = header_read _ _ c.in_ok-header.header c.in_ok-header.slot (sym first.extent ∙ sym sound.size) (first.reading honest) in
    let held = subst (λ (content : List ℕ). HoldsHeader content (length content) c.in_ok-header.header c.in_ok-header.slot) same header in
    let seen = (g.D.Disk.state c.read_slot.new.disk).seen in
    let fault = c.in_err-map.field-0.0 in
    let reading = refused_there seen _ (map_at c.in_ok-header.header.geometry c.in_ok-header.header.map_slot) _ c.in_ok-header.header.geometry.blocks fault (second.reading one_honest) (search (rules, c.from_geometry.ensures)) (search (rules, c.from_geometry.ensures)) in
    at_refusal _ _ _ _ c.from_residual-in_err-map.ensures.1 (map_refused _ c.in_ok-header.header c.in_ok-header.slot c.in_err-map.field-0.0 held reading)

pub returns-in_err-plans-clause-only_read : goal.returns-in_err-plans-clause-only_read
returns-in_err-plans-clause-only_read g c honest =
    let first = c.in_ok-header.ensures in
    let second = c.in_ok-map.ensures in
    let one_honest = first.honest.1 honest in
    reads_on (g.met.D.Disk.sound c.args.disk.now honest) (one_read (first.kept honest) (first.any_moment honest))
    (reads_on (g.met.D.Disk.sound c.read_current.new.disk one_honest) (one_read (second.kept one_honest) (second.any_moment one_honest)) (c.in_err-plans.ensures.only_read (second.honest.1 one_honest)))

pub returns-in_err-plans-clause-read : goal.returns-in_err-plans-clause-read
returns-in_err-plans-clause-read g c honest synced =
    let first = c.in_ok-header.ensures in
    let second = c.in_ok-map.ensures in
    let third = c.in_err-plans.ensures in
    let one_honest = first.honest.1 honest in
    let two_honest = second.honest.1 one_honest in
    let header = c.in_ok-header.header in
    let one = g.D.Disk.state c.read_current.new.disk in
    let two = g.D.Disk.state c.read_slot.new.disk in
    let three = g.D.Disk.state c.read_areas.new.disk in
    let sound = g.met.D.Disk.sound c.read_current.new.disk one_honest in
    let also = subst (λ e. IsSound e two) second.extent (g.met.D.Disk.sound c.read_slot.new.disk two_honest) in
    let one_synced = still_synced synced (one_read (first.kept honest) (first.any_moment honest)) in
    let map_read = one_read (second.kept one_honest) (second.any_moment one_honest) in
    let held = header_stays one two three sound also one_synced map_read (third.only_read two_honest) header c.in_ok-header.slot c.in_ok-map.map
    (header_read _ _ header c.in_ok-header.slot (sym first.extent ∙ sym sound.size) (first.reading honest)) in
    let map = map_stays one two three sound also one_synced map_read (third.only_read two_honest) header c.in_ok-header.slot c.in_ok-map.map
    (map_there (second.reading one_honest) (search (rules, c.from_geometry.ensures)) (search (rules, c.from_geometry.ensures))) in
    at_refusal _ _ _ _ c.from_residual-in_err-plans.ensures.1
    (groups_refused three.seen header c.in_ok-header.slot c.in_ok-map.map c.in_err-plans.field-0.0 held map (third.read two_honest (still_synced one_synced map_read)))

pub returns-clause-only_read : goal.returns-clause-only_read
returns-clause-only_read g c honest =
    let first = c.in_ok-header.ensures in
    let second = c.in_ok-map.ensures in
    let one_honest = first.honest.1 honest in
    reads_on (g.met.D.Disk.sound c.args.disk.now honest) (one_read (first.kept honest) (first.any_moment honest))
    (reads_on (g.met.D.Disk.sound c.read_current.new.disk one_honest) (one_read (second.kept one_honest) (second.any_moment one_honest)) (c.in_ok-plans.ensures.only_read (second.honest.1 one_honest)))

pub returns-clause-read : goal.returns-clause-read
returns-clause-read g c honest synced =
    let first = c.in_ok-header.ensures in
    let second = c.in_ok-map.ensures in
    let third = c.in_ok-plans.ensures in
    let one_honest = first.honest.1 honest in
    let two_honest = second.honest.1 one_honest in
    let header = c.in_ok-header.header in
    let one = g.D.Disk.state c.read_current.new.disk in
    let two = g.D.Disk.state c.read_slot.new.disk in
    let three = g.D.Disk.state c.read_areas.new.disk in
    let sound = g.met.D.Disk.sound c.read_current.new.disk one_honest in
    let also = subst (λ e. IsSound e two) second.extent (g.met.D.Disk.sound c.read_slot.new.disk two_honest) in
    let one_synced = still_synced synced (one_read (first.kept honest) (first.any_moment honest)) in
    let map_read = one_read (second.kept one_honest) (second.any_moment one_honest) in
    let held = header_stays one two three sound also one_synced map_read (third.only_read two_honest) header c.in_ok-header.slot c.in_ok-map.map
    (header_read _ _ header c.in_ok-header.slot (sym first.extent ∙ sym sound.size) (first.reading honest)) in
    let map = map_stays one two three sound also one_synced map_read (third.only_read two_honest) header c.in_ok-header.slot c.in_ok-map.map
    (map_there (second.reading one_honest) (search (rules, c.from_geometry.ensures)) (search (rules, c.from_geometry.ensures))) in
    let areas = third.read two_honest (still_synced one_synced map_read) in
    record {
      lists = areas.0;
      synced = still_synced (still_synced one_synced map_read) (third.only_read two_honest);
      in_force = held;
      map = map;
      areas = areas.1;
      uncopied = third.uncopied;
    }

pub returns-in_err-map-clause-honest : goal.returns-in_err-map-clause-honest
returns-in_err-map-clause-honest g c =
    let first = c.in_ok-header.ensures in
    let second = c.in_err-map.ensures in
    (λ honest. first.honest.0 (second.honest.0 honest), λ honest. second.honest.1 (first.honest.1 honest))

pub returns-in_err-plans-clause-honest : goal.returns-in_err-plans-clause-honest
returns-in_err-plans-clause-honest g c =
    let first = c.in_ok-header.ensures in
    let second = c.in_ok-map.ensures in
    let third = c.in_err-plans.ensures in
    (λ honest. first.honest.0 (second.honest.0 (third.honest.0 honest)), λ honest. third.honest.1 (second.honest.1 (first.honest.1 honest)))

pub returns-clause-honest : goal.returns-clause-honest
returns-clause-honest g c =
    let first = c.in_ok-header.ensures in
    let second = c.in_ok-map.ensures in
    let third = c.in_ok-plans.ensures in
    (λ honest. first.honest.0 (second.honest.0 (third.honest.0 honest)), λ honest. third.honest.1 (second.honest.1 (first.honest.1 honest)))

pub returns-in_err-header-clause-faults_ok : goal.returns-in_err-header-clause-faults_ok
returns-in_err-header-clause-faults_ok g c =
    IfOk-from_err c.from_residual.result _ c.from_residual.ensures.0

pub returns-in_err-header-clause-whole : goal.returns-in_err-header-clause-whole
returns-in_err-header-clause-whole g c =
    IfOk-from_err c.from_residual.result _ c.from_residual.ensures.0

pub returns-in_err-header-clause-placed : goal.returns-in_err-header-clause-placed
returns-in_err-header-clause-placed g c =
    IfOk-from_err c.from_residual.result _ c.from_residual.ensures.0

pub returns-in_err-header-clause-none : goal.returns-in_err-header-clause-none
returns-in_err-header-clause-none g c =
    IfOk-from_err c.from_residual.result _ c.from_residual.ensures.0

pub returns-in_err-header-clause-sized : goal.returns-in_err-header-clause-sized
returns-in_err-header-clause-sized g c =
    IfOk-from_err c.from_residual.result _ c.from_residual.ensures.0

pub returns-in_err-header-clause-blocks : goal.returns-in_err-header-clause-blocks
returns-in_err-header-clause-blocks g c =
    IfOk-from_err c.from_residual.result _ c.from_residual.ensures.0

pub returns-in_err-header-clause-uncopied : goal.returns-in_err-header-clause-uncopied
returns-in_err-header-clause-uncopied g c =
    IfOk-from_err c.from_residual.result _ c.from_residual.ensures.0

pub returns-in_err-header-clause-many : goal.returns-in_err-header-clause-many
returns-in_err-header-clause-many g c =
    IfOk-from_err c.from_residual.result _ c.from_residual.ensures.0

pub returns-in_err-map-clause-faults_ok : goal.returns-in_err-map-clause-faults_ok
returns-in_err-map-clause-faults_ok g c =
    IfOk-from_err c.from_residual-in_err-map.result _ c.from_residual-in_err-map.ensures.0

pub returns-in_err-map-clause-whole : goal.returns-in_err-map-clause-whole
returns-in_err-map-clause-whole g c =
    IfOk-from_err c.from_residual-in_err-map.result _ c.from_residual-in_err-map.ensures.0

pub returns-in_err-map-clause-placed : goal.returns-in_err-map-clause-placed
returns-in_err-map-clause-placed g c =
    IfOk-from_err c.from_residual-in_err-map.result _ c.from_residual-in_err-map.ensures.0

pub returns-in_err-map-clause-none : goal.returns-in_err-map-clause-none
returns-in_err-map-clause-none g c =
    IfOk-from_err c.from_residual-in_err-map.result _ c.from_residual-in_err-map.ensures.0

pub returns-in_err-map-clause-sized : goal.returns-in_err-map-clause-sized
returns-in_err-map-clause-sized g c =
    IfOk-from_err c.from_residual-in_err-map.result _ c.from_residual-in_err-map.ensures.0

pub returns-in_err-map-clause-blocks : goal.returns-in_err-map-clause-blocks
returns-in_err-map-clause-blocks g c =
    IfOk-from_err c.from_residual-in_err-map.result _ c.from_residual-in_err-map.ensures.0

pub returns-in_err-map-clause-uncopied : goal.returns-in_err-map-clause-uncopied
returns-in_err-map-clause-uncopied g c =
    IfOk-from_err c.from_residual-in_err-map.result _ c.from_residual-in_err-map.ensures.0

pub returns-in_err-map-clause-many : goal.returns-in_err-map-clause-many
returns-in_err-map-clause-many g c =
    IfOk-from_err c.from_residual-in_err-map.result _ c.from_residual-in_err-map.ensures.0

pub returns-in_err-plans-clause-faults_ok : goal.returns-in_err-plans-clause-faults_ok
returns-in_err-plans-clause-faults_ok g c =
    IfOk-from_err c.from_residual-in_err-plans.result _ c.from_residual-in_err-plans.ensures.0

pub returns-in_err-plans-clause-whole : goal.returns-in_err-plans-clause-whole
returns-in_err-plans-clause-whole g c =
    IfOk-from_err c.from_residual-in_err-plans.result _ c.from_residual-in_err-plans.ensures.0

pub returns-in_err-plans-clause-placed : goal.returns-in_err-plans-clause-placed
returns-in_err-plans-clause-placed g c =
    IfOk-from_err c.from_residual-in_err-plans.result _ c.from_residual-in_err-plans.ensures.0

pub returns-in_err-plans-clause-none : goal.returns-in_err-plans-clause-none
returns-in_err-plans-clause-none g c =
    IfOk-from_err c.from_residual-in_err-plans.result _ c.from_residual-in_err-plans.ensures.0

pub returns-in_err-plans-clause-sized : goal.returns-in_err-plans-clause-sized
returns-in_err-plans-clause-sized g c =
    IfOk-from_err c.from_residual-in_err-plans.result _ c.from_residual-in_err-plans.ensures.0

pub returns-in_err-plans-clause-blocks : goal.returns-in_err-plans-clause-blocks
returns-in_err-plans-clause-blocks g c =
    IfOk-from_err c.from_residual-in_err-plans.result _ c.from_residual-in_err-plans.ensures.0

pub returns-in_err-plans-clause-uncopied : goal.returns-in_err-plans-clause-uncopied
returns-in_err-plans-clause-uncopied g c =
    IfOk-from_err c.from_residual-in_err-plans.result _ c.from_residual-in_err-plans.ensures.0

pub returns-in_err-plans-clause-many : goal.returns-in_err-plans-clause-many
returns-in_err-plans-clause-many g c =
    IfOk-from_err c.from_residual-in_err-plans.result _ c.from_residual-in_err-plans.ensures.0

pub returns-clause-extent : goal.returns-clause-extent
returns-clause-extent g c =
    c.in_ok-plans.ensures.extent ∙ c.in_ok-map.ensures.extent ∙ c.in_ok-header.ensures.extent

pub returns-clause-faults_err : goal.returns-clause-faults_err
returns-clause-faults_err g c =
    tt

pub returns-clause-placed : goal.returns-clause-placed
returns-clause-placed g c =
    c.in_ok-plans.ensures.placed

pub returns-clause-none : goal.returns-clause-none
returns-clause-none g c =
    c.in_ok-plans.ensures.none

pub returns-clause-uncopied : goal.returns-clause-uncopied
returns-clause-uncopied g c =
    c.in_ok-plans.ensures.uncopied

pub returns-clause-many : goal.returns-clause-many
returns-clause-many g c =
    c.in_ok-plans.ensures.many

pub returns-clause-sized : goal.returns-clause-sized
returns-clause-sized g c =
    subst (AreSized c.in_ok-plans.plans.items c.in_ok-header.header.geometry) (c.in_ok-map.ensures.extent ∙ c.in_ok-header.ensures.extent) c.in_ok-plans.ensures.sized
