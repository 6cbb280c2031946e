use Rattle.std.proofs.Common.{◌≡◌, ◌≤◌, ◌/◌, ◌∙◌, length, false, refl, inl, inr, subst, sym, ⊎_elim}
use Rattle.std.specs.Bool.{IsTrue}
use Rattle.std.proofs.lemmas.Bool.{cases_Bool, true≢false}
use Rattle.checkpoint.specs.Keeper.{refused_by}
use Rattle.checkpoint.specs.declared.fault.KeeperFault.{KeeperFault}
use Rattle.device_image.specs.Holds.{Holds, joined}
use Rattle.device_image.specs.Keeper.{KeeperState}
use Rattle.image_model.specs.Edit.{IsEdit, becomes, edit_of, offset_of}
use Rattle.image_model.specs.Image.{apply_all}
use Rattle.order_book.specs.Edits.{LacksOld, NeedsDevice, image_in, image_with}
use Rattle.journal_format.specs.laws.Chained.{none_read}
use Rattle.order_book.specs.declared.fault.OrderFault.TheVariants.{DeviceFault, Failed, NoMemory}
use Rattle.order_book.specs.Order.{OrderState}
use Rattle.order_book.specs.Reading.{IsCleanAt}
use Rattle.order_book.specs.Shown.{ShowsImage}
use Rattle.order_book.specs.laws.Edited.{IsSameFor, same_becomes, same_takes, shows_in, shows_with}
use Rattle.order_book.proofs.ExcludedRefusals.{IsHeld, IsUnread, always, each_err, faults_read, faults_same, keeper_read, keeper_same, memory_alone, never, never_then, not_full, not_no_room, not_stopped, unread_failed, unread_faults, unread_full, unread_keeper, unread_room, unread_stopped}
use Rattle.order_book.proofs.Editing.{same_read}
use Rattle.order_book.proofs.KeeperRefusalHandedOn.{ok_is_none}
use Rattle.order_book.proofs.EditBecomesCommand.{has_asked, map_ok}
use Rattle.order_book.proofs.order.Order.accept_edit.Goals as goal

pub returns-then-not-needs_device : goal.returns-then-not-needs_device
returns-then-not-needs_device g c = record {
  number = c.accept_in_memory.ensures.number;
  taken =
      let cache = c.args.self.now.cache in
      map_ok c.accept_in_memory.result (λ taken. (image_in cache, shows_in cache, taken)) (c.accept_in_memory.ensures.taken (image_in cache) (shows_in cache));
  held = λ none image shows. c.accept_in_memory.ensures.taken image shows;
  image = λ honest base image fronts last holds shows clean. c.accept_in_memory.ensures.taken image shows;
  blocks = c.accept_in_memory.ensures.blocks;
  numbers = c.accept_in_memory.ensures.numbers;
  place = c.accept_in_memory.ensures.place;
  handed_back = c.accept_in_memory.ensures.handed_back;
  unchanged = c.accept_in_memory.ensures.unchanged;
  known = c.accept_in_memory.ensures.known;
  knew = c.accept_in_memory.ensures.knew;
  client = c.accept_in_memory.ensures.client;
  pass_unchanged = c.accept_in_memory.ensures.pass_unchanged;
  stopped = c.accept_in_memory.ensures.stopped;
  numbers_full = c.accept_in_memory.ensures.numbers_full;
  no_room = c.accept_in_memory.ensures.no_room;
  device_fault = never_then c.accept_in_memory.result DeviceFault _ (each_err c.accept_in_memory.result (IsHeld c.accept_in_memory.result) (λ fault. fault ≡ DeviceFault → ⊥) (λ fault apart. apart.0) c.accept_in_memory.ensures.no_device);
  failed =
      never c.accept_in_memory.result Failed (IsTrue c.args.keeper.now.failed × NeedsDevice c.args.self.now (edit_of c.args.edit))
      (each_err c.accept_in_memory.result (IsHeld c.accept_in_memory.result) (λ fault. fault ≡ Failed → ⊥) (λ fault apart. apart.1) c.accept_in_memory.ensures.no_device) (λ both. true≢false (sym (c.needs_device.ensures.1 both.1) ∙ c.if-not-needs_device.true));
  hit = λ none. refl;
  keeper_ok = always c.accept_in_memory.result refl;
  keeper_err = keeper_same c.accept_in_memory.result c.args.keeper.now c.accept_in_memory.ensures.no_device;
  extent = refl;
  faults_ok = always c.accept_in_memory.result refl;
  faults_err = faults_same c.accept_in_memory.result (g.D.Disk.faults c.args.keeper.now.disk) c.accept_in_memory.ensures.no_device;
  honest = (λ honest. honest, λ honest. honest);
  only_read = λ honest. none_read (g.met.D.Disk.sound c.args.keeper.now.disk honest);
  holds = λ honest base fronts last holds no_fault. holds;
}

pub returns-in-Ok : goal.returns-in-Ok
returns-in-Ok g c =
    let needs = c.needs_device.ensures.0 c.if-not-needs_device.false in
    let change = becomes (edit_of c.args.edit) (image_in c.args.self.now.cache) in
    let memory = c.take_edit.ensures.memory in record {
      number = c.take_edit.ensures.number;
      taken =
          let cache = c.args.self.now.cache in
          let first = offset_of (edit_of c.args.edit) / 4096 in
          map_ok c.take_edit.result
          (λ taken. (image_with cache first c.read_old.new.head c.read_old.new.tail, shows_with cache first c.read_old.new.head c.read_old.new.tail, taken))
          c.take_edit.ensures.taken;
      held = λ none image shows. absurd (none needs);
      image = λ honest base image fronts last holds shows clean.
          let edit = edit_of c.args.edit in
          let first = offset_of edit / 4096 in
          let head = c.read_old.new.head in
          let tail = c.read_old.new.tail in
          let same = subst (λ (o : OrderState). ShowsImage image o.cache → IsCleanAt base (joined fronts) image o.dirty → IsSameFor edit (image_with o.cache first head tail) image) c.self.view_is
          (λ given at. same_read edit base image (joined fronts) c.self.inside.cache first head tail given at (c.in-Ok.ensures.bytes honest base fronts last holds)) shows clean in
          map_ok c.take_edit.result (λ taken. same_takes edit _ image _ _ _ _ (same_becomes edit _ image c.requires.edit.some same) taken) c.take_edit.ensures.taken;
      blocks = c.take_edit.ensures.blocks;
      numbers = c.mark-mark.ensures.numbers;
      place = sym c.mark-mark.ensures.mark ∙ c.mark-mark.ensures.place;
      handed_back = c.take_edit.ensures.handed_back;
      unchanged = c.take_edit.ensures.unchanged;
      known = c.take_edit.ensures.known;
      knew = c.take_edit.ensures.knew;
      client = c.take_edit.ensures.client;
      pass_unchanged = c.take_edit.ensures.pass_unchanged;
      stopped = not_stopped c.take_edit.result c.args.self.now change needs.accepted memory;
      numbers_full = not_full c.take_edit.result c.args.self.now change needs.accepted memory;
      no_room = not_no_room c.take_edit.result c.args.self.now change needs.accepted memory;
      device_fault = λ is. needs;
      failed =
          let lacks = subst (λ (o : OrderState). LacksOld (edit_of c.args.edit) o.cache) (sym c.self.view_is) needs.lacks in
          never c.take_edit.result Failed (IsTrue c.args.keeper.now.failed × NeedsDevice c.args.self.now (edit_of c.args.edit))
          (each_err c.take_edit.result (λ fault. fault ≡ NoMemory) (λ fault. fault ≡ Failed → ⊥) (λ fault is. (memory_alone fault is).failed) memory)
          (λ both. ok_is_none tt KeeperFault.Failed (c.in-Ok.ensures.failed.1 (both.0, lacks)));
      hit = λ none. absurd (none needs);
      keeper_ok = always c.take_edit.result c.in-Ok.ensures.ok;
      keeper_err = keeper_read c.take_edit.result c.args.keeper.now c.read_old.new.keeper c.in-Ok.ensures.ok memory;
      extent = c.in-Ok.ensures.extent;
      faults_ok = always c.take_edit.result c.in-Ok.ensures.faults_ok;
      faults_err = faults_read c.take_edit.result _ _ c.in-Ok.ensures.faults_ok memory;
      honest = c.in-Ok.ensures.honest;
      only_read = c.in-Ok.ensures.only_read;
      holds = λ honest base fronts last holds no_fault. c.in-Ok.ensures.holds honest base fronts last holds;
    }

pub returns-in-Err : goal.returns-in-Err
returns-in-Err g c =
    let needs = c.needs_device.ensures.0 c.if-not-needs_device.false in
    let change = becomes (edit_of c.args.edit) (image_in c.args.self.now.cache) in
    let unread : IsUnread c.in-Err.fault c.from_keeper_fault.result = record { only = c.in-Err.ensures.only; device = c.from_keeper_fault.ensures.device_fault; failed = c.from_keeper_fault.ensures.failed } in record {
      number = tt;
      taken = tt;
      held = λ none image shows. tt;
      image = λ honest base image fronts last holds shows clean. tt;
      blocks = refl;
      numbers = c.mark-mark.ensures.numbers;
      place = sym c.mark-mark.ensures.mark ∙ c.mark-mark.ensures.place;
      handed_back = refl;
      unchanged = refl;
      known = tt;
      knew = tt;
      client = tt;
      pass_unchanged = refl;
      stopped = unread_stopped c.in-Err.fault c.from_keeper_fault.result unread c.args.self.now change needs.accepted;
      numbers_full = unread_full c.in-Err.fault c.from_keeper_fault.result unread c.args.self.now change needs.accepted;
      no_room = unread_room c.in-Err.fault c.from_keeper_fault.result unread c.args.self.now change needs.accepted;
      device_fault = λ is. needs;
      failed =
          let lacks = subst (λ (o : OrderState). LacksOld (edit_of c.args.edit) o.cache) (sym c.self.view_is) needs.lacks in
          unread_failed c.in-Err.fault c.from_keeper_fault.result unread
          c.in-Err.ensures.failed (λ both. (both.0, needs)) (λ both. (both.0, lacks));
      hit = λ none. absurd (none needs);
      keeper_ok = tt;
      keeper_err = unread_keeper c.in-Err.fault c.from_keeper_fault.result unread c.args.keeper.now c.read_old.new.keeper c.in-Err.ensures.err;
      extent = c.in-Err.ensures.extent;
      faults_ok = tt;
      faults_err = unread_faults c.in-Err.fault c.from_keeper_fault.result unread _ _ c.in-Err.ensures.faults_err;
      honest = c.in-Err.ensures.honest;
      only_read = c.in-Err.ensures.only_read;
      holds = λ honest base fronts last holds no_fault. elim c.in-Err.ensures.only [
        | inl is ↦ absurd (no_fault (c.from_keeper_fault.ensures.device_fault is))
        | inr is ↦
            let same = subst (λ (fault : KeeperFault). c.read_old.new.keeper ≡ refused_by fault c.args.keeper.now c.read_old.new.keeper.disk) is c.in-Err.ensures.err in
            subst (λ (keeper : KeeperState g.row.D.Denot). Holds keeper (g.D.Disk.state keeper.disk) base fronts last) (sym same) holds
      ];
    }

pub needs_device-requires-clause-edit : goal.needs_device-requires-clause-edit
needs_device-requires-clause-edit g c = c.requires.edit

pub needs_device-requires-clause-few : goal.needs_device-requires-clause-few
needs_device-requires-clause-few g c = c.requires.few

pub accept_in_memory-requires-clause-edit : goal.accept_in_memory-requires-clause-edit
accept_in_memory-requires-clause-edit g c = c.requires.edit

pub accept_in_memory-requires-clause-few : goal.accept_in_memory-requires-clause-few
accept_in_memory-requires-clause-few g c = c.requires.few

pub take_edit-requires-clause-edit : goal.take_edit-requires-clause-edit
take_edit-requires-clause-edit g c = c.requires.edit

pub take_edit-requires-clause-few : goal.take_edit-requires-clause-few
take_edit-requires-clause-few g c = c.requires.few

pub accept_in_memory-requires-clause-held : goal.accept_in_memory-requires-clause-held
accept_in_memory-requires-clause-held g c needs = true≢false (sym (c.needs_device.ensures.1 needs) ∙ c.if-not-needs_device.true)

pub read_old-requires-clause-edit : goal.read_old-requires-clause-edit
read_old-requires-clause-edit g c = subst (λ (o : OrderState). IsEdit (length o.cache.states) (edit_of c.args.edit)) (sym c.self.view_is) c.requires.edit

pub read_old-requires-clause-few : goal.read_old-requires-clause-few
read_old-requires-clause-few g c = subst (λ (o : OrderState). length o.cache.states ≤ 16777216) (sym c.self.view_is) c.requires.few

pub read_old-requires-clause-device : goal.read_old-requires-clause-device
read_old-requires-clause-device g c = c.requires.device

pub take_edit-requires-clause-head : goal.take_edit-requires-clause-head
take_edit-requires-clause-head g c = c.in-Ok.ensures.head

pub take_edit-requires-clause-tail : goal.take_edit-requires-clause-tail
take_edit-requires-clause-tail g c = c.in-Ok.ensures.tail

pub from_keeper_fault-requires : goal.from_keeper_fault-requires
from_keeper_fault-requires g c = c.in-Err.ensures.only

pub accept_in_memory-requires-clause-asked : goal.accept_in_memory-requires-clause-asked
accept_in_memory-requires-clause-asked g c = c.requires.asked

pub take_edit-requires-clause-asked : goal.take_edit-requires-clause-asked
take_edit-requires-clause-asked g c = λ kept.
    let edit = edit_of c.args.edit in
    let first = offset_of edit / 4096 in
    let head = c.read_old.new.head in
    let tail = c.read_old.new.tail in
    has_asked g.T.Trust.trusted g.T.Trust.image c.args.self.now edit c.args.pass.now.client _ (c.requires.asked kept)
    (λ trusted.
    let needs = c.needs_device.ensures.0 c.if-not-needs_device.false in
    let lacks = subst (λ (o : OrderState). LacksOld edit o.cache) (sym c.self.view_is) needs.lacks in
    let works : c.args.keeper.now.failed ≡ false =
    ⊎_elim (λ failed. absurd (ok_is_none tt KeeperFault.Failed (c.in-Ok.ensures.failed.1 (failed, lacks)))) (λ works. works) (cases_Bool c.args.keeper.now.failed) in
    let known = c.requires.known kept trusted works in
    let image = apply_all c.args.self.now.history g.T.Trust.image in
    let same = subst (λ (o : OrderState). ShowsImage image o.cache → IsCleanAt known.base (joined known.fronts) image o.dirty → IsSameFor edit (image_with o.cache first head tail) image) c.self.view_is
    (λ given at. same_read edit known.base image (joined known.fronts) c.self.inside.cache first head tail given at (c.in-Ok.ensures.bytes known.sure known.base known.fronts known.last known.holds)) known.shows known.clean in
    same_becomes edit _ image c.requires.edit.some same)
