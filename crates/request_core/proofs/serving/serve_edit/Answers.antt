use Rattle.std.proofs.Common.{length, true}
use Rattle.std.proofs.lemmas.Bool.{true≢false}
use Rattle.device_image.specs.Keeper.{KeeperState}
use Rattle.order_book.specs.Order.{has_room_for}
use Rattle.request_core.proofs.Passes.{not_grown, refused_passes}
use Rattle.std.proofs.Common.{◌∙◌, inl, inr, ap, refl, subst, sym, true, ℕ, Bool, arith, rules}
use Rattle.image_model.specs.Edit.{ByteEdit, IsEdit, becomes, edit_of}
use Rattle.image_model.specs.Image.{Image}
use Rattle.marks.specs.Known.{PassState}
use Rattle.nbd_wire.specs.declared.error.Errno.TheVariants.{Io, NoMemory}
use Rattle.nbd_wire.specs.declared.head.RequestHead.{RequestHead}
use Rattle.nbd_wire.specs.declared.message.Answer.TheVariants.{Refused}
use Rattle.order_book.specs.Edits.{NeedsDevice, TakesEdit, faults_after, image_in, keeper_after}
use Rattle.order_book.specs.Order.{OrderState}
use Rattle.order_book.specs.declared.fault.OrderFault.{OrderFault}
use Rattle.checkpoint.specs.declared.fault.KeeperFault.TheVariants as refusal
use Rattle.order_book.specs.laws.Edited.{room_shown}
use Rattle.order_book.specs.Edits.{IsKnownBy}
use Rattle.request_core.specs.Serving.{ready_for, served_after}
use Rattle.request_core.proofs.AcceptedEdits.{edit_refused, faults_apart, not_refused, room_over, taken_over, taken_passes}
use Rattle.request_core.proofs.Writes.{edit_takes, waits_same}
use Rattle.request_core.specs.laws.Requests.{write_others}
use Rattle.marks.specs.Client.{accepting}
use Rattle.order_book.specs.Edits.{HasAskedEdit}
use Rattle.request_core.proofs.Clients.{asked_edit, client_refused, client_taken}
use Rattle.request_core.proofs.serving.serve_edit.Goals as goal
use Rattle.export_model.specs.Log.{edit_asked, waits_for_store}

pub returns-in-Ok : goal.returns-in-Ok
returns-in-Ok g c = record {
  blocks = c.in-Ok.ensures.blocks;
  geometry = ap (λ (k : KeeperState g.row.D.Denot). k.geometry) c.in-Ok.ensures.keeper_ok;
  count = ap (λ (k : KeeperState g.row.D.Denot). k.count) c.in-Ok.ensures.keeper_ok;
  extent = c.in-Ok.ensures.extent;
  honest = c.in-Ok.ensures.honest;
  asked =
      let state = g.D.Disk.state in
      let honest = g.D.Disk.honest in
      let request = c.args.request in
      let geometry = c.args.terms.geometry in
      let head = c.split_request-edit.result.0 in
      let old = c.args.order.now in
      let new = c.accept_edit.new.self in
      let keeper = c.args.keeper.now in
      let edit_is = c.split_request-edit.ensures.edit in
      let head_is = c.split_request-edit.ensures.head in
      let asked = λ (given : Image) (taken : TakesEdit (edit_of c.split_request-edit.result.1) given old new c.args.pass.now c.accept_edit.new.pass).
      subst (λ (e : ByteEdit). TakesEdit e given old new c.args.pass.now c.accept_edit.new.pass) edit_is taken in
      let (image, shows, own) = c.in-Ok.ensures.taken in
      let takes : IsEdit geometry.blocks (edit_asked request) = edit_takes request geometry c.requires.range c.split_request-edit.ensures.whole c.split_request-edit.ensures.few in
      let left = not_refused old (becomes (edit_asked request) (image_in old.cache)) c.requires.needs.accepted c.in-Ok.ensures.numbers.mark in
      let room = sym (room_shown old (edit_asked request) image shows) ∙ left.1 in
      let waits = waits_for_store c.args.terms.mode request in
      inl (record {
        served = inr (
          left.0,
          image,
          inr (inr (
            taken_over request geometry (IsKnownBy state honest keeper old) old new c.args.pass.now c.accept_edit.new.pass image shows takes room (asked image own)
                (λ given known. asked given (c.in-Ok.ensures.image known.sure known.base given known.fronts known.last known.holds known.shows known.clean)),
            c.answer_write.ensures ∙ ap (λ (b : Bool). served_after b head.cookie c.in-Ok.number) (waits_same c.args.terms.mode head request head_is)
                ∙ ap (λ (h : RequestHead). served_after waits h.cookie c.in-Ok.number) head_is ∙ ap (λ (n : ℕ). served_after waits request.head.cookie n) c.in-Ok.ensures.number,
          )),
        );
        works = λ failed. let wrong = c.in-Ok.ensures.failed.1 (failed, subst (λ (e : ByteEdit). NeedsDevice old e) (sym edit_is) c.requires.needs) in absurd wrong;
        keeper_is = c.in-Ok.ensures.keeper_ok;
        level = c.in-Ok.ensures.faults_ok;
        only_read = c.in-Ok.ensures.only_read;
        holds = λ sure base fronts last holds. c.in-Ok.ensures.holds sure base fronts last holds (λ none. none);
      });
  pass =
      let request = c.args.request in
      let head = c.split_request-edit.result.0 in
      let old = c.args.order.now in
      let new = c.accept_edit.new.self in
      let edit_is = c.split_request-edit.ensures.edit in
      let head_is = c.split_request-edit.ensures.head in
      let (image, shows, own) = c.in-Ok.ensures.taken in
      let taken = subst (λ (e : ByteEdit). TakesEdit e image old new c.args.pass.now c.accept_edit.new.pass) edit_is own in
      let waits = waits_for_store c.args.terms.mode request in
      let others = write_others request.head.kind c.requires.write in
      let known_is = c.in-Ok.ensures.known in
      taken_passes g.B.BoardName.opening request c.args.terms.mode old new image c.args.pass.now c.accept_edit.new.pass others.0 (omega (arith, known_is, c.in-Ok.ensures.number)) c.in-Ok.ensures.knew c.in-Ok.ensures.place taken c.answer_write.result
      (c.answer_write.ensures ∙ ap (λ (b : Bool). served_after b head.cookie c.in-Ok.number) (waits_same c.args.terms.mode head request head_is)
      ∙ ap (λ (h : RequestHead). served_after waits h.cookie c.in-Ok.number) head_is ∙ ap (λ (n : ℕ). served_after waits request.head.cookie n) c.in-Ok.ensures.number);
  client =
      let request = c.args.request in
      let head = c.split_request-edit.result.0 in
      let old = c.args.order.now in
      let head_is = c.split_request-edit.ensures.head in
      let waits = waits_for_store c.args.terms.mode request in
      let (image, shows, taken) = c.in-Ok.ensures.taken in
      client_taken g.T.Trust.mode request old.mark c.accept_edit.new.self.mark waits c.answer_write.result c.args.pass.now.client c.accept_edit.new.pass.client (write_others request.head.kind c.requires.write).0 (ap (λ (o : OrderState). o.mark) taken.taken)
      (c.in-Ok.ensures.client ∙ ap (λ (n : ℕ). accepting g.T.Trust.mode n c.args.pass.now.client) c.in-Ok.ensures.number)
      (c.answer_write.ensures ∙ ap (λ (b : Bool). served_after b head.cookie c.in-Ok.number) (waits_same c.args.terms.mode head request head_is)
      ∙ ap (λ (h : RequestHead). served_after waits h.cookie c.in-Ok.number) head_is ∙ ap (λ (n : ℕ). served_after waits request.head.cookie n) c.in-Ok.ensures.number);
  grown =
      λ more.
      let (image, shows, own) = c.in-Ok.ensures.taken in
      ap (λ (p : PassState). p.history) own.pass;
}

pub returns-in-Err-NoMemory-default : goal.returns-in-Err-NoMemory-default
returns-in-Err-NoMemory-default g c = record {
  blocks = c.in-Err-NoMemory-default.ensures.blocks;
  geometry = ap (λ (k : KeeperState g.row.D.Denot). k.geometry) (c.in-Err-NoMemory-default.ensures.keeper_err ∙ ap (λ (f : OrderFault). keeper_after f c.args.keeper.now c.accept_edit.new.keeper.disk) c.in-Err-NoMemory-default.field-0-0-is);
  count = ap (λ (k : KeeperState g.row.D.Denot). k.count) (c.in-Err-NoMemory-default.ensures.keeper_err ∙ ap (λ (f : OrderFault). keeper_after f c.args.keeper.now c.accept_edit.new.keeper.disk) c.in-Err-NoMemory-default.field-0-0-is);
  extent = c.in-Err-NoMemory-default.ensures.extent;
  honest = c.in-Err-NoMemory-default.ensures.honest;
  asked =
      let state = g.D.Disk.state in
      let honest = g.D.Disk.honest in
      let request = c.args.request in
      let old = c.args.order.now in
      let keeper = c.args.keeper.now in
      let left = not_refused old (becomes (edit_asked request) (image_in old.cache)) c.requires.needs.accepted c.in-Err-NoMemory-default.ensures.numbers.mark in
      let fault_is = c.in-Err-NoMemory-default.field-0-0-is in
      inl (record {
        served = inr (
          left.0,
          image_in old.cache,
          inr (inl (
            room_over request (IsKnownBy state honest keeper old) old true (λ given known. known.shows) left.1,
            c.in-Err-NoMemory-default.ensures.unchanged,
            c.refuse.ensures ∙ ap (λ (h : RequestHead). ready_for h.cookie (Refused NoMemory)) c.split_request-edit.ensures.head,
          )),
        );
        works = λ failed. c.in-Err-NoMemory-default.ensures.unchanged;
        keeper_is = c.in-Err-NoMemory-default.ensures.keeper_err ∙ ap (λ (f : OrderFault). keeper_after f keeper c.accept_edit.new.keeper.disk) fault_is;
        level = c.in-Err-NoMemory-default.ensures.faults_err ∙ ap (λ (f : OrderFault). faults_after f (g.D.Disk.faults keeper.disk)) fault_is;
        only_read = c.in-Err-NoMemory-default.ensures.only_read;
        holds = λ sure base fronts last holds. c.in-Err-NoMemory-default.ensures.holds sure base fronts last holds (λ is. faults_apart.2 (sym fault_is ∙ is));
      });
  pass = refused_passes g.B.BoardName.opening c.args.request c.args.order.now.mark c.refuse.result c.args.pass.now _ _ _ _ c.refuse.ensures (ap (λ (o : OrderState). o.mark) c.in-Err-NoMemory-default.ensures.unchanged) c.in-Err-NoMemory-default.ensures.pass_unchanged;
  client = client_refused g.T.Trust.mode c.args.request c.args.order.now.mark _ (ap (λ (o : OrderState). o.mark) c.in-Err-NoMemory-default.ensures.unchanged) c.refuse.result c.args.pass.now.client _ _ _ c.refuse.ensures (ap (λ (p : PassState). p.client) c.in-Err-NoMemory-default.ensures.pass_unchanged);
  grown = not_grown _ _ (ap (λ (o : OrderState). o.mark) c.in-Err-NoMemory-default.ensures.unchanged);
}

pub returns-in-Err-DeviceFault-default : goal.returns-in-Err-DeviceFault-default
returns-in-Err-DeviceFault-default g c = record {
  blocks = ap (λ (o : OrderState). length o.cache.states) c.stop_order.ensures.order ∙ c.in-Err-DeviceFault-default.ensures.blocks;
  geometry = ap (λ (k : KeeperState g.row.D.Denot). k.geometry) (c.in-Err-DeviceFault-default.ensures.keeper_err ∙ ap (λ (f : OrderFault). keeper_after f c.args.keeper.now c.accept_edit.new.keeper.disk) c.in-Err-DeviceFault-default.field-0-0-is);
  count = ap (λ (k : KeeperState g.row.D.Denot). k.count) (c.in-Err-DeviceFault-default.ensures.keeper_err ∙ ap (λ (f : OrderFault). keeper_after f c.args.keeper.now c.accept_edit.new.keeper.disk) c.in-Err-DeviceFault-default.field-0-0-is);
  extent = c.in-Err-DeviceFault-default.ensures.extent;
  honest = c.in-Err-DeviceFault-default.ensures.honest;
  asked =
      let request = c.args.request in
      let geometry = c.args.terms.geometry in
      let keeper = c.args.keeper.now in
      let fault_is = c.in-Err-DeviceFault-default.field-0-0-is in
      let takes : IsEdit geometry.blocks (edit_asked request) = edit_takes request geometry c.requires.range c.split_request-edit.ensures.whole c.split_request-edit.ensures.few in
      inr (edit_refused g.D.Disk.state g.D.Disk.faults g.D.Disk.honest request geometry c.args.order.now c.stop_order.new.order keeper c.accept_edit.new.keeper c.stop_order.result takes c.requires.needs
      c.in-Err-DeviceFault-default.ensures.numbers.mark (record {
        refusal = refusal.DeviceFault;
        cause = inl refl;
        answer = c.stop_order.ensures.answer ∙ ap (λ (h : RequestHead). ready_for h.cookie (Refused Io)) c.split_request-edit.ensures.head;
        order = c.stop_order.ensures.order ∙ ap (λ (o : OrderState). record o { stopped = true }) c.in-Err-DeviceFault-default.ensures.unchanged;
        keeper_is = c.in-Err-DeviceFault-default.ensures.keeper_err ∙ ap (λ (f : OrderFault). keeper_after f keeper c.accept_edit.new.keeper.disk) fault_is;
        level = c.in-Err-DeviceFault-default.ensures.faults_err ∙ ap (λ (f : OrderFault). faults_after f (g.D.Disk.faults keeper.disk)) fault_is;
        only_read = c.in-Err-DeviceFault-default.ensures.only_read;
      }));
  pass = refused_passes g.B.BoardName.opening c.args.request c.args.order.now.mark c.stop_order.result c.args.pass.now _ _ _ _ c.stop_order.ensures.answer (ap (λ (o : OrderState). o.mark) c.stop_order.ensures.order ∙ ap (λ (o : OrderState). o.mark) c.in-Err-DeviceFault-default.ensures.unchanged) c.in-Err-DeviceFault-default.ensures.pass_unchanged;
  client = client_refused g.T.Trust.mode c.args.request c.args.order.now.mark _ (ap (λ (o : OrderState). o.mark) c.stop_order.ensures.order ∙ ap (λ (o : OrderState). o.mark) c.in-Err-DeviceFault-default.ensures.unchanged) c.stop_order.result c.args.pass.now.client _ _ _ c.stop_order.ensures.answer (ap (λ (p : PassState). p.client) c.in-Err-DeviceFault-default.ensures.pass_unchanged);
  grown = not_grown _ _ (ap (λ (o : OrderState). o.mark) c.stop_order.ensures.order ∙ ap (λ (o : OrderState). o.mark) c.in-Err-DeviceFault-default.ensures.unchanged);
}

pub returns-in-Err-Failed-default : goal.returns-in-Err-Failed-default
returns-in-Err-Failed-default g c = record {
  blocks = ap (λ (o : OrderState). length o.cache.states) c.stop_order-in-Err-Failed-default.ensures.order ∙ c.in-Err-Failed-default.ensures.blocks;
  geometry = ap (λ (k : KeeperState g.row.D.Denot). k.geometry) (c.in-Err-Failed-default.ensures.keeper_err ∙ ap (λ (f : OrderFault). keeper_after f c.args.keeper.now c.accept_edit.new.keeper.disk) c.in-Err-Failed-default.field-0-0-is);
  count = ap (λ (k : KeeperState g.row.D.Denot). k.count) (c.in-Err-Failed-default.ensures.keeper_err ∙ ap (λ (f : OrderFault). keeper_after f c.args.keeper.now c.accept_edit.new.keeper.disk) c.in-Err-Failed-default.field-0-0-is);
  extent = c.in-Err-Failed-default.ensures.extent;
  honest = c.in-Err-Failed-default.ensures.honest;
  asked =
      let request = c.args.request in
      let geometry = c.args.terms.geometry in
      let keeper = c.args.keeper.now in
      let fault_is = c.in-Err-Failed-default.field-0-0-is in
      let takes : IsEdit geometry.blocks (edit_asked request) = edit_takes request geometry c.requires.range c.split_request-edit.ensures.whole c.split_request-edit.ensures.few in
      inr (edit_refused g.D.Disk.state g.D.Disk.faults g.D.Disk.honest request geometry c.args.order.now c.stop_order-in-Err-Failed-default.new.order keeper c.accept_edit.new.keeper c.stop_order-in-Err-Failed-default.result takes c.requires.needs
      c.in-Err-Failed-default.ensures.numbers.mark (record {
        refusal = refusal.Failed;
        cause = inr (refl, (c.in-Err-Failed-default.ensures.failed.0 c.in-Err-Failed-default.field-0-0-is).0);
        answer = c.stop_order-in-Err-Failed-default.ensures.answer ∙ ap (λ (h : RequestHead). ready_for h.cookie (Refused Io)) c.split_request-edit.ensures.head;
        order = c.stop_order-in-Err-Failed-default.ensures.order ∙ ap (λ (o : OrderState). record o { stopped = true }) c.in-Err-Failed-default.ensures.unchanged;
        keeper_is = c.in-Err-Failed-default.ensures.keeper_err ∙ ap (λ (f : OrderFault). keeper_after f keeper c.accept_edit.new.keeper.disk) fault_is;
        level = c.in-Err-Failed-default.ensures.faults_err ∙ ap (λ (f : OrderFault). faults_after f (g.D.Disk.faults keeper.disk)) fault_is;
        only_read = c.in-Err-Failed-default.ensures.only_read;
      }));
  pass = refused_passes g.B.BoardName.opening c.args.request c.args.order.now.mark c.stop_order-in-Err-Failed-default.result c.args.pass.now _ _ _ _ c.stop_order-in-Err-Failed-default.ensures.answer (ap (λ (o : OrderState). o.mark) c.stop_order-in-Err-Failed-default.ensures.order ∙ ap (λ (o : OrderState). o.mark) c.in-Err-Failed-default.ensures.unchanged) c.in-Err-Failed-default.ensures.pass_unchanged;
  client = client_refused g.T.Trust.mode c.args.request c.args.order.now.mark _ (ap (λ (o : OrderState). o.mark) c.stop_order-in-Err-Failed-default.ensures.order ∙ ap (λ (o : OrderState). o.mark) c.in-Err-Failed-default.ensures.unchanged) c.stop_order-in-Err-Failed-default.result c.args.pass.now.client _ _ _ c.stop_order-in-Err-Failed-default.ensures.answer (ap (λ (p : PassState). p.client) c.in-Err-Failed-default.ensures.pass_unchanged);
  grown = not_grown _ _ (ap (λ (o : OrderState). o.mark) c.stop_order-in-Err-Failed-default.ensures.order ∙ ap (λ (o : OrderState). o.mark) c.in-Err-Failed-default.ensures.unchanged);
}

pub returns-in-Err-NoRoom-default : goal.returns-in-Err-NoRoom-default
returns-in-Err-NoRoom-default g c = record {
  blocks = c.in-Err-NoRoom-default.ensures.blocks;
  geometry = ap (λ (k : KeeperState g.row.D.Denot). k.geometry) (c.in-Err-NoRoom-default.ensures.keeper_err ∙ ap (λ (f : OrderFault). keeper_after f c.args.keeper.now c.accept_edit.new.keeper.disk) c.in-Err-NoRoom-default.field-0-0-is);
  count = ap (λ (k : KeeperState g.row.D.Denot). k.count) (c.in-Err-NoRoom-default.ensures.keeper_err ∙ ap (λ (f : OrderFault). keeper_after f c.args.keeper.now c.accept_edit.new.keeper.disk) c.in-Err-NoRoom-default.field-0-0-is);
  extent = c.in-Err-NoRoom-default.ensures.extent;
  honest = c.in-Err-NoRoom-default.ensures.honest;
  asked =
      let left = not_refused c.args.order.now (becomes (edit_asked c.args.request) (image_in c.args.order.now.cache)) c.requires.needs.accepted c.in-Err-NoRoom-default.ensures.numbers.mark in
      let none = c.in-Err-NoRoom-default.ensures.no_room.0 c.in-Err-NoRoom-default.field-0-0-is in
      absurd (true≢false (sym left.1 ∙ ap (λ (e : ByteEdit). has_room_for c.args.order.now (becomes e (image_in c.args.order.now.cache))) (sym c.split_request-edit.ensures.edit) ∙ none.2));
  pass = c.in-Err-NoRoom-default.ensures.pass_unchanged;
  client = ap (λ (p : PassState). p.client) c.in-Err-NoRoom-default.ensures.pass_unchanged;
  grown = not_grown _ _ (ap (λ (o : OrderState). o.mark) c.in-Err-NoRoom-default.ensures.unchanged);
}

pub returns-in-Err-NumbersFull-default : goal.returns-in-Err-NumbersFull-default
returns-in-Err-NumbersFull-default g c = record {
  blocks = c.in-Err-NumbersFull-default.ensures.blocks;
  geometry = ap (λ (k : KeeperState g.row.D.Denot). k.geometry) (c.in-Err-NumbersFull-default.ensures.keeper_err ∙ ap (λ (f : OrderFault). keeper_after f c.args.keeper.now c.accept_edit.new.keeper.disk) c.in-Err-NumbersFull-default.field-0-0-is);
  count = ap (λ (k : KeeperState g.row.D.Denot). k.count) (c.in-Err-NumbersFull-default.ensures.keeper_err ∙ ap (λ (f : OrderFault). keeper_after f c.args.keeper.now c.accept_edit.new.keeper.disk) c.in-Err-NumbersFull-default.field-0-0-is);
  extent = c.in-Err-NumbersFull-default.ensures.extent;
  honest = c.in-Err-NumbersFull-default.ensures.honest;
  asked =
      let left = not_refused c.args.order.now (becomes (edit_asked c.args.request) (image_in c.args.order.now.cache)) c.requires.needs.accepted c.in-Err-NumbersFull-default.ensures.numbers.mark in
      let full = c.in-Err-NumbersFull-default.ensures.numbers_full.0 c.in-Err-NumbersFull-default.field-0-0-is in
      absurd (omega (arith, left.0, full.1));
  pass = refused_passes g.B.BoardName.opening c.args.request c.args.order.now.mark c.refuse-in-Err-NumbersFull-default.result c.args.pass.now _ _ _ _ c.refuse-in-Err-NumbersFull-default.ensures (ap (λ (o : OrderState). o.mark) c.in-Err-NumbersFull-default.ensures.unchanged) c.in-Err-NumbersFull-default.ensures.pass_unchanged;
  client = client_refused g.T.Trust.mode c.args.request c.args.order.now.mark _ (ap (λ (o : OrderState). o.mark) c.in-Err-NumbersFull-default.ensures.unchanged) c.refuse-in-Err-NumbersFull-default.result c.args.pass.now.client _ _ _ c.refuse-in-Err-NumbersFull-default.ensures (ap (λ (p : PassState). p.client) c.in-Err-NumbersFull-default.ensures.pass_unchanged);
  grown = not_grown _ _ (ap (λ (o : OrderState). o.mark) c.in-Err-NumbersFull-default.ensures.unchanged);
}

pub returns-in-Err-Stopped-default : goal.returns-in-Err-Stopped-default
returns-in-Err-Stopped-default g c = record {
  blocks = ap (λ (o : OrderState). length o.cache.states) c.stop_order-in-Err-Stopped-default.ensures.order ∙ c.in-Err-Stopped-default.ensures.blocks;
  geometry = ap (λ (k : KeeperState g.row.D.Denot). k.geometry) (c.in-Err-Stopped-default.ensures.keeper_err ∙ ap (λ (f : OrderFault). keeper_after f c.args.keeper.now c.accept_edit.new.keeper.disk) c.in-Err-Stopped-default.field-0-0-is);
  count = ap (λ (k : KeeperState g.row.D.Denot). k.count) (c.in-Err-Stopped-default.ensures.keeper_err ∙ ap (λ (f : OrderFault). keeper_after f c.args.keeper.now c.accept_edit.new.keeper.disk) c.in-Err-Stopped-default.field-0-0-is);
  extent = c.in-Err-Stopped-default.ensures.extent;
  honest = c.in-Err-Stopped-default.ensures.honest;
  asked = absurd (true≢false (sym (c.in-Err-Stopped-default.ensures.stopped.0 c.in-Err-Stopped-default.field-0-0-is) ∙ c.requires.works));
  pass = refused_passes g.B.BoardName.opening c.args.request c.args.order.now.mark c.stop_order-in-Err-Stopped-default.result c.args.pass.now _ _ _ _ c.stop_order-in-Err-Stopped-default.ensures.answer (ap (λ (o : OrderState). o.mark) c.stop_order-in-Err-Stopped-default.ensures.order ∙ ap (λ (o : OrderState). o.mark) c.in-Err-Stopped-default.ensures.unchanged) c.in-Err-Stopped-default.ensures.pass_unchanged;
  client = client_refused g.T.Trust.mode c.args.request c.args.order.now.mark _ (ap (λ (o : OrderState). o.mark) c.stop_order-in-Err-Stopped-default.ensures.order ∙ ap (λ (o : OrderState). o.mark) c.in-Err-Stopped-default.ensures.unchanged) c.stop_order-in-Err-Stopped-default.result c.args.pass.now.client _ _ _ c.stop_order-in-Err-Stopped-default.ensures.answer (ap (λ (p : PassState). p.client) c.in-Err-Stopped-default.ensures.pass_unchanged);
  grown = not_grown _ _ (ap (λ (o : OrderState). o.mark) c.stop_order-in-Err-Stopped-default.ensures.order ∙ ap (λ (o : OrderState). o.mark) c.in-Err-Stopped-default.ensures.unchanged);
}

pub split_request-edit-requires : goal.split_request-edit-requires
split_request-edit-requires g c = record { write = c.requires.write }

pub accept_edit-requires-clause-few : goal.accept_edit-requires-clause-few
accept_edit-requires-clause-few g c = search rules

pub accept_edit-requires-clause-device : goal.accept_edit-requires-clause-device
accept_edit-requires-clause-device g c = search rules

pub join_request-requires : goal.join_request-requires
join_request-requires g c = search rules

pub accept_edit-requires-clause-edit : goal.accept_edit-requires-clause-edit
accept_edit-requires-clause-edit g c =
    let request = c.args.request in
    let takes = edit_takes request c.args.terms.geometry c.requires.range c.split_request-edit.ensures.whole c.split_request-edit.ensures.few in
    subst (λ (e : ByteEdit). IsEdit (length c.args.order.now.cache.states) e) (sym c.split_request-edit.ensures.edit)
    (subst (λ (n : ℕ). IsEdit n (edit_asked request)) (sym c.requires.blocks) takes)

pub accept_edit-requires-clause-asked : goal.accept_edit-requires-clause-asked
accept_edit-requires-clause-asked g c = λ kept.
    subst (λ (e : ByteEdit). HasAskedEdit g.T.Trust.trusted g.T.Trust.image c.args.order.now e c.args.pass.now.client) (sym c.split_request-edit.ensures.edit)
    (asked_edit g.T.Trust.trusted g.T.Trust.image c.args.order.now c.args.request c.args.pass.now.client c.requires.write (c.requires.asked kept))

pub accept_edit-requires-clause-known : goal.accept_edit-requires-clause-known
accept_edit-requires-clause-known g c = c.requires.known
