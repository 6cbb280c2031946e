use Rattle.std.proofs.Common.{length, refl}
use Rattle.std.proofs.lemmas.Bool.{true≢false}
use Rattle.order_book.specs.Edits.{NeedsDevice as NeedsOld}
use Rattle.order_book.specs.Order.{OrderState}
use Rattle.nbd_wire.specs.declared.error.Errno.TheVariants.{NoSpace}
use Rattle.request_core.proofs.Passes.{not_grown, refused_passes}
use Rattle.std.proofs.Common.{◌≡◌, ◌∙◌, inl, inr, ap, subst, sym, true, false, ℕ, Bool, arith, rules}
use Rattle.image_model.specs.Edit.{ByteEdit, IsEdit, becomes, edit_of}
use Rattle.image_model.specs.Image.{Image}
use Rattle.marks.specs.Known.{PassState}
use Rattle.nbd_wire.specs.declared.error.Errno.TheVariants.{NoMemory}
use Rattle.nbd_wire.specs.declared.head.RequestHead.{RequestHead}
use Rattle.nbd_wire.specs.declared.message.Answer.TheVariants.{Refused}
use Rattle.nbd_wire.specs.Request.{handed_len}
use Rattle.order_book.specs.Edits.{TakesEdit, image_in}
use Rattle.order_book.specs.Order.{has_room_for}
use Rattle.order_book.specs.Shown.{ShowsImage}
use Rattle.order_book.specs.laws.Edited.{shows_in}
use Rattle.request_core.specs.Serving.{ready_for, served_after}
use Rattle.request_core.specs.declared.serving.Served.TheVariants.{NoRoom}
use Rattle.request_core.proofs.AcceptedEdits.{faults_apart, room_over, taken_over, taken_passes}
use Rattle.request_core.proofs.Writes.{edit_takes, some_left, waits_same}
use Rattle.request_core.specs.laws.Requests.{write_others}
use Rattle.marks.specs.Client.{accepting}
use Rattle.order_book.specs.Edits.{HasAskedEdit}
use Rattle.request_core.proofs.Clients.{asked_edit, client_refused, client_taken}
use Rattle.request_core.proofs.serving.serve_held_edit.Goals as goal
use Rattle.export_model.specs.Log.{edit_asked, waits_for_store}

pub returns-in-Ok : goal.returns-in-Ok
returns-in-Ok g c = record {
  blocks = c.in-Ok.ensures.blocks;
  served =
      let request = c.args.request in
      let geometry = c.args.terms.geometry in
      let head = c.split_request-edit.result.0 in
      let old = c.args.order.now in
      let new = c.accept_in_memory.new.self in
      let image : Image = image_in old.cache in
      let edit_is = c.split_request-edit.ensures.edit in
      let head_is = c.split_request-edit.ensures.head in
      let takes : IsEdit geometry.blocks (edit_asked request) = edit_takes request geometry c.requires.range c.split_request-edit.ensures.whole c.split_request-edit.ensures.few in
      let left = some_left old (becomes (edit_of c.split_request-edit.result.1) image) c.in-Ok.ensures.numbers_full c.in-Ok.ensures.no_room (λ none. none) (λ none. none) c.requires.works c.in-Ok.ensures.numbers.mark in
      let room : has_room_for old (becomes (edit_asked request) image) ≡ true = subst (λ (e : ByteEdit). has_room_for old (becomes e image) ≡ true) edit_is left.1 in
      let over = λ (given : Image) (shows : ShowsImage given old.cache).
      subst (λ (e : ByteEdit). TakesEdit e given old new c.args.pass.now c.accept_in_memory.new.pass) edit_is (c.in-Ok.ensures.taken given shows) in
      let waits = waits_for_store c.args.terms.mode request in
      inr (
        left.0,
        image,
        inr (inr (
          taken_over request geometry (λ given. ShowsImage given old.cache) old new c.args.pass.now c.accept_in_memory.new.pass image (shows_in old.cache) takes room (over image (shows_in old.cache)) over,
          c.answer_write.ensures ∙ ap (λ (b : Bool). served_after b head.cookie c.in-Ok.number) (waits_same c.args.terms.mode head request head_is)
              ∙ ap (λ (h : RequestHead). served_after waits h.cookie c.in-Ok.number) head_is ∙ ap (λ (n : ℕ). served_after waits request.head.cookie n) c.in-Ok.ensures.number,
        )),
      );
  needs = (λ e. absurd (true≢false (sym e)), λ needs. absurd (true≢false (sym (c.needs_device.ensures.1 (subst (NeedsOld c.args.order.now) (sym c.split_request-edit.ensures.edit) needs)) ∙ c.if-needs_device.false)));
  handed_back = tt;
  unchanged = tt;
  pass =
      let request = c.args.request in
      let head = c.split_request-edit.result.0 in
      let old = c.args.order.now in
      let new = c.accept_in_memory.new.self in
      let image : Image = image_in old.cache in
      let edit_is = c.split_request-edit.ensures.edit in
      let head_is = c.split_request-edit.ensures.head in
      let taken = subst (λ (e : ByteEdit). TakesEdit e image old new c.args.pass.now c.accept_in_memory.new.pass) edit_is (c.in-Ok.ensures.taken image (shows_in old.cache)) in
      let waits = waits_for_store c.args.terms.mode request in
      let others = write_others request.head.kind c.requires.write in
      let known_is = c.in-Ok.ensures.known in
      taken_passes g.B.BoardName.opening request c.args.terms.mode old new image c.args.pass.now c.accept_in_memory.new.pass others.0 (omega (arith, known_is, c.in-Ok.ensures.number)) c.in-Ok.ensures.knew c.in-Ok.ensures.place taken c.answer_write.result
      (c.answer_write.ensures ∙ ap (λ (b : Bool). served_after b head.cookie c.in-Ok.number) (waits_same c.args.terms.mode head request head_is)
      ∙ ap (λ (h : RequestHead). served_after waits h.cookie c.in-Ok.number) head_is ∙ ap (λ (n : ℕ). served_after waits request.head.cookie n) c.in-Ok.ensures.number);
  client =
      let request = c.args.request in
      let head = c.split_request-edit.result.0 in
      let old = c.args.order.now in
      let head_is = c.split_request-edit.ensures.head in
      let waits = waits_for_store c.args.terms.mode request in
      let taken = c.in-Ok.ensures.taken (image_in old.cache) (shows_in old.cache) in
      client_taken g.T.Trust.mode request old.mark c.accept_in_memory.new.self.mark waits c.answer_write.result c.args.pass.now.client c.accept_in_memory.new.pass.client (write_others request.head.kind c.requires.write).0 (ap (λ (o : OrderState). o.mark) taken.taken)
      (c.in-Ok.ensures.client ∙ ap (λ (n : ℕ). accepting g.T.Trust.mode n c.args.pass.now.client) c.in-Ok.ensures.number)
      (c.answer_write.ensures ∙ ap (λ (b : Bool). served_after b head.cookie c.in-Ok.number) (waits_same c.args.terms.mode head request head_is)
      ∙ ap (λ (h : RequestHead). served_after waits h.cookie c.in-Ok.number) head_is ∙ ap (λ (n : ℕ). served_after waits request.head.cookie n) c.in-Ok.ensures.number);
  grown =
      λ more.
      let old = c.args.order.now in
      ap (λ (p : PassState). p.history) (c.in-Ok.ensures.taken (image_in old.cache) (shows_in old.cache)).pass;
}

pub returns-in-Err-NoRoom-default : goal.returns-in-Err-NoRoom-default
returns-in-Err-NoRoom-default g c = record {
  blocks = c.in-Err-NoRoom-default.ensures.blocks;
  served =
      let request = c.args.request in
      let old = c.args.order.now in
      let image : Image = image_in old.cache in
      let edit_is = c.split_request-edit.ensures.edit in
      let none = c.in-Err-NoRoom-default.ensures.no_room.0 c.in-Err-NoRoom-default.field-0-0-is in
      let room : has_room_for old (becomes (edit_asked request) image) ≡ false = subst (λ (e : ByteEdit). has_room_for old (becomes e image) ≡ false) edit_is none.2 in
      let back = ap edit_of c.in-Err-NoRoom-default.ensures.handed_back ∙ edit_is in
      inr (
        none.1,
        image,
        inl (
          room_over request (λ given. ShowsImage given old.cache) old false (λ given shows. shows) room,
          c.in-Err-NoRoom-default.ensures.unchanged,
          ap NoRoom (c.join_request-in-Err-NoRoom-default.ensures request (sym c.split_request-edit.ensures.head) (c.split_request-edit.ensures.whole ∙ ap handed_len (sym c.split_request-edit.ensures.head)) back),
        ),
      );
  needs = (λ e. absurd (true≢false (sym e)), λ needs. absurd (true≢false (sym (c.needs_device.ensures.1 (subst (NeedsOld c.args.order.now) (sym c.split_request-edit.ensures.edit) needs)) ∙ c.if-needs_device.false)));
  handed_back = tt;
  unchanged = tt;
  pass = c.in-Err-NoRoom-default.ensures.pass_unchanged;
  client = ap (λ (p : PassState). p.client) c.in-Err-NoRoom-default.ensures.pass_unchanged;
  grown = not_grown _ _ (ap (λ (o : OrderState). o.mark) c.in-Err-NoRoom-default.ensures.unchanged);
}

pub returns-in-Err-NoMemory-default : goal.returns-in-Err-NoMemory-default
returns-in-Err-NoMemory-default g c = record {
  blocks = c.in-Err-NoMemory-default.ensures.blocks;
  served =
      let request = c.args.request in
      let old = c.args.order.now in
      let image : Image = image_in old.cache in
      let edit_is = c.split_request-edit.ensures.edit in
      let fault_is = c.in-Err-NoMemory-default.field-0-0-is in
      let left = some_left old (becomes (edit_of c.split_request-edit.result.1) image) c.in-Err-NoMemory-default.ensures.numbers_full c.in-Err-NoMemory-default.ensures.no_room
      (λ full. faults_apart.0 (sym fault_is ∙ full)) (λ full. faults_apart.1 (sym fault_is ∙ full)) c.requires.works c.in-Err-NoMemory-default.ensures.numbers.mark in
      let room : has_room_for old (becomes (edit_asked request) image) ≡ true = subst (λ (e : ByteEdit). has_room_for old (becomes e image) ≡ true) edit_is left.1 in
      inr (
        left.0,
        image,
        inr (inl (
          room_over request (λ given. ShowsImage given old.cache) old true (λ given shows. shows) room,
          c.in-Err-NoMemory-default.ensures.unchanged,
          c.refuse.ensures ∙ ap (λ (h : RequestHead). ready_for h.cookie (Refused NoMemory)) c.split_request-edit.ensures.head,
        )),
      );
  needs = (λ e. absurd (true≢false (sym e)), λ needs. absurd (true≢false (sym (c.needs_device.ensures.1 (subst (NeedsOld c.args.order.now) (sym c.split_request-edit.ensures.edit) needs)) ∙ c.if-needs_device.false)));
  handed_back = tt;
  unchanged = tt;
  pass = refused_passes g.B.BoardName.opening c.args.request c.args.order.now.mark c.refuse.result c.args.pass.now _ _ _ _ c.refuse.ensures (ap (λ (o : OrderState). o.mark) c.in-Err-NoMemory-default.ensures.unchanged) c.in-Err-NoMemory-default.ensures.pass_unchanged;
  client = client_refused g.T.Trust.mode c.args.request c.args.order.now.mark _ (ap (λ (o : OrderState). o.mark) c.in-Err-NoMemory-default.ensures.unchanged) c.refuse.result c.args.pass.now.client _ _ _ c.refuse.ensures (ap (λ (p : PassState). p.client) c.in-Err-NoMemory-default.ensures.pass_unchanged);
  grown = not_grown _ _ (ap (λ (o : OrderState). o.mark) c.in-Err-NoMemory-default.ensures.unchanged);
}

pub returns-then-needs_device : goal.returns-then-needs_device
returns-then-needs_device g c = record {
  blocks = refl;
  served = tt;
  needs = (λ e. subst (NeedsOld c.args.order.now) c.split_request-edit.ensures.edit (c.needs_device.ensures.0 c.if-needs_device.true), λ needs. refl);
  handed_back = c.join_request.ensures c.args.request (sym c.split_request-edit.ensures.head) (c.split_request-edit.ensures.whole ∙ ap handed_len (sym c.split_request-edit.ensures.head)) c.split_request-edit.ensures.edit;
  unchanged = (refl, refl);
  pass = tt;
  client = tt;
  grown = not_grown _ _ refl;
}

pub returns-in-Err-NumbersFull-default : goal.returns-in-Err-NumbersFull-default
returns-in-Err-NumbersFull-default g c = record {
  blocks = c.in-Err-NumbersFull-default.ensures.blocks;
  served =
      inl (
        (c.in-Err-NumbersFull-default.ensures.numbers_full.0 c.in-Err-NumbersFull-default.field-0-0-is).1,
        c.in-Err-NumbersFull-default.ensures.unchanged,
        c.refuse-in-Err-NumbersFull-default.ensures ∙ ap (λ (h : RequestHead). ready_for h.cookie (Refused NoSpace)) c.split_request-edit.ensures.head,
      );
  needs = (λ e. absurd (true≢false (sym e)), λ needs. absurd (true≢false (sym (c.needs_device.ensures.1 (subst (NeedsOld c.args.order.now) (sym c.split_request-edit.ensures.edit) needs)) ∙ c.if-needs_device.false)));
  handed_back = tt;
  unchanged = tt;
  pass = refused_passes g.B.BoardName.opening c.args.request c.args.order.now.mark c.refuse-in-Err-NumbersFull-default.result c.args.pass.now _ _ _ _ c.refuse-in-Err-NumbersFull-default.ensures (ap (λ (o : OrderState). o.mark) c.in-Err-NumbersFull-default.ensures.unchanged) c.in-Err-NumbersFull-default.ensures.pass_unchanged;
  client = client_refused g.T.Trust.mode c.args.request c.args.order.now.mark _ (ap (λ (o : OrderState). o.mark) c.in-Err-NumbersFull-default.ensures.unchanged) c.refuse-in-Err-NumbersFull-default.result c.args.pass.now.client _ _ _ c.refuse-in-Err-NumbersFull-default.ensures (ap (λ (p : PassState). p.client) c.in-Err-NumbersFull-default.ensures.pass_unchanged);
  grown = not_grown _ _ (ap (λ (o : OrderState). o.mark) c.in-Err-NumbersFull-default.ensures.unchanged);
}

pub returns-in-Err : goal.returns-in-Err
returns-in-Err g c = record {
  blocks = search rules;
  served = search rules;
  needs = (λ e. absurd (true≢false (sym e)), λ needs. absurd (true≢false (sym (c.needs_device.ensures.1 (subst (NeedsOld c.args.order.now) (sym c.split_request-edit.ensures.edit) needs)) ∙ c.if-needs_device.false)));
  handed_back = tt;
  unchanged = tt;
  pass = search rules;
  client = search rules;
  grown = search rules;
}

pub split_request-edit-requires : goal.split_request-edit-requires
split_request-edit-requires g c = record { write = c.requires.write }

pub needs_device-requires-clause-few : goal.needs_device-requires-clause-few
needs_device-requires-clause-few g c = search rules

pub join_request-requires : goal.join_request-requires
join_request-requires g c = search rules

pub accept_in_memory-requires-clause-few : goal.accept_in_memory-requires-clause-few
accept_in_memory-requires-clause-few g c = search rules

pub accept_in_memory-requires-clause-held : goal.accept_in_memory-requires-clause-held
accept_in_memory-requires-clause-held g c = search rules

pub join_request-requires-in-Err-NoRoom-default : goal.join_request-requires-in-Err-NoRoom-default
join_request-requires-in-Err-NoRoom-default g c = search rules

pub accept_in_memory-requires-clause-edit : goal.accept_in_memory-requires-clause-edit
accept_in_memory-requires-clause-edit g c =
    let request = c.args.request in
    let takes = edit_takes request c.args.terms.geometry c.requires.range c.split_request-edit.ensures.whole c.split_request-edit.ensures.few in
    subst (λ (e : ByteEdit). IsEdit (length c.args.order.now.cache.states) e) (sym c.split_request-edit.ensures.edit)
    (subst (λ (n : ℕ). IsEdit n (edit_asked request)) (sym c.requires.blocks) takes)

pub needs_device-requires-clause-edit : goal.needs_device-requires-clause-edit
needs_device-requires-clause-edit g c =
    let request = c.args.request in
    let takes = edit_takes request c.args.terms.geometry c.requires.range c.split_request-edit.ensures.whole c.split_request-edit.ensures.few in
    subst (λ (e : ByteEdit). IsEdit (length c.args.order.now.cache.states) e) (sym c.split_request-edit.ensures.edit)
    (subst (λ (n : ℕ). IsEdit n (edit_asked request)) (sym c.requires.blocks) takes)

pub accept_in_memory-requires-clause-asked : goal.accept_in_memory-requires-clause-asked
accept_in_memory-requires-clause-asked g c = λ kept.
    subst (λ (e : ByteEdit). HasAskedEdit g.T.Trust.trusted g.T.Trust.image c.args.order.now e c.args.pass.now.client) (sym c.split_request-edit.ensures.edit)
    (asked_edit g.T.Trust.trusted g.T.Trust.image c.args.order.now c.args.request c.args.pass.now.client c.requires.write (c.requires.asked kept))
