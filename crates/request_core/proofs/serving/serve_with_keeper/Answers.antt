use Rattle.std.proofs.Common.{◌≡◌, ◌⊎◌, ◌∙◌, Ok, inl, inr, ap, refl, sym, subst, ◌<◌, length, true, arith, rules}
use Rattle.journal_format.specs.laws.Chained.{none_read}
use Rattle.marks.specs.Known.{PassState}
use Rattle.nbd_wire.specs.Request.{Message}
use Rattle.nbd_wire.specs.declared.head.RequestHead.{RequestHead}
use Rattle.image_model.specs.Image.{apply_all}
use Rattle.order_book.specs.Edits.{IsKnownBy, NeedsDevice as NeedsOld}
use Rattle.order_book.specs.Order.{OrderState}
use Rattle.request_core.specs.Reading.{IsReadServed}
use Rattle.request_core.specs.Serving.{HasSent, IsClientServed, IsPassServed}
use Rattle.request_core.specs.Outcomes.{IsWriteAsked}
use Rattle.request_core.proofs.ServedWithoutKeeper.{read_leaves, read_mark, read_passes, served_here}
use Rattle.request_core.proofs.WhoNeedsDevice.{is_edit, neither_3, not_read}
use Rattle.request_core.proofs.Clients.{client_read}
use Rattle.request_core.proofs.serving.serve_with_keeper.Goals as goal
use Rattle.export_model.specs.Log.{edit_asked, is_write}
use Rattle.export_model.specs.Verdict.{IsServedRange, verdict}
use Rattle.export_model.specs.declared.action.Action.TheVariants.{Serve}

pub returns-in-Ok : goal.returns-in-Ok
returns-in-Ok g c = record {
  blocks = c.in-Ok.ensures.blocks;
  geometry = refl;
  count = refl;
  extent = refl;
  honest = (λ honest. honest, λ honest. honest);
  serves = (
    verdict c.args.request.head c.args.terms.geometry c.args.terms.flags,
    refl,
    served_here g.D.Disk.state g.D.Disk.faults g.D.Disk.honest c.args.keeper.now (λ sure. none_read (g.met.D.Disk.sound c.args.keeper.now.disk sure))
        (verdict c.args.request.head c.args.terms.geometry c.args.terms.flags) c.args.request c.args.terms.geometry c.args.terms.mode c.args.order.now c.serve_held.new.order c.in-Ok.served c.in-Ok.ensures.serves,
  );
  kept = λ none. refl;
  hit =
      λ kind held. (
        read_leaves (verdict c.args.request.head c.args.terms.geometry c.args.terms.flags) c.args.request c.args.terms.geometry c.args.terms.mode c.args.order.now c.serve_held.new.order c.in-Ok.served kind c.in-Ok.ensures.serves,
        refl,
      );
  pass = c.in-Ok.ensures.pass;
  client = c.in-Ok.ensures.client;
  grown = c.in-Ok.ensures.grown;
}

pub returns-in-Err-clause-serves : goal.returns-in-Err-clause-serves
returns-in-Err-clause-serves g c =
    let needs = c.in-Err.ensures.needs.0 refl in
    let back = c.in-Err.ensures.handed_back in
    let asked : c.head.result ≡ c.args.request.head = c.head.ensures ∙ ap (λ (r : Message). r.head) back in
    let read_for : c.head-in-Err.result ≡ c.args.request.head = c.head-in-Err.ensures ∙ ap (λ (r : Message). r.head) back in (
      Ok Serve,
      sym needs.0,
      inr (inl (
        needs.1,
        sym (ap (λ (h : RequestHead). h.kind) asked) ∙ c.if-head-eq-READ.true,
        subst (λ (h : RequestHead). IsReadServed g.D.Disk.state g.D.Disk.faults g.D.Disk.honest h c.args.order.now c.serve_read.new.order c.args.keeper.now c.serve_read.new.keeper c.serve_read.result) read_for
            (subst (λ (o : OrderState). IsReadServed g.D.Disk.state g.D.Disk.faults g.D.Disk.honest c.head-in-Err.result o c.serve_read.new.order c.args.keeper.now c.serve_read.new.keeper c.serve_read.result)
            c.in-Err.ensures.unchanged.0 c.serve_read.ensures.read),
      )),
    )

pub returns-in-Err-clause-pass : goal.returns-in-Err-clause-pass
returns-in-Err-clause-pass g c =
    let same = c.in-Err.ensures.unchanged in
    subst (λ (pass : PassState). IsPassServed g.B.BoardName.opening c.args.request c.args.order.now.mark c.serve_read.new.order.mark c.serve_read.result c.args.pass.now pass) (sym same.1)
    (subst (λ (order : OrderState). IsPassServed g.B.BoardName.opening c.args.request order.mark c.serve_read.new.order.mark c.serve_read.result c.args.pass.now c.args.pass.now) same.0
    (read_passes g.D.Disk.state g.D.Disk.faults g.D.Disk.honest c.args.keeper.now (λ sure. none_read (g.met.D.Disk.sound c.args.keeper.now.disk sure)) g.B.BoardName.opening c.args.request c.serve_read.result c.args.pass.now
    _ c.serve_held.new.order c.serve_read.new.order c.serve_read.new.keeper c.serve_read.ensures.read))

pub returns-in-Err-clause-grown : goal.returns-in-Err-clause-grown
returns-in-Err-clause-grown g c = λ more.
    let left = ap (λ (o : OrderState). o.mark) c.in-Err.ensures.unchanged.0 in
    let same = read_mark g.D.Disk.state g.D.Disk.faults g.D.Disk.honest c.args.keeper.now (λ sure. none_read (g.met.D.Disk.sound c.args.keeper.now.disk sure)) _ c.serve_held.new.order c.serve_read.new.order c.serve_read.new.keeper c.serve_read.result c.serve_read.ensures.read in
    absurd (omega (arith, more, left, same))

pub serve_edit-requires-clause-needs : goal.serve_edit-requires-clause-needs
serve_edit-requires-clause-needs g c =
    let request = c.args.request in
    let back = c.in-Err.ensures.handed_back in
    let same = c.in-Err-2.ensures.unchanged.0 in
    let needs = c.in-Err-2.ensures.needs.0 refl in
    subst (λ (r : Message). NeedsOld c.serve_held.new.order (edit_asked r)) (sym back)
    (subst (λ (o : OrderState). NeedsOld o (edit_asked request)) (sym same)
    (by_kind needs.2 (λ kind. c.if-head-eq-READ.false (ap (λ (h : RequestHead). h.kind) c.head.ensures ∙ ap (λ (r : Message). r.head.kind) c.in-Err.ensures.handed_back ∙ kind))))
  where
    by_kind : {A B : Type 0} → (((c.args.request.head.kind ≡ 0) × A) ⊎ (B × NeedsOld c.args.order.now (edit_asked c.args.request))) → (c.args.request.head.kind ≡ 0 → ⊥) → NeedsOld c.args.order.now (edit_asked c.args.request)
    by_kind (inl read) other = absurd (other read.0)
    by_kind (inr edit) other = edit.1

pub returns-in-Err-clause-kept : goal.returns-in-Err-clause-kept
returns-in-Err-clause-kept g c none = absurd (none (c.in-Err.ensures.needs.0 refl))

pub returns-in-Err-2 : goal.returns-in-Err-2
returns-in-Err-2 g c = record {
  blocks = c.serve_edit.ensures.blocks ∙ ap (λ (o : OrderState). length o.cache.states) c.in-Err-2.ensures.unchanged.0;
  geometry = c.serve_edit.ensures.geometry;
  count = c.serve_edit.ensures.count;
  extent = c.serve_edit.ensures.extent;
  honest = c.serve_edit.ensures.honest;
  serves =
      let needs = c.in-Err-2.ensures.needs.0 refl in
      let write = is_edit c.args.request c.args.order.now (λ kind. c.if-head-eq-READ.false (ap (λ (h : RequestHead). h.kind) c.head.ensures ∙ ap (λ (r : Message). r.head.kind) c.in-Err.ensures.handed_back ∙ kind)) needs.2 in (
        Ok Serve,
        sym needs.0,
        inr (inr (
          needs.1,
          write,
          subst (λ (r : Message). IsWriteAsked g.D.Disk.state g.D.Disk.faults g.D.Disk.honest r c.args.terms.geometry c.args.terms.mode c.args.order.now c.serve_edit.new.order c.args.keeper.now c.serve_edit.new.keeper c.serve_edit.result) c.in-Err.ensures.handed_back
              (subst (λ (o : OrderState). IsWriteAsked g.D.Disk.state g.D.Disk.faults g.D.Disk.honest c.in-Err.field-0.0 c.args.terms.geometry c.args.terms.mode o c.serve_edit.new.order c.args.keeper.now c.serve_edit.new.keeper c.serve_edit.result) c.in-Err-2.ensures.unchanged.0 c.serve_edit.ensures.asked),
        )),
      );
  kept = λ none. absurd (none (c.in-Err-2.ensures.needs.0 refl));
  hit = λ kind held.
      let needs = c.in-Err-2.ensures.needs.0 refl in
      absurd (not_read c.args.request c.args.order.now kind held needs.2);
  pass =
      subst (λ (r : Message). IsPassServed g.B.BoardName.opening r c.args.order.now.mark c.serve_edit.new.order.mark c.serve_edit.result c.args.pass.now c.serve_edit.new.pass) c.in-Err.ensures.handed_back
      (subst (λ (o : OrderState). IsPassServed g.B.BoardName.opening c.in-Err.field-0.0 o.mark c.serve_edit.new.order.mark c.serve_edit.result c.args.pass.now c.serve_edit.new.pass) c.in-Err-2.ensures.unchanged.0
      (subst (λ (p : PassState). IsPassServed g.B.BoardName.opening c.in-Err.field-0.0 c.serve_held.new.order.mark c.serve_edit.new.order.mark c.serve_edit.result p c.serve_edit.new.pass) c.in-Err-2.ensures.unchanged.1 c.serve_edit.ensures.pass));
  client =
      subst (λ (r : Message). IsClientServed g.T.Trust.mode r c.args.order.now.mark c.serve_edit.new.order.mark c.serve_edit.result c.args.pass.now.client c.serve_edit.new.pass.client) c.in-Err.ensures.handed_back
      (subst (λ (o : OrderState). IsClientServed g.T.Trust.mode c.in-Err.field-0.0 o.mark c.serve_edit.new.order.mark c.serve_edit.result c.args.pass.now.client c.serve_edit.new.pass.client) c.in-Err-2.ensures.unchanged.0
      (subst (λ (p : PassState). IsClientServed g.T.Trust.mode c.in-Err.field-0.0 c.serve_held.new.order.mark c.serve_edit.new.order.mark c.serve_edit.result p.client c.serve_edit.new.pass.client) c.in-Err-2.ensures.unchanged.1 c.serve_edit.ensures.client));
  grown = λ more. c.serve_edit.ensures.grown (subst (λ (o : OrderState). o.mark < c.serve_edit.new.order.mark) (sym c.in-Err-2.ensures.unchanged.0) more);
}

pub returns-in-Err-clause-hit : goal.returns-in-Err-clause-hit
returns-in-Err-clause-hit g c kind held =
    let needs = c.in-Err.ensures.needs.0 refl in
    absurd (not_read c.args.request c.args.order.now kind held needs.2)

pub returns-in-Err-clause-count : goal.returns-in-Err-clause-count
returns-in-Err-clause-count g c = c.serve_read.ensures.count

pub returns-in-Err-clause-extent : goal.returns-in-Err-clause-extent
returns-in-Err-clause-extent g c = c.serve_read.ensures.extent

pub returns-in-Err-clause-honest : goal.returns-in-Err-clause-honest
returns-in-Err-clause-honest g c = c.serve_read.ensures.honest

pub serve_edit-requires-clause-write : goal.serve_edit-requires-clause-write
serve_edit-requires-clause-write g c =
    let needs = c.in-Err-2.ensures.needs.0 refl in
    subst (λ (r : Message). is_write r ≡ true) (sym c.in-Err.ensures.handed_back)
    (is_edit c.args.request c.args.order.now (λ kind. c.if-head-eq-READ.false (ap (λ (h : RequestHead). h.kind) c.head.ensures ∙ ap (λ (r : Message). r.head.kind) c.in-Err.ensures.handed_back ∙ kind)) needs.2)

pub serve_edit-requires-clause-range : goal.serve_edit-requires-clause-range
serve_edit-requires-clause-range g c =
    let needs = c.in-Err-2.ensures.needs.0 refl in
    subst (λ (r : Message). IsServedRange r.head c.args.terms.geometry) (sym c.in-Err.ensures.handed_back) (c.in-Err-2.ensures.range (λ kind. neither_3 c.args.request c.args.order.now kind needs.2))

pub serve_edit-requires-clause-works : goal.serve_edit-requires-clause-works
serve_edit-requires-clause-works g c = ap (λ (o : OrderState). o.stopped) c.in-Err-2.ensures.unchanged.0 ∙ (c.in-Err-2.ensures.needs.0 refl).1

pub serve_held-requires-clause-kind : goal.serve_held-requires-clause-kind
serve_held-requires-clause-kind g c = c.requires.kind

pub serve_held-requires-clause-blocks : goal.serve_held-requires-clause-blocks
serve_held-requires-clause-blocks g c = c.requires.blocks

pub serve_read-requires-clause-kind : goal.serve_read-requires-clause-kind
serve_read-requires-clause-kind g c = search rules

pub serve_read-requires-clause-some : goal.serve_read-requires-clause-some
serve_read-requires-clause-some g c = search rules

pub serve_read-requires-clause-most : goal.serve_read-requires-clause-most
serve_read-requires-clause-most g c = search rules

pub serve_read-requires-clause-few : goal.serve_read-requires-clause-few
serve_read-requires-clause-few g c = search rules

pub serve_read-requires-clause-inside : goal.serve_read-requires-clause-inside
serve_read-requires-clause-inside g c = search rules

pub serve_read-requires-clause-device : goal.serve_read-requires-clause-device
serve_read-requires-clause-device g c = search rules

pub serve_edit-requires-clause-blocks : goal.serve_edit-requires-clause-blocks
serve_edit-requires-clause-blocks g c = ap (λ (o : OrderState). length o.cache.states) c.in-Err-2.ensures.unchanged.0 ∙ c.requires.blocks

pub serve_edit-requires-clause-device : goal.serve_edit-requires-clause-device
serve_edit-requires-clause-device g c = c.requires.device

pub returns-in-Err-clause-blocks : goal.returns-in-Err-clause-blocks
returns-in-Err-clause-blocks g c = search rules

pub returns-in-Err-clause-geometry : goal.returns-in-Err-clause-geometry
returns-in-Err-clause-geometry g c = search rules

pub returns-in-Err-clause-client : goal.returns-in-Err-clause-client
returns-in-Err-clause-client g c =
    let same = c.in-Err.ensures.unchanged in
    subst (λ (pass : PassState). IsClientServed g.T.Trust.mode c.args.request c.args.order.now.mark c.serve_read.new.order.mark c.serve_read.result c.args.pass.now.client pass.client) (sym same.1)
    (subst (λ (order : OrderState). IsClientServed g.T.Trust.mode c.args.request order.mark c.serve_read.new.order.mark c.serve_read.result c.args.pass.now.client c.args.pass.now.client) same.0
    (client_read g.D.Disk.state g.D.Disk.faults g.D.Disk.honest g.T.Trust.mode c.args.request _ c.serve_held.new.order c.serve_read.new.order c.args.keeper.now c.serve_read.new.keeper c.serve_read.result c.args.pass.now.client c.serve_read.ensures.read))

pub serve_held-requires-clause-asked : goal.serve_held-requires-clause-asked
serve_held-requires-clause-asked g c = c.requires.asked

pub serve_edit-requires-clause-asked : goal.serve_edit-requires-clause-asked
serve_edit-requires-clause-asked g c = λ kept.
    subst (λ (r : Message). HasSent g.T.Trust.trusted g.T.Trust.image c.serve_held.new.order r c.serve_held.new.pass.client) (sym c.in-Err.ensures.handed_back)
    (subst (λ (o : OrderState). HasSent g.T.Trust.trusted g.T.Trust.image o c.args.request c.serve_held.new.pass.client) (sym c.in-Err-2.ensures.unchanged.0)
    (subst (λ (p : PassState). HasSent g.T.Trust.trusted g.T.Trust.image c.args.order.now c.args.request p.client) (sym c.in-Err-2.ensures.unchanged.1) (c.requires.asked kept)))

pub serve_edit-requires-clause-known : goal.serve_edit-requires-clause-known
serve_edit-requires-clause-known g c = λ kept trusted works.
    subst (λ (o : OrderState). IsKnownBy g.D.Disk.state g.D.Disk.honest c.args.keeper.now o (apply_all o.history g.T.Trust.image)) (sym c.in-Err-2.ensures.unchanged.0) (c.requires.known kept trusted works)
