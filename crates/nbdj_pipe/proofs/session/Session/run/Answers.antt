use Rattle.std.proofs.Common.{◌≡◌, ◌⊎◌, inl, inr, subst, sym, ap, ◌∙◌, take, arith, List, ℕ, Result, Ok, Err, refl}
use Rattle.std.specs.Prelude.{◌↔◌, IfSome, IsErrAnd}
use Rattle.std.specs.Io.KnownBytes.{Consumes}
use Rattle.order_book.specs.Order.{IsInHand}
use Rattle.nbd_wire.specs.Stream.{Reader}
use Rattle.nbdj_pipe.specs.Pipe.{IsPiped}
use Rattle.nbdj_pipe.specs.inner.Refusals.{IsEarly}
use Rattle.nbdj_pipe.specs.inner.Session.{Runs, Takes}
use Rattle.front_end.specs.declared.refusal.Refusal.{Refusal}
use Rattle.front_end.specs.declared.refusal.Refusal.TheVariants.{DeviceFault, NoMemory, PeerClosed, StreamFault}
use Rattle.nbdj_pipe.specs.declared.session.Flow.{Flow}
use Rattle.nbd_wire.specs.laws.Bytes.{keeps_same}
use Rattle.nbdj_pipe.proofs.Runs.{runs_bare, runs_none, runs_on}
use Rattle.nbdj_pipe.proofs.Sessions.{IsGoing, going_first, goes_on, stopped, closed, cut, ended, refused, err_no_end, not_device, IsUnshown, unshown_memory, unshown_stream}
use Rattle.nbdj_pipe.proofs.session.Session.run.Goals as goal

-- an early refusal isn't a device fault
no_fault : (outcome : Result (Unit {0}) Refusal) → IsErrAnd outcome IsEarly → outcome ≡ Err DeviceFault → ⊥
no_fault (Ok done) early is = elim early [ ]
no_fault (Err refusal) early is = not_device refusal early (same is)
  where
    same : (let outcome : Result (Unit {0}) Refusal = Err refusal in outcome ≡ Err DeviceFault) → refusal ≡ DeviceFault
    same is = cc

no_fault_of : (told : Result Flow Refusal) (outcome : Result (Unit {0}) Refusal) (refusal : Refusal) → (told ≡ Err DeviceFault → ⊥) → told ≡ Err refusal → IsErrAnd outcome (λ r. r ≡ refusal) → outcome ≡ Err DeviceFault → ⊥
no_fault_of told (Ok done) refusal none was is fault = elim is [ ]
no_fault_of told (Err other) refusal none was is fault = none (was ∙ ap Err (sym is ∙ same fault))
  where
    same : (let outcome : Result (Unit {0}) Refusal = Err other in outcome ≡ Err DeviceFault) → other ≡ DeviceFault
    same is = cc

closed_apart : (let outcome : Result (Unit {0}) Refusal = Err PeerClosed in outcome ≡ Err DeviceFault) → ⊥
closed_apart is = cc

stream_apart : (let outcome : Result (Unit {0}) Refusal = Err StreamFault in outcome ≡ Err DeviceFault) → ⊥
stream_apart is = cc

ok_apart : (let outcome : Result (Unit {0}) Refusal = Ok tt in outcome ≡ Err DeviceFault) → ⊥
ok_apart is = cc

is_unshown : (refusal : Refusal) → (refusal ≡ NoMemory) ⊎ (refusal ≡ StreamFault) → IsUnshown refusal
is_unshown refusal (inl is) = subst IsUnshown (sym is) unshown_memory
is_unshown refusal (inr is) = subst IsUnshown (sym is) unshown_stream

pub returns-in_err-count-clause-dialog : goal.returns-in_err-count-clause-dialog
returns-in_err-count-clause-dialog g c =
    let disk = g.D.Disk in
    let a = c.args.self.now.export in
    let input = g.R.Read.remaining c.args.input.now in
    let output = g.W.Write.contents c.args.output.now in
    let b = c.loop.self.export in
    stopped (Runs disk.state disk.faults disk.honest a.order a.keeper a.connections b.order b.keeper b.connections) (runs_bare disk.state disk.faults disk.honest a.order b.order a.keeper b.keeper a.connections b.connections) input (g.R.Read.remaining c.loop.input) output (g.W.Write.contents c.loop.output) c.loop.reader c.loop.invariant.going (g.R.Read.remaining c.read_piece.new.input) c.from_residual.result
    c.in_err-count.ensures.bytes (err_no_end IsUnshown c.from_residual.result c.in_err-count.field-0.0 c.from_residual.ensures.1 (is_unshown c.in_err-count.field-0.0 c.in_err-count.ensures.unshown))

pub returns-in_err-count-clause-early : goal.returns-in_err-count-clause-early
returns-in_err-count-clause-early g c =
    no_fault c.from_residual.result
    (err_no_end IsEarly c.from_residual.result c.in_err-count.field-0.0 c.from_residual.ensures.1 (is_unshown c.in_err-count.field-0.0 c.in_err-count.ensures.unshown).0)

pub returns-then-count-eq0-clause-dialog : goal.returns-then-count-eq0-clause-dialog
returns-then-count-eq0-clause-dialog g c =
    let disk = g.D.Disk in
    let a = c.args.self.now.export in
    let input = g.R.Read.remaining c.args.input.now in
    let output = g.W.Write.contents c.args.output.now in
    let b = c.loop.self.export in
    let mid = g.R.Read.remaining c.loop.input in
    let left = g.R.Read.remaining c.read_piece.new.input in
    let bytes = c.in_ok-count.ensures.bytes in
    closed (Runs disk.state disk.faults disk.honest a.order a.keeper a.connections b.order b.keeper b.connections) (runs_bare disk.state disk.faults disk.honest a.order b.order a.keeper b.keeper a.connections b.connections) input mid output (g.W.Write.contents c.loop.output) c.loop.reader c.loop.invariant.going left
    (subst (λ (n : ℕ). Consumes mid left (take n c.read_piece.new.piece.items)) c.if-count-eq0.true bytes.0)
    (bytes.1 c.if-count-eq0.true (omega (arith, c.in_ok-count.ensures.some)))

pub returns-in_err-write_replies-clause-dialog : goal.returns-in_err-write_replies-clause-dialog
returns-in_err-write_replies-clause-dialog g c =
    let disk = g.D.Disk in
    let a = c.args.self.now.export in
    let input = g.R.Read.remaining c.args.input.now in
    let output = g.W.Write.contents c.args.output.now in
    let b = c.loop.self.export in
    let t = c.take-flow.new.self.export in
    let e = c.write_replies.new.self.export in
    let piece = take c.in_ok-count.count c.deref.result.now in
    let due = c.take-flow.new.self.replies.items in
    let read = subst (λ (bytes : List ℕ). Consumes (g.R.Read.remaining c.loop.input) (g.R.Read.remaining c.read_piece.new.input) (take c.in_ok-count.count bytes)) (sym c.deref.ensures.value) c.in_ok-count.ensures.bytes.0 in
    let begun = subst (λ (before : List ℕ). Takes c.loop.reader piece c.take-flow.new.reader before due c.take-flow.result (Runs disk.state disk.faults disk.honest b.order b.keeper b.connections t.order t.keeper t.connections))
    c.loop.invariant.none_due c.take-flow.ensures.takes in
    subst (λ x. IsPiped input (g.R.Read.remaining c.read_piece.new.input) output (g.W.Write.contents c.write_replies.new.output) c.from_residual-in_err-write_replies.result (Runs disk.state disk.faults disk.honest a.order a.keeper a.connections x.order x.keeper x.connections)) (sym c.write_replies.ensures.same)
    (cut (Runs disk.state disk.faults disk.honest a.order a.keeper a.connections b.order b.keeper b.connections) (runs_bare disk.state disk.faults disk.honest a.order b.order a.keeper b.keeper a.connections b.connections) input (g.R.Read.remaining c.loop.input) output (g.W.Write.contents c.loop.output) c.loop.reader c.loop.invariant.going
    (Runs disk.state disk.faults disk.honest b.order b.keeper b.connections t.order t.keeper t.connections) (Runs disk.state disk.faults disk.honest a.order a.keeper a.connections t.order t.keeper t.connections)
    (runs_on disk.state disk.faults disk.honest c.leads_law.ensures a.order b.order t.order a.keeper b.keeper t.keeper a.connections b.connections t.connections c.take-flow.ensures.honest.0)
    (runs_bare disk.state disk.faults disk.honest a.order t.order a.keeper t.keeper a.connections t.connections)
    (g.R.Read.remaining c.read_piece.new.input) (g.W.Write.contents c.write_replies.new.output) piece due c.take-flow.new.reader c.take-flow.result read begun
    c.in_err-write_replies.field-0.0 c.from_residual-in_err-write_replies.result c.in_err-write_replies.ensures.written
    (err_no_end IsUnshown c.from_residual-in_err-write_replies.result StreamFault c.from_residual-in_err-write_replies.ensures.1 unshown_stream))

pub returns-in_err-write_replies-clause-early : goal.returns-in_err-write_replies-clause-early
returns-in_err-write_replies-clause-early g c =
    no_fault c.from_residual-in_err-write_replies.result
    (err_no_end IsEarly c.from_residual-in_err-write_replies.result StreamFault c.from_residual-in_err-write_replies.ensures.1 unshown_stream.0)

pub returns-in_err-flow-clause-dialog : goal.returns-in_err-flow-clause-dialog
returns-in_err-flow-clause-dialog g c =
    let disk = g.D.Disk in
    let a = c.args.self.now.export in
    let input = g.R.Read.remaining c.args.input.now in
    let output = g.W.Write.contents c.args.output.now in
    let b = c.loop.self.export in
    let t = c.take-flow.new.self.export in
    let e = c.write_replies.new.self.export in
    let piece = take c.in_ok-count.count c.deref.result.now in
    let due = c.take-flow.new.self.replies.items in
    let read = subst (λ (bytes : List ℕ). Consumes (g.R.Read.remaining c.loop.input) (g.R.Read.remaining c.read_piece.new.input) (take c.in_ok-count.count bytes)) (sym c.deref.ensures.value) c.in_ok-count.ensures.bytes.0 in
    let begun = subst (λ (before : List ℕ). Takes c.loop.reader piece c.take-flow.new.reader before due c.take-flow.result (Runs disk.state disk.faults disk.honest b.order b.keeper b.connections t.order t.keeper t.connections))
    c.loop.invariant.none_due c.take-flow.ensures.takes in
    subst (λ x. IsPiped input (g.R.Read.remaining c.read_piece.new.input) output (g.W.Write.contents c.write_replies.new.output) c.from_residual-in_err-flow.result (Runs disk.state disk.faults disk.honest a.order a.keeper a.connections x.order x.keeper x.connections)) (sym c.write_replies.ensures.same)
    (refused (Runs disk.state disk.faults disk.honest a.order a.keeper a.connections b.order b.keeper b.connections) (runs_bare disk.state disk.faults disk.honest a.order b.order a.keeper b.keeper a.connections b.connections) input (g.R.Read.remaining c.loop.input) output (g.W.Write.contents c.loop.output) c.loop.reader c.loop.invariant.going
    (Runs disk.state disk.faults disk.honest b.order b.keeper b.connections t.order t.keeper t.connections) (Runs disk.state disk.faults disk.honest a.order a.keeper a.connections t.order t.keeper t.connections)
    (runs_on disk.state disk.faults disk.honest c.leads_law.ensures a.order b.order t.order a.keeper b.keeper t.keeper a.connections b.connections t.connections c.take-flow.ensures.honest.0)
    (runs_bare disk.state disk.faults disk.honest a.order t.order a.keeper t.keeper a.connections t.connections)
    (g.R.Read.remaining c.read_piece.new.input) (g.W.Write.contents c.write_replies.new.output) piece due c.take-flow.new.reader c.take-flow.result read begun
    c.in_ok-write_replies.ensures.written c.in_err-flow.field-0.0 c.from_residual-in_err-flow.result c.in_err-flow.was c.from_residual-in_err-flow.ensures.1)

pub returns-in_err-flow-clause-early : goal.returns-in_err-flow-clause-early
returns-in_err-flow-clause-early g c =
    no_fault_of c.take-flow.result c.from_residual-in_err-flow.result c.in_err-flow.field-0.0 c.take-flow.ensures.takes.taken.device c.in_err-flow.was c.from_residual-in_err-flow.ensures.1

pub returns-in-Ended-clause-dialog : goal.returns-in-Ended-clause-dialog
returns-in-Ended-clause-dialog g c =
    let disk = g.D.Disk in
    let a = c.args.self.now.export in
    let input = g.R.Read.remaining c.args.input.now in
    let output = g.W.Write.contents c.args.output.now in
    let b = c.loop.self.export in
    let t = c.take-flow.new.self.export in
    let e = c.write_replies.new.self.export in
    let piece = take c.in_ok-count.count c.deref.result.now in
    let due = c.take-flow.new.self.replies.items in
    let read = subst (λ (bytes : List ℕ). Consumes (g.R.Read.remaining c.loop.input) (g.R.Read.remaining c.read_piece.new.input) (take c.in_ok-count.count bytes)) (sym c.deref.ensures.value) c.in_ok-count.ensures.bytes.0 in
    let begun = subst (λ (before : List ℕ). Takes c.loop.reader piece c.take-flow.new.reader before due c.take-flow.result (Runs disk.state disk.faults disk.honest b.order b.keeper b.connections t.order t.keeper t.connections))
    c.loop.invariant.none_due c.take-flow.ensures.takes in
    subst (λ x. IsPiped input (g.R.Read.remaining c.read_piece.new.input) output (g.W.Write.contents c.write_replies.new.output) (Ok tt) (Runs disk.state disk.faults disk.honest a.order a.keeper a.connections x.order x.keeper x.connections)) (sym c.write_replies.ensures.same)
    (ended (Runs disk.state disk.faults disk.honest a.order a.keeper a.connections b.order b.keeper b.connections) (runs_bare disk.state disk.faults disk.honest a.order b.order a.keeper b.keeper a.connections b.connections) input (g.R.Read.remaining c.loop.input) output (g.W.Write.contents c.loop.output) c.loop.reader c.loop.invariant.going
    (Runs disk.state disk.faults disk.honest b.order b.keeper b.connections t.order t.keeper t.connections) (Runs disk.state disk.faults disk.honest a.order a.keeper a.connections t.order t.keeper t.connections)
    (runs_on disk.state disk.faults disk.honest c.leads_law.ensures a.order b.order t.order a.keeper b.keeper t.keeper a.connections b.connections t.connections c.take-flow.ensures.honest.0)
    (runs_bare disk.state disk.faults disk.honest a.order t.order a.keeper t.keeper a.connections t.connections)
    (g.R.Read.remaining c.read_piece.new.input) (g.W.Write.contents c.write_replies.new.output) piece due c.take-flow.new.reader c.take-flow.result read begun
    c.in_ok-write_replies.ensures.written (c.in_ok-flow.was ∙ ap Ok c.in-Ended.is))

pub loop-preserved : goal.loop-preserved
loop-preserved g c =
    let disk = g.D.Disk in
    let a = c.args.self.now.export in
    let input = g.R.Read.remaining c.args.input.now in
    let output = g.W.Write.contents c.args.output.now in
    let b = c.loop.self.export in
    let t = c.take-flow.new.self.export in
    let e = c.write_replies.new.self.export in
    let piece = take c.in_ok-count.count c.deref.result.now in
    let due = c.take-flow.new.self.replies.items in
    let read = subst (λ (bytes : List ℕ). Consumes (g.R.Read.remaining c.loop.input) (g.R.Read.remaining c.read_piece.new.input) (take c.in_ok-count.count bytes)) (sym c.deref.ensures.value) c.in_ok-count.ensures.bytes.0 in
    let begun = subst (λ (before : List ℕ). Takes c.loop.reader piece c.take-flow.new.reader before due c.take-flow.result (Runs disk.state disk.faults disk.honest b.order b.keeper b.connections t.order t.keeper t.connections))
    c.loop.invariant.none_due c.take-flow.ensures.takes in
    let same = c.write_replies.ensures.same in
    let going = subst (λ x. IsGoing input (g.R.Read.remaining c.read_piece.new.input) output (g.W.Write.contents c.write_replies.new.output) c.take-flow.new.reader (Runs disk.state disk.faults disk.honest a.order a.keeper a.connections x.order x.keeper x.connections)) (sym same)
    (goes_on (Runs disk.state disk.faults disk.honest a.order a.keeper a.connections b.order b.keeper b.connections) (runs_bare disk.state disk.faults disk.honest a.order b.order a.keeper b.keeper a.connections b.connections) input (g.R.Read.remaining c.loop.input) output (g.W.Write.contents c.loop.output) c.loop.reader c.loop.invariant.going
    (Runs disk.state disk.faults disk.honest b.order b.keeper b.connections t.order t.keeper t.connections) (Runs disk.state disk.faults disk.honest a.order a.keeper a.connections t.order t.keeper t.connections)
    (runs_on disk.state disk.faults disk.honest c.leads_law.ensures a.order b.order t.order a.keeper b.keeper t.keeper a.connections b.connections t.connections c.take-flow.ensures.honest.0)
    (runs_bare disk.state disk.faults disk.honest a.order t.order a.keeper t.keeper a.connections t.connections)
    (g.R.Read.remaining c.read_piece.new.input) (g.W.Write.contents c.write_replies.new.output) piece due c.take-flow.new.reader c.take-flow.result read begun
    c.in_ok-write_replies.ensures.written (c.in_ok-flow.was ∙ ap Ok c.in-Open.is) c.take-flow.ensures.is_open) in
    record {
      group = subst (λ x. IfSome x.connections.group (IsInHand x.order)) (sym same) c.take-flow.ensures.group;
      extent = ap (λ x. disk.extent x.keeper.disk) same ∙ (c.take-flow.ensures.extent ∙ c.loop.invariant.extent);
      honest = subst (λ x. disk.honest x.keeper.disk ↔ disk.honest a.keeper.disk) (sym same)
          (λ is. c.loop.invariant.honest.0 (c.take-flow.ensures.honest.0 is), λ is. c.take-flow.ensures.honest.1 (c.loop.invariant.honest.1 is));
      none_due = c.in_ok-write_replies.ensures.none;
      going = going;
    }

pub returns-clause-dialog : goal.returns-clause-dialog
returns-clause-dialog g c =
    let disk = g.D.Disk in
    let a = c.args.self.now.export in
    let input = g.R.Read.remaining c.args.input.now in
    let output = g.W.Write.contents c.args.output.now in
    let b = c.loop.self.export in
    let left = g.R.Read.remaining c.loop.input in
    stopped (Runs disk.state disk.faults disk.honest a.order a.keeper a.connections b.order b.keeper b.connections) (runs_bare disk.state disk.faults disk.honest a.order b.order a.keeper b.keeper a.connections b.connections) input left output (g.W.Write.contents c.loop.output) c.loop.reader c.loop.invariant.going left (Err StreamFault) (keeps_same left) unshown_stream

pub loop-init : goal.loop-init
loop-init g c =
    let disk = g.D.Disk in
    let a = c.args.self.now.export in
    let input = g.R.Read.remaining c.args.input.now in
    let output = g.W.Write.contents c.args.output.now in
    record {
      group = c.requires.group;
      extent = refl;
      honest = (λ is. is, λ is. is);
      none_due = c.requires.none_due;
      going = subst (λ (r : Reader). IsGoing input input output output r (Runs disk.state disk.faults disk.honest a.order a.keeper a.connections a.order a.keeper a.connections)) (sym c.requires.fresh)
          (going_first (Runs disk.state disk.faults disk.honest a.order a.keeper a.connections a.order a.keeper a.connections) input output
          (runs_none disk.state disk.faults disk.honest c.leads_law.ensures a.order a.keeper a.connections));
    }

pub returns-in_err-write_replies-clause-group : goal.returns-in_err-write_replies-clause-group
returns-in_err-write_replies-clause-group g c = subst (λ x. IfSome x.connections.group (IsInHand x.order)) (sym c.write_replies.ensures.same) c.take-flow.ensures.group

pub returns-in_err-write_replies-clause-extent : goal.returns-in_err-write_replies-clause-extent
returns-in_err-write_replies-clause-extent g c = ap (λ x. g.D.Disk.extent x.keeper.disk) c.write_replies.ensures.same ∙ (c.take-flow.ensures.extent ∙ c.loop.invariant.extent)

pub returns-in_err-write_replies-clause-honest : goal.returns-in_err-write_replies-clause-honest
returns-in_err-write_replies-clause-honest g c = subst (λ x. g.D.Disk.honest x.keeper.disk ↔ g.D.Disk.honest c.args.self.now.export.keeper.disk) (sym c.write_replies.ensures.same) (λ is. c.loop.invariant.honest.0 (c.take-flow.ensures.honest.0 is), λ is. c.take-flow.ensures.honest.1 (c.loop.invariant.honest.1 is))

pub returns-in_err-flow-clause-group : goal.returns-in_err-flow-clause-group
returns-in_err-flow-clause-group g c = subst (λ x. IfSome x.connections.group (IsInHand x.order)) (sym c.write_replies.ensures.same) c.take-flow.ensures.group

pub returns-in_err-flow-clause-extent : goal.returns-in_err-flow-clause-extent
returns-in_err-flow-clause-extent g c = ap (λ x. g.D.Disk.extent x.keeper.disk) c.write_replies.ensures.same ∙ (c.take-flow.ensures.extent ∙ c.loop.invariant.extent)

pub returns-in_err-flow-clause-honest : goal.returns-in_err-flow-clause-honest
returns-in_err-flow-clause-honest g c = subst (λ x. g.D.Disk.honest x.keeper.disk ↔ g.D.Disk.honest c.args.self.now.export.keeper.disk) (sym c.write_replies.ensures.same) (λ is. c.loop.invariant.honest.0 (c.take-flow.ensures.honest.0 is), λ is. c.take-flow.ensures.honest.1 (c.loop.invariant.honest.1 is))

pub returns-in-Ended-clause-group : goal.returns-in-Ended-clause-group
returns-in-Ended-clause-group g c = subst (λ x. IfSome x.connections.group (IsInHand x.order)) (sym c.write_replies.ensures.same) c.take-flow.ensures.group

pub returns-in-Ended-clause-extent : goal.returns-in-Ended-clause-extent
returns-in-Ended-clause-extent g c = ap (λ x. g.D.Disk.extent x.keeper.disk) c.write_replies.ensures.same ∙ (c.take-flow.ensures.extent ∙ c.loop.invariant.extent)

pub returns-in-Ended-clause-honest : goal.returns-in-Ended-clause-honest
returns-in-Ended-clause-honest g c = subst (λ x. g.D.Disk.honest x.keeper.disk ↔ g.D.Disk.honest c.args.self.now.export.keeper.disk) (sym c.write_replies.ensures.same) (λ is. c.loop.invariant.honest.0 (c.take-flow.ensures.honest.0 is), λ is. c.take-flow.ensures.honest.1 (c.loop.invariant.honest.1 is))

pub returns-in_err-count-clause-group : goal.returns-in_err-count-clause-group
returns-in_err-count-clause-group g c = c.loop.invariant.group

pub returns-in_err-count-clause-extent : goal.returns-in_err-count-clause-extent
returns-in_err-count-clause-extent g c = c.loop.invariant.extent

pub returns-in_err-count-clause-honest : goal.returns-in_err-count-clause-honest
returns-in_err-count-clause-honest g c = c.loop.invariant.honest

pub returns-then-count-eq0-clause-group : goal.returns-then-count-eq0-clause-group
returns-then-count-eq0-clause-group g c = c.loop.invariant.group

pub returns-then-count-eq0-clause-extent : goal.returns-then-count-eq0-clause-extent
returns-then-count-eq0-clause-extent g c = c.loop.invariant.extent

pub returns-then-count-eq0-clause-honest : goal.returns-then-count-eq0-clause-honest
returns-then-count-eq0-clause-honest g c = c.loop.invariant.honest

pub returns-clause-group : goal.returns-clause-group
returns-clause-group g c = c.loop.invariant.group

pub returns-clause-extent : goal.returns-clause-extent
returns-clause-extent g c = c.loop.invariant.extent

pub returns-clause-honest : goal.returns-clause-honest
returns-clause-honest g c = c.loop.invariant.honest

pub take-flow-requires : goal.take-flow-requires
take-flow-requires g c = record { group = c.loop.invariant.group }

pub returns-then-count-eq0-clause-early : goal.returns-then-count-eq0-clause-early
returns-then-count-eq0-clause-early g c = closed_apart

pub returns-in-Ended-clause-early : goal.returns-in-Ended-clause-early
returns-in-Ended-clause-early g c = ok_apart

pub returns-clause-early : goal.returns-clause-early
returns-clause-early g c = stream_apart
