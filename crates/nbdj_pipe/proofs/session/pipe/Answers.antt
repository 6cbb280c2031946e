use Rattle.std.proofs.Common.{inl, Err, refl, sym, ap, subst, ◌∙◌}
use Rattle.checkpoint.specs.Opening.{IsOpening}
use Rattle.checkpoint.specs.declared.fault.KeeperFault.TheVariants as fault
use Rattle.nbd_wire.specs.laws.Bytes.{keeps_same}
use Rattle.checkpoint.specs.laws.FirstSync.{starved}
use Rattle.nbdj_pipe.proofs.session.pipe.Goals as goal

pub returns-in-Ok-new-clause-dialog : goal.returns-in-Ok-new-clause-dialog
returns-in-Ok-new-clause-dialog g c =
    let opened = c.in-Ok.ensures in
    c.pipe_over.ensures.dialog c.args.disk (record { recovered = opened.recovered; counted = opened.faults; stays = opened.honest.1; found = opened.found })

pub returns-in-Ok-new-clause-device : goal.returns-in-Ok-new-clause-device
returns-in-Ok-new-clause-device g c =
    let opened = c.in-Ok.ensures in
    c.pipe_over.ensures.device c.args.disk (record { recovered = opened.recovered; counted = opened.faults; stays = opened.honest.1; found = opened.found })

pub returns-in-Err-new-clause-dialog : goal.returns-in-Err-new-clause-dialog
returns-in-Err-new-clause-dialog g c = inl (record {
  unread = keeps_same (g.R.Read.remaining c.args.input.now);
  unwritten = keeps_same (g.W.Write.contents c.args.output.now);
  fault = fault.NoMemory;
  told = refl;
  counted = ap g.D.Disk.faults c.into_disk.ensures ∙ c.in-Ok.ensures.faults;
  found = λ is.
      let (content, opening) = c.in-Ok.ensures.found is in (
        content,
        subst (λ left. IsOpening (g.D.Disk.state c.args.disk) g.D.Disk.state (Err (fault.NoMemory, left)) content) (sym c.into_disk.ensures)
            (starved (g.D.Disk.state c.args.disk) g.D.Disk.state content c.in-Ok.keeper opening),
      );
})

pub returns-in-Ok-new-clause-extent : goal.returns-in-Ok-new-clause-extent
returns-in-Ok-new-clause-extent g c = c.pipe_over.ensures.extent ∙ c.in-Ok.ensures.extent

pub returns-in-Ok-new-clause-honest : goal.returns-in-Ok-new-clause-honest
returns-in-Ok-new-clause-honest g c = (λ is. c.in-Ok.ensures.honest.0 (c.pipe_over.ensures.honest.0 is), λ is. c.pipe_over.ensures.honest.1 (c.in-Ok.ensures.honest.1 is))

pub returns-in-Err-new-clause-extent : goal.returns-in-Err-new-clause-extent
returns-in-Err-new-clause-extent g c = ap g.D.Disk.extent c.into_disk.ensures ∙ c.in-Ok.ensures.extent

pub returns-in-Err-clause-extent : goal.returns-in-Err-clause-extent
returns-in-Err-clause-extent g c = c.in-Err.ensures.extent

pub returns-in-Err-clause-honest : goal.returns-in-Err-clause-honest
returns-in-Err-clause-honest g c = c.in-Err.ensures.honest

pub returns-in-Err-clause-dialog : goal.returns-in-Err-clause-dialog
returns-in-Err-clause-dialog g c = inl (record {
  unread = keeps_same (g.R.Read.remaining c.args.input.now);
  unwritten = keeps_same (g.W.Write.contents c.args.output.now);
  fault = c.in-Err.fault;
  told = ap Err c.from.ensures;
  counted = c.in-Err.ensures.faults;
  found = c.in-Err.ensures.found;
})
