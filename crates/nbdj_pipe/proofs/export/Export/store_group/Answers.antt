use Rattle.std.proofs.Common.{◌∙◌}
use Rattle.export_model.specs.Step.{append, publish, seal}
use Rattle.nbdj_pipe.proofs.Causes.{shown, unsettled}
use Rattle.nbdj_pipe.proofs.Steps.{settles_on}
use Rattle.nbdj_pipe.proofs.export.Export.store_group.Goals as goal

pub returns-clause-world : goal.returns-clause-world
returns-clause-world g c = λ world trusted of.
    let disk = g.D.Disk in
    let law = c.leads_law.ensures in
    let one = c.store_step-sealed.new.self in
    let two = c.store_step-appended.new.self in
    let three = c.store_step-published.new.self in
    let first = c.store_step-sealed.ensures.world world trusted of in
    let sealed = seal first.0 world in
    let second = c.store_step-appended.ensures.world sealed trusted first.1.follows.leads.of_export in
    let appended = append second.0 sealed in
    let third = c.store_step-published.ensures.world appended trusted second.1.follows.leads.of_export in
    let within = c.schedule_law.ensures.within world of.reached in
    let pending = unsettled world c.args.self.now.order c.args.self.now.connections within of.of_order c.requires.pending in (
      publish appended,
      settles_on disk.state disk.faults disk.honest law world appended (publish appended) trusted two.order three.order two.keeper three.keeper two.connections three.connections c.args.self.now.keeper.disk
          c.store_step-published.ensures.honest.0
          (settles_on disk.state disk.faults disk.honest law world sealed appended trusted one.order two.order one.keeper two.keeper one.connections two.connections c.args.self.now.keeper.disk
          c.store_step-appended.ensures.honest.0 first.1 second.1) third.1,
      shown world within of.of_keeper.takes pending.0 pending.1 first.0 second.0 c.store_step-sealed.result c.store_step-appended.result c.store_step-published.result c.fits_area-fits.result
          first.2 second.2 third.2 c.fits_area-fits.ensures.events,
    )

pub returns-clause-honest : goal.returns-clause-honest
returns-clause-honest g c =
    let one = c.store_step-sealed.ensures.honest in
    let two = c.store_step-appended.ensures.honest in
    let three = c.store_step-published.ensures.honest in
    (λ is. one.0 (two.0 (three.0 is)), λ is. three.1 (two.1 (one.1 is)))

pub returns-clause-extent : goal.returns-clause-extent
returns-clause-extent g c = c.store_step-published.ensures.extent ∙ (c.store_step-appended.ensures.extent ∙ c.store_step-sealed.ensures.extent)
