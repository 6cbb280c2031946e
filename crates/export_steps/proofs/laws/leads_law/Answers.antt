use Rattle.std.proofs.Common.{[], ◌∷◌, refl}
use Rattle.export_steps.specs.Life.{Trusts}
use Rattle.export_steps.proofs.Runs.{durable_at_end, leads_none, leads_on, leads_sent, leads_step, trusted_honest, trusts_as}
use Rattle.export_model.specs.Step.{after_step}
use Rattle.export_steps.proofs.laws.leads_law.Goals as goal

pub returns : goal.returns
returns g c =
    let law = c.schedule_law.ensures in
    let disk = g.D.Disk in
    record {
      none = λ world trusted order keeper connections of.
          leads_none world order keeper (disk.faults keeper.disk) connections (disk.extent keeper.disk) (Trusts trusted (disk.honest keeper.disk)) (disk.state keeper.disk)
          (λ trusts. g.met.D.Disk.sound keeper.disk (trusted_honest trusted (disk.honest keeper.disk) trusts)) (law.within world of.reached) of;
      one = λ world trusted step failure event order keeper connections start reached is.
          leads_step world step failure event order keeper (disk.faults keeper.disk) connections (Trusts trusted (disk.honest keeper.disk)) (disk.state start) (disk.state keeper.disk)
          is (law.grows world (after_step world step failure) (step ∷ []) (failure, refl)) (law.within world reached);
      sends = λ world trusted connection request order keeper connections idle of.
          leads_sent world connection request order keeper (disk.faults keeper.disk) connections (disk.extent keeper.disk) (Trusts trusted (disk.honest keeper.disk)) (disk.state keeper.disk)
          (λ trusts. g.met.D.Disk.sound keeper.disk (trusted_honest trusted (disk.honest keeper.disk) trusts)) (law.within world of.reached) idle of;
      on = λ world mid next trusted first more order order' keeper keeper' connections connections' start was here on.
          leads_on world mid next first more order order' keeper keeper' (disk.faults keeper.disk) (disk.faults keeper'.disk) connections connections'
          (Trusts trusted (disk.honest keeper.disk)) (Trusts trusted (disk.honest keeper'.disk)) (disk.state start) (disk.state keeper.disk) (disk.state keeper'.disk)
          (trusts_as trusted (disk.honest keeper'.disk) (disk.honest keeper.disk) was) here on (law.grows world mid first here.run) (law.grows mid next more on.run);
      durable = λ world next trusted steps order keeper connections start reached leads trusts.
          durable_at_end world next steps order keeper (disk.faults keeper.disk) connections (disk.extent keeper.disk) (Trusts trusted (disk.honest keeper.disk)) (disk.state start) (disk.state keeper.disk)
          leads trusts (g.met.D.Disk.sound keeper.disk (trusted_honest trusted (disk.honest keeper.disk) trusts)) (law.grows world next steps leads.run) (law.within next leads.of_export.reached)
          (law.covered world reached) (law.covered next leads.of_export.reached);
    }
