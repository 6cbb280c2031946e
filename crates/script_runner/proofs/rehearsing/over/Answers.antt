use Rattle.std.proofs.Common.{subst}
use Rattle.disk_model.specs.Disk.{MayLeave}
use Rattle.disk_model.specs.SimDisk.{state_now}
use Rattle.disk_model.specs.declared.sim.SimDisk.{SimDisk}
use Rattle.script_runner.proofs.rehearsing.over.Goals as goal

pub returns : goal.returns
returns g c = λ world of.
    let life = c.args.life in
    let (image, (content, may, stands)) = c.in_ok-keeper.ensures.found in (
      image,
      c.next_life_law.ensures world life.order life.keeper life.bench.connections content image c.in_ok-keeper.keeper.count tt of.of_export
          (subst (λ (disk : SimDisk). MayLeave (state_now disk) content) c.end-disk.ensures.disk may) stands,
    )

pub invariant_of-result : goal.invariant_of-result
invariant_of-result g c = record { recovered = c.in_ok-keeper.ensures.recovered; keeps = ∣ (λ _. c.in_ok-keeper.ensures.keeps) ∣₁ }
