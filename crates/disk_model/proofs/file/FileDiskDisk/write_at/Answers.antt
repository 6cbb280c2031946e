use Rattle.std.proofs.Common.{refl}
use Rattle.disk_model.specs.FileCall.{Write, Taken}
use Rattle.disk_model.specs.declared.file.Seal.TheVariants.{Whole}
use Rattle.disk_model.proofs.file.FileDiskDisk.write_at.Goals as goal

pub returns-clause-written : goal.returns-clause-written
returns-clause-written g c = λ keeps. (keeps.each c.args.self.now _ (Write c.args.offset c.args.from.now c.outcome.result) refl refl (Taken Whole refl)).written

pub returns-clause-failed : goal.returns-clause-failed
returns-clause-failed g c = λ keeps. (keeps.each c.args.self.now _ (Write c.args.offset c.args.from.now c.outcome.result) refl refl (Taken Whole refl)).failed

pub returns-clause-any_moment : goal.returns-clause-any_moment
returns-clause-any_moment g c = λ keeps. (keeps.each c.args.self.now _ (Write c.args.offset c.args.from.now c.outcome.result) refl refl (Taken Whole refl)).any_moment
