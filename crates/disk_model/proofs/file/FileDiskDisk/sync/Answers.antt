use Rattle.std.proofs.Common.{refl}
use Rattle.disk_model.specs.FileCall.{Sync, Taken}
use Rattle.disk_model.specs.declared.file.Seal.TheVariants.{Whole}
use Rattle.disk_model.proofs.file.FileDiskDisk.sync.Goals as goal

pub returns-clause-synced : goal.returns-clause-synced
returns-clause-synced g c = λ keeps. (keeps.each c.args.self.now _ (Sync c.outcome.result) refl refl (Taken Whole refl)).synced

pub returns-clause-failed : goal.returns-clause-failed
returns-clause-failed g c = λ keeps. (keeps.each c.args.self.now _ (Sync c.outcome.result) refl refl (Taken Whole refl)).failed

pub returns-clause-any_moment : goal.returns-clause-any_moment
returns-clause-any_moment g c = λ keeps. (keeps.each c.args.self.now _ (Sync c.outcome.result) refl refl (Taken Whole refl)).any_moment
