use Rattle.std.proofs.Common.{refl}
use Rattle.disk_model.specs.FileCall.{Read, Taken}
use Rattle.disk_model.specs.declared.file.Seal.TheVariants.{Whole}
use Rattle.disk_model.proofs.file.FileDiskDisk.read.Goals as goal

pub returns-clause-bytes : goal.returns-clause-bytes
returns-clause-bytes g c = λ keeps. (keeps.each c.args.self.now _ (Read c.args.offset c.read_exact_at.new.buf c.outcome.result) refl refl (Taken Whole refl)).got

pub returns-clause-kept : goal.returns-clause-kept
returns-clause-kept g c = λ keeps. (keeps.each c.args.self.now _ (Read c.args.offset c.read_exact_at.new.buf c.outcome.result) refl refl (Taken Whole refl)).kept

pub returns-clause-any_moment : goal.returns-clause-any_moment
returns-clause-any_moment g c = λ keeps. (keeps.each c.args.self.now _ (Read c.args.offset c.read_exact_at.new.buf c.outcome.result) refl refl (Taken Whole refl)).any_moment
