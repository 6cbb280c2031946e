use Rattle.image_files.specs.Sources.{Given}
use Rattle.image_files.specs.declared.sources.Seal.TheVariants.{Whole}
use Rattle.image_files.proofs.sources.StreamSourceSource.read.Goals as goal

pub returns-clause-bytes : goal.returns-clause-bytes
returns-clause-bytes g c honest = λ k below. honest.gave _ _ (Given Whole) k below
