use Rattle.image_files.specs.Sources.{PassedOver}
use Rattle.image_files.specs.declared.sources.Seal.TheVariants.{Whole}
use Rattle.image_files.proofs.sources.FileSourceSource.pass_zeroes.Goals as goal

pub returns-clause-zeroes : goal.returns-clause-zeroes
returns-clause-zeroes g c honest = λ k below. honest.passed _ _ (PassedOver Whole) k below
