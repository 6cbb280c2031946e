use Rattle.std.proofs.Common.{◌/◌, ap}
use Rattle.image_model.specs.Change.{Written}
use Rattle.image_model.specs.laws.WholeEdits.{put_parts}
use Rattle.image_model.proofs.laws.puts_become_commands.Goals as goal

pub returns : goal.returns
returns c = record { parts = λ offset bytes image. ap (Written (offset / 4096)) (put_parts offset bytes image) }
