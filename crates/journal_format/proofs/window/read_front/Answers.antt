use Rattle.std.proofs.Common.{◌∙◌, ◌<◌, length, arith}
use Rattle.std.proofs.lemmas.List.{get_or_append_left, length-take-le}
use Rattle.std.proofs.lemmas.Result.{on_ok_weaker}
use Rattle.journal_format.proofs.window.read_front.Goals as goal

pub returns-clause-bytes : goal.returns-clause-bytes
returns-clause-bytes g c honest =
    on_ok_weaker c.read.result
    (λ read k below.
    let within : k < length c.read.new.into = omega (arith, below, c.read.auto.into, length-take-le c.args.count c.args.buffer.now c.requires.room) in
    get_or_append_left c.read.new.into _ 0 k within ∙ read k within)
    (c.read.ensures.bytes honest)
