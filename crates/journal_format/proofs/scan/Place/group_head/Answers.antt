use Rattle.std.proofs.Common.{◌+◌, arith}
use Rattle.journal_format.specs.Spelling.{group_head}
use Rattle.journal_format.specs.laws.Heads.{stands_in}
use Rattle.journal_format.specs.laws.Spelled.{length-group_head}
use Rattle.journal_format.specs.laws.Windows.{window_bytes}
use Rattle.journal_format.proofs.scan.Place.group_head.Goals as goal

pub returns-clause-bytes : goal.returns-clause-bytes
returns-clause-bytes g c honest content known =
    let known_then = c.in_ok-load.ensures.read_as honest content known in
    let whole = window_bytes content _ c.args.self.now.from c.args.self.now.bytes c.load.new.self c.args.place 17 c.bytes.result.now known_then c.in_ok-load.ensures.held.0 c.in_ok-load.ensures.held.1 c.bytes.ensures.count c.bytes.ensures.bytes in
    let head = c.group_head.result in
    stands_in content c.bytes.result.now (group_head head.body head.first head.count) (c.args.self.now.from + c.args.place) 1 whole c.group_head.ensures
    (omega (arith, c.bytes.ensures.count, length-group_head head.body head.first head.count))
