use Rattle.std.proofs.Common.{◌≡◌, ℕ, ◌+◌, subst, arith}
use Rattle.journal_format.specs.Spelling.{change_head}
use Rattle.journal_format.specs.GroupList.{StandsAt}
use Rattle.journal_format.specs.laws.Heads.{stands_in}
use Rattle.journal_format.specs.laws.Spelled.{length-change_head}
use Rattle.journal_format.specs.laws.Windows.{window_bytes}
use Rattle.journal_format.proofs.scan.Place.command_head.Goals as goal

pub returns-clause-bytes : goal.returns-clause-bytes
returns-clause-bytes g c honest content known =
    let known_then = c.in_ok-load.ensures.read_as honest content known in
    let whole = window_bytes content _ c.args.self.now.from c.args.self.now.bytes c.load.new.self c.args.place 13 c.bytes.result.now known_then c.in_ok-load.ensures.held.0 c.in_ok-load.ensures.held.1 c.bytes.ensures.count c.bytes.ensures.bytes in
    let at : c.args.self.now.from + c.args.place + 0 ≡ c.args.self.now.from + c.args.place = omega arith in
    let head = change_head c.command_head.result.kind c.command_head.result.first c.command_head.result.blocks in
    subst (λ (p : ℕ). StandsAt content p head) at
    (stands_in content c.bytes.result.now head (c.args.self.now.from + c.args.place) 0 whole c.command_head.ensures
    (omega (arith, c.bytes.ensures.count, length-change_head c.command_head.result.kind c.command_head.result.first c.command_head.result.blocks)))
