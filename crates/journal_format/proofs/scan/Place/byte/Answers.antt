use Rattle.std.proofs.Common.{◌≡◌, ◌∙◌, ℕ, ◌+◌, List, length, get_or, slice_index, ap, sym, arith}
use Rattle.journal_format.specs.GroupList.{StandsAt}
use Rattle.journal_format.specs.laws.Windows.{window_bytes}
use Rattle.journal_format.proofs.scan.Place.byte.Goals as goal

byte_there : (content bytes : List ℕ) (at : ℕ) → StandsAt content at bytes → length bytes ≡ 1 → slice_index content at ≡ get_or bytes 0 0
byte_there content bytes at stands one =
    let same : at + 0 ≡ at = omega arith in
    ap (λ (place : ℕ). slice_index content place) (sym same) ∙ stands 0 (omega (arith, one))

pub returns-clause-bytes : goal.returns-clause-bytes
returns-clause-bytes g c honest content known =
    let known_then = c.in_ok-load.ensures.read_as honest content known in
    let area = c.args.self.now in
    let there = window_bytes content (g.D.Disk.state c.load.new.disk) area.from area.bytes c.load.new.self c.args.place 1 c.bytes.result.now known_then c.in_ok-load.ensures.held.0 c.in_ok-load.ensures.held.1 c.bytes.ensures.count c.bytes.ensures.bytes in
    byte_there content c.bytes.result.now (area.from + c.args.place) there c.bytes.ensures.count
