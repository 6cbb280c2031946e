use Rattle.std.proofs.Common.{ℕ, ◌≡◌, ◌+◌, ◌<◌, ◌∙◌, length, slice_index, arith, ap, subst}
use Rattle.header_slots.specs.Slots.{IsReading}
use Rattle.header_slots.specs.laws.Frame.{same_reading}
use Rattle.header_slots.proofs.slots.read_current.Goals as goal

pub returns-clause-reading : goal.returns-clause-reading
returns-clause-reading g c = λ honest.
    let seen = (g.D.Disk.state c.read.new.self).seen in
    let bytes = c.in_ok-read.ensures.bytes honest in
    let size : c.size-2.result ≡ g.D.Disk.extent c.args.disk.now = c.size-2.ensures ∙ c.in_ok-read.ensures.extent in
    let P : ℕ → Type 0 = λ extent. IsReading seen extent c.current_in.result in
    subst P size (same_reading c.read.new.into seen
    (λ k below.
    let inside : k < length c.read.new.into = omega arith in
    let k0 : 0 + k ≡ k = omega arith in
    bytes k inside ∙ ap (slice_index seen) k0)
    c.size-2.result c.current_in.result c.current_in.ensures.reading)
