use Rattle.std.proofs.Common.{ℕ, ◌+◌, ◌≤◌, subst}
use Rattle.journal_format.specs.Area.{AreaState}
use Rattle.journal_format.specs.Touches.{AreWithin}
use Rattle.journal_format.specs.laws.Found.{within_more}
use Rattle.journal.proofs.area.Area.touched.Goals as goal

pub returns-clause-within : goal.returns-clause-within
returns-clause-within c =
    subst (λ (area : AreaState). (end : ℕ) → area.from + area.bytes ≤ end → AreWithin area.from end area.touched) c.self.view_is
    (λ end more. within_more c.self.inside.from (c.self.inside.from + c.self.inside.bytes) end more c.self.inside.touched.items c.self.invariant.2)
