-- the bytes of commands
use Rattle.std.proofs.Common.{◌≡◌, ◌∙◌, ℕ, ◌+◌, ◌*◌, ◌≤◌, ◌<◌, List, [], ◌∷◌, length, get_or, take, ap, arith}
use Rattle.std.specs.Prelude.{sum_by}
use Rattle.std.proofs.lemmas.List.Sums.{sum_by-cons, sum_by-take-le, sum_by_more}
use Rattle.image_model.specs.declared.command.Command.{Command}
use Rattle.image_model.specs.declared.command.Command.TheVariants.{Put, Clear, Edged}
use Rattle.image_model.specs.Command.{body_of, bodies_of}

-- each command takes 13 bytes at least
pub body_at_least : (command : Command) → 13 ≤ body_of command
body_at_least (Put first bytes) = omega arith
body_at_least (Clear first blocks kind) = omega arith
body_at_least (Edged first blocks kind edges bytes) = omega arith

pub count_within_bodies : (commands : List Command) → 13 * length commands ≤ bodies_of commands
count_within_bodies [] = omega arith
count_within_bodies (command ∷ commands) =
    omega (arith, count_within_bodies commands, body_at_least command, sum_by-cons body_of command commands)

-- a command ends where those of the list end, or before
pub body_within : (commands : List Command) (index : ℕ) (command : Command) → index < length commands → command ≡ get_or commands index command
    → sum_by body_of (take index commands) + body_of command ≤ bodies_of commands
body_within commands index command below is =
    omega (arith, sum_by_more body_of commands index command below, sum_by-take-le body_of commands (index + 1), ap body_of is)

-- a command of a slice stands in the list that the slice is
pub at_commands : (items commands : List Command) (index : ℕ) (command : Command) → items ≡ commands → index < length items → command ≡ get_or items index command
    → (index < length commands) × (command ≡ get_or commands index command)
at_commands items commands index command same below is =
    (omega (arith, ap length same), is ∙ ap (λ (list : List Command). get_or list index command) same)
