use Rattle.std.proofs.Common.{false}
use Rattle.std.proofs.lemmas.Result.{IfOk-weaker}
use Rattle.command_line.specs.inner.Rows.{rule_of_form}
use Rattle.command_line.proofs.Builders.{conflicting, requiring, ruled, tied_by, wanted_unless}
use Rattle.command_line.proofs.commands.argument_of.Goals as goal

pub returns-in-Excludes : goal.returns-in-Excludes
returns-in-Excludes c =
    let new_argument = c.new_argument-argument.result in
    let rule = rule_of_form c.args.row.now.name.now c.args.row.now.form in
    tied_by c.conflicts_with.result c.args.row.now.tie _ rule c.in-Excludes.is
    (IfOk-weaker c.conflicts_with.result _ _ (λ arg adds. ruled new_argument arg rule c.new_argument-argument.ensures.local c.new_argument-argument.ensures.rule (conflicting new_argument arg _ adds)) c.conflicts_with.ensures)

pub returns-in_ok-conflicts_with-in-OneOf : goal.returns-in_ok-conflicts_with-in-OneOf
returns-in_ok-conflicts_with-in-OneOf c =
    let new_argument = c.new_argument-argument.result in
    let alone = c.in_ok-conflicts_with-in-OneOf.field-0 in
    let rule = rule_of_form c.args.row.now.name.now c.args.row.now.form in
    let excluding = ruled new_argument alone rule c.new_argument-argument.ensures.local c.new_argument-argument.ensures.rule (conflicting new_argument alone _ c.in_ok-conflicts_with-in-OneOf.ensures) in
    tied_by c.required_unless_present.result c.args.row.now.tie _ rule c.in-OneOf.is
    (IfOk-weaker c.required_unless_present.result _ _ (λ arg adds. ruled alone arg (record rule { is_free = false }) excluding.0 excluding.1 (wanted_unless alone arg _ adds)) c.required_unless_present.ensures)

pub returns-in-Requires : goal.returns-in-Requires
returns-in-Requires c =
    let new_argument = c.new_argument-argument.result in
    let rule = rule_of_form c.args.row.now.name.now c.args.row.now.form in
    tied_by c.requires_arg.result c.args.row.now.tie _ rule c.in-Requires.is
    (IfOk-weaker c.requires_arg.result _ _ (λ arg adds. ruled new_argument arg rule c.new_argument-argument.ensures.local c.new_argument-argument.ensures.rule (requiring new_argument arg _ adds)) c.requires_arg.ensures)
