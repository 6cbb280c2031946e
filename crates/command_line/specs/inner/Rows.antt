-- What the rows of subcommands and arguments say.
use Rattle.std.specs.Prelude.{ℕ, Some, [], ◌∷◌, List, true, false}
use Rattle.clap.specs.Words.{App, Rule, new_app, new_rule, with_rule}
use Rattle.command_line.specs.Commands.{flag_rule, option_rule, repeated_rule}
use Rattle.command_line.specs.declared.commands.ArgumentRow.{ArgumentRow}
use Rattle.command_line.specs.declared.commands.SubcommandRow.{SubcommandRow}
use Rattle.command_line.specs.declared.commands.Form.{Form}
use Rattle.command_line.specs.declared.commands.Form.TheVariants.{Word, Flag, ShortFlag, Text, Texts, TextOr, Value, ValueOr}
use Rattle.command_line.specs.declared.commands.Tie.{Tie}
use Rattle.command_line.specs.declared.commands.Tie.TheVariants as tie

-- what a parse reads of an argument of this name, given so
abbrev pub rule_of_form : List ℕ → Form → Rule
rule_of_form name (Word value_name) = record (new_rule name) { value_names = 1; required = true }
rule_of_form name Flag = flag_rule name
rule_of_form name (ShortFlag letter) = record (flag_rule name) { short = Some letter }
rule_of_form name (Text value_name) = option_rule name
rule_of_form name (Texts value_name) = repeated_rule name
rule_of_form name (TextOr value_name usual) = record (option_rule name) { defaults = usual.now ∷ [] }
rule_of_form name (Value value_name values) = record (option_rule name) { parser = Some values }
rule_of_form name (ValueOr value_name usual values) = record (option_rule name) { parser = Some values; defaults = usual.now ∷ [] }

-- and of one that says this of another one
abbrev pub tied_rule : Tie → Rule → Rule
tied_rule tie.None rule = rule
tied_rule (tie.Excludes other) rule = record rule { is_free = false }
tied_rule (tie.OneOf other) rule = record rule { is_free = false }
tied_rule (tie.Requires other) rule = record rule { is_free = false }

-- the argument of this row
abbrev pub rule_of_row : ArgumentRow → Rule
rule_of_row row = tied_rule row.tie (rule_of_form row.name.now row.form)

-- the command with the arguments of these rows, one after another
abbrev pub with_rows : App → List ArgumentRow → App
with_rows app [] = app
with_rows app (row ∷ rows) = with_rows (with_rule app (rule_of_row row)) rows

-- the subcommand of this row
abbrev pub app_of_row : SubcommandRow → App
app_of_row row = with_rows (new_app row.name.now) row.arguments.now
