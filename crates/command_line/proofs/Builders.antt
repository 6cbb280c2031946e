-- What the builders of a command line make, as what a parse reads of it.
use Rattle.std.proofs.Common.{ℕ, ◌+◌, ◌<◌, drop, get_or, ◌≡◌, ◌&&◌, ◌++◌, ◌∷◌, ◌==◌, Bool, List, [], Result, Ok, Err, true, false, not, length, refl, ap, sym, subst, ◌∙◌}
use Rattle.std.specs.Prelude.{IfOk, IsOkAnd}
use Rattle.std.proofs.lemmas.Bool.{false≢true}
use Rattle.std.proofs.lemmas.List.{at_drop_more}
use Rattle.std.proofs.lemmas.Result.{IfOk-weaker}
use Rattle.std.proofs.Math.Dec.{eqb-suc-zero}
use Rattle.std.specs.declared.alloc.AllocError.{AllocError}
use Rattle.clap.specs.declared.builder.arg.Arg.{Arg}
use Rattle.clap.specs.declared.builder.arg.ArgPredicate.{ArgPredicate}
use Rattle.clap.specs.declared.builder.command.Command.{Command}
use Rattle.std.specs.Borrow.{Bor}
use Rattle.command_line.specs.inner.Rows.{rule_of_row, tied_rule, app_of_row, with_rows}
use Rattle.command_line.specs.declared.commands.ArgumentRow.{ArgumentRow}
use Rattle.command_line.specs.declared.commands.SubcommandRow.{SubcommandRow}
use Rattle.command_line.specs.declared.commands.Tie.{Tie}
use Rattle.clap.specs.Walk.{is_empty, is_free_arg}
use Rattle.clap.specs.Words.{AddsArg, AddsSubcommand, new_app, AddsConflicts, AddsRequiredUnless, AddsRequirements, App, Rule, Shape, Text, app_of, rule_of, with_rule, with_subcommand}

-- of a plain command's tests the third: it has no global argument
pub third : (groups external globals rest : Bool) → (groups && (not external && (not globals && rest))) ≡ true → globals ≡ false
third groups external false rest plain = refl
third true true true rest plain = absurd (false≢true plain)
third true false true rest plain = absurd (false≢true plain)
third false external true rest plain = absurd (false≢true plain)

-- ---- rules on other arguments

front_false : (front rest : Bool) → rest ≡ false → (front && rest) ≡ false
front_false true rest is = is
front_false false rest is = refl

one_more : {X : Type 0} (xs : List X) (x : X) → (length (xs ++ x ∷ []) == 0) ≡ false
one_more [] x = refl
one_more (y ∷ ys) x = eqb-suc-zero (length (ys ++ x ∷ []))

is_no_longer_empty : {X : Type 0} (new old : List X) (x : X) → new ≡ old ++ x ∷ [] → (length new == 0) ≡ false
is_no_longer_empty new old x is = ap (λ xs. length xs == 0) is ∙ one_more old x

-- the argument as it was, but that it has a rule on another one
abbrev pub IsTied : Arg → Arg → Type 0
IsTied old new = (new.global ≡ old.global) × (rule_of new ≡ record (rule_of old) { is_free = false })

tied : (old changed new : Arg) → new ≡ changed → rule_of changed ≡ record (rule_of old) { is_free = is_free_arg changed } → changed.global ≡ old.global
    → is_free_arg new ≡ false → IsTied old new
tied old changed new same rest local held =
    (ap (λ (a : Arg). a.global) same ∙ local, ap rule_of same ∙ rest ∙ ap (λ b. record (rule_of old) { is_free = b }) (ap is_free_arg (sym same) ∙ held))

pub conflicting : (old new : Arg) (id : Bor Text) → AddsConflicts old new (id ∷ []) → IsTied old new
conflicting old new id adds =
    let some : (length new.conflicts.items == 0) ≡ false = is_no_longer_empty new.conflicts.items old.conflicts.items id adds.1 in
    let held : is_free_arg new ≡ false =
    front_false (not new.exclusive) _
    (ap (λ b. b && (is_empty new.needs.items && (is_empty new.r_ifs.items && (is_empty new.r_ifs_all.items && (is_empty new.r_unless.items && is_empty new.r_unless_all.items))))) some) in
    tied old (record old { conflicts = new.conflicts }) new adds.0 refl refl held

pub requiring : (old new : Arg) (need : ArgPredicate × Bor Text) → AddsRequirements old new (need ∷ []) → IsTied old new
requiring old new need adds =
    let some : (length new.needs.items == 0) ≡ false = is_no_longer_empty new.needs.items old.needs.items need adds.1 in
    let held : is_free_arg new ≡ false =
    front_false (not new.exclusive) _ (front_false (is_empty new.conflicts.items) _
    (ap (λ b. b && (is_empty new.r_ifs.items && (is_empty new.r_ifs_all.items && (is_empty new.r_unless.items && is_empty new.r_unless_all.items)))) some)) in
    tied old (record old { needs = new.needs }) new adds.0 refl refl held

pub wanted_unless : (old new : Arg) (id : Bor Text) → AddsRequiredUnless old new (id ∷ []) → IsTied old new
wanted_unless old new id adds =
    let some : (length new.r_unless.items == 0) ≡ false = is_no_longer_empty new.r_unless.items old.r_unless.items id adds.1 in
    let held : is_free_arg new ≡ false =
    front_false (not new.exclusive) _ (front_false (is_empty new.conflicts.items) _ (front_false (is_empty new.needs.items) _
    (front_false (is_empty new.r_ifs.items) _ (front_false (is_empty new.r_ifs_all.items) _ (ap (λ b. b && is_empty new.r_unless_all.items) some))))) in
    tied old (record old { r_unless = new.r_unless }) new adds.0 refl refl held

-- an argument of this rule that got a rule on another one
pub ruled : (old new : Arg) (rule : Rule) → old.global ≡ false → rule_of old ≡ rule → IsTied old new → (new.global ≡ false) × (rule_of new ≡ record rule { is_free = false })
ruled old new rule local is held = (held.0 ∙ local, held.1 ∙ ap (λ (r : Rule). record r { is_free = false }) is)

-- and of the rule that a row of this tie says
pub tied_by : (made : Result Arg AllocError) (tie kind : Tie) (rule : Rule) → tie ≡ kind
    → IfOk made (λ arg. (arg.global ≡ false) × (rule_of arg ≡ tied_rule kind rule)) → IfOk made (λ arg. (arg.global ≡ false) × (rule_of arg ≡ tied_rule tie rule))
tied_by made tie kind rule is said = subst (λ t. IfOk made (λ arg. (arg.global ≡ false) × (rule_of arg ≡ tied_rule t rule))) (sym is) said

-- a subcommand of rows is as plain as one without them
pub plain_rows : (app : App) (rows : List ArgumentRow) → (with_rows app rows).top.is_plain ≡ app.top.is_plain
plain_rows app [] = refl
plain_rows app (row ∷ rows) = plain_rows (with_rule app (rule_of_row row)) rows

-- ---- one more row of a table

pub argument_added : (above : Command) (made : Result Command AllocError) (arg : Arg) (row : ArgumentRow) → (arg.global ≡ false) × (rule_of arg ≡ rule_of_row row) → IfOk made (AddsArg above arg)
    → IfOk made (λ whole. app_of whole ≡ with_rule (app_of above) (rule_of_row row))
argument_added above made arg row is says = IfOk-weaker made _ _ (λ whole adds. adds.shape is.0 ∙ ap (with_rule (app_of above)) is.1) says

pub row_added : (above next : Command) (whole : App) (rows : List ArgumentRow) (i : ℕ) (row : ArgumentRow) → i < length rows → with_rows (app_of above) (drop i rows) ≡ whole
    → app_of next ≡ with_rule (app_of above) (rule_of_row (get_or rows i row)) → with_rows (app_of next) (drop (i + 1) rows) ≡ whole
row_added above next whole rows i row inside so_far grown =
    ap (λ (a : App). with_rows a (drop (i + 1) rows)) grown ∙ sym (at_drop_more (with_rows (app_of above)) rows i row inside) ∙ so_far

-- what is said of a value, at the Ok that has it
pub at_ok : {T U E F : Type 0} (r : Result T E) (value : T) (P : T → U → Type 0) (made : Result U F) → r ≡ Ok value → IfOk made (P value)
    → IfOk made (λ whole. IsOkAnd r (λ v. P v whole))
at_ok r value P made was says = IfOk-weaker made _ _ (λ whole said. subst (λ o. IsOkAnd o (λ v. P v whole)) (sym was) said) says

-- a subcommand of a row, after those that the command has
pub subcommand_added : (above below : Command) (made : Result Command AllocError) (row : SubcommandRow) → app_of below ≡ app_of_row row → IfOk made (AddsSubcommand above below)
    → IfOk made (λ whole. app_of whole ≡ with_subcommand (app_of above) (app_of_row row).top)
subcommand_added above below made row is says =
    let plain : (app_of below).top.is_plain ≡ true = ap (λ (a : App). a.top.is_plain) is ∙ plain_rows (new_app row.name.now) row.arguments.now in
    IfOk-weaker made _ _ (λ whole adds. adds.shape (third _ _ _ _ plain) ∙ ap (λ (a : App). with_subcommand (app_of above) a.top) is) says

-- and after those before it
pub joins : (command made : Result Command AllocError) (so_far : App) (below : Shape) → IfOk command (λ above. app_of above ≡ so_far)
    → IfOk made (λ whole. IsOkAnd command (λ above. app_of whole ≡ with_subcommand (app_of above) below))
    → IfOk made (λ whole. app_of whole ≡ with_subcommand so_far below)
joins (Ok above) made so_far below same says = IfOk-weaker made _ _ (λ whole joined. joined ∙ ap (λ (a : App). with_subcommand a below) same) says
joins (Err error) made so_far below same says = IfOk-weaker made _ _ (λ whole joined. absurd joined) says
