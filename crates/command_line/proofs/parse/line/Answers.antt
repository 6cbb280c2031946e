use Rattle.std.proofs.Common.{◌≡◌, ◌∙◌, refl, sym, ap, subst, true, map, Some, Option, List}
use Rattle.std.proofs.lemmas.Result.{IfOk-weaker}
use Rattle.clap.specs.Words.{App, Row, Text, app_of, found_of, is_simple, rows_of, subcommand_of}
use Rattle.command_line.specs.Commands.{nbdj_app}
use Rattle.command_line.specs.Line.{IsInvocation}
use Rattle.command_line.proofs.ValuesOfGetters.{found_whole}
use Rattle.command_line.proofs.parse.line.Goals as goal

pub returns-in-Some : goal.returns-in-Some
returns-in-Some c =
    let modes = c.in_ok-program.ensures.0 in
    let others = c.in_ok-program.ensures.1 in
    let words = map (λ word. word.now) c.args.words.now in
    let app_is : app_of c.in_ok-program.field-0 ≡ nbdj_app modes others = c.in_ok-program.ensures.2 in
    let simple : is_simple (nbdj_app modes others) ≡ true = refl in
    let matched = (c.in_ok-matches.ensures.matches (ap is_simple app_is ∙ simple)).1 ∙ ap (λ (app : App). subcommand_of app words) app_is in
    let whole = found_whole _ _ c.in-Some.name.now (rows_of (found_of c.in-Some.matches.now)) c.in-Some.ensures.name c.in-Some.ensures.rows in
    let found : subcommand_of (nbdj_app modes others) words ≡ Some (c.in-Some.name.now, rows_of (found_of c.in-Some.matches.now)) = sym matched ∙ whole in
    IfOk-weaker c.invocation.result _ _ (λ invocation asked. (modes, others, subst (λ (f : Option (Text × List Row)). IsInvocation f invocation) (sym found) asked)) c.invocation.ensures
