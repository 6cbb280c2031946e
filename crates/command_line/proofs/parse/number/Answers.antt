use Rattle.clap.specs.Words.{found_of, one_text, rows_of}
use Rattle.clap.proofs.WalkLemmas.{one_text-rows}
use Rattle.command_line.proofs.ValuesOfGetters.{number_given}
use Rattle.command_line.proofs.parse.number.Goals as goal

pub returns-in-Some : goal.returns-in-Some
returns-in-Some c =
    let found = found_of c.args.matches.now in
    number_given (rows_of found) c.args.name.now c.in-Some.number (one_text found c.args.name.now) (one_text-rows found c.args.name.now) c.in-Some.ensures.none (λ text given. (c.in-Some.ensures.value text given).0)
