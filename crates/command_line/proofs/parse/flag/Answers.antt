use Rattle.std.proofs.Common.{◌∙◌}
use Rattle.clap.specs.Words.{found_of}
use Rattle.clap.proofs.WalkLemmas.{one_text-rows}
use Rattle.command_line.proofs.parse.flag.Goals as goal

pub returns : goal.returns
returns c =
    let same = one_text-rows (found_of c.args.matches.now) c.args.name.now in
    record {
      absent = λ is. c.get_flag.ensures.none (same ∙ is);
      given = λ is. c.get_flag.ensures.value (same ∙ is);
      left_out = λ is. c.get_flag.ensures.other (same ∙ is);
    }
