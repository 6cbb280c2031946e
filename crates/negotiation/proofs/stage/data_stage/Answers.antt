use Rattle.std.proofs.Common.{[], arith, inr, sym}
use Rattle.std.proofs.lemmas.List.{append-nil}
use Rattle.option_wire.specs.Head.{option_head}
use Rattle.negotiation.proofs.stage.data_stage.Goals as goal

pub returns-then-length-most_bytes-clause-leaves :
    goal.returns-then-length-most_bytes-clause-leaves
returns-then-length-most_bytes-clause-leaves c = inr (
  c.args.option,
  c.args.length,
  [],
  c.ranges.option.fits,
  c.ranges.length.fits,
  omega (arith, c.most_bytes.ensures, c.if-length-most_bytes.true),
  sym (append-nil (option_head c.args.option c.args.length)),
)
