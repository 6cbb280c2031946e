use Rattle.std.specs.Prelude.{is_ok}
use Rattle.negotiation.proofs.Answering.{writes_both, writes_less, writes_part}
use Rattle.negotiation.proofs.serve.write_after_due.Goals as goal

pub returns-in_err-write_first : goal.returns-in_err-write_first
returns-in_err-write_first g c =
    writes_less (g.W.Write.contents c.args.output.now) (g.W.Write.contents c.write_first.new.output) c.args.due.now.items c.args.bytes.now c.write_first.new.due.items c.write_first.new.due.items
    c.from_residual.result c.from_residual.ensures.0 c.in_err-write_first.ensures.writes

pub returns : goal.returns
returns g c =
    let mid = g.W.Write.contents c.write_first.new.output in
    let new = g.W.Write.contents c.write_whole.new.output in
    writes_both (g.W.Write.contents c.args.output.now) mid new c.args.due.now.items c.args.bytes.now c.write_first.new.due.items c.write_first.new.due.items (is_ok c.write_whole.result)
    c.write_first.ensures.none c.in_ok-write_first.ensures.writes
    (writes_part mid new c.args.bytes.now c.write_first.new.due.items c.write_whole.result c.write_whole.ensures c.write_first.ensures.none)
