use Rattle.std.proofs.Common.{◌∙◌, ap, arith}
use Rattle.image_model.specs.Edit.{blocks_met}
use Rattle.order_book.specs.Edits.{image_in}
use Rattle.order_book.proofs.CommandsFitGroup.{two_edges}
use Rattle.order_book.proofs.EditBecomesCommand.{edges_body, no_edges_body, put_body}
use Rattle.order_book.proofs.edits.body_for.Goals as goal

pub returns-in-Put-clause-body : goal.returns-in-Put-clause-body
returns-in-Put-clause-body c =
    rw c.in-Put.is (put_body c.in-Put.offset c.blocks_met.result c.in-Put.bytes.items (image_in c.args.cache.now)
    (c.blocks_met.ensures ∙ ap (blocks_met c.in-Put.offset) (c.len.ensures ∙ c.in-Put.bytes.ok.0)))

pub returns-in-Some-clause-body : goal.returns-in-Some-clause-body
returns-in-Some-clause-body c =
    rw c.in-Zeroes.is (edges_body c.in-Zeroes.offset c.in-Zeroes.length c.in-Zeroes.kind (image_in c.args.cache.now) c.in-Some.edges c.count.result c.in-Some.ensures c.count.ensures)

pub returns-in-Some-clause-small : goal.returns-in-Some-clause-small
returns-in-Some-clause-small c = let few = two_edges c.in-Some.edges in let is = c.count.ensures in omega (arith, few, is)

pub returns-in-None-clause-body : goal.returns-in-None-clause-body
returns-in-None-clause-body c = rw c.in-Zeroes.is (no_edges_body c.in-Zeroes.offset c.in-Zeroes.length c.in-Zeroes.kind (image_in c.args.cache.now) c.in-None.ensures)
