use Rattle.std.proofs.Common.{◌∙◌, ap, length, subst, sym}
use Rattle.image_model.specs.Change.{Change, IsChange}
use Rattle.marks.specs.Client.{HasAsked}
use Rattle.marks.specs.Known.{PassState}
use Rattle.image_model.specs.Edit.{edit_of}
use Rattle.order_book.specs.Edits.{image_in}
use Rattle.order_book.proofs.EditBecomesCommand.{becomes_taken, makes_take, whole_becomes}
use Rattle.order_book.proofs.order.Order.take_whole_put.Goals as goal

pub take-requires-clause-command : goal.take-requires-clause-command
take-requires-clause-command g c =
    let edit = edit_of c.args.edit in
    let image = image_in c.args.self.now.cache in
    subst (IsChange (length c.args.self.now.cache.states)) (whole_becomes edit image c.requires.whole ∙ sym c.whole_put.ensures.change)
    (becomes_taken edit image c.requires.few c.requires.edit)

pub returns-in-Ok-clause-taken : goal.returns-in-Ok-clause-taken
returns-in-Ok-clause-taken g c = λ image.
    let taken = c.in-Ok.ensures in
    makes_take (edit_of c.args.edit) image c.args.self.now c.take.new.self c.args.pass.now c.take.new.pass c.whole_put.result c.in-Ok.number _
    (c.whole_put.ensures.change ∙ sym (whole_becomes (edit_of c.args.edit) image c.requires.whole))
    taken.number taken.accepted taken.view taken.image taken.pass

pub take-requires-clause-asked : goal.take-requires-clause-asked
take-requires-clause-asked g c = λ kept.
    subst (λ (change : Change). HasAsked g.T.Trust.trusted g.T.Trust.image c.args.self.now.history change c.args.pass.now.client) (sym c.whole_put.ensures.change) (c.requires.asked kept)

pub returns-in-Ok-clause-client : goal.returns-in-Ok-clause-client
returns-in-Ok-clause-client g c = ap (λ (p : PassState). p.client) c.in-Ok.ensures.pass
