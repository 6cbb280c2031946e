use Rattle.std.proofs.Common.{◌≡◌, ◌∙◌, ◌/◌, ap, length, refl, subst, sym}
use Rattle.image_model.specs.Change.{Change, IsChange, change_of}
use Rattle.marks.specs.Client.{HasAsked}
use Rattle.marks.specs.Known.{PassState}
use Rattle.image_model.specs.Edit.{becomes, edit_of, offset_of}
use Rattle.order_book.specs.Edits.{image_in, image_with}
use Rattle.order_book.specs.Order.{OrderState, refusal_for}
use Rattle.order_book.specs.laws.Edited.{same_refusal}
use Rattle.order_book.proofs.EditBecomesCommand.{becomes_taken, whole_becomes}
use Rattle.order_book.proofs.order.Order.take_edit.Goals as goal

pub take_whole_put-requires-clause-free : goal.take_whole_put-requires-clause-free
take_whole_put-requires-clause-free g c =
    ap (refusal_for c.args.self.now) (sym (whole_becomes (edit_of c.args.edit) (image_in c.args.self.now.cache) (c.is_whole_put.ensures.0 c.if-is_whole_put.true)))
    ∙ c.requires.free

pub take-requires-clause-command : goal.take-requires-clause-command
take-requires-clause-command g c =
    let edit = edit_of c.args.edit in
    let over = subst (λ (o : OrderState). change_of c.in-Ok.command ≡ becomes edit (image_with o.cache (offset_of edit / 4096) c.args.head.now c.args.tail.now)) c.self.view_is c.in-Ok.ensures in
    subst (IsChange (length c.args.self.now.cache.states)) (sym over)
    (becomes_taken edit (image_with c.args.self.now.cache (offset_of edit / 4096) c.args.head.now c.args.tail.now) c.requires.few c.requires.edit)

pub take-requires-clause-free : goal.take-requires-clause-free
take-requires-clause-free g c =
    let edit = edit_of c.args.edit in
    let over = subst (λ (o : OrderState). change_of c.in-Ok.command ≡ becomes edit (image_with o.cache (offset_of edit / 4096) c.args.head.now c.args.tail.now)) c.self.view_is c.in-Ok.ensures in
    ap (refusal_for c.args.self.now) over
    ∙ same_refusal c.args.self.now edit (image_with c.args.self.now.cache (offset_of edit / 4096) c.args.head.now c.args.tail.now) (image_in c.args.self.now.cache) (λ block. refl)
    ∙ c.requires.free

pub returns-then-is_whole_put : goal.returns-then-is_whole_put
returns-then-is_whole_put g c = record {
  number = c.take_whole_put.ensures.number;
  taken = c.take_whole_put.ensures.taken (image_with c.args.self.now.cache (offset_of (edit_of c.args.edit) / 4096) c.args.head.now c.args.tail.now);
  blocks = c.take_whole_put.ensures.blocks;
  handed_back = c.take_whole_put.ensures.handed_back;
  unchanged = c.take_whole_put.ensures.unchanged;
  known = c.take_whole_put.ensures.known;
  knew = c.take_whole_put.ensures.knew;
  client = c.take_whole_put.ensures.client;
  pass_unchanged = c.take_whole_put.ensures.pass_unchanged;
  memory = c.take_whole_put.ensures.memory;
}

pub returns-in-Ok-take-clause-number : goal.returns-in-Ok-take-clause-number
returns-in-Ok-take-clause-number g c = c.in-Ok-take.ensures.number

pub returns-in-Ok-take-clause-known : goal.returns-in-Ok-take-clause-known
returns-in-Ok-take-clause-known g c = c.in-Ok-take.ensures.known

pub returns-in-Ok-take-clause-knew : goal.returns-in-Ok-take-clause-knew
returns-in-Ok-take-clause-knew g c = c.in-Ok-take.ensures.knew

pub returns-in-Ok-take-clause-blocks : goal.returns-in-Ok-take-clause-blocks
returns-in-Ok-take-clause-blocks g c = c.take.ensures.blocks

pub returns-in-Err : goal.returns-in-Err
returns-in-Err g c = record {
  number = tt;
  taken = tt;
  blocks = c.take.ensures.blocks;
  handed_back = refl;
  unchanged = c.in-Err.ensures.unchanged;
  known = tt;
  knew = tt;
  client = tt;
  pass_unchanged = c.in-Err.ensures.pass_unchanged;
  memory = c.in-Err.ensures.memory;
}

pub returns-in-Ok-take-clause-client : goal.returns-in-Ok-take-clause-client
returns-in-Ok-take-clause-client g c = ap (λ (p : PassState). p.client) c.in-Ok-take.ensures.pass

pub take_whole_put-requires-clause-asked : goal.take_whole_put-requires-clause-asked
take_whole_put-requires-clause-asked g c = λ kept.
    let edit = edit_of c.args.edit in
    subst (λ (change : Change). HasAsked g.T.Trust.trusted g.T.Trust.image c.args.self.now.history change c.args.pass.now.client)
    (whole_becomes edit (image_with c.args.self.now.cache (offset_of edit / 4096) c.args.head.now c.args.tail.now) (c.is_whole_put.ensures.0 c.if-is_whole_put.true)) (c.requires.asked kept)

pub take-requires-clause-asked : goal.take-requires-clause-asked
take-requires-clause-asked g c = λ kept.
    let edit = edit_of c.args.edit in
    let over = subst (λ (o : OrderState). change_of c.in-Ok.command ≡ becomes edit (image_with o.cache (offset_of edit / 4096) c.args.head.now c.args.tail.now)) c.self.view_is c.in-Ok.ensures in
    subst (λ (change : Change). HasAsked g.T.Trust.trusted g.T.Trust.image c.args.self.now.history change c.args.pass.now.client) (sym over) (c.requires.asked kept)
