use Rattle.std.proofs.Common.{◌∙◌, ◌/◌, refl, sym}
use Rattle.image_model.specs.Edit.{becomes, edit_of, offset_of}
use Rattle.order_book.specs.Edits.{LacksOld, image_in}
use Rattle.order_book.specs.laws.Edited.{same_becomes, same_takes}
use Rattle.order_book.proofs.ExcludedRefusals.{due_of, not_device, not_full, not_no_room, not_stopped}
use Rattle.order_book.proofs.Editing.{same_held}
use Rattle.order_book.proofs.EditBecomesCommand.{has_asked, map_ok}
use Rattle.order_book.proofs.order.Order.accept_in_memory.Goals as goal

pub returns : goal.returns
returns g c =
    let change = becomes (edit_of c.args.edit) (image_in c.args.self.now.cache) in
    let free = sym c.edit_refusal.ensures ∙ c.in_default.is in
    let memory = c.take_edit.ensures.memory in record {
      number = c.take_edit.ensures.number;
      taken =
          λ image shows.
          let edit = edit_of c.args.edit in
          let cache = c.args.self.now.cache in
          let none : LacksOld edit cache → ⊥ = λ lacks. c.requires.held (record { accepted = free; lacks = lacks }) in
          map_ok c.take_edit.result
          (λ taken. same_takes edit _ image _ _ _ _ (same_becomes edit _ image c.requires.edit.some (same_held edit image cache (offset_of edit / 4096) _ _ shows none)) taken)
          c.take_edit.ensures.taken;
      blocks = c.take_edit.ensures.blocks;
      numbers = c.mark-mark.ensures.numbers;
      place = sym c.mark-mark.ensures.mark ∙ c.mark-mark.ensures.place;
      handed_back = c.take_edit.ensures.handed_back;
      unchanged = c.take_edit.ensures.unchanged;
      known = c.take_edit.ensures.known;
      knew = c.take_edit.ensures.knew;
      client = c.take_edit.ensures.client;
      pass_unchanged = c.take_edit.ensures.pass_unchanged;
      stopped = not_stopped c.take_edit.result c.args.self.now change free memory;
      numbers_full = not_full c.take_edit.result c.args.self.now change free memory;
      no_room = not_no_room c.take_edit.result c.args.self.now change free memory;
      no_device = not_device c.take_edit.result c.args.self.now change free memory;
    }

pub returns-in-Some : goal.returns-in-Some
returns-in-Some g c =
    let due = due_of c.args.self.now (becomes (edit_of c.args.edit) (image_in c.args.self.now.cache)) c.in-Some.fault c.mark-mark.ensures.numbers.mark (sym c.in-Some.is ∙ c.edit_refusal.ensures) in record {
      number = tt;
      taken = λ image shows. tt;
      blocks = refl;
      numbers = c.mark-mark.ensures.numbers;
      place = sym c.mark-mark.ensures.mark ∙ c.mark-mark.ensures.place;
      handed_back = refl;
      unchanged = refl;
      known = tt;
      knew = tt;
      client = tt;
      pass_unchanged = refl;
      stopped = due.stopped;
      numbers_full = due.full;
      no_room = due.no_room;
      no_device = due.no_device;
    }

pub take_edit-requires-clause-asked : goal.take_edit-requires-clause-asked
take_edit-requires-clause-asked g c = λ kept.
    let edit = edit_of c.args.edit in
    let cache = c.args.self.now.cache in
    let free = sym c.edit_refusal.ensures ∙ c.in_default.is in
    let none : LacksOld edit cache → ⊥ = λ lacks. c.requires.held (record { accepted = free; lacks = lacks }) in
    has_asked g.T.Trust.trusted g.T.Trust.image c.args.self.now edit c.args.pass.now.client _ (c.requires.asked kept)
    (λ trusted. same_becomes edit _ _ c.requires.edit.some (same_held edit _ cache (offset_of edit / 4096) _ _ ((c.requires.asked kept).shows trusted) none))
