use Rattle.std.proofs.Common.{◌∙◌, refl, sym}
use Rattle.image_model.specs.Change.{change_of}
use Rattle.order_book.proofs.ExcludedRefusals.{due_of, not_full, not_no_room, not_stopped}
use Rattle.order_book.proofs.order.Order.accept.Goals as goal

pub returns : goal.returns
returns g c =
    let change = change_of c.args.command in
    let free = sym c.refusal.ensures ∙ c.in_default.is in
    let memory = c.take.ensures.memory in record {
      number = c.take.ensures.number;
      accepted = c.take.ensures.accepted;
      view = c.take.ensures.view;
      image = c.take.ensures.image;
      blocks = c.take.ensures.blocks;
      numbers = c.mark-mark.ensures.numbers;
      place = sym c.mark-mark.ensures.mark ∙ c.mark-mark.ensures.place;
      handed_back = c.take.ensures.handed_back;
      unchanged = c.take.ensures.unchanged;
      known = c.take.ensures.known;
      knew = c.take.ensures.knew;
      pass = c.take.ensures.pass;
      pass_unchanged = c.take.ensures.pass_unchanged;
      stopped = not_stopped c.take.result c.args.self.now change free memory;
      numbers_full = not_full c.take.result c.args.self.now change free memory;
      no_room = not_no_room c.take.result c.args.self.now change free memory;
    }

pub returns-in-Some : goal.returns-in-Some
returns-in-Some g c =
    let due = due_of c.args.self.now (change_of c.args.command) c.in-Some.fault c.mark-mark.ensures.numbers.mark (sym c.in-Some.is ∙ c.refusal.ensures) in record {
      number = tt;
      accepted = tt;
      view = tt;
      image = tt;
      blocks = refl;
      numbers = c.mark-mark.ensures.numbers;
      place = sym c.mark-mark.ensures.mark ∙ c.mark-mark.ensures.place;
      handed_back = refl;
      unchanged = refl;
      known = tt;
      knew = tt;
      pass = tt;
      pass_unchanged = refl;
      stopped = due.stopped;
      numbers_full = due.full;
      no_room = due.no_room;
    }
