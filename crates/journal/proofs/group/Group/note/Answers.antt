use Rattle.std.proofs.Common.{◌≡◌, ◌∙◌, ◌++◌, List, length, map, take, ap, sym, append_assoc, arith}
use Rattle.std.proofs.lemmas.List.{take_all, take-append-le}
use Rattle.std.proofs.lemmas.List.Sums.{sum_by_more}
use Rattle.image_model.specs.declared.command.Command.{Command}
use Rattle.image_model.specs.Change.{change_of}
use Rattle.image_model.specs.Command.{body_of}
use Rattle.journal_format.specs.Group.{Numbered}
use Rattle.journal_format.specs.declared.touch.TouchedRange.{TouchedRange}
use Rattle.journal_format.specs.Touches.{touched_by, touched_by_changes}
use Rattle.journal_format.specs.laws.Noted.{noted_more, noted_within}
use Rattle.journal.proofs.Bodies.{at_commands, body_within}
use Rattle.journal.proofs.group.Group.note.Goals as goal

-- a list that others were put after begins as it was
begins_more : (old more new : List TouchedRange) → new ≡ old ++ more → take (length old) new ≡ old
begins_more old more new is =
    ap (λ (list : List TouchedRange). take (length old) list) is ∙ take-append-le (length old) old more (omega arith) ∙ take_all (length old) old (omega arith)

pub returns-in_err-note-clause-within : goal.returns-in_err-note-clause-within
returns-in_err-note-clause-within c from end low inside within =
    noted_within from end c.args.place c.args.self.now.commands c.loop-command.command-index _ _ low inside (c.in_err-note.ensures.err ∙ c.loop-command.invariant.noted) within

pub loop-command-preserved : goal.loop-command-preserved
loop-command-preserved c =
    let commands = c.args.self.now.commands in
    let index = c.loop-command.command-index in
    let command = c.command-item.result in
    let loop = c.loop-command.invariant in
    let at = at_commands _ commands index command (c.deref-command-items.ensures.value ∙ ap (λ (group : Numbered). group.commands) c.self.view_is) c.loop-command-test.true c.command-item.is in
    record {
      place = omega (arith, loop.place, c.body_bytes-place.ensures, sum_by_more body_of commands index command at.0, ap body_of at.1);
      noted = c.in_ok-note.ensures.ok
          ∙ ap (λ (l : List TouchedRange). c.loop-command.touched.items ++ l) c.touched_by.ensures
          ∙ ap (λ (l : List TouchedRange). l ++ touched_by c.loop-command.place (change_of command)) loop.noted
          ∙ append_assoc c.args.touched.now.items (touched_by_changes c.args.place (map change_of (take index commands))) (touched_by c.loop-command.place (change_of command))
          ∙ ap (λ (l : List TouchedRange). c.args.touched.now.items ++ l) (sym (noted_more c.args.place c.loop-command.place commands index command at.0 at.1 loop.place));
    }

pub touched_by-requires-clause-on_device : goal.touched_by-requires-clause-on_device
touched_by-requires-clause-on_device c =
    let at = at_commands _ c.args.self.now.commands _ _ (c.deref-command-items.ensures.value ∙ ap (λ (group : Numbered). group.commands) c.self.view_is) c.loop-command-test.true c.command-item.is in
    omega (arith, c.loop-command.invariant.place, body_within _ _ _ at.0 at.1, c.requires)

pub touched_by-requires-clause-small : goal.touched_by-requires-clause-small
touched_by-requires-clause-small c =
    let at = at_commands _ _ _ _ c.deref-command-items.ensures.value c.loop-command-test.true c.command-item.is in
    omega (arith, body_within _ _ _ at.0 at.1, c.self.invariant.0.bodies)

pub overflow_add-place : goal.overflow_add-place
overflow_add-place c =
    let at = at_commands _ c.args.self.now.commands _ _ (c.deref-command-items.ensures.value ∙ ap (λ (group : Numbered). group.commands) c.self.view_is) c.loop-command-test.true c.command-item.is in
    omega (arith, c.loop-command.invariant.place, body_within _ _ _ at.0 at.1, c.body_bytes-place.ensures, c.requires)

pub returns-in_err-note-clause-begins : goal.returns-in_err-note-clause-begins
returns-in_err-note-clause-begins c =
    begins_more c.args.touched.now.items _ _ (c.in_err-note.ensures.err ∙ c.loop-command.invariant.noted)

pub returns-clause-begins : goal.returns-clause-begins
returns-clause-begins c = begins_more c.args.touched.now.items _ _ c.loop-command.invariant.noted

pub returns-clause-noted : goal.returns-clause-noted
returns-clause-noted c =
    let commands = c.args.self.now.commands in
    let all : take c.loop-command.command-index commands ≡ commands = take_all c.loop-command.command-index commands (omega (arith, ap length c.deref-command-items.ensures.value, ap (λ (group : Numbered). length group.commands) c.self.view_is)) in
    c.loop-command.invariant.noted ∙ ap (λ (done : List Command). c.args.touched.now.items ++ touched_by_changes c.args.place (map change_of done)) all

pub returns-clause-within : goal.returns-clause-within
returns-clause-within c from end low inside within =
    noted_within from end c.args.place c.args.self.now.commands c.loop-command.command-index _ _ low inside c.loop-command.invariant.noted within
