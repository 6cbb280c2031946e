use Rattle.std.proofs.Common.{◌≡◌, ◌++◌, ◌≤◌, ◌∷◌, [], List, length, take, refl, sym, ◌∙◌, ap, arith, length-append}
use Rattle.std.proofs.lemmas.List.{take_at, take-take}
use Rattle.journal_format.specs.declared.touch.TouchedRange.{TouchedRange}
use Rattle.journal_format.proofs.touch.CommandTouch.note_ranges.Goals as goal

-- what begins with a list that begins with another begins with this one
begins_with : (old mid new more : List TouchedRange) → mid ≡ old ++ more → take (length mid) new ≡ mid → take (length old) new ≡ old
begins_with old mid new more is begins =
    let within : length old ≤ length mid = omega (arith, ap length is, length-append old more) in
    sym (take-take (length old) (length mid) new within)
    ∙ ap (λ (l : List TouchedRange). take (length old) l) (begins ∙ is)
    ∙ take_at old more (length old) refl

pub returns-in-Some-clause-begins : goal.returns-in-Some-clause-begins
returns-in-Some-clause-begins c = begins_with c.args.touched.now.items c.note.new.touched.items _ (c.args.self.range ∷ []) c.in_ok-note.ensures.ok c.note-in-Some.ensures.begins
