-- What an area notes of the commands of a group, and the last touch that it finds.
use Rattle.std.proofs.Common.{◌≡◌, ℕ, zero, suc, ◌+◌, ◌≤◌, ◌<◌, List, [], ◌∷◌, ◌++◌, length, get_or, map, take, drop, Option, Some, None, Result, Err, sym, ◌∙◌, ap, subst, arith}
use Rattle.std.specs.Prelude.{sum_by, IfSome, IfNone, IsErrAnd, IsErrOf}
use Rattle.std.specs.List.{flat_map}
use Rattle.std.proofs.lemmas.List.{take_more, map-append}
use Rattle.std.proofs.lemmas.List.Sums.{sum_by-take-le}
use Rattle.std.proofs.lemmas.Result.{err_from_is_err_and}
use Rattle.image_model.specs.declared.command.Command.{Command}
use Rattle.image_model.specs.Change.{change_of}
use Rattle.image_model.specs.Command.{body_of, bodies_of}
use Rattle.journal_format.specs.declared.fault.JournalFault.{JournalFault}
use Rattle.journal_format.specs.declared.touch.Touch.{Touch}
use Rattle.journal_format.specs.declared.touch.TouchedRange.{TouchedRange}
use Rattle.journal_format.specs.Spelling.{change_bytes}
use Rattle.journal_format.specs.Touches.{AreWithin, last_touch, later, touch_in, touched_by, touched_by_changes}
use Rattle.journal_format.specs.laws.Found.{touched-push, touched_within, within_append}
use Rattle.journal_format.specs.laws.Spelled.{length-body}

-- one command more
pub noted_more : (place here : ℕ) (commands : List Command) (index : ℕ) (command : Command) → index < length commands → command ≡ get_or commands index command → here ≡ place + sum_by body_of (take index commands)
    → touched_by_changes place (map change_of (take (index + 1) commands)) ≡ touched_by_changes place (map change_of (take index commands)) ++ touched_by here (change_of command)
noted_more place here commands index command below is here_is =
    let front = take index commands in
    let taken : take (index + 1) commands ≡ front ++ command ∷ [] = take_more commands index command below ∙ ap (λ (c : Command). front ++ c ∷ []) (sym is) in
    let at : place + length (flat_map change_bytes (map change_of front)) ≡ here = omega (arith, length-body front, here_is) in
    ap (λ (l : List Command). touched_by_changes place (map change_of l)) taken
    ∙ ap (λ l. touched_by_changes place l) (map-append change_of front (command ∷ []))
    ∙ touched-push place (map change_of front) (change_of command)
    ∙ ap (λ (p : ℕ). touched_by_changes place (map change_of front) ++ touched_by p (change_of command)) at

-- what was noted of the first commands ends in time
pub noted_within : (from end place : ℕ) (commands : List Command) (index : ℕ) (old new : List TouchedRange) → from ≤ place → place + bodies_of commands ≤ end → new ≡ old ++ touched_by_changes place (map change_of (take index commands))
    → AreWithin from end old → AreWithin from end new
noted_within from end place commands index old new low inside new_is within =
    let front = take index commands in
    subst (AreWithin from end) (sym new_is)
    (within_append from end old (touched_by_changes place (map change_of front)) within
    (touched_within from end place (map change_of front) low (omega (arith, length-body front, sum_by-take-le body_of commands index, inside))))

-- the last range that has the block
last_found : (block : ℕ) (ranges : List TouchedRange) (index : ℕ) (range : TouchedRange) (touch : Touch) → index < length ranges → range ≡ get_or ranges index range
    → last_touch block (drop (suc index) ranges) ≡ None → touch_in block range ≡ Some touch → last_touch block ranges ≡ Some touch
last_found block [] index range touch below is none found = absurd (omega arith)
last_found block (r ∷ ranges) zero range touch below is none found =
    ap (λ t. later (touch_in block r) t) none ∙ ap (λ (q : TouchedRange). touch_in block q) (sym is) ∙ found
last_found block (r ∷ ranges) (suc index) range touch below is none found =
    ap (λ t. later (touch_in block r) t) (last_found block ranges index range touch (omega arith) is none found)

last_none : (block : ℕ) (ranges : List TouchedRange) (index : ℕ) (range : TouchedRange) → index < length ranges → range ≡ get_or ranges index range
    → last_touch block (drop (suc index) ranges) ≡ None → touch_in block range ≡ None → last_touch block (drop index ranges) ≡ None
last_none block [] index range below is none found = absurd (omega arith)
last_none block (r ∷ ranges) zero range below is none found =
    ap (λ t. later (touch_in block r) t) none ∙ ap (λ (q : TouchedRange). touch_in block q) (sym is) ∙ found
last_none block (r ∷ ranges) (suc index) range below is none found = last_none block ranges index range (omega arith) is none found

-- what is asked of one range, where no later one has the block
module _ (block : ℕ) (ranges : List TouchedRange) (index : ℕ) (range : TouchedRange) (below : index < length ranges) (is : range ≡ get_or ranges index range) (none : last_touch block (drop (index + 1) ranges) ≡ None) where
  none_later : last_touch block (drop (suc index) ranges) ≡ None
  none_later =
      let next : suc index ≡ index + 1 = omega arith in
      ap (λ (n : ℕ). last_touch block (drop n ranges)) next ∙ none

  pub last_here : (found : Option Touch) → found ≡ touch_in block range → IfSome found (λ touch. last_touch block ranges ≡ Some touch)
  last_here None found = tt
  last_here (Some touch) found = last_found block ranges index range touch below is none_later (sym found)

  pub none_here : (found : Option Touch) → found ≡ touch_in block range → IfNone found (last_touch block (drop index ranges) ≡ None)
  none_here None found = last_none block ranges index range below is none_later (sym found)
  none_here (Some touch) found = tt

-- the fault of a call that a `?` passes on
pub passed_on : {T U : Type 0} (result : Result T JournalFault) (fault found : JournalFault) → IsErrAnd result (λ passed. passed ≡ fault) → IsErrOf result found → IsErrOf {T = U} {E = JournalFault} (Err fault) found
passed_on result fault found same is =
    let passed = err_from_is_err_and result same in
    let alike : fault ≡ found = cc in
    ap (λ f. Err f) alike
