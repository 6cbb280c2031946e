-- What the last touch of a block by a list can be: one of a block of the image, and a put's bytes stand in the list.
use Rattle.std.proofs.Common.{◌≡◌, ℕ, ◌+◌, ◌-◌, ◌*◌, ◌/◌, ◌≤◌, ◌<◌, Bool, true, false, if◌then◌else◌, Option, Some, None, List, [], ◌∷◌, length, sym, refl, ap, subst, arith, length-append}
use Rattle.std.specs.List.{flat_map}
use Rattle.std.specs.Option.{is_some}
use Rattle.std.proofs.lemmas.Bool.{both_ways}
use Rattle.std.proofs.lemmas.Bool.Decides.{nat_tests}
use Rattle.std.proofs.lemmas.List.Sums.{sum_by-cons}
use Rattle.image_model.specs.declared.command.Kind.{Kind}
use Rattle.image_model.specs.Change.{Change, Written, Cleared, Edged, IsChange, IsCleared, AreChanges}
use Rattle.image_model.specs.Image.{data_of, kind_given, slot, touches, writes}
use Rattle.journal_format.specs.declared.touch.Touch.{Touch}
use Rattle.journal_format.specs.declared.touch.Touch.TheVariants.{Put, Clear}
use Rattle.journal_format.specs.GroupList.{Stand, number_behind, size_of, sizes_of}
use Rattle.journal_format.specs.Spelling.{StoredGroup, change_bytes, change_head, clear_byte, edged_byte, edges_byte}
use Rattle.journal_format.specs.Touches.{last_touch, later, touched_by, touched_by_changes, touched_by_groups}
use Rattle.journal_format.specs.laws.LastTouches.{data_place, last_touch-append, slot_inside, touch_of, touches_told}
use Rattle.journal_format.specs.laws.Spelled.{length-change_head}

abbrev pub IsSoundTouch : ℕ → ℕ → ℕ → ℕ → Option Touch → Type 0
IsSoundTouch limit from end block None = Unit {0}
IsSoundTouch limit from end block (Some (Put place)) = (block < limit) × (from ≤ place) × (place + 4096 ≤ end)
IsSoundTouch limit from end block (Some (Clear kind)) = (block < limit) × IsCleared kind

module _ (limit from end block : ℕ) where
  later_sound : (a b : Option Touch) → IsSoundTouch limit from end block a → IsSoundTouch limit from end block b → IsSoundTouch limit from end block (later a b)
  later_sound a None first second = first
  later_sound a (Some touch) first second = second

  told_sound : (test : Bool) (place : ℕ) (at : Option ℕ) (kind : Kind) → (test ≡ true → block < limit) → ((found : ℕ) → at ≡ Some found → (from ≤ place + found) × (place + found + 4096 ≤ end))
      → (test ≡ true → at ≡ None → IsCleared kind) → IsSoundTouch limit from end block (if test then Some (touch_of place at kind) else None)
  told_sound true place None kind inside stored cleared = (inside refl, cleared refl refl)
  told_sound true place (Some at) kind inside stored cleared = (inside refl, (stored at refl).0, (stored at refl).1)
  told_sound false place at kind inside stored cleared = tt

  -- a change touches blocks of the image alone, and clears to no data
  touched_inside : (change : Change) → IsChange limit change → touches block change ≡ true → block < limit
  touched_inside (Written first bytes) is covered =
      let below : block < first + (length bytes + 4095) / 4096 = grind (arith, nat_tests, covered) in
      omega (arith, is.1, is.4, below)
  touched_inside (Cleared first blocks kind) is covered =
      let below : block < first + blocks = grind (arith, nat_tests, covered) in
      omega (arith, is.1, below)
  touched_inside (Edged first blocks kind edges bytes) is covered =
      let below : block < first + blocks = grind (arith, nat_tests, covered) in
      omega (arith, is.1, below)

  touched_cleared : (change : Change) → IsChange limit change → touches block change ≡ true → slot block change ≡ None → IsCleared (kind_given change)
  touched_cleared (Written first bytes) is covered none = absurd (both_ways (writes block (Written first bytes)) (ap is_some none) (ap (λ (test : Bool). is_some {T = ℕ} (if test then Some (4096 * (block - first)) else None)) covered))
  touched_cleared (Cleared first blocks kind) is covered none = is.3
  touched_cleared (Edged first blocks kind edges bytes) is covered none = is.3

  -- the data of a change end where it does
  data_end : (place : ℕ) (change : Change) → data_place place change + length (data_of change) ≡ place + length (change_bytes change)
  unfolding change_bytes
  data_end place (Written first bytes) =
      omega (arith, length-append (change_head 1 first (length bytes / 4096)) bytes, length-change_head 1 first (length bytes / 4096))
  data_end place (Cleared first blocks kind) = omega (arith, length-change_head (clear_byte kind) first blocks)
  data_end place (Edged first blocks kind edges bytes) =
      omega (arith, length-append (change_head (edged_byte kind) first blocks) (edges_byte edges ∷ bytes), length-change_head (edged_byte kind) first blocks)

  data_low : (place : ℕ) (change : Change) → place ≤ data_place place change
  data_low place (Written first bytes) = omega arith
  data_low place (Cleared first blocks kind) = omega arith
  data_low place (Edged first blocks kind edges bytes) = omega arith

  change_sound : (place : ℕ) (change : Change) → IsChange limit change → from ≤ place → place + length (change_bytes change) ≤ end → IsSoundTouch limit from end block (last_touch block (touched_by place change))
  change_sound place change is low high = subst (IsSoundTouch limit from end block) (sym (touches_told limit block place change is))
      (told_sound (touches block change) (data_place place change) (slot block change) (kind_given change)
      (touched_inside change is)
      (λ found at.
      let inside = slot_inside limit block change found is at in
      let ends = data_end place change in
      let begins = data_low place change in
      (omega (arith, low, begins), omega (arith, ends, inside, high)))
      (touched_cleared change is))

  changes_sound : (place : ℕ) (changes : List Change) → AreChanges limit changes → from ≤ place → place + length (flat_map change_bytes changes) ≤ end → IsSoundTouch limit from end block (last_touch block (touched_by_changes place changes))
  changes_sound place [] are low high = tt
  changes_sound place (change ∷ changes) are low high =
      let long = length-append (change_bytes change) (flat_map change_bytes changes) in
      subst (IsSoundTouch limit from end block) (sym (last_touch-append block (touched_by place change) (touched_by_changes (place + length (change_bytes change)) changes)))
      (later_sound (last_touch block (touched_by place change)) (last_touch block (touched_by_changes (place + length (change_bytes change)) changes))
      (change_sound place change are.0 low (omega (arith, long, high)))
      (changes_sound (place + length (change_bytes change)) changes are.1 (omega (arith, low)) (omega (arith, long, high))))

  pub groups_sound : (content : List ℕ) (place next : ℕ) (groups : List StoredGroup) → Stand limit content place next groups → from ≤ place → place + sizes_of groups ≤ end
      → IsSoundTouch limit from end block (last_touch block (touched_by_groups place groups))
  groups_sound content place next [] stand low high = tt
  groups_sound content place next (group ∷ groups) stand low high =
      let sum : sizes_of (group ∷ groups) ≡ size_of group + sizes_of groups = sum_by-cons size_of group groups in
      subst (IsSoundTouch limit from end block) (sym (last_touch-append block (touched_by_changes (place + 17) group.changes) (touched_by_groups (place + size_of group) groups)))
      (later_sound (last_touch block (touched_by_changes (place + 17) group.changes)) (last_touch block (touched_by_groups (place + size_of group) groups))
      (changes_sound (place + 17) group.changes stand.2.changes (omega (arith, low)) (omega (arith, high, sum)))
      (groups_sound content (place + size_of group) (number_behind group) groups stand.3 (omega (arith, low)) (omega (arith, high, sum))))
