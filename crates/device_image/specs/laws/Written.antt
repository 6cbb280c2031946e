-- The last touches of blocks and the commands that made them.
use Rattle.std.proofs.Common.{◌≤◌, ◌≡◌, ℕ, ◌+◌, ◌/◌, Bool, true, false, ◌&&◌, ◌||◌, if◌then◌else◌, Option, Some, None, List, [], ◌∷◌, ◌++◌, length, refl, sym, ◌∙◌, ap, arith}
use Rattle.std.specs.Option.{is_some}
use Rattle.std.specs.List.{list_any}
use Rattle.image_model.specs.Change.{Change, Written, Cleared, Edged, IsChange, AreChanges}
use Rattle.image_model.specs.Dirty.{last_write}
use Rattle.image_model.specs.Image.{kind_given, slot, touches, writes}
use Rattle.image_model.specs.laws.Slots.{touched_and_written}
use Rattle.journal_format.specs.GroupList.{Stand, changes_of, number_behind, size_of}
use Rattle.journal_format.specs.Spelling.{StoredGroup, change_bytes}
use Rattle.journal_format.specs.Touches.{last_touch, later, touched_by, touched_by_changes, touched_by_groups}
use Rattle.journal_format.specs.laws.LastTouches.{data_place, last_touch-append, touch_of, touches_told}
use Rattle.image_model.specs.declared.command.Kind.{Kind}
use Rattle.journal_format.specs.declared.touch.Touch.{Touch}
use Rattle.journal_format.specs.declared.touch.TouchedRange.{TouchedRange}
use Rattle.device_image.specs.Holds.{is_written}
use Rattle.device_image.specs.Keeper.{is_put}
use Rattle.device_image.specs.Remembers.{TellOf}
use Rattle.std.proofs.lemmas.Bool.Decides.{nat_tests}

-- whether the last of the commands that touches the block writes it
abbrev pub ends_written : ℕ → List Change → Bool
ends_written block [] = false
ends_written block (change ∷ changes) = if list_any (touches block) changes then ends_written block changes else writes block change

if_some : (any : Bool) (last : Option ℕ) (this ends : Bool) (number : ℕ) → is_some last ≡ ends
    → is_some (if any then last else (if this then Some number else None)) ≡ (if any then ends else this)
if_some true last this ends number same = same
if_some false last true ends number same = refl
if_some false last false ends number same = refl

pub last_write_is : (block last : ℕ) (changes : List Change) → is_some (last_write block last changes) ≡ ends_written block changes
last_write_is block last [] = refl
last_write_is block last (change ∷ changes) =
    if_some (list_any (touches block) changes) (last_write block (last + 1) changes) (writes block change) (ends_written block changes) (last + 1)
    (last_write_is block (last + 1) changes)

-- What touched a block, and whether that was a write, is the same of ranges and of commands.
pub record AreTouchedBy (block : ℕ) (ranges : List TouchedRange) (changes : List Change) : Type 0 where
  pub any : is_some (last_touch block ranges) ≡ list_any (touches block) changes
  pub put : is_put (last_touch block ranges) ≡ ends_written block changes

some_later : (a b : Option Touch) → is_some (later a b) ≡ (is_some a || is_some b)
some_later None None = refl
some_later None (Some y) = refl
some_later (Some x) None = refl
some_later (Some x) (Some y) = refl

put_later : (a b : Option Touch) → is_put (later a b) ≡ (if is_some b then is_put b else is_put a)
put_later a None = refl
put_later a (Some y) = refl

any_append : (block : ℕ) (xs ys : List Change) → list_any (touches block) (xs ++ ys) ≡ (list_any (touches block) xs || list_any (touches block) ys)
any_append block [] ys = refl
any_append block (x ∷ xs) ys = ap (λ b. touches block x || b) (any_append block xs ys) ∙ or_or (touches block x) _ _
  where
    or_or : (a b c : Bool) → (a || (b || c)) ≡ ((a || b) || c)
    or_or true b c = refl
    or_or false b c = refl

ends_append : (block : ℕ) (xs ys : List Change) → ends_written block (xs ++ ys) ≡ (if list_any (touches block) ys then ends_written block ys else ends_written block xs)
ends_append block [] ys = none block ys
  where
    none : (block : ℕ) (ys : List Change) → ends_written block ys ≡ (if list_any (touches block) ys then ends_written block ys else false)
    none block [] = refl
    none block (y ∷ ys) =
        ap (λ (put : Bool). if list_any (touches block) ys then ends_written block ys else put) (sym (touched_and_written block y))
        ∙ both (list_any (touches block) ys) (touches block y) (writes block y) (ends_written block ys)
        ∙ ap (λ (put : Bool). if touches block y || list_any (touches block) ys then (if list_any (touches block) ys then ends_written block ys else put) else false) (touched_and_written block y)
      where
        both : (any touched write ends : Bool) → (if any then ends else (touched && write)) ≡ (if (touched || any) then (if any then ends else (touched && write)) else false)
        both true true write ends = refl
        both true false write ends = refl
        both false true write ends = refl
        both false false write ends = refl
ends_append block (x ∷ xs) ys =
    ap (λ b. if b then ends_written block (xs ++ ys) else (writes block x)) (any_append block xs ys)
    ∙ ap (λ b. if (list_any (touches block) xs || list_any (touches block) ys) then b else (writes block x)) (ends_append block xs ys)
    ∙ three (list_any (touches block) xs) (list_any (touches block) ys) (ends_written block xs) (ends_written block ys) (writes block x)
  where
    three : (first second one two this : Bool) → (if (first || second) then (if second then two else one) else this) ≡ (if second then two else (if first then one else this))
    three true true one two this = refl
    three true false one two this = refl
    three false true one two this = refl
    three false false one two this = refl

pub append_touched : (block : ℕ) (ranges more : List TouchedRange) (changes others : List Change) → AreTouchedBy block ranges changes → AreTouchedBy block more others → AreTouchedBy block (ranges ++ more) (changes ++ others)
append_touched block ranges more changes others first second = record {
  any = ap is_some (last_touch-append block ranges more)
      ∙ some_later (last_touch block ranges) (last_touch block more)
      ∙ ap (λ b. b || is_some (last_touch block more)) first.any
      ∙ ap (λ b. list_any (touches block) changes || b) second.any
      ∙ sym (any_append block changes others);
  put = ap is_put (last_touch-append block ranges more)
      ∙ put_later (last_touch block ranges) (last_touch block more)
      ∙ ap (λ b. if b then is_put (last_touch block more) else is_put (last_touch block ranges)) second.any
      ∙ ap (λ b. if list_any (touches block) others then b else is_put (last_touch block ranges)) second.put
      ∙ ap (λ b. if list_any (touches block) others then ends_written block others else b) first.put
      ∙ sym (ends_append block changes others);
}

told_some : (test : Bool) (touch : Touch) → is_some (if test then Some touch else None) ≡ (test || false)
told_some true touch = refl
told_some false touch = refl

told_put : (test : Bool) (place : ℕ) (at : Option ℕ) (kind : Kind) → is_put (if test then Some (touch_of place at kind) else None) ≡ (test && is_some at)
told_put true place None kind = refl
told_put true place (Some at) kind = refl
told_put false place at kind = refl

change_touched : (limit block place : ℕ) (change : Change) → IsChange limit change → AreTouchedBy block (touched_by place change) (change ∷ [])
change_touched limit block place change is = record {
  any = ap is_some (touches_told limit block place change is)
      ∙ told_some (touches block change) (touch_of (data_place place change) (slot block change) (kind_given change));
  put = ap is_put (touches_told limit block place change is)
      ∙ told_put (touches block change) (data_place place change) (slot block change) (kind_given change)
      ∙ touched_and_written block change;
}

pub changes_touched : (limit block place : ℕ) (changes : List Change) → AreChanges limit changes → AreTouchedBy block (touched_by_changes place changes) changes
changes_touched limit block place [] are = record { any = refl; put = refl }
changes_touched limit block place (change ∷ changes) are =
    append_touched block (touched_by place change) (touched_by_changes (place + length (change_bytes change)) changes) (change ∷ []) changes
    (change_touched limit block place change are.0) (changes_touched limit block (place + length (change_bytes change)) changes are.1)

pub groups_touched : (limit block : ℕ) (content : List ℕ) (place next : ℕ) (groups : List StoredGroup) → Stand limit content place next groups → AreTouchedBy block (touched_by_groups place groups) (changes_of groups)
groups_touched limit block content place next [] stand = record { any = refl; put = refl }
groups_touched limit block content place next (group ∷ groups) stand =
    append_touched block (touched_by_changes (place + 17) group.changes) (touched_by_groups (place + size_of group) groups) group.changes (changes_of groups)
    (changes_touched limit block (place + 17) group.changes stand.2.changes) (groups_touched limit block content (place + size_of group) (number_behind group) groups stand.3)

-- a block that no command writes was last touched by none that does
if_none : (any this ends more : Bool) → (this || more) ≡ false → (more ≡ false → ends ≡ false) → (if any then ends else this) ≡ false
if_none true true ends more none rest = cc
if_none true false ends more none rest = rest none
if_none false true ends more none rest = none
if_none false false ends more none rest = refl

pub never_written : (block : ℕ) (changes : List Change) → is_written block changes ≡ false → ends_written block changes ≡ false
never_written block [] none = refl
never_written block (change ∷ changes) none =
    if_none (list_any (touches block) changes) (writes block change) (ends_written block changes) (is_written block changes) none (never_written block changes)

-- a block that no command touches is written by none
both_none : (touched write more any : Bool) → (touched || any) ≡ false → (any ≡ false → more ≡ false) → ((touched && write) || more) ≡ false
both_none true write more any none rest = cc
both_none false write more any none rest = rest none

pub untouched_unwritten : (block : ℕ) (changes : List Change) → list_any (touches block) changes ≡ false → is_written block changes ≡ false
untouched_unwritten block [] none = refl
untouched_unwritten block (change ∷ changes) none =
    ap (λ (put : Bool). put || is_written block changes) (sym (touched_and_written block change))
    ∙ both_none (touches block change) (writes block change) (is_written block changes) (list_any (touches block) changes) none (untouched_unwritten block changes)

pub written_append : (block : ℕ) (xs ys : List Change) → is_written block (xs ++ ys) ≡ (is_written block xs || is_written block ys)
written_append block [] ys = refl
written_append block (x ∷ xs) ys = ap (λ b. (writes block x) || b) (written_append block xs ys) ∙ or_or (writes block x) _ _
  where
    or_or : (a b c : Bool) → (a || (b || c)) ≡ ((a || b) || c)
    or_or true b c = refl
    or_or false b c = refl

-- the same in the words of a keeper's contract
pub tell_of : (block : ℕ) (ranges : List TouchedRange) (changes : List Change) → AreTouchedBy block ranges changes → TellOf block ranges changes
tell_of block ranges changes are = record { any = are.any; put = are.put ∙ sym (last_write_is block 0 changes) }

pub touched_as : (block : ℕ) (ranges : List TouchedRange) (changes : List Change) → TellOf block ranges changes → AreTouchedBy block ranges changes
touched_as block ranges changes tell = record { any = tell.any; put = tell.put ∙ last_write_is block 0 changes }

-- a block past the image is touched by no command that the image takes
past_change : (limit block : ℕ) (change : Change) → IsChange limit change → limit ≤ block → touches block change ≡ false
past_change limit block (Written first bytes) is above =
    let end : first + (length bytes + 4095) / 4096 ≤ block = omega (arith, is.1, is.4, above) in
    grind (arith, nat_tests, end)
past_change limit block (Cleared first blocks kind) is above =
    let end : first + blocks ≤ block = omega (arith, is.1, above) in
    grind (arith, nat_tests, end)
past_change limit block (Edged first blocks kind edges bytes) is above =
    let end : first + blocks ≤ block = omega (arith, is.1, above) in
    grind (arith, nat_tests, end)

pub past_image : (limit block : ℕ) (changes : List Change) → AreChanges limit changes → limit ≤ block → list_any (touches block) changes ≡ false
past_image limit block [] are above = refl
past_image limit block (change ∷ changes) are above = (λ i. past_change limit block change are.0 above i || past_image limit block changes are.1 above i)

pub takes_append : (limit : ℕ) (changes more : List Change) → AreChanges limit changes → AreChanges limit more → AreChanges limit (changes ++ more)
takes_append limit [] more are also = also
takes_append limit (change ∷ changes) more are also = (are.0, takes_append limit changes more are.1 also)
