-- what holds of commands one after another, and of blocks that none of them touches
use Rattle.std.proofs.Common.{◌≡◌, ◌⊎◌, ℕ, Option, ◌+◌, ◌-◌, ◌*◌, ◌<◌, ◌||◌, inl, inr, Bool, true, false, if◌then◌else◌, Some, None, List, [], ◌∷◌, ◌++◌, length, map, sym, ◌∙◌, ap, refl}
use Rattle.std.proofs.lemmas.List.{length-map}
use Rattle.std.specs.List.{AllByRecursion, list_any}
use Rattle.std.specs.Option.{is_some}
use Rattle.std.proofs.lemmas.Bool.{both_ways, cases_Bool, or_parts}
use Rattle.image_model.specs.Change.{AreChanges, Change, Cleared, Edged, IsChange, IsCleared, Written, change_of}
use Rattle.image_model.specs.Dirty.{last_write}
use Rattle.image_model.specs.Image.{Image, apply, apply_all, kind_given, kind_in, slot, touches, writes}
use Rattle.image_model.specs.declared.command.Kind.{Kind}
use Rattle.image_model.specs.declared.command.Kind.TheVariants.{Data, Zero, Hole}
use Rattle.image_model.specs.laws.Slots.{byte-apply, untouched_byte}
use Rattle.journal_format.specs.Group.{Numbered}

-- commands one after another
pub apply_append : (xs ys : List Change) (image : Image) → apply_all (xs ++ ys) image ≡ apply_all ys (apply_all xs image)
apply_append [] ys image = refl
apply_append (x ∷ xs) ys image = apply_append xs ys (apply x image)

-- what holds of each holds of those after and of those before
pub all_behind : {X : Type 0} (P : X → Type 0) (xs ys : List X) → AllByRecursion P (xs ++ ys) → AllByRecursion P ys
all_behind P [] ys all = all
all_behind P (x ∷ xs) ys all = all_behind P xs ys all.1

pub all_front : {X : Type 0} (P : X → Type 0) (xs ys : List X) → AllByRecursion P (xs ++ ys) → AllByRecursion P xs
all_front P [] ys all = tt
all_front P (x ∷ xs) ys all = (all.0, all_front P xs ys all.1)

pub all_both : {X : Type 0} (P : X → Type 0) (xs ys : List X) → AllByRecursion P xs → AllByRecursion P ys → AllByRecursion P (xs ++ ys)
all_both P [] ys one two = two
all_both P (x ∷ xs) ys one two = (one.0, all_both P xs ys one.1 two)

-- the number of commands in a group
pub commands_length : (group : Numbered) → length (map change_of group.commands) ≡ length group.commands
commands_length group = length-map group.commands change_of

-- a block that no command touches keeps its state
pub kind_stays : (block : ℕ) (changes : List Change) (image : Image) → list_any (touches block) changes ≡ false → (apply_all changes image).kind block ≡ image.kind block
kind_stays block [] image none = refl
kind_stays block (change ∷ changes) image none =
    let parts = or_parts (touches block change) (list_any (touches block) changes) none in
    kind_stays block changes (apply change image) parts.1
    ∙ ap (λ (b : Bool). if b then kind_in (slot block change) (kind_given change) else image.kind block) parts.0

-- and its bytes
pub byte_stays : (block k : ℕ) (changes : List Change) (image : Image) → k < 4096 → list_any (touches block) changes ≡ false
    → (apply_all changes image).byte (4096 * block + k) ≡ image.byte (4096 * block + k)
byte_stays block k [] image inside none = refl
byte_stays block k (change ∷ changes) image inside none =
    let parts = or_parts (touches block change) (list_any (touches block) changes) none in
    byte_stays block k changes (apply change image) inside parts.1
    ∙ byte-apply change image block k inside ∙ untouched_byte change block k (image.byte (4096 * block + k)) parts.0

-- a block that a command touches and doesn't write is data no more
not_data : (kind : Kind) → IsCleared kind → kind ≡ Data → ⊥
not_data Data cleared is = absurd cleared
not_data Zero cleared is = cc
not_data Hole cleared is = cc

unwritten : (at : Option ℕ) (kind : Kind) → is_some at ≡ false → kind_in at kind ≡ kind
unwritten None kind is = refl
unwritten (Some place) kind is = cc

not_cleared : (limit block : ℕ) (change : Change) (image : Image) → IsChange limit change → touches block change ≡ true → writes block change ≡ false
    → (apply change image).kind block ≡ Data → ⊥
not_cleared limit block change image is touched write is_data = by_change change is touched write
    (sym (unwritten (slot block change) (kind_given change) write)
    ∙ sym (ap (λ (b : Bool). if b then kind_in (slot block change) (kind_given change) else image.kind block) touched) ∙ is_data)
  where
    by_change : (change : Change) → IsChange limit change → touches block change ≡ true → writes block change ≡ false → kind_given change ≡ Data → ⊥
    by_change (Written first bytes) is touched write given = both_ways true (sym (ap (λ (b : Bool). is_some (if b then Some (4096 * (block - first)) else None)) touched) ∙ write) refl
    by_change (Cleared first blocks kind) is touched write given = not_data kind is.3 given
    by_change (Edged first blocks kind edges bytes) is touched write given = not_data kind is.3 given

-- a block that is data, and that none wrote last, is touched by none
pub data_untouched : (limit last block : ℕ) (changes : List Change) (image : Image) → AreChanges limit changes → last_write block last changes ≡ None → (apply_all changes image).kind block ≡ Data
    → list_any (touches block) changes ≡ false
data_untouched limit last block [] image are none is_data = refl
data_untouched limit last block (change ∷ later) image are none is_data = by_later (cases_Bool (list_any (touches block) later))
    (λ unwritten. data_untouched limit (last + 1) block later (apply change image) are.1 unwritten is_data)
  where
    first_none : (b : Bool) → (if b then Some (last + 1) else None) ≡ None → b ≡ false
    first_none true is = cc
    first_none false is = refl

    by_later : (list_any (touches block) later ≡ true) ⊎ (list_any (touches block) later ≡ false) → (last_write block (last + 1) later ≡ None → list_any (touches block) later ≡ false) → list_any (touches block) (change ∷ later) ≡ false
    by_later (inl touched) further =
        let rest = further
        (sym (ap (λ (b : Bool). if b then last_write block (last + 1) later else (if writes block change then Some (last + 1) else None)) touched) ∙ none) in
        absurd (both_ways (list_any (touches block) later) rest touched)
    by_later (inr untouched) further =
        let own = first_none (writes block change)
        (sym (ap (λ (b : Bool). if b then last_write block (last + 1) later else (if writes block change then Some (last + 1) else None)) untouched) ∙ none) in
        let kind = sym (kind_stays block later (apply change image) untouched) ∙ is_data in
        by_touch (cases_Bool (touches block change)) own kind
      where
        by_touch : (touches block change ≡ true) ⊎ (touches block change ≡ false) → writes block change ≡ false → (apply change image).kind block ≡ Data
            → (touches block change || list_any (touches block) later) ≡ false
        by_touch (inl touched) own kind = absurd (not_cleared limit block change image are.0 touched own kind)
        by_touch (inr apart) own kind = ap (λ (b : Bool). b || list_any (touches block) later) apart ∙ untouched
