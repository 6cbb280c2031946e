-- blocks of an image that are data and not dirty: the base has them as they are
use Rattle.std.proofs.Common.{◌≡◌, ℕ, zero, suc, ◌+◌, ◌-◌, ◌*◌, ◌≤◌, ◌||◌, false, None, List, [], ◌∷◌, drop, take, length, sym, ◌∙◌, ap, subst, refl, arith}
use Rattle.std.specs.FinMap.{get}
use Rattle.std.specs.List.{list_any}
use Rattle.std.proofs.lemmas.Bool.{or_parts}
use Rattle.std.proofs.lemmas.List.{drop-drop, take-append-drop, take_all}
use Rattle.device_image.specs.Holds.{joined}
use Rattle.device_image.specs.laws.Written.{untouched_unwritten}
use Rattle.image_model.specs.Change.{AreChanges, Change, IsChange}
use Rattle.image_model.specs.Image.{Image, apply_all, touches}
use Rattle.image_model.specs.declared.command.Kind.TheVariants.{Data}
use Rattle.image_model.specs.laws.DirtyMaps.{get-dirty_blocks}
use Rattle.order_book.specs.Reading.{IsCleanAt}
use Rattle.export_steps.specs.Parts.{fronts_at, part, turned_at}
use Rattle.export_steps.specs.laws.Lives.{first_commands, IsOrdered, joined_at, take_part}
use Rattle.request_core.specs.laws.Commands.{apply_append, all_behind, kind_stays, byte_stays, data_untouched}
use Rattle.export_model.specs.World.{Stage, dirty_behind, image_after}

-- none of some commands, none of a part of them
none_taken : (block n : ℕ) (changes : List Change) → list_any (touches block) changes ≡ false → list_any (touches block) (take n changes) ≡ false
none_taken block zero changes none = refl
none_taken block (suc n) [] none = refl
none_taken block (suc n) (change ∷ changes) none =
    let parts = or_parts (touches block change) (list_any (touches block) changes) none in
    λ i. parts.0 i || none_taken block n changes parts.1 i

none_dropped : (block n : ℕ) (changes : List Change) → list_any (touches block) changes ≡ false → list_any (touches block) (drop n changes) ≡ false
none_dropped block zero changes none = none
none_dropped block (suc n) [] none = refl
none_dropped block (suc n) (change ∷ changes) none = none_dropped block n changes (or_parts (touches block change) (list_any (touches block) changes) none).1

module _ (stage : Stage) (is : IsOrdered stage) (cleaned : stage.cleaned ≤ stage.base) (takes : AreChanges stage.setting.geometry.blocks stage.order) where
  abbrev behind : List Change
  behind = drop stage.cleaned stage.order

  abbrev front : Image
  front = image_after stage.order stage.cleaned stage.setting.image

  changes_behind : AreChanges stage.setting.geometry.blocks behind
  changes_behind = all_behind (IsChange stage.setting.geometry.blocks) (take stage.cleaned stage.order) behind
      (subst (AreChanges stage.setting.geometry.blocks) (sym (take-append-drop stage.cleaned stage.order)) takes)

  all_image : image_after stage.order (length stage.order) stage.setting.image ≡ apply_all behind front
  all_image =
      ap (λ (l : List Change). apply_all l stage.setting.image) (take_all (length stage.order) stage.order (omega arith) ∙ sym (take-append-drop stage.cleaned stage.order))
      ∙ apply_append (take stage.cleaned stage.order) behind stage.setting.image

  base_image : image_after stage.order stage.base stage.setting.image ≡ apply_all (part stage.order stage.cleaned stage.base) front
  base_image =
      ap (λ (l : List Change). apply_all l stage.setting.image) (take_part stage.order stage.cleaned stage.base cleaned)
      ∙ apply_append (take stage.cleaned stage.order) (part stage.order stage.cleaned stage.base) stage.setting.image

  -- no command after those whose frames were let go touches such a block
  untouched : (block : ℕ) → (image_after stage.order (length stage.order) stage.setting.image).kind block ≡ Data → get (dirty_behind stage.cleaned stage) block ≡ None
      → list_any (touches block) behind ≡ false
  untouched block is_data clean = data_untouched stage.setting.geometry.blocks (stage.setting.opening + stage.cleaned) block behind front changes_behind
      (sym (get-dirty_blocks (stage.setting.opening + stage.cleaned) behind block) ∙ clean)
      (sym (ap (λ (i : Image). i.kind block) all_image) ∙ is_data)

  pub clean_at : IsCleanAt (image_after stage.order stage.base stage.setting.image) (joined (fronts_at stage)) (image_after stage.order (length stage.order) stage.setting.image) (dirty_behind stage.cleaned stage)
  clean_at = subst (λ (l : List Change). IsCleanAt (image_after stage.order stage.base stage.setting.image) l (image_after stage.order (length stage.order) stage.setting.image) (dirty_behind stage.cleaned stage))
      (sym (joined_at stage is)) clean_first
    where
      clean_first : IsCleanAt (image_after stage.order stage.base stage.setting.image) (first_commands stage) (image_after stage.order (length stage.order) stage.setting.image) (dirty_behind stage.cleaned stage)
      clean_first = record {
        kinds = λ block is_data clean.
            let none = untouched block is_data clean in
            ap (λ (i : Image). i.kind block) base_image
            ∙ kind_stays block (part stage.order stage.cleaned stage.base) front (none_taken block (stage.base - stage.cleaned) behind none)
            ∙ sym (kind_stays block behind front none)
            ∙ sym (ap (λ (i : Image). i.kind block) all_image) ∙ is_data;
        unwritten = λ block is_data clean.
            let none = untouched block is_data clean in
            let from : stage.cleaned + (stage.base - stage.cleaned) ≡ stage.base = omega (arith, cleaned) in
            let further = none_dropped block (stage.base - stage.cleaned) behind none in
            untouched_unwritten block (first_commands stage) (none_taken block (turned_at stage - stage.base) (drop stage.base stage.order)
            (subst (λ (l : List Change). list_any (touches block) l ≡ false) (drop-drop (stage.base - stage.cleaned) stage.cleaned stage.order ∙ ap (λ (n : ℕ). drop n stage.order) from) further));
        bytes = λ block is_data clean k inside.
            let none = untouched block is_data clean in
            ap (λ (i : Image). i.byte (4096 * block + k)) base_image
            ∙ byte_stays block k (part stage.order stage.cleaned stage.base) front inside (none_taken block (stage.base - stage.cleaned) behind none)
            ∙ sym (byte_stays block k behind front inside none)
            ∙ sym (ap (λ (i : Image). i.byte (4096 * block + k)) all_image);
      }
