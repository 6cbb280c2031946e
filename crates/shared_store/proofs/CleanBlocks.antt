-- Blocks of an image that are data and not dirty: map and data have them as they are.
use Rattle.std.proofs.Common.{◌≡◌, ℕ, ◌||◌, Bool, false, None, List, [], ◌∷◌, ◌++◌, refl, sym, ◌∙◌}
use Rattle.std.specs.FinMap.{get}
use Rattle.std.specs.List.{list_any}
use Rattle.std.proofs.lemmas.Bool.{or_parts}
use Rattle.device_image.specs.laws.Written.{untouched_unwritten}
use Rattle.image_model.specs.Change.{AreChanges, Change}
use Rattle.image_model.specs.Dirty.{dirty_blocks}
use Rattle.image_model.specs.Image.{Image, apply_all, touches}
use Rattle.image_model.specs.declared.command.Kind.TheVariants.{Data}
use Rattle.image_model.specs.laws.DirtyMaps.{get-dirty_blocks}
use Rattle.order_book.specs.Reading.{IsCleanAt}
use Rattle.request_core.specs.laws.Commands.{byte_stays, data_untouched, kind_stays}

none_both : {A : Type 0} (p : A → Bool) (xs ys : List A) → list_any p (xs ++ ys) ≡ false → (list_any p xs ≡ false) × (list_any p ys ≡ false)
none_both p [] ys none = (refl, none)
none_both p (x ∷ xs) ys none =
    let parts = or_parts (p x) (list_any p (xs ++ ys)) none in
    let rest = none_both p xs ys parts.1 in ((λ i. parts.0 i || rest.0 i), rest.1)

-- Over an image some commands are in map and data, others stand in the areas before the last, and all of these and more come
-- after those whose frames were let go.
module _ (limit number : ℕ) (from : Image) (between front later : List Change) (are : AreChanges limit (between ++ (front ++ later))) where
  abbrev behind : List Change
  behind = between ++ (front ++ later)

  untouched : (block : ℕ) → (apply_all behind from).kind block ≡ Data → get (dirty_blocks number behind) block ≡ None → list_any (touches block) behind ≡ false
  untouched block is_data clean = data_untouched limit number block behind from are (sym (get-dirty_blocks number behind block) ∙ clean) is_data

  pub clean_behind : IsCleanAt (apply_all between from) front (apply_all behind from) (dirty_blocks number behind)
  clean_behind = record {
    kinds = λ block is_data clean.
        let none = untouched block is_data clean in
        let parts = none_both (touches block) between (front ++ later) none in
        kind_stays block between from parts.0 ∙ (sym (kind_stays block behind from none) ∙ is_data);
    unwritten = λ block is_data clean.
        let parts = none_both (touches block) between (front ++ later) (untouched block is_data clean) in
        untouched_unwritten block front (none_both (touches block) front later parts.1).0;
    bytes = λ block is_data clean k inside.
        let none = untouched block is_data clean in
        let parts = none_both (touches block) between (front ++ later) none in
        byte_stays block k between from inside parts.0 ∙ sym (byte_stays block k behind from inside none);
  }
