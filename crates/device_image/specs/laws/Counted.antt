-- What a keeper remembers of the commands in its last area, and how many blocks they leave to copy.
use Rattle.std.proofs.Common.{◌≡◌, ℕ, ◌+◌, ◌≤◌, ⊎_elim, true, false, if◌then◌else◌, List, [], ◌++◌, sym, ◌∙◌, ap, subst, refl}
use Rattle.std.proofs.lemmas.Bool.{cases_lt}
use Rattle.std.specs.Option.{is_some}
use Rattle.std.specs.FinMap.{get, len}
use Rattle.image_model.specs.Change.{Change, AreChanges}
use Rattle.image_model.specs.Dirty.{dirty_blocks}
use Rattle.image_model.specs.declared.geometry.Geometry.{Geometry}
use Rattle.image_model.specs.laws.DirtyCounts.{dirty_len_counted}
use Rattle.image_model.specs.laws.DirtyMaps.{get-dirty_blocks}
use Rattle.journal_format.specs.Touches.{last_touch, touched_by_changes}
use Rattle.journal_format.specs.declared.touch.TouchedRange.{TouchedRange}
use Rattle.device_image.specs.Keeper.{KeeperState, count_puts, is_put}
use Rattle.device_image.specs.Remembers.{Remembers, TellOf}
use Rattle.device_image.specs.laws.Puts.{count_suc, count_zero}
use Rattle.device_image.specs.laws.Written.{append_touched, changes_touched, last_write_is, never_written, past_image, takes_append, tell_of, touched_as, untouched_unwritten}

no : true ≡ false → ⊥
no is = cc

-- no command yet
pub remembers_none : {D : Type 0} (keeper : KeeperState D) → keeper.memory.area.touched ≡ [] → Remembers keeper []
remembers_none keeper none = record {
  takes = tt;
  noted = λ block. subst (λ (ranges : List TouchedRange). TellOf block ranges []) (sym none) (record { any = refl; put = refl });
}

-- the same commands
pub remembers_still : {D : Type 0} (keeper now : KeeperState D) (commands : List Change) → now.geometry ≡ keeper.geometry → now.memory.area.touched ≡ keeper.memory.area.touched → Remembers keeper commands → Remembers now commands
remembers_still keeper now commands geometry touched remembers = record {
  takes = subst (λ (size : Geometry). AreChanges size.blocks commands) (sym geometry) remembers.takes;
  noted = λ block. subst (λ (ranges : List TouchedRange). TellOf block ranges commands) (sym touched) (remembers.noted block);
}

-- more of them
pub remembers_more : {D : Type 0} (keeper now : KeeperState D) (commands more : List Change) (place : ℕ) → now.geometry ≡ keeper.geometry
    → now.memory.area.touched ≡ keeper.memory.area.touched ++ touched_by_changes place more → AreChanges keeper.geometry.blocks more → Remembers keeper commands → Remembers now (commands ++ more)
remembers_more keeper now commands more place geometry touched takes remembers = record {
  takes = subst (λ (size : Geometry). AreChanges size.blocks (commands ++ more)) (sym geometry) (takes_append keeper.geometry.blocks commands more remembers.takes takes);
  noted = λ block. subst (λ (ranges : List TouchedRange). TellOf block ranges (commands ++ more)) (sym touched)
      (tell_of block _ (commands ++ more)
      (append_touched block keeper.memory.area.touched (touched_by_changes place more) commands more (touched_as block keeper.memory.area.touched commands (remembers.noted block))
      (changes_touched keeper.geometry.blocks block place more takes)));
}

-- the blocks to copy are those that the commands leave dirty
pub left_dirty : {D : Type 0} (keeper : KeeperState D) (commands : List Change) → Remembers keeper commands → count_puts keeper.geometry.blocks keeper.memory.area.touched ≡ len (dirty_blocks 0 commands)
left_dirty keeper commands remembers =
    let touched = keeper.memory.area.touched in
    let blocks = keeper.geometry.blocks in
    let dirty = dirty_blocks 0 commands in
    let same : (block : ℕ) → is_put (last_touch block touched) ≡ is_some (get dirty block) = λ block. (remembers.noted block).put ∙ ap is_some (sym (get-dirty_blocks 0 commands block)) in
    let past : (block : ℕ) → blocks ≤ block → is_some (get dirty block) ≡ false = λ block above.
    let unwritten = untouched_unwritten block commands (past_image blocks block commands remembers.takes above) in
    ap is_some (get-dirty_blocks 0 commands block) ∙ last_write_is block 0 commands ∙ never_written block commands unwritten in
    sym (dirty_len_counted blocks dirty (λ (q : ℕ). count_puts q touched) (count_zero touched)
    (λ q below. count_suc q touched ∙ ap (λ b. count_puts q touched + (if b then 1 else 0)) (same q))
    (λ q is. ⊎_elim (λ below. below) (λ above. absurd (no (sym is ∙ past q above))) (cases_lt q blocks)))
