-- What a step of a simulated device does to its state.
use Rattle.std.proofs.Common.{◌≡◌, ◌⊎◌, ◌↔◌, inl, inr, ⊎_elim, ℕ, ◌+◌, ◌≤◌, ◌<◌, List, [], ◌∷◌, ◌++◌, length, get_or, reverse, refl, sym, ◌∙◌, ap, subst, arith, rules}
use Rattle.std.proofs.lemmas.List.{places}
use Rattle.disk_model.specs.declared.history.Entry.{Entry}
use Rattle.disk_model.specs.declared.history.Entry.TheVariants.{Written, Synced}
use Rattle.disk_model.specs.Disk.{InRange, MayLeave, MayLeaveTorn, IsWritten, IsWriteFailed, LeavesOnly}
use Rattle.disk_model.specs.History.{patched, content_before, unsynced_by, synced_content, DiffersAt, left_by, state_of}
use Rattle.disk_model.specs.inner.History.{IsPut}
use Rattle.disk_model.specs.HistoryLaws.{left_only_now}
use Rattle.disk_model.proofs.OneEntryMore.{reverse-push}
use Rattle.disk_model.proofs.BytesReplaced.{patched_within, patched_others, patched_back, length-patched}

-- no step
pub stays : (history : List Entry) (content : List ℕ) (P : List ℕ → Type 0) → ((left : List ℕ) → DiffersAt (unsynced_by history) content left → P left) → LeavesOnly (state_of history content) (state_of history content) P
stays history content P here = record {
  later = omega arith;
  each = λ left since. here left (left_only_now history content left since);
  adds = λ moment left earlier since. inl since;
  keeps = λ moment left earlier since. since;
}

-- one entry more, before which stood what stood before
pub grows : (history : List Entry) (content : List ℕ) (entry : Entry) (next : List ℕ) (P : List ℕ → Type 0) → content_before entry next ≡ content
    → ((left : List ℕ) → DiffersAt (unsynced_by history) content left → P left) → ((left : List ℕ) → DiffersAt (unsynced_by (entry ∷ history)) next left → P left)
    → LeavesOnly (state_of history content) (state_of (entry ∷ history) next) P
grows history content entry next P back before now = record {
  later = omega arith;
  each = λ left since. ⊎_elim (λ here. now left here) (λ earlier. before left (left_only_now history content left (was (length history) left earlier.1))) since;
  adds = λ moment left le since. ⊎_elim (λ here. inr (now left here)) (λ earlier. inl (was moment left earlier.1)) since;
  keeps = λ moment left le since. inr (le, subst (λ (c : List ℕ). left_by history c moment left) (sym back) since);
}
  where
    was : (moment : ℕ) (left : List ℕ) → left_by history (content_before entry next) moment left → left_by history content moment left
    was moment left since = subst (λ (c : List ℕ). left_by history c moment left) back since

-- a write that is put
module _ (entries : List Entry) (content : List ℕ) (offset : ℕ) (bytes : List ℕ) (after : List Entry) (patch : List ℕ)
    (fits : offset + length bytes ≤ length content) (put : IsPut entries content offset bytes after patch) where
  history_is : reverse after ≡ Written put.write ∷ reverse entries
  history_is = ap reverse put.entries_are ∙ reverse-push entries (Written put.write)

  count : length put.write.before.items ≡ length bytes
  count = ap length put.before_is ∙ search (rules, places)

  back : content_before (Written put.write) patch ≡ content
  back =
      ap (λ (c : List ℕ). patched c put.write.offset put.write.before.items) put.content_is
      ∙ ap (λ (at : ℕ). patched (patched content offset bytes) at put.write.before.items) put.offset_is
      ∙ patched_back content offset bytes fits put.write.before.items put.before_is

  same_range : (place : ℕ) → InRange put.write.offset (length put.write.before.items) place → InRange offset (length bytes) place
  same_range place range = (omega (arith, range.0, put.offset_is), omega (arith, range.1, put.offset_is, count))

  pub put_unsynced : (place : ℕ) → unsynced_by (reverse after) place ↔ (unsynced_by (reverse entries) place ⊎ InRange offset (length bytes) place)
  put_unsynced place = (
    λ unsynced. ⊎_elim (λ older. inl older) (λ range. inr (same_range place range)) (subst (λ (history : List Entry). unsynced_by history place) history_is unsynced),
    λ either. subst (λ (history : List Entry). unsynced_by history place) (sym history_is)
        (⊎_elim (λ older. inl older) (λ range. inr (omega (arith, range.0, put.offset_is), omega (arith, range.1, put.offset_is, count))) either),
  )

  pub put_synced : synced_content (reverse after) patch ≡ synced_content (reverse entries) content
  put_synced = ap (λ (history : List Entry). synced_content history patch) history_is ∙ ap (λ (c : List ℕ). synced_content (reverse entries) c) back

  others : (place : ℕ) → (InRange offset (length bytes) place → ⊥) → get_or patch place 0 ≡ get_or content place 0
  others place outside = ap (λ (c : List ℕ). get_or c place 0) put.content_is ∙ patched_others content offset bytes fits place outside

  size : length patch ≡ length content
  size = ap length put.content_is ∙ length-patched content offset bytes fits

  pub put_written : IsWritten (state_of (reverse entries) content) offset bytes (state_of (reverse after) patch)
  put_written = record {
    written = λ k below sure. ap (λ (c : List ℕ). get_or c (offset + k) 0) put.content_is ∙ patched_within content offset bytes fits k below;
    others = λ place outside sure. others place outside;
    unsynced = λ place unsynced. (put_unsynced place).0 unsynced;
    loose = λ place loose. loose;
  }

  pub put_failed : ((place : ℕ) → get_or patch place 0 < 256) → IsWriteFailed (state_of (reverse entries) content) offset (length bytes) (state_of (reverse after) patch)
  put_failed are_bytes = record {
    seen = record { size = size; bytes = are_bytes; same = λ place synced outside. others place outside };
    unsynced = λ place unsynced. (put_unsynced place).0 unsynced;
    loose = λ place loose. absurd loose;
  }

  pub put_moments : LeavesOnly (state_of (reverse entries) content) (state_of (reverse after) patch) (MayLeaveTorn (state_of (reverse entries) content) offset (length bytes))
  put_moments = subst (λ (history : List Entry). LeavesOnly (state_of (reverse entries) content) (state_of history patch) (MayLeaveTorn (state_of (reverse entries) content) offset (length bytes))) (sym history_is)
      (grows (reverse entries) content (Written put.write) patch _ back
      (λ left was. record { size = was.size; bytes = was.bytes; same = λ place synced outside. was.same place synced })
      (λ left now. record {
        size = now.size ∙ size;
        bytes = now.bytes;
        same = λ place synced outside. now.same place (λ unsynced. ⊎_elim synced (λ range. outside (same_range place range)) unsynced) ∙ others place outside;
      }))

-- a good sync
module _ (entries : List Entry) (content : List ℕ) (after : List Entry) (synced : after ≡ entries ++ Synced ∷ []) where
  pub sync_moments : LeavesOnly (state_of (reverse entries) content) (state_of (reverse after) content) (MayLeave (state_of (reverse entries) content))
  sync_moments = subst (λ (history : List Entry). LeavesOnly (state_of (reverse entries) content) (state_of history content) (MayLeave (state_of (reverse entries) content))) (sym (ap reverse synced ∙ reverse-push entries Synced))
      (grows (reverse entries) content Synced content _ refl
      (λ left was. record { size = was.size; bytes = was.bytes; same = was.same })
      (λ left now. record { size = now.size; bytes = now.bytes; same = λ place not. now.same place (λ none. none) }))

-- entries that stayed
pub stays_along : (entries after : List Entry) (content patch : List ℕ) (P : List ℕ → Type 0) → after ≡ entries → patch ≡ content → ((left : List ℕ) → DiffersAt (unsynced_by (reverse entries)) content left → P left)
    → LeavesOnly (state_of (reverse entries) content) (state_of (reverse after) patch) P
stays_along entries after content patch P same_entries same_content here =
    subst (λ (e : List Entry). LeavesOnly (state_of (reverse entries) content) (state_of (reverse e) patch) P) (sym same_entries)
    (subst (λ (c : List ℕ). LeavesOnly (state_of (reverse entries) content) (state_of (reverse entries) c) P) (sym same_content)
    (stays (reverse entries) content P here))

-- a write that changed nothing
pub same_failed : (entries after : List Entry) (content patch : List ℕ) (offset number : ℕ) → after ≡ entries → patch ≡ content → ((place : ℕ) → get_or patch place 0 < 256)
    → IsWriteFailed (state_of (reverse entries) content) offset number (state_of (reverse after) patch)
same_failed entries after content patch offset number same_entries same_content are_bytes = record {
  seen = record { size = ap length same_content; bytes = are_bytes; same = λ place synced outside. ap (λ (c : List ℕ). get_or c place 0) same_content };
  unsynced = λ place unsynced. inl (subst (λ (e : List Entry). unsynced_by (reverse e) place) same_entries unsynced);
  loose = λ place loose. absurd loose;
}
