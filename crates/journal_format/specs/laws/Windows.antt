-- What a window holds of a content.
use Rattle.std.proofs.Common.{◌≡◌, ℕ, ◌+◌, ◌-◌, ◌≤◌, ◌<◌, List, length, slice_index, refl, sym, ◌∙◌, ap, arith}
use Rattle.disk_model.specs.Disk.{State, IsSound, IsSyncedIn}
use Rattle.journal_format.specs.GroupList.{StandsAt}
use Rattle.journal_format.specs.Reading.{IsOnlyRead}
use Rattle.journal_format.specs.Scanning.{IsScanned, WindowState}
use Rattle.journal_format.specs.inner.Scanning.{IsReadAs}

pub scanned_on : {extent : ℕ} {before after : State} (content : List ℕ) (area bytes : ℕ) → IsSound extent before → IsOnlyRead before after → IsScanned content before area bytes → IsScanned content after area bytes
scanned_on content area bytes sound read known = record {
  synced = λ place within unsynced. known.synced place within (read.kept.unsynced place unsynced);
  inside = known.inside;
  same = λ place within. read.kept.seen.same place (λ loose. known.synced place within (sound.loose place loose)) ∙ known.same place within;
}

-- what is read before and after
pub scanned_before : {extent : ℕ} {state : State} (area bytes : ℕ) → IsSound extent state → area + bytes ≤ extent → IsSyncedIn state area bytes → IsScanned state.seen state area bytes
scanned_before area bytes sound inside synced = record { synced = synced; inside = omega (arith, sound.size, inside); same = λ place within. refl }

pub scanned_after : {extent : ℕ} {before after : State} (area bytes : ℕ) → IsSound extent before → IsOnlyRead before after → area + bytes ≤ extent → IsSyncedIn before area bytes → IsScanned after.seen before area bytes
scanned_after area bytes sound read inside synced = record {
  synced = synced;
  inside = omega (arith, sound.size, read.kept.seen.size, inside);
  same = λ place within. sym (read.kept.seen.same place (λ loose. synced place within (sound.loose place loose)));
}

-- bytes of the window are the content's
pub window_bytes : (content : List ℕ) (state : State) (area area_bytes : ℕ) (window : WindowState) (place count : ℕ) (bytes : List ℕ) → IsReadAs content state area area_bytes window
    → window.from ≤ place → place + count ≤ window.from + window.held → length bytes ≡ count
    → ((k : ℕ) → k < count → slice_index bytes k ≡ slice_index window.buffer (place - window.from + k)) → StandsAt content (area + place) bytes
window_bytes content state area area_bytes window place count bytes known low high long same k below =
    let at : area + window.from + (place - window.from + k) ≡ area + place + k = omega (arith, low) in
    sym (same k (omega (arith, below, long)) ∙ known.held (place - window.from + k) (omega (arith, low, high, below, long)) ∙ ap (λ (p : ℕ). slice_index content p) at)
