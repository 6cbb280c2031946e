-- what blocks that were read leave of a cache in which they are kept
use Rattle.std.proofs.Common.{◌≡◌, inl, inr, ◌<◌, ◌+◌, ◌*◌, ◌∙◌, ap, sym, ℕ, Bool, if◌then◌else◌, List, length, Some}
use Rattle.std.proofs.lemmas.Bool.{cases_Bool}
use Rattle.std.proofs.lemmas.Bool.Decides.{eqb_tells}
use Rattle.shared_cache.specs.Blocks.{DirtyBlock, is_dirty, is_cached}
use Rattle.shared_cache.specs.Cache.{CacheState, bytes_seen}
use Rattle.shared_cache.specs.View.{ShowsFill}
use Rattle.order_book.specs.Reading.{KeepsOrReads, block_of}

-- a block that is as it was before
same_kept : (first : ℕ) (bytes : List ℕ) (old mid new : CacheState) (block : ℕ) → bytes_seen new block ≡ bytes_seen mid block
    → KeepsOrReads first bytes old mid block → KeepsOrReads first bytes old new block
same_kept first bytes old mid new block same kept = elim kept [
  | inl as_old ↦ inl (same ∙ as_old)
  | inr other ↦ elim other [
    | inl lost ↦ inr (inl (lost.0, same ∙ lost.1))
    | inr read ↦ inr (inr (read.0, read.1, read.2, same ∙ read.3))
  ]
]

-- one block more is kept
pub each_filled : (first offset : ℕ) (bytes given : List ℕ) (old mid new : CacheState) → 4096 * offset < length bytes → given ≡ block_of bytes offset
    → mid.blocks.dirty ≡ old.blocks.dirty → ((block : ℕ) → KeepsOrReads first bytes old mid block) → ShowsFill (first + offset) given mid new
    → (block : ℕ) → KeepsOrReads first bytes old new block
each_filled first offset bytes given old mid new inside is dirty each shows block = elim (eqb_tells block (first + offset)) [
  | inl p ↦
      let own : bytes_seen new block ≡ (if is_cached block mid.blocks then bytes_seen mid block else Some given) = ap (λ (b : ℕ). bytes_seen new b) p.1 ∙ shows.filled ∙ sym (ap (λ (b : ℕ). if is_cached b mid.blocks then bytes_seen mid b else Some given) p.1) in
      elim (cases_Bool (is_cached block mid.blocks)) [
        | inl held ↦ same_kept first bytes old mid new block (own ∙ ap (λ (b : Bool). if b then bytes_seen mid block else Some given) held) (each block)
        | inr none ↦ inr (inr (offset, inside, p.1, own ∙ ap (λ (b : Bool). if b then bytes_seen mid block else Some given) none ∙ ap Some is))
      ]
  | inr p ↦ elim (shows.others block p.1) [
    | inl same ↦ same_kept first bytes old mid new block same (each block)
    | inr lost ↦ inr (inl (ap (λ (list : List DirtyBlock). is_dirty block (record mid.blocks { dirty = list })) (sym dirty) ∙ lost.0, lost.2))
  ]
]
