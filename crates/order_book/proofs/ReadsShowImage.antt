-- what is read is what the image has, and the image is shown still
use Rattle.std.proofs.Common.{◌≡◌, inl, inr, ◌<◌, ◌+◌, ◌*◌, ◌∙◌, ap, sym, refl, ℕ, false, List, length, get_or, Option, Some, None, arith, rules}
use Rattle.std.specs.Option.{unwrap_or}
use Rattle.std.proofs.lemmas.List.{places}
use Rattle.alloc_map.specs.Codes.{state_at}
use Rattle.device_image.specs.Holds.{is_written}
use Rattle.image_model.specs.Change.{Change}
use Rattle.image_model.specs.Image.{Image}
use Rattle.image_model.specs.declared.command.Kind.{Kind}
use Rattle.image_model.specs.declared.command.Kind.TheVariants.{Data}
use Rattle.shared_cache.specs.Cache.{CacheState, bytes_seen}
use Rattle.shared_cache.specs.laws.Views.{missing_seen}
use Rattle.order_book.specs.Cached.{dirty_of}
use Rattle.order_book.specs.Reading.{GivesBase, IsCleanAt, ShowsRead, block_of}
use Rattle.order_book.specs.Shown.{ShowsImage}
use Rattle.order_book.proofs.Frames.{not_dirty, not_dirty_get}

-- bytes that are in memory, or come from the base
pub bytes_read : (base image : Image) (front : List Change) (cache : CacheState) (block k byte : ℕ) → ShowsImage image cache → IsCleanAt base front image (dirty_of cache) → k < 4096
    → ((bytes : List ℕ) → bytes_seen cache block ≡ Some bytes → byte ≡ get_or bytes k 0)
    → (bytes_seen cache block ≡ None → base.kind block ≡ Data → is_written block front ≡ false → byte ≡ base.byte (4096 * block + k))
    → byte ≡ image.byte (4096 * block + k)
bytes_read base image front cache block k byte shows clean inside held read = by (bytes_seen cache block) refl
  where
    by : (seen : Option (List ℕ)) → bytes_seen cache block ≡ seen → byte ≡ image.byte (4096 * block + k)
    by (Some bytes) is = held bytes is ∙ shows.bytes block bytes is k inside
    by None is =
        let missing = missing_seen cache block is in
        let is_data = sym (shows.states block) ∙ missing.0 in
        let no = not_dirty_get block cache.blocks (not_dirty block cache.blocks missing.1) in
        read is (clean.kinds block is_data no) (clean.unwritten block is_data no) ∙ clean.bytes block is_data no k inside

-- bytes that were handed in, over which what is in memory was put
pub bytes_over : (base image : Image) (front : List Change) (cache : CacheState) (first : ℕ) (given into : List ℕ) → length into ≡ length given
    → GivesBase first given cache base front → ShowsImage image cache → IsCleanAt base front image (dirty_of cache)
    → ((j k : ℕ) (bytes : List ℕ) → 4096 * j < length into → k < 4096 → bytes_seen cache (first + j) ≡ Some bytes → get_or into (4096 * j + k) 0 ≡ get_or bytes k 0)
    → ((j k : ℕ) → 4096 * j < length into → k < 4096 → bytes_seen cache (first + j) ≡ None → get_or into (4096 * j + k) 0 ≡ get_or given (4096 * j + k) 0)
    → (j k : ℕ) → 4096 * j < length into → k < 4096 → get_or into (4096 * j + k) 0 ≡ image.byte (4096 * (first + j) + k)
bytes_over base image front cache first given into size gives shows clean held handed j k below inside =
    bytes_read base image front cache (first + j) k _ shows clean inside
    (λ bytes seen. held j k bytes below inside seen)
    (λ none is_data unwritten. handed j k below inside none ∙ gives j k (omega (arith, below, size)) inside none is_data unwritten)

some_same : (seen : Option (List ℕ)) (one other : List ℕ) → seen ≡ Some one → seen ≡ Some other → one ≡ other
some_same seen one other is also = ap (λ (o : Option (List ℕ)). unwrap_or o one) (sym is ∙ also)

none_there : (seen : Option (List ℕ)) (bytes : List ℕ) → seen ≡ Some bytes → seen ≡ None → ⊥
none_there seen bytes is none = cc

byte_of : (bytes : List ℕ) (offset k : ℕ) → k < 4096 → get_or (block_of bytes offset) k 0 ≡ get_or bytes (4096 * offset + k) 0
byte_of bytes offset k inside = search (rules, places)

pub shows_read : (image : Image) (first : ℕ) (bytes : List ℕ) (old new : CacheState) → ShowsImage image old → ShowsRead first bytes old new
    → ((j k : ℕ) → 4096 * j < length bytes → k < 4096 → get_or bytes (4096 * j + k) 0 ≡ image.byte (4096 * (first + j) + k)) → ShowsImage image new
shows_read image first bytes old new known shows are = record {
  states = λ block. ap (λ (states : List Kind). state_at states block) shows.states ∙ known.states block;
  bytes = λ block given seen k inside. elim (shows.each block) [
    | inl same ↦ known.bytes block given (sym same ∙ seen) k inside
    | inr other ↦ elim other [
      | inl lost ↦ absurd (none_there (bytes_seen new block) given seen lost.1)
      | inr read ↦
          ap (λ (l : List ℕ). get_or l k 0) (some_same (bytes_seen new block) given _ seen read.3)
          ∙ byte_of bytes read.0 k inside
          ∙ are read.0 k read.1 inside
          ∙ ap (λ (n : ℕ). image.byte (4096 * n + k)) (sym read.2)
    ]
  ];
}
