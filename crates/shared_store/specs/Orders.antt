-- The state under the order lock.
use Rattle.std.specs.Prelude.{ℕ, ◌≡◌, ◌+◌, ◌-◌, ◌*◌, ◌<◌, ◌≤◌, false, List, [], ◌∷◌, ◌++◌, length, map, drop, take, None, slice_index}
use Rattle.device_image.specs.Holds.{is_written}
use Rattle.image_model.specs.Change.{AreChanges, Change, change_of}
use Rattle.image_model.specs.Dirty.{dirty_blocks}
use Rattle.image_model.specs.Image.{Image, apply_all}
use Rattle.image_model.specs.declared.command.Kind.TheVariants.{Data}
use Rattle.order_book.specs.Order.{OrderState}
use Rattle.order_book.specs.Reading.{LiesIn}
use Rattle.order_book.specs.Shown.{ShowsImage}
use Rattle.order_book.specs.declared.span.Span.{Span}
use Rattle.shared_cache.specs.Cache.{bytes_seen}

-- The order's history is what was sealed, and then what is pending. If the device is trusted, memory shows the image of the opening
-- after the whole history. The dirty blocks are those of the commands after some number, which is at most the noted base: up to it
-- map and data have all commands.
pub record IsOrderOfHistory (opening : ℕ) (image : Image) (trusted : Type 0) (order : OrderState) : Type 0 where
  pub mark : order.mark ≡ opening + length order.history
  pub blocks : length order.cache.states ≡ image.blocks
  pub takes : AreChanges image.blocks order.history
  pub shows : trusted → ShowsImage (apply_all order.history image) order.cache
  pub sent : List Change
  pub all_sent : order.history ≡ sent ++ map change_of order.pending
  pub sealed : order.sealed ≡ opening + length sent
  pub clean : List Change
  pub behind : List Change
  pub all_clean : order.history ≡ clean ++ behind
  pub dirty : order.dirty ≡ dirty_blocks (opening + length clean) behind
  pub settled : opening + length clean ≤ order.base
  pub noted : order.base ≤ order.mark

-- The image at the noted base: that of the opening, after the commands up to the base's number. Then the commands after the base.
abbrev pub image_at_noted_base : ℕ → Image → OrderState → Image
image_at_noted_base opening image order = apply_all (take (order.base - opening) order.history) image

abbrev pub behind_noted : ℕ → OrderState → List Change
behind_noted opening order = drop (order.base - opening) order.history

-- A READ from block `first` on: its bytes, of which those in the span were read without a lock, and the order that serves it.
pub record SpanRead : Type 0 where
  pub first : ℕ
  pub span : Span
  pub bytes : List ℕ
  pub order : OrderState

-- The read is right: blocks of the span that aren't in memory, are data at the noted base, and aren't written by a command after it,
-- have the bytes of that base. Nothing more is trusted of what a second handle vouches for.
abbrev pub IsRight : ℕ → Image → SpanRead → Type 0
IsRight opening image read =
    (j k : ℕ) → 4096 * j < length read.bytes → k < 4096 → LiesIn (read.first + j) read.span → bytes_seen read.order.cache (read.first + j) ≡ None
    → (image_at_noted_base opening image read.order).kind (read.first + j) ≡ Data → is_written (read.first + j) (behind_noted opening read.order) ≡ false
    → slice_index read.bytes (4096 * j + k) ≡ (image_at_noted_base opening image read.order).byte (4096 * (read.first + j) + k)

abbrev pub AreRight : ℕ → Image → List SpanRead → Type 0
AreRight opening image [] = Unit {0}
AreRight opening image (read ∷ reads) = IsRight opening image read × AreRight opening image reads

abbrev pub AreVouched : (SpanRead → Type 0) → List SpanRead → Type 0
AreVouched vouches [] = Unit {0}
AreVouched vouches (read ∷ reads) = ∥ vouches read ∥₁ × AreVouched vouches reads

-- A fact about what memory shows. It holds if the device is trusted and some reads without a lock are right; a second handle has vouched
-- for each of them.
pub record Trusting (opening : ℕ) (image : Image) (vouches : SpanRead → Type 0) (trusted P : Type 0) : Type 0 where
  pub reads : List SpanRead
  pub vouched : AreVouched vouches reads
  pub so : trusted → AreRight opening image reads → P

-- The state under the order lock is that of an order of the history, if such reads are right.
pub record KeepsImage (opening : ℕ) (image : Image) (vouches : SpanRead → Type 0) (trusted : Type 0) (order : OrderState) : Type 0 where
  pub reads : List SpanRead
  pub vouched : AreVouched vouches reads
  pub is : IsOrderOfHistory opening image (trusted × AreRight opening image reads) order
