-- What the second handle of a test gives and vouches for is right.
use Rattle.std.specs.Prelude.{slice_range}
use Rattle.std.proofs.Common.{◌≡◌, ℕ, ◌+◌, ◌-◌, ◌*◌, ◌/◌, ◌%◌, ◌<◌, ◌≤◌, min, List, [], length, slice_index, take, drop, refl, sym, ◌∙◌, ap, subst, arith}
use Rattle.std.proofs.lemmas.List.{ext_get_or, get_or-drop, get_or-take, length-drop, length-take}
use Rattle.checkpoint.specs.Recovery.{IsRecovered}
use Rattle.device_image.specs.Holds.{Holds}
use Rattle.device_image.specs.Keeper.{KeeperState}
use Rattle.device_image.specs.Stands.{stored_image}
use Rattle.disk_model.specs.SimDisk.{state_now}
use Rattle.disk_model.specs.declared.sim.SimDisk.{SimDisk}
use Rattle.export.specs.Trusted.{image_found}
use Rattle.image_model.specs.Geometry.{map_bytes_of}
use Rattle.image_model.specs.Image.{Image, apply_all}
use Rattle.image_model.specs.declared.command.Kind.TheVariants.{Data}
use Rattle.image_model.specs.declared.geometry.Geometry.{Geometry}
use Rattle.journal_format.specs.Reading.{IsOnlyRead}
use Rattle.order_book.specs.Order.{OrderState}
use Rattle.order_book.specs.declared.span.Span.{Span}
use Rattle.regions.specs.Layout.{block_at}
use Rattle.shared_store.specs.Orders.{IsRight, SpanRead, image_at_noted_base}
use Rattle.server_tests.specs.Snapshot.{GivesOf, StandsIn, VouchesOf, data_at}

-- blocks of a span whose bytes stand in a copy of the data
module _ (copy bytes : List ℕ) (at place first from end : ℕ) (below : first ≤ from) (whole : length bytes % 4096 ≡ 0) (is : place ≡ at + 4096 * from)
    (stands : StandsIn copy (place - at) (slice_range bytes (4096 * (from - first)) (4096 * (end - first)))) where
  pub copied : (j k : ℕ) → 4096 * j < length bytes → k < 4096 → (from ≤ first + j) × (first + j < end)
      → (4096 * (first + j) + k < length copy) × (slice_index bytes (4096 * j + k) ≡ slice_index copy (4096 * (first + j) + k))
  copied j k small less lies =
      let room : length (slice_range bytes (4096 * (from - first)) (4096 * (end - first))) ≡ min (4096 * (end - first) - 4096 * (from - first)) (length bytes - 4096 * (from - first)) =
      length-take (4096 * (end - first) - 4096 * (from - first)) (drop (4096 * (from - first)) bytes) ∙ ap (min (4096 * (end - first) - 4096 * (from - first))) (length-drop (4096 * (from - first)) bytes) in
      let inner : 4096 * j + k - 4096 * (from - first) < 4096 * (end - first) - 4096 * (from - first) = omega (arith, small, less, lies.0, lies.1, below) in
      let there : 4096 * j + k - 4096 * (from - first) < length (slice_range bytes (4096 * (from - first)) (4096 * (end - first))) =
      omega (arith, room, inner, small, less, whole, lies.0, lies.1, below) in
      let back : 4096 * (from - first) + (4096 * j + k - 4096 * (from - first)) ≡ 4096 * j + k = omega (arith, less, lies.0, below) in
      let over : place - at + (4096 * j + k - 4096 * (from - first)) ≡ 4096 * (first + j) + k = omega (arith, is, less, lies.0, below) in (
        omega (arith, over, there, stands.inside),
        sym (get_or-take (4096 * (end - first) - 4096 * (from - first)) (drop (4096 * (from - first)) bytes) (4096 * j + k - 4096 * (from - first)) 0 inner
            ∙ get_or-drop (4096 * (from - first)) bytes (4096 * j + k - 4096 * (from - first)) 0 ∙ ap (slice_index bytes) back)
            ∙ stands.same (4096 * j + k - 4096 * (from - first)) there ∙ ap (slice_index copy) over,
      )

-- the place of a block, by sizes that are the device's
at_place : (blocks other area third from : ℕ) → blocks ≡ other → area ≡ third → 8192 + 2 * third + 2 * map_bytes_of other + 4096 * from ≡ data_at blocks area + 4096 * from
at_place blocks other area third from same_blocks same_area =
    sym (ap (λ (b : ℕ). 8192 + 2 * area + 2 * map_bytes_of b + 4096 * from) same_blocks ∙ ap (λ (a : ℕ). 8192 + 2 * a + 2 * map_bytes_of other + 4096 * from) same_area)

pub vouched : (copy bytes : List ℕ) (blocks area base number first : ℕ) (span : Span) (order : OrderState) (geometry : Geometry) → blocks ≡ geometry.blocks → area ≡ geometry.area → base ≡ number
    → length bytes % 4096 ≡ 0 → number ≡ order.base → first ≤ span.first
    → GivesOf copy blocks area (block_at geometry span.first) (slice_range bytes (4096 * (span.first - first)) (4096 * (span.end - first)))
    → VouchesOf copy base (record { first = first; span = span; bytes = bytes; order = order })
vouched copy bytes blocks area base number first span order geometry same_blocks same_area same_base whole noted below given = record {
  noted = sym (same_base ∙ noted);
  same = copied copy bytes (data_at blocks area) (block_at geometry span.first) first span.first span.end below whole (at_place blocks geometry.blocks area geometry.area span.first same_blocks same_area) given.1;
}

-- the copy has the data of the image, so what is vouched for is right
pub right : (copy : List ℕ) (opening : ℕ) (image : Image) (read : SpanRead)
    → ((place : ℕ) → place < length copy → image.kind (place / 4096) ≡ Data → slice_index copy place ≡ image.byte place) → VouchesOf copy opening read → IsRight opening image read
right copy opening image read known vouches j k small less lies missing is_there unwritten =
    let none : read.order.base - opening ≡ 0 = omega (arith, vouches.noted) in
    let same : image_at_noted_base opening image read.order ≡ image = ap (λ (n : ℕ). apply_all (take n read.order.history) image) none in
    let here = vouches.same j k small less lies in
    let block : (4096 * (read.first + j) + k) / 4096 ≡ read.first + j = omega (arith, less) in
    let kind : image.kind (read.first + j) ≡ Data = subst (λ (i : Image). i.kind (read.first + j) ≡ Data) same is_there in
    here.1 ∙ known (4096 * (read.first + j) + k) here.0 (ap image.kind block ∙ kind) ∙ sym (ap (λ (i : Image). i.byte (4096 * (read.first + j) + k)) same)

-- a keeper that has only read holds the image that is found then
module _ (keeper next : KeeperState SimDisk) (is : next ≡ record keeper { disk = next.disk }) (read : IsOnlyRead (state_now keeper.disk) (state_now next.disk)) where
  seen : (state_now keeper.disk).seen ≡ (state_now next.disk).seen
  seen = ext_get_or 0 _ _ (sym read.kept.seen.size) (λ place below. sym (read.kept.seen.same place (λ loose. loose)))

  pub found : image_found state_now keeper ≡ image_found state_now next
  found =
      ap (λ (content : List ℕ). stored_image content keeper.geometry keeper.memory.map) seen
      ∙ sym (ap (λ (k : KeeperState SimDisk). stored_image (state_now next.disk).seen k.geometry k.memory.map) is)

  pub holds_found : Holds next (state_now next.disk) (image_found state_now keeper) [] [] → Holds next (state_now next.disk) (image_found state_now next) [] []
  holds_found holds = subst (λ (image : Image). Holds next (state_now next.disk) image [] []) found holds

  pub recovered_still : IsRecovered keeper → IsRecovered next
  recovered_still recovered = subst IsRecovered (sym is) (record {
    works = recovered.works;
    phase = recovered.phase;
    used = recovered.used;
    turned = recovered.turned;
    lefts = recovered.lefts;
    base = recovered.base;
    remembers = record { takes = recovered.remembers.takes; noted = recovered.remembers.noted };
  })
