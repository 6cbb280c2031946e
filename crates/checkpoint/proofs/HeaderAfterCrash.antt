-- Which header a crash leaves in force while a keeper takes a step.
use Rattle.std.proofs.Common.{◌≡◌, ◌⊎◌, inl, inr, ⊎_elim, ℕ, zero, suc, ◌+◌, ◌≤◌, ◌<◌, List, length, slice_index, sym, ◌∙◌, ap, subst, arith}
use Rattle.disk_model.specs.Disk.{State, IsSound, LeavesOnly, MayLeave, MayLeaveTorn}
use Rattle.disk_model.specs.laws.Moments.{goes_on}
use Rattle.header_slots.specs.Change.{LeavesEither}
use Rattle.header_slots.specs.Slots.{HoldsHeader}
use Rattle.header_slots.specs.declared.header.Header.{Header}
use Rattle.image_model.specs.Image.{Image}
use Rattle.image_model.specs.Side.{other_of}
use Rattle.image_model.specs.declared.geometry.Geometry.{Geometry}
use Rattle.image_model.specs.declared.side.Side.{Side}
use Rattle.device_image.specs.Keeper.{KeeperState}
use Rattle.device_image.specs.Keeps.{Keeps}
use Rattle.device_image.specs.inner.Copied.{LeavesAreaStart}
use Rattle.device_image.specs.laws.Frame.{header_kept}
use Rattle.device_image.specs.laws.Kept.{low_synced}
use Rattle.checkpoint.specs.Headers.{HasHeader, HasHeaderOrNext, HeadersFollow}

module _ {D : Type 0} (keeper : KeeperState D) (state : State) (image : Image) (number : ℕ) (keeps : Keeps keeper state image number) where
  -- the header stays where the two slots do
  header_same : (content : List ℕ) → length content ≡ length state.seen → ((place : ℕ) → place < 8192 → slice_index content place ≡ slice_index state.seen place) → HasHeader keeper.geometry keeper.generation content
  header_same content size same = record {
    header = keeps.stands.header;
    slot = keeps.stands.slot;
    in_force = header_kept state.seen content keeps.stands.header keeps.stands.slot size same keeps.stands.in_force;
    sizes = sym keeps.sizes;
    number = sym keeps.generation;
  }

  -- a crash leaves it
  pub header_left : (content : List ℕ) → MayLeave state content → HasHeader keeper.geometry keeper.generation content
  header_left content left = header_same content left.size (λ place below. left.same place (low_synced keeper state image number keeps place (omega (arith, below))))

  -- and so does one in a write after the slots
  pub header_torn : (offset count : ℕ) → 8192 ≤ offset → (content : List ℕ) → MayLeaveTorn state offset count content → HasHeader keeper.geometry keeper.generation content
  header_torn offset count above content left =
      header_same content left.size (λ place below. left.same place (low_synced keeper state image number keeps place (omega (arith, below))) (λ within. omega (arith, within.0, above, below)))

  module _ {extent : ℕ} (sound : IsSound extent state) (header : Header) (generation : header.generation ≡ keeper.memory.header.generation + 1) (sizes : header.geometry ≡ keeper.memory.header.geometry) (content : List ℕ) (size : length content ≡ length state.seen) where
    old_in_force : (slot : Side) → HoldsHeader content extent keeper.memory.header slot → HasHeader keeper.geometry keeper.generation content
    old_in_force slot holds = record {
      header = keeper.memory.header;
      slot = slot;
      in_force = subst (λ (n : ℕ). HoldsHeader content n keeper.memory.header slot) (sym (size ∙ sound.size)) holds;
      sizes = ap (λ (h : Header). h.geometry) keeps.headed ∙ sym keeps.sizes;
      number = ap (λ (h : Header). h.generation) keeps.headed ∙ sym keeps.generation;
    }

    new_in_force : (slot : Side) → HoldsHeader content extent header slot → HasHeader keeper.geometry (keeper.generation + 1) content
    new_in_force slot holds = record {
      header = header;
      slot = slot;
      in_force = subst (λ (n : ℕ). HoldsHeader content n header slot) (sym (size ∙ sound.size)) holds;
      sizes = sizes ∙ ap (λ (h : Header). h.geometry) keeps.headed ∙ sym keeps.sizes;
      number = generation ∙ ap (λ (h : Header). h.generation + 1) keeps.headed ∙ ap (λ (n : ℕ). n + 1) (sym keeps.generation);
    }

    either_in_force : (slot other : Side) → HoldsHeader content extent keeper.memory.header slot ⊎ HoldsHeader content extent header other → HasHeaderOrNext keeper.geometry keeper.generation content
    either_in_force slot other = ⊎_elim (λ old. inl (old_in_force slot old)) (λ new. inr (new_in_force other new))

  -- while the header changes
  pub header_changes : {extent : ℕ} → IsSound extent state → (header : Header) → header.generation ≡ keeper.memory.header.generation + 1 → header.geometry ≡ keeper.memory.header.geometry
      → (content : List ℕ) → LeavesEither state extent keeper.memory.header keeper.memory.slot header content → HasHeaderOrNext keeper.geometry keeper.generation content
  header_changes sound header generation sizes content left = either_in_force sound header generation sizes content left.outside.size keeper.memory.slot (other_of keeper.memory.slot) left.either

  -- and while another area comes into use
  pub header_turns : {extent : ℕ} → IsSound extent state → (header : Header) → header.generation ≡ keeper.memory.header.generation + 1 → header.geometry ≡ keeper.memory.header.geometry → (from : ℕ)
      → (content : List ℕ) → LeavesAreaStart state extent from keeper.memory.header keeper.memory.slot header content → HasHeaderOrNext keeper.geometry keeper.generation content
  header_turns sound header generation sizes from content left =
      either_in_force sound header generation sizes content left.size keeper.memory.slot (other_of keeper.memory.slot) (⊎_elim (λ old. inl old) (λ new. inr new.1) left.either)

module _ {D : Type 0} (state : D → State) (geometry : Geometry) where
  -- where no header came into force before
  pub follows_after : (generation headers : ℕ) (before mid after : State) → LeavesOnly before mid (HasHeader geometry generation) → HeadersFollow state geometry generation headers mid after
      → HeadersFollow state geometry generation headers before after
  follows_after generation zero before mid after still call = goes_on still call (λ content has. has)
  follows_after generation (suc headers) before mid after still call = (call.0, follows_after generation headers before mid (state call.0) still call.1, call.2)
