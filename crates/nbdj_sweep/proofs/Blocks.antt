-- the bytes of blocks that a keeper holds
use Rattle.std.proofs.lemmas.Bool.{false≢true}
use Rattle.std.proofs.Math.Nat.{eq-or-lt_of_le}
use Rattle.std.proofs.Common.{Bool, ◌⊎◌, ⊎_elim, inl, inr, ◌≡◌, ◌∙◌, ℕ, ◌+◌, ◌*◌, ◌/◌, ◌<◌, false, [], slice_index, if◌then◌else◌, refl, sym, ap, arith}
use Rattle.device_image.specs.Holds.{Holds}
use Rattle.device_image.specs.Keeper.{KeeperState}
use Rattle.device_image.specs.Stands.{is_data}
use Rattle.disk_model.specs.Disk.{State}
use Rattle.alloc_map.specs.Codes.{state_at}
use Rattle.image_model.specs.Image.{Image}
use Rattle.image_model.specs.declared.command.Kind.{Kind}
use Rattle.image_model.specs.declared.command.Kind.TheVariants.{Zero, Hole}
use Rattle.regions.specs.Layout.{block_at}
use Rattle.std.specs.Bool.{IsTrue}

-- a block that isn't data is zero
pub zero_byte : {D : Type 0} (keeper : KeeperState D) (state : State) (image : Image) → Holds keeper state image [] [] → (kind : Kind) → is_data kind ≡ false
    → (block k : ℕ) → k < 4096 → kind ≡ image.kind block → image.byte (4096 * block + k) ≡ 0
zero_byte keeper state image holds kind none block k small is =
    let base = holds.is_base in
    let place = 4096 * block + k in
    let which : place / 4096 ≡ block = omega (arith, small) in
    let not_data : is_data (state_at keeper.memory.map (place / 4096)) ≡ false =
    ap (λ (b : ℕ). is_data (state_at keeper.memory.map b)) which ∙ ap is_data (sym (base.kinds block) ∙ sym is) ∙ none in
    base.bytes block k small refl ∙ ap (λ test. if test then slice_index state.seen (block_at keeper.geometry 0 + place) else 0) not_data

pub no_data : (kind : Kind) → (kind ≡ Zero) ⊎ (kind ≡ Hole) → is_data kind ≡ false
no_data kind (inl is) = ap is_data is
no_data kind (inr is) = ap is_data is

pub not_so : (b : Bool) → b ≡ false → IsTrue b → ⊥
not_so b is holds = false≢true (sym is ∙ holds)

pub below_or_at : (block now : ℕ) → block < now + 1 → (block < now) ⊎ (block ≡ now)
below_or_at block now below = ⊎_elim (λ at. inr at) (λ before. inl before) (eq-or-lt_of_le (omega (arith, below)))
