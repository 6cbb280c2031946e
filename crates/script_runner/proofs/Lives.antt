-- what a crash leaves of a device that was only read, and lives whose device counts other calls
use Rattle.std.proofs.Common.{◌≡◌, ◌⊎◌, ⊎_elim, ◌∙◌, Bool, true, false, ℕ, List, Option, Some, Result, Ok, Err, IfOk, subst}
use Rattle.std.specs.Prelude.{IfSome}
use Rattle.device_image.specs.Keeper.{KeeperState}
use Rattle.device_image.specs.Keeps.{Keeps}
use Rattle.checkpoint.specs.Opening.{IsOutcome, StandsAs}
use Rattle.checkpoint.specs.Upgrade.{IsUpgradeOutcome}
use Rattle.checkpoint.specs.declared.fault.KeeperFault.{KeeperFault}
use Rattle.device_image.specs.Stands.{StandsFor}
use Rattle.device_image.specs.laws.Sole.{one_image, one_number}
use Rattle.disk_model.specs.Disk.{IsKept, IsSound, LeavesOnly, MayLeave, State}
use Rattle.disk_model.specs.laws.Moments.{ends}
use Rattle.device_image.specs.Holds.{Holds}
use Rattle.image_model.specs.Change.{Change}
use Rattle.image_model.specs.Image.{Image}
use Rattle.script_runner.specs.inner.Life.{FindsNoMore, IsOpened}
use Rattle.order_book.specs.Order.{OrderState}
use Rattle.export_steps.specs.Bench.{BenchState}
use Rattle.export_steps.specs.Parts.{IsWorldOf}
use Rattle.export_model.specs.World.{World}

pub read_leaves : (extent : ℕ) (before after : State) → IsSound extent before → IsKept before after → (content : List ℕ) → MayLeave after content → MayLeave before content
read_leaves extent before after sound kept content may = record {
  size = may.size ∙ kept.seen.size;
  bytes = may.bytes;
  same = λ place synced. may.same place (λ unsynced. synced (kept.unsynced place unsynced)) ∙ kept.seen.same place (λ loose. synced (sound.loose place loose));
}

-- what an opening leaves finds no more than what it found
pub finds_no_more : {extent : ℕ} (before after : State) (found : List ℕ) → MayLeave before found → LeavesOnly before after (λ content. MayLeave before content ⊎ StandsAs found content) → IsSound extent after → FindsNoMore before after
finds_no_more before after found fixed crash sound content image number left stands = ⊎_elim
    (λ was. (content, was, stands))
    (λ again.
    let images = one_image content again.0 image again.1 number again.3 stands in
    let numbers = one_number content again.0 image again.1 number again.3 stands in
    (found, fixed, subst (λ (i : Image). StandsFor found i number) images (subst (λ (n : ℕ). StandsFor found again.0 n) numbers again.2)))
    (ends crash sound content left)

-- what an opening and an upgrade find
pub opened_of : {D : Type 0} (start : State) (state : D → State) (upgrades : Bool) (result : Result (KeeperState D) (KeeperFault × D)) (found : List ℕ) → MayLeave start found → IsOutcome state result found
    → IfOk result (λ keeper. IsOpened start upgrades keeper (state keeper.disk))
opened_of start state upgrades (Ok keeper) found fixed outcome = record { image = outcome.0; content = found; fixed = fixed; stands = outcome.1; sizes = λ opens. outcome.4; keeps = outcome.2 }
opened_of start state upgrades (Err refused) found fixed outcome = tt

pub upgraded_of : {D : Type 0} (start : State) (state : D → State) (result : Result (KeeperState D) (KeeperFault × D)) (found : List ℕ) → MayLeave start found → IsUpgradeOutcome state result found
    → IfOk result (λ keeper. IsOpened start true keeper (state keeper.disk))
upgraded_of start state (Ok keeper) found fixed outcome = record { image = outcome.0; content = found; fixed = fixed; stands = outcome.1; sizes = λ opens. never opens; keeps = outcome.2 }
  where
    never : {X : Type 0} → true ≡ false → X
    never is = cc
upgraded_of start state (Err refused) found fixed outcome = tt

-- what holds of what there is, if anything, holds of whatever is there
pub some_has : {X : Type 0} (P : X → Type 0) (o : Option X) → IfSome o P → (x : X) → o ≡ Some x → P x
some_has P o holds x is = subst (λ (o : Option _). IfSome o P) is holds

module _ {D : Type 0} (keeper : KeeperState D) (disk : D) (state : State) where
  keeps_with : (image : Image) (number : ℕ) → Keeps keeper state image number → Keeps (record keeper { disk = disk }) state image number
  keeps_with image number keeps = record {
    works = keeps.works;
    steady = keeps.steady;
    stands = keeps.stands;
    sizes = keeps.sizes;
    generation = keeps.generation;
    from_base = keeps.from_base;
    headed = keeps.headed;
    slotted = keeps.slotted;
    counted = keeps.counted;
    mapped = keeps.mapped;
    areas = keeps.areas;
    taken = keeps.taken;
    phase = keeps.phase;
    phased = keeps.phased;
    unsynced = keeps.unsynced;
  }

  holds_with : (base : Image) (fronts : List (List Change)) (last : List Change) → Holds keeper state base fronts last → Holds (record keeper { disk = disk }) state base fronts last
  unfolding keeps_with
  holds_with base fronts last holds = record {
    keeps = keeps_with _ _ holds.keeps;
    before_last = holds.before_last;
    in_last = holds.in_last;
    is_base = holds.is_base;
  }

  -- a device in the same state takes the place of the one that there was
  pub life_with : (world : World) (order : OrderState) (failures : ℕ) (bench : BenchState) (honest : Type 0) → IsWorldOf world order keeper failures bench honest state
      → IsWorldOf world order (record keeper { disk = disk }) failures bench honest state
  life_with world order failures bench honest of =
      let parts = of.of_export in
      let kept = parts.of_keeper in
      record {
        of_export = record {
          of_order = parts.of_order;
          of_keeper = record {
            geometry = kept.geometry;
            count = kept.count;
            base = kept.base;
            turned = kept.turned;
            lefts = kept.lefts;
            generation = kept.generation;
            phase = kept.phase;
            used = kept.used;
            failed = kept.failed;
            faults = kept.faults;
            takes = kept.takes;
            remembers = record { takes = kept.remembers.takes; noted = kept.remembers.noted };
          };
          of_states = parts.of_states;
          flags = parts.flags;
          mode = parts.mode;
          reached = parts.reached;
          shows = parts.shows;
          sure = parts.sure;
          disk = λ is. record { holds = λ works. holds_with _ _ _ ((parts.disk is).holds works); leaves = (parts.disk is).leaves };
        };
        log = of.log;
      }
