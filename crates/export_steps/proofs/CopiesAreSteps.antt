-- several blocks copied at once are as many steps
use Rattle.std.proofs.Common.{◌≡◌, ℕ, zero, suc, ◌+◌, ◌-◌, ◌<◌, ◌≤◌, ◌↔◌, true, false, not, nat_lt, ◌&&◌, if◌then◌else◌, [], ◌∷◌, ◌++◌, append_assoc, Result, Err, replicate, refl, sym, ◌∙◌, ap, subst, arith}
use Rattle.std.proofs.lemmas.Bool.{lt-ltb}
use Rattle.std.proofs.lemmas.List.{append-nil}
use Rattle.checkpoint.specs.declared.fault.KeeperFault.{KeeperFault}
use Rattle.device_image.specs.Keeper.{KeeperState}
use Rattle.disk_model.specs.Disk.{State}
use Rattle.disk_model.specs.laws.Moments.{weakens}
use Rattle.order_book.specs.Order.{OrderState}
use Rattle.export_steps.specs.Bench.{ConnectionsState}
use Rattle.export_steps.specs.Copies.{copied}
use Rattle.export_steps.specs.Life.{Leads}
use Rattle.export_steps.specs.Parts.{IsExportOf}
use Rattle.export_steps.specs.inner.Steps.{IsAppended}
use Rattle.export_steps.specs.laws.Lives.{stands_less}
use Rattle.export_model.specs.declared.event.Event.TheVariants.{Took, Failed}
use Rattle.export_model.specs.declared.event.StepFault.TheVariants.{FailedBefore}
use Rattle.export_model.specs.declared.step.Step.TheVariants.{Copy}
use Rattle.export_model.specs.Checkpoint.{is_turned}
use Rattle.export_model.specs.Run.{IsReached, IsRun}
use Rattle.export_model.specs.Serve.{Nothing, held, logged, staged}
use Rattle.export_model.specs.Step.{after_step}
use Rattle.export_model.specs.World.{World}
use Rattle.export_model.specs.Law.{IsWithin}

-- the world with this many blocks less to copy, and this many steps more in its log
abbrev pub with_copies : World → ℕ → World
with_copies world count = record world { stage = record world.stage { left = world.stage.left - count }; log = world.log ++ replicate count Took }

-- one step
one_copy : (world : World) → world.stage.stopped ≡ false → is_turned world.stage.turned ≡ true → world.stage.mapped ≡ false → 0 < world.stage.left → after_step world Copy Nothing ≡ with_copies world 1
one_copy world works turned unmapped some =
    let next = logged (staged world (record world.stage { left = world.stage.left - 1 })) Took in
    ap (λ b. if b then logged world (Failed FailedBefore) else (if is_turned world.stage.turned && not world.stage.mapped && nat_lt 0 world.stage.left then next else held world)) works
    ∙ ap (λ b. if b && not world.stage.mapped && nat_lt 0 world.stage.left then next else held world) turned
    ∙ ap (λ b. if not b && nat_lt 0 world.stage.left then next else held world) unmapped
    ∙ ap (λ b. if b then next else held world) (lt-ltb 0 world.stage.left some)

pub copied_is : (count : ℕ) (world : World) → world.stage.stopped ≡ false → is_turned world.stage.turned ≡ true → world.stage.mapped ≡ false → count ≤ world.stage.left → copied world count ≡ with_copies world count
copied_is zero world works turned unmapped fits =
    let left : world.stage.left ≡ world.stage.left - 0 = omega arith in
    let log = sym (append-nil world.log) in
    λ i. record world { stage = record world.stage { left = left i }; log = log i }
copied_is (suc count) world works turned unmapped fits =
    let left : world.stage.left - 1 - count ≡ world.stage.left - suc count = omega arith in
    let log = append_assoc world.log (Took ∷ []) (replicate count Took) in
    ap (λ (w : World). copied w count) (one_copy world works turned unmapped (omega (arith, fits)))
    ∙ copied_is count (with_copies world 1) works turned unmapped (omega (arith, fits))
    ∙ (λ i. record world { stage = record world.stage { left = left i }; log = log i })

pub copied_run : (count : ℕ) (world : World) → IsRun world (replicate count Copy) (copied world count)
copied_run zero world = refl
copied_run (suc count) world = (Nothing, copied_run count (after_step world Copy Nothing))

-- what was copied leads there
pub leads_copied : {D : Type 0} (world : World) (count : ℕ) (order : OrderState) (old new : KeeperState D) (old_failures failures : ℕ) (connections : ConnectionsState) (old_honest old_trusts trusts : Type 0) (before after : State)
    → (old_trusts → old_honest) → (trusts → old_trusts) → (old_trusts → trusts) → IsWithin world → ((next : World) → IsRun world (replicate count Copy) next → IsReached next)
    → world.stage.stopped ≡ false → is_turned world.stage.turned ≡ true → world.stage.mapped ≡ false → count ≤ world.stage.left
    → IsExportOf world order old old_failures connections old_trusts before
    → IsAppended world (logged (staged world (record world.stage { left = world.stage.left - count })) Took) Took order connections.group old new failures old_honest before after
    → Leads world (copied world count) (replicate count Copy) order new failures connections trusts before after
leads_copied world count order old new old_failures failures connections old_honest old_trusts trusts before after trusting was stays within reached works turned unmapped fits of leaves =
    let same = copied_is count world works turned unmapped fits in
    subst (λ (next : World). Leads world next (replicate count Copy) order new failures connections trusts before after) (sym same) (record {
      run = subst (IsRun world (replicate count Copy)) same (copied_run count world);
      of_export = record {
        of_order = leaves.kept.of_order;
        of_keeper = leaves.kept.of_keeper;
        of_states = of.of_states;
        flags = of.flags;
        mode = of.mode;
        reached = reached (with_copies world count) (subst (IsRun world (replicate count Copy)) same (copied_run count world));
        disk = λ is. (leaves.disk (trusting (was is)) (of.disk (was is))).0;
        shows = λ is. let shown = of.shows (was is) in record { states = shown.states; bytes = shown.bytes };
        sure = λ trusted. stays (of.sure trusted);
      };
      crash = λ is. weakens (leaves.disk (trusting (was is)) (of.disk (was is))).1 (λ content stands.
          stands_less world.stage.order world.stage.setting.image world.stage.setting.opening world.stage.stored world.stage.durable content within.durable stands);
    })

-- a refusal is the same whatever the call would have answered
pub told_same : {T : Type 0} (refusal other : KeeperFault) (X : Type 0) → ((let said : Result T KeeperFault = Err refusal in said ≡ Err other) ↔ X) → ((let said : Result (Unit {0}) KeeperFault = Err refusal in said ≡ Err other) ↔ X)
told_same {T} refusal other X same = (λ is. same.0 (ap (λ (f : KeeperFault). let said : Result T KeeperFault = Err f in said) (same_fault is)), λ is. ap (λ (f : KeeperFault). let said : Result (Unit {0}) KeeperFault = Err f in said) (same_other (same.1 is)))
  where
    same_fault : (let said : Result (Unit {0}) KeeperFault = Err refusal in said ≡ Err other) → refusal ≡ other
    same_fault is = cc

    same_other : (let said : Result T KeeperFault = Err refusal in said ≡ Err other) → refusal ≡ other
    same_other is = cc

pub told_never : {T : Type 0} (refusal other : KeeperFault) → ((let said : Result T KeeperFault = Err refusal in said ≡ Err other) → ⊥) → (let said : Result (Unit {0}) KeeperFault = Err refusal in said ≡ Err other) → ⊥
told_never {T} refusal other never is = (told_same refusal other ⊥ (never, λ none. absurd none)).0 is

pub copied_fewer : (old new blocks : ℕ) → blocks ≤ old → new ≡ old - blocks → new + blocks ≡ old
copied_fewer old new blocks fits is = omega (arith, fits, is)
