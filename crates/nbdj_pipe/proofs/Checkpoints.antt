-- what a checkpoint, step by step, makes of the world of an export
use Rattle.std.proofs.Common.{◌≡◌, ◌⊎◌, inl, inr, ℕ, zero, suc, ◌+◌, ◌-◌, ◌*◌, ◌<◌, ◌≤◌, ◌==◌, ◌&&◌, ◌/◌, not, Bool, cond, true, false, nat_le, nat_lt, List, [], ◌∷◌, ◌++◌, length, length-append, drop, take, replicate, Result, Ok, Err, MatchResult, OnOk, append-nil, min, refl, sym, ap, subst, ◌∙◌, arith}
use Rattle.std.specs.Cmp.{nat_cmp_total}
use Rattle.std.specs.FinMap.{contains_key, insert, len, len-empty, len-insert}
use Rattle.std.specs.Ordering.{nat_cmp}
use Rattle.std.proofs.lemmas.List.{drop_all}
use Rattle.std.proofs.lemmas.List.Sums.{sum_by-append}
use Rattle.std.proofs.lemmas.Bool.{and_from, both_ways, le-leb, lt-ltb, eqb-false, leb-false, leb-true, ltb-false}
use Rattle.image_model.specs.Bodies.{bodies_bytes, body_bytes, body_limit, longest}
use Rattle.image_model.specs.declared.command.Edges.{Edges}
use Rattle.image_model.specs.declared.command.Edges.TheVariants.{Head, Tail, Both}
use Rattle.image_model.specs.declared.command.Kind.{Kind}
use Rattle.image_model.specs.declared.command.Kind.TheVariants.{Hole}
use Rattle.image_model.specs.Change.{Change, Written, Cleared, Edged}
use Rattle.image_model.specs.Dirty.{Dirty, dirty_blocks, frames_suffice, with_blocks, with_edges}
use Rattle.image_model.specs.Edit.{ByteEdit, BytesPut, BytesTrimmed, BytesZeroed, apply_edit, becomes, blocks_met, bytes_of, cleared_within, end_spanned, first_spanned, is_partial_data}
use Rattle.image_model.specs.Image.{Image, last_of}
use Rattle.image_model.specs.laws.Becoming.{length-bytes_of}
use Rattle.image_model.specs.laws.Layouts.{areas_least}
use Rattle.nbd_wire.specs.Request.{Message}
use Rattle.device_image.specs.Keeper.{KeeperState}
use Rattle.disk_model.specs.Disk.{State}
use Rattle.order_book.specs.Order.{OrderState}
use Rattle.export_steps.specs.Bench.{ConnectionsState}
use Rattle.export_steps.specs.Copies.{copied}
use Rattle.export_steps.specs.Life.{IsStepped, Leads, LeadsLaw, Trusts}
use Rattle.export_model.specs.declared.connection.Connection.{Connection}
use Rattle.export_model.specs.declared.event.Event.{Event}
use Rattle.export_model.specs.declared.event.Event.TheVariants.{Took, Failed}
use Rattle.export_model.specs.declared.event.StepFault.TheVariants as fault
use Rattle.export_model.specs.declared.step.Step.{Step}
use Rattle.export_model.specs.declared.step.Step.TheVariants as steps
use Rattle.export_model.specs.Checkpoint.{can_clean, can_copy, can_finish, can_map, can_rotate, finished, is_full, is_turned, last_turned, rotated}
use Rattle.export_model.specs.Log.{cleared_as, edit_asked}
use Rattle.export_model.specs.Run.{IsReached, IsRun}
use Rattle.export_model.specs.Serve.{Failure, Nothing, OutOfMemory, DeviceFailure, Misread, image_shown}
use Rattle.export_model.specs.Step.{after_step, clean, copy_block, finish, in_time, rotate, seal, sealed_more, with_generation, without_memory, write_map, written}
use Rattle.export_model.specs.World.{Setting, Stage, World, area_bytes, areas_at, dirty_behind, has_room, last_number}
use Rattle.export_model.specs.Law.{Grows, IsRising, IsWithin}
use Rattle.nbdj_pipe.specs.Causes.{HasCause}
use Rattle.nbdj_pipe.specs.inner.Causes.{LacksRoom}
use Rattle.nbdj_pipe.specs.inner.Checkpoint.{EndsBy, HasCopied, HasCopiedAll, HasFinished, HasFullArea, IsCopied, IsDone, IsEmptied, IsFine, IsFinished, KeepsOrder, OrStopped}
use Rattle.nbdj_pipe.specs.inner.Export.{IsJudged, IsStoring, Settles}
use Rattle.nbdj_pipe.specs.Talk.{spoken, verdict_on}
use Rattle.front_end.specs.declared.refusal.Refusal.{Refusal}
use Rattle.nbdj_pipe.proofs.Causes.{cause_behind}
use Rattle.nbdj_pipe.proofs.Steps.{last_same, of_test, spoken_on, still_step}
use Rattle.nbdj_pipe.proofs.HeaderWasWanted.{header_wanted}

-- a step of a checkpoint was done, or its event shows why the checkpoint ends early
pub turn_shown : (world next : World) (step : Step) (event : Event) (outcome : Result (Unit {0}) Refusal) → IsRun world (step ∷ []) next → IsStoring step → next.log ≡ world.log ++ event ∷ [] → EndsBy event outcome
    → MatchResult outcome (λ done. IsDone world next) (λ refusal. HasCause refusal world next)
turn_shown world next step event (Ok done) run storing log fine = record { event = event; log = log; fine = fine }
turn_shown world next step event (Err refusal) run storing log (inl memory) = subst (λ (r : Refusal). HasCause r world next) (sym memory.0) tt
turn_shown world next step event (Err refusal) run storing log (inr full) = subst (λ (r : Refusal). HasCause r world next) (sym full.0) (record {
  passed = world;
  before = [];
  behind = step ∷ [];
  to = refl;
  on = run;
  holds = header_wanted world step run.0 storing (ap (λ (w : World). w.log) (sym run.1) ∙ (log ∙ ap (λ (e : Event). world.log ++ e ∷ []) full.1));
})

-- steps that copy leave the connections as they are, and say nothing
copy_still : (world : World) (failure : Failure) → ((after_step world steps.Copy failure).connections ≡ world.connections) × (spoken (after_step world steps.Copy failure).log ≡ spoken world.log)
copy_still world failure =
    let still = still_step world steps.Copy failure tt in
    (still.0, ap spoken still.1.1 ∙ spoken_on world.log (still.1.0 ∷ []) ∙ ap (λ (l : List Event). spoken world.log ++ l) still.1.2 ∙ append-nil (spoken world.log))

copies_still : (count : ℕ) (world : World) → ((copied world count).connections ≡ world.connections) × (spoken (copied world count).log ≡ spoken world.log)
copies_still zero world = (refl, refl)
copies_still (suc count) world =
    let one = copy_still world Nothing in
    let rest = copies_still count (after_step world steps.Copy Nothing) in
    (rest.0 ∙ one.0, rest.1 ∙ one.1)

-- what copying some blocks comes to
pub copy_shown : {D : Type 0} (state : D → State) (faults : D → ℕ) (honest : D → Type 0) (law : LeadsLaw state faults honest) (grows : (world last : World) (steps : List Step) → IsRun world steps last → Grows world last)
    (world : World) (trusted : Bool) (order : OrderState) (keeper : KeeperState D) (connections : ConnectionsState) (start : D) (outcome : Result ℕ Event) → IsReached world
    → MatchResult outcome (λ blocks. Leads world (copied world blocks) (replicate blocks steps.Copy) order keeper (faults keeper.disk) connections (Trusts trusted (honest keeper.disk)) (state start) (state keeper.disk))
    (λ event. (failure : Failure) × IsStepped world (after_step world steps.Copy failure) event order keeper (faults keeper.disk) connections (Trusts trusted (honest keeper.disk)) (state start) (state keeper.disk))
    → (next : World) × Settles world next order keeper (faults keeper.disk) connections (Trusts trusted (honest keeper.disk)) (state start) (state keeper.disk) × IsCopied world next outcome
copy_shown state faults honest law grows world trusted order keeper connections start (Ok blocks) reached leads =
    let still = copies_still blocks world in (
      copied world blocks,
      record {
        follows = record {
          steps = replicate blocks steps.Copy;
          leads = leads;
          said_is = still.1 ∙ sym (append-nil (spoken world.log));
          setting = (grows world (copied world blocks) (replicate blocks steps.Copy) leads.run).setting;
        };
        connections_are = still.0;
      },
      refl,
    )
copy_shown state faults honest law grows world trusted order keeper connections start (Err event) reached (failure, stepped) =
    let next = after_step world steps.Copy failure in
    let still = copy_still world failure in (
      next,
      record {
        follows = record {
          steps = steps.Copy ∷ [];
          leads = law.one world trusted steps.Copy failure event order keeper connections start reached stepped;
          said_is = still.1 ∙ sym (append-nil (spoken world.log));
          setting = (grows world next (steps.Copy ∷ []) (failure, refl)).setting;
        };
        connections_are = still.0;
      },
      (failure, refl, stepped.log),
    )

module _ (world : World) (event : Event) where
  -- How a step ends that comes to this stage in its time: the device has failed, or it took place, or it wasn't its time.
  abbrev pub Ends : Bool → Stage → World → Type 0
  Ends is_time stage next = next.log ≡ world.log ++ event ∷ [] → IsFine event
      → (next.stage.stopped ≡ true) ⊎ ((is_time ≡ true) × (event ≡ Took) × (next.stage ≡ stage)) ⊎ ((is_time ≡ false) × (next.stage ≡ world.stage))

  ends_written : (failure : Failure) (is_time : Bool) (stage : Stage) → is_time ≡ true → Ends is_time stage (written failure world stage)
  ends_written OutOfMemory is_time stage now = λ log fine. absurd (fine.0 (sym (last_same world.log (Failed fault.NoMemory) event log)))
  ends_written Nothing is_time stage now = λ log fine. inr (inl (now, sym (last_same world.log Took event log), refl))
  ends_written DeviceFailure is_time stage now = λ log fine. inl refl
  ends_written (Misread given image) is_time stage now = λ log fine. inr (inl (now, sym (last_same world.log Took event log), refl))

  ends_header : (is_time : Bool) (stage : Stage) (next : World) → Ends is_time stage next → Ends is_time stage (with_generation world next)
  ends_header is_time stage next is = of_test (Ends is_time stage) (is_full world.stage) _ _ (λ full log fine. absurd (fine.1 (sym (last_same world.log (Failed fault.NumbersFull) event log)))) (λ left. is)

  ends_in_time : (is_time : Bool) (stage : Stage) (next : World) → (is_time ≡ true → Ends is_time stage next) → Ends is_time stage (in_time is_time world next)
  ends_in_time is_time stage next is = of_test (Ends is_time stage) world.stage.stopped _ _ (λ stopped log fine. inl stopped)
      (λ works. of_test (Ends is_time stage) is_time _ _ is (λ late log fine. inr (inr (late, refl))))

  rotate_ends : (failure : Failure) → Ends (can_rotate world.stage) (rotated world.stage) (rotate failure world)
  rotate_ends failure = ends_in_time (can_rotate world.stage) _ _ (λ now. ends_header (can_rotate world.stage) _ _ (ends_written failure (can_rotate world.stage) _ now))

  copy_ends : (failure : Failure) → Ends (can_copy world.stage) (record world.stage { left = world.stage.left - 1 }) (copy_block failure world)
  copy_ends failure = ends_in_time (can_copy world.stage) _ _ (ends_written failure (can_copy world.stage) _)

  map_ends : (failure : Failure) → Ends (can_map world.stage) (record world.stage { mapped = true }) (write_map failure world)
  map_ends failure = ends_in_time (can_map world.stage) _ _ (ends_written failure (can_map world.stage) _)

  finish_ends : (failure : Failure) → Ends (can_finish world.stage) (finished world.stage world.stage.turned) (finish failure world)
  finish_ends failure = ends_in_time (can_finish world.stage) _ _ (λ now. ends_header (can_finish world.stage) _ _ (ends_written (without_memory failure) (can_finish world.stage) _ now))

-- blocks copied leave all but their count
pub none_copied : (stage : Stage) → HasCopied stage stage
none_copied stage = record { keeps = record { order = refl; sealed = refl; stored = refl; durable = refl }; at = refl; base = refl; turned = refl; mapped = refl; works = refl }

one_copied : (world : World) → HasCopied world.stage (after_step world steps.Copy Nothing).stage
one_copied world = of_test (λ (w : World). HasCopied world.stage w.stage) world.stage.stopped _ _ (λ stopped. none_copied world.stage)
    (λ works. of_test (λ (w : World). HasCopied world.stage w.stage) (can_copy world.stage) _ _
    (λ now. record { keeps = record { order = refl; sealed = refl; stored = refl; durable = refl }; at = refl; base = refl; turned = refl; mapped = refl; works = refl })
    (λ late. none_copied world.stage))

kept_on : (old mid new : Stage) → KeepsOrder old mid → KeepsOrder mid new → KeepsOrder old new
kept_on old mid new to on = record { order = on.order ∙ to.order; sealed = on.sealed ∙ to.sealed; stored = on.stored ∙ to.stored; durable = on.durable ∙ to.durable }

pub copied_on : (first mid last : Stage) → HasCopied first mid → HasCopied mid last → HasCopied first last
copied_on first mid last to on = record {
  keeps = kept_on first mid last to.keeps on.keeps;
  at = on.at ∙ to.at;
  base = on.base ∙ to.base;
  turned = on.turned ∙ to.turned;
  mapped = on.mapped ∙ to.mapped;
  works = on.works ∙ to.works;
}

pub copies_keep : (count : ℕ) (world : World) → HasCopied world.stage (copied world count).stage
copies_keep zero world = none_copied world.stage
copies_keep (suc count) world = copied_on world.stage _ _ (one_copied world) (copies_keep count (after_step world steps.Copy Nothing))

-- where a step copies nothing more, and the device works, all is copied
pub copying_ends : (first world : World) (failure : Failure) (event : Event) → HasCopied first.stage world.stage → (copy_block failure world).log ≡ world.log ++ event ∷ [] → IsFine event → (event ≡ Took → ⊥)
    → OrStopped HasCopiedAll first (copy_block failure world)
copying_ends first world failure event copied log fine none = by (copy_ends world event failure log fine)
  where
    next : World
    next = copy_block failure world

    by : (next.stage.stopped ≡ true) ⊎ ((can_copy world.stage ≡ true) × (event ≡ Took) × (next.stage ≡ record world.stage { left = world.stage.left - 1 })) ⊎ ((can_copy world.stage ≡ false) × (next.stage ≡ world.stage))
        → OrStopped HasCopiedAll first next
    by (inl stopped) = inl stopped
    by (inr (inl took)) = absurd (none took.1)
    by (inr (inr late)) = inr (subst (HasCopiedAll first.stage) (sym late.1) (record { copied = copied; none = late.0 }))

-- what ends copying: the device has failed or all is copied, or the event shows why the checkpoint ends early
pub all_copied : (first world next : World) (event : Event) (outcome : Result (Unit {0}) Refusal) (before : List Step) → HasCopied first.stage world.stage → IsRun first before world → IsCopied world next (Err event)
    → (event ≡ Took → ⊥) → EndsBy event outcome → MatchResult outcome (λ done. OrStopped HasCopiedAll first next) (λ refusal. HasCause refusal first next)
all_copied first world next event (Ok done) before copied run (failure, is, log) none fine = subst (OrStopped HasCopiedAll first) (sym is)
    (copying_ends first world failure event copied (subst (λ (w : World). w.log ≡ world.log ++ event ∷ []) is log) fine none)
all_copied first world next event (Err refusal) before copied run (failure, is, log) none ends =
    cause_behind refusal first world next before run (turn_shown world next steps.Copy event (Err refusal) (failure, is) tt log ends)

-- where nothing is left to copy, and no map to write, the map is written
map_is_written : (mapped : Bool) (left : ℕ) → (not mapped && nat_lt 0 left) ≡ false → (not mapped && (left == 0)) ≡ false → mapped ≡ true
map_is_written true left copied late = refl
map_is_written false left copied late = let unlike : left ≡ 0 → ⊥ = eqb-false left 0 late in absurd (unlike (omega (arith, ltb-false 0 left copied)))

-- the map was written where several areas are in use
record HasMapped (old new : Stage) : Type 0 where
  keeps : KeepsOrder old new
  at : new.at ≡ old.at
  base : new.base ≡ old.base
  turned : new.turned ≡ old.turned
  mapped : is_turned old.turned ≡ true → new.mapped ≡ true

took_map : (old new : Stage) → HasCopied old new → HasMapped old (record new { mapped = true })
took_map old new copied = record {
  keeps = record { order = copied.keeps.order; sealed = copied.keeps.sealed; stored = copied.keeps.stored; durable = copied.keeps.durable };
  at = copied.at;
  base = copied.base;
  turned = copied.turned;
  mapped = λ several. refl;
}

late_map : (old new : Stage) → HasCopiedAll old new → can_map new ≡ false → HasMapped old new
late_map old new all late = record {
  keeps = all.copied.keeps;
  at = all.copied.at;
  base = all.copied.base;
  turned = all.copied.turned;
  mapped = λ several.
      let here = ap is_turned all.copied.turned ∙ several in
      map_is_written new.mapped new.left (sym (ap (λ (b : Bool). b && not new.mapped && nat_lt 0 new.left) here) ∙ all.none) (sym (ap (λ (b : Bool). b && not new.mapped && (new.left == 0)) here) ∙ late);
}

-- where one area is in use there is nothing to finish
none_finish : (old new : Stage) → old.turned ≡ [] → new.turned ≡ [] → HasMapped old new → HasFinished old new
none_finish old new was is has = record {
  keeps = has.keeps;
  at = has.at;
  last = ap (last_turned new.base) is ∙ has.base ∙ ap (last_turned old.base) (sym was);
  fewer = let here = ap length is in let there = ap length was in omega (arith, here, there);
}

-- the first area is no longer in use
took_finish : (old new : Stage) (turned : List ℕ) → old.turned ≡ turned → new.turned ≡ turned → HasMapped old new → HasFinished old (finished new turned)
took_finish old new [] was is has = none_finish old new was is has
took_finish old new (first ∷ rest) was is has = record {
  keeps = record { order = has.keeps.order; sealed = has.keeps.sealed; stored = has.keeps.stored; durable = has.keeps.durable };
  at = has.at;
  last = ap (last_turned old.base) (sym was);
  fewer = let many = ap length was in omega (arith, many);
}

late_finish : (old new : Stage) (turned : List ℕ) → old.turned ≡ turned → new.turned ≡ turned → can_finish new ≡ false → HasMapped old new → HasFinished old new
late_finish old new [] was is late has = none_finish old new was is has
late_finish old new (first ∷ rest) was is late has = absurd (unlike (sym (ap (λ (t : List ℕ). is_turned t && new.mapped) is ∙ has.mapped (ap is_turned was)) ∙ late))
  where
    unlike : true ≡ false → ⊥
    unlike same = cc

-- a checkpoint that had begun, once all is copied
module _ (first world : World) (to on : Failure) (copied : OrStopped HasCopiedAll first world) where
  abbrev pub mapped : World
  mapped = write_map to world

  abbrev pub last : World
  last = finish on mapped

  module _ (stays : world.stage.stopped ≡ true → last.stage.stopped ≡ true) (stays_mapped : mapped.stage.stopped ≡ true → last.stage.stopped ≡ true) (map_done : IsDone world mapped) (finish_done : IsDone mapped last) where
    finish_as : HasMapped first.stage mapped.stage → OrStopped HasFinished first last
    finish_as has = by (finish_ends mapped finish_done.event on finish_done.log finish_done.fine)
      where
        by : (last.stage.stopped ≡ true) ⊎ ((can_finish mapped.stage ≡ true) × (finish_done.event ≡ Took) × (last.stage ≡ finished mapped.stage mapped.stage.turned)) ⊎ ((can_finish mapped.stage ≡ false) × (last.stage ≡ mapped.stage))
            → OrStopped HasFinished first last
        by (inl stopped) = inl stopped
        by (inr (inl took)) = inr (subst (HasFinished first.stage) (sym took.2)
            (took_finish first.stage mapped.stage mapped.stage.turned (sym has.turned) refl has))
        by (inr (inr late)) = inr (subst (HasFinished first.stage) (sym late.1) (late_finish first.stage mapped.stage mapped.stage.turned (sym has.turned) refl late.0 has))

    map_as : HasCopiedAll first.stage world.stage → OrStopped HasFinished first last
    map_as all = by (map_ends world map_done.event to map_done.log map_done.fine)
      where
        by : (mapped.stage.stopped ≡ true) ⊎ ((can_map world.stage ≡ true) × (map_done.event ≡ Took) × (mapped.stage ≡ record world.stage { mapped = true })) ⊎ ((can_map world.stage ≡ false) × (mapped.stage ≡ world.stage))
            → OrStopped HasFinished first last
        by (inl stopped) = inl (stays_mapped stopped)
        by (inr (inl took)) = finish_as (subst (HasMapped first.stage) (sym took.2) (took_map first.stage world.stage all.copied))
        by (inr (inr late)) = finish_as (subst (HasMapped first.stage) (sym late.1) (late_map first.stage world.stage all late.0))

    pub finished_as : OrStopped HasFinished first last
    finished_as = by copied
      where
        by : OrStopped HasCopiedAll first world → OrStopped HasFinished first last
        by (inl stopped) = inl (stays stopped)
        by (inr all) = map_as all

-- a checkpoint that had begun is finished, or it is shown why it ends early
pub finish_shown : (first world : World) (to on : Failure) (before : List Step) (outcome : Result (Unit {0}) Refusal) → IsRun first before (write_map to world) → OrStopped HasCopiedAll first world
    → (world.stage.stopped ≡ true → (write_map to world).stage.stopped ≡ true) → ((write_map to world).stage.stopped ≡ true → (finish on (write_map to world)).stage.stopped ≡ true)
    → IsDone world (write_map to world) → MatchResult outcome (λ done. IsDone (write_map to world) (finish on (write_map to world))) (λ refusal. HasCause refusal (write_map to world) (finish on (write_map to world)))
    → MatchResult outcome (λ done. OrStopped HasFinished first (finish on (write_map to world))) (λ refusal. HasCause refusal first (finish on (write_map to world)))
finish_shown first world to on before (Ok done) run copied stays stays_mapped map_done is = finished_as first world to on copied (λ stopped. stays_mapped (stays stopped)) stays_mapped map_done is
finish_shown first world to on before (Err refusal) run copied stays stays_mapped map_done is = cause_behind refusal first (write_map to world) (finish on (write_map to world)) before run is

-- one checkpoint after another
finished_on : (first mid last : Stage) → HasFinished first mid → HasFinished mid last → (length first.turned ≤ length last.turned + 2) × KeepsOrder first last × (last.at ≡ first.at)
    × (last_turned last.base last.turned ≡ last_turned first.base first.turned)
finished_on first mid last to on =
    (let one = to.fewer in let two = on.fewer in omega (arith, one, two), kept_on first mid last to.keeps on.keeps, on.at ∙ to.at, on.last ∙ to.last)

-- three of them end all that may have begun
finished_all : (first one two last : Stage) → length first.turned < 4 → HasFinished first one → HasFinished one two → HasFinished two last → IsFinished first last
finished_all first one two last few to on end =
    let so_far = finished_on first one two to on in
    let a = to.fewer in let b = on.fewer in let c = end.fewer in
    let none : last.turned ≡ [] = length_none last.turned (omega (arith, few, a, b, c)) in
    record {
      keeps = kept_on first two last so_far.1 end.keeps;
      at = end.at ∙ so_far.2;
      base = ap (last_turned last.base) (sym none) ∙ end.last ∙ so_far.3;
      turned = none;
    }
  where
    length_none : (turned : List ℕ) → length turned ≡ 0 → turned ≡ []
    length_none [] is = refl
    length_none (area ∷ more) is = absurd (omega (arith, is))

pub all_finished : (first one two last : World) → length first.stage.turned < 4 → (one.stage.stopped ≡ true → last.stage.stopped ≡ true) → (two.stage.stopped ≡ true → last.stage.stopped ≡ true)
    → OrStopped HasFinished first one → OrStopped HasFinished one two → OrStopped HasFinished two last → OrStopped IsFinished first last
all_finished first one two last few stays stays_on (inl stopped) on end = inl (stays stopped)
all_finished first one two last few stays stays_on (inr to) (inl stopped) end = inl (stays_on stopped)
all_finished first one two last few stays stays_on (inr to) (inr on) (inl stopped) = inl stopped
all_finished first one two last few stays stays_on (inr to) (inr on) (inr end) = inr (finished_all first.stage one.stage two.stage last.stage few to on end)

-- or it is shown why the last of them ends early
pub all_shown : (first one two last : World) (before : List Step) (outcome : Result (Unit {0}) Refusal) → IsRun first before two → length first.stage.turned < 4
    → (one.stage.stopped ≡ true → last.stage.stopped ≡ true) → (two.stage.stopped ≡ true → last.stage.stopped ≡ true) → OrStopped HasFinished first one → OrStopped HasFinished one two
    → MatchResult outcome (λ done. OrStopped HasFinished two last) (λ refusal. HasCause refusal two last) → MatchResult outcome (λ done. OrStopped IsFinished first last) (λ refusal. HasCause refusal first last)
all_shown first one two last before (Ok done) run few stays stays_on to on is = all_finished first one two last few stays stays_on to on is
all_shown first one two last before (Err refusal) run few stays stays_on to on is = cause_behind refusal first two last before run is

-- the last area in use is empty, and all that was stored is before it
record HasRotated (old new : Stage) : Type 0 where
  keeps : KeepsOrder old new
  at : new.at ≡ 0
  last : last_turned new.base new.turned ≡ old.stored

took_rotate : (old : Stage) → old.turned ≡ [] → HasRotated old (rotated old)
took_rotate old one = record {
  keeps = record { order = refl; sealed = refl; stored = refl; durable = refl };
  at = refl;
  last = ap (λ (t : List ℕ). last_turned old.base (t ++ old.stored ∷ [])) one;
}

-- nothing was stored in the one area
late_rotate : (world : World) → IsWithin world → world.stage.turned ≡ [] → can_rotate world.stage ≡ false → HasRotated world.stage world.stage
late_rotate world within one late =
    let several = lt-ltb 1 (areas_at world.stage) (let least = areas_least world.stage.setting.geometry.layout in omega (arith, least)) in
    let none : nat_lt world.stage.base world.stage.stored ≡ false =
    ap (λ (b : Bool). b && nat_lt world.stage.base world.stage.stored) (sym several) ∙ sym (ap (λ (t : List ℕ). nat_lt (length t + 1) (areas_at world.stage) && nat_lt (last_turned world.stage.base t) world.stage.stored) one) ∙ late in
    let rising : world.stage.base ≤ world.stage.stored = subst (λ (t : List ℕ). IsRising world.stage.base t world.stage.stored) one within.rising in
    let same : world.stage.stored ≡ world.stage.base = omega (arith, ltb-false world.stage.base world.stage.stored none, rising) in
    let last = ap (last_turned world.stage.base) one in
    record { keeps = record { order = refl; sealed = refl; stored = refl; durable = refl }; at = within.taken.1 (same ∙ sym last); last = last ∙ sym same }

-- a whole checkpoint: one that had begun is finished, all that is stored is before an empty area, and then in map and data
module _ (first done : World) (to : Failure) (within : IsWithin done) (was : OrStopped IsFinished first done) (last : World) (is : OrStopped IsFinished (rotate to done) last) where
  abbrev pub turned : World
  turned = rotate to done

  module _ (stays : done.stage.stopped ≡ true → (clean last).stage.stopped ≡ true) (stays_turned : turned.stage.stopped ≡ true → (clean last).stage.stopped ≡ true) (stays_last : last.stage.stopped ≡ true → (clean last).stage.stopped ≡ true)
      (rotate_done : IsDone done turned) where
    cleaned_as : IsFinished first.stage done.stage → HasRotated done.stage turned.stage → IsFinished turned.stage last.stage → IsEmptied first.stage (clean last).stage
    cleaned_as begun has ended =
        let keeps = kept_on first.stage turned.stage last.stage (kept_on first.stage done.stage turned.stage begun.keeps has.keeps) ended.keeps in
        let at = ended.at ∙ has.at in
        let base = ended.base ∙ has.last ∙ begun.keeps.stored in
        of_test (λ (w : World). IsEmptied first.stage w.stage) (can_clean last.stage) _ _
        (λ some. record { keeps = record { order = keeps.order; sealed = keeps.sealed; stored = keeps.stored; durable = keeps.durable }; at = at; base = base; clean = omega arith })
        (λ none. record { keeps = keeps; at = at; base = base; clean = ltb-false (len (dirty_behind last.stage.base last.stage)) (len (dirty_behind last.stage.cleaned last.stage)) none })

    rotated_as : IsFinished first.stage done.stage → HasRotated done.stage turned.stage → OrStopped IsEmptied first (clean last)
    rotated_as begun has = by is
      where
        by : OrStopped IsFinished turned last → OrStopped IsEmptied first (clean last)
        by (inl stopped) = inl (stays_last stopped)
        by (inr ended) = inr (cleaned_as begun has ended)

    pub emptied_as : OrStopped IsEmptied first (clean last)
    emptied_as = by was
      where
        turn : IsFinished first.stage done.stage
            → (turned.stage.stopped ≡ true) ⊎ ((can_rotate done.stage ≡ true) × (rotate_done.event ≡ Took) × (turned.stage ≡ rotated done.stage)) ⊎ ((can_rotate done.stage ≡ false) × (turned.stage ≡ done.stage))
            → OrStopped IsEmptied first (clean last)
        turn begun (inl stopped) = inl (stays_turned stopped)
        turn begun (inr (inl took)) = rotated_as begun (subst (HasRotated done.stage) (sym took.2) (took_rotate done.stage begun.turned))
        turn begun (inr (inr late)) = rotated_as begun (subst (HasRotated done.stage) (sym late.1) (late_rotate done within begun.turned late.0))

        by : OrStopped IsFinished first done → OrStopped IsEmptied first (clean last)
        by (inl stopped) = inl (stays stopped)
        by (inr begun) = turn begun (rotate_ends done rotate_done.event to rotate_done.log rotate_done.fine)

-- the longest beginning within a limit is within it
longest_fits : (limit : ℕ) (changes : List Change) → bodies_bytes (take (longest limit changes) changes) ≤ limit
longest_fits limit [] = omega arith
longest_fits limit (change ∷ changes) = of_test (λ (n : ℕ). bodies_bytes (take n (change ∷ changes)) ≤ limit) (nat_le (body_bytes change) limit) _ _
    (λ is. let more = longest (limit - body_bytes change) changes in
    let next : suc more ≡ 1 + more = omega arith in
    let sum : bodies_bytes (take (suc more) (change ∷ changes)) ≡ bodies_bytes (change ∷ []) + bodies_bytes (take more changes) = sum_by-append body_bytes (change ∷ []) (take more changes) in
    let one : bodies_bytes (change ∷ []) ≡ 0 + body_bytes change = refl in
    subst (λ (n : ℕ). bodies_bytes (take n (change ∷ changes)) ≤ limit) next (omega (arith, leb-true (body_bytes change) limit is, longest_fits (limit - body_bytes change) changes, sum, one)))
    (λ is. omega arith)

-- an empty area takes the group that is sealed next
pub empty_takes : (world : World) (failure : Failure) → world.stage.at ≡ 0 → world.stage.sealed ≡ world.stage.stored → HasFullArea (seal failure world) → ⊥
empty_takes world failure empty level = of_test (λ (w : World). HasFullArea w → ⊥) (nat_lt world.stage.sealed (length world.stage.order) && (world.stage.sealed == world.stage.durable)) _ _
    (λ is. more failure)
    (λ is full. none full.hand)
  where
    area : ℕ
    area = area_bytes world.stage

    none : world.stage.stored < world.stage.sealed → ⊥
    none hand = omega (arith, hand, level)

    behind : ℕ → ℕ
    behind from = from + longest (body_limit area) (drop from world.stage.order) - world.stage.stored

    same : behind world.stage.stored ≡ longest (body_limit area) (drop world.stage.stored world.stage.order)
    same = omega arith

    group : bodies_bytes (take (behind world.stage.sealed) (drop world.stage.stored world.stage.order)) ≤ body_limit area
    group = subst (λ (s : ℕ). bodies_bytes (take (behind s) (drop world.stage.stored world.stage.order)) ≤ body_limit area) (sym level)
        (subst (λ (n : ℕ). bodies_bytes (take n (drop world.stage.stored world.stage.order)) ≤ body_limit area) (sym same) (longest_fits (body_limit area) (drop world.stage.stored world.stage.order)))

    too_large : nat_le (world.stage.at + 17 + bodies_bytes (take (behind world.stage.sealed) (drop world.stage.stored world.stage.order)) + 1) area ≡ false → ⊥
    too_large full =
        omega (arith, leb-false (world.stage.at + 17 + bodies_bytes (take (behind world.stage.sealed) (drop world.stage.stored world.stage.order)) + 1) area full, group, empty, world.stage.setting.geometry.areas_not_too_small)

    more : (failure : Failure) → HasFullArea (sealed_more failure world) → ⊥
    more OutOfMemory full = none full.hand
    more Nothing full = too_large full.full
    more DeviceFailure full = too_large full.full
    more (Misread given image) full = too_large full.full

-- a write of this many blocks makes this many dirty at most
len_with : (dirty : Dirty) (number first count : ℕ) → len (with_blocks dirty number first count) ≤ len dirty + count
unfolding with_blocks
len_with dirty number first zero = omega arith
len_with dirty number first (suc count) =
    let before = with_blocks dirty number first count in
    let more = len-insert nat_cmp_total before (first + count) number in
    one_more (contains_key before (first + count)) (len before) (len (insert before (first + count) number)) (len_with dirty number first count) more
  where
    one_more : (known : Bool) (old new : ℕ) → old ≤ len dirty + count → new ≡ cond known old (old + 1) → new ≤ len dirty + suc count
    one_more true old new fits is = omega (arith, fits, is)
    one_more false old new fits is = omega (arith, fits, is)

-- where no block is dirty and nothing waits to be durable there is room for all that an edit becomes
module _ (frames : ℕ) (dirty : Dirty) (number waiting : ℕ) (enough : 512 ≤ frames) (none_dirty : len dirty ≡ 0) (none_waits : waiting ≡ 0) where
  abbrev HasRoom : Change → Type 0
  HasRoom change = (frames_suffice frames dirty number change && nat_le (waiting + body_bytes change) 67108864) ≡ true

  put_room : (first : ℕ) (bytes : List ℕ) → length bytes ≤ 1052672 → HasRoom (Written first bytes)
  put_room first bytes few =
      let most = len_with dirty number first ((length bytes + 4095) / 4096) in
      let blocks : (length bytes + 4095) / 4096 ≤ 257 = omega (arith, few) in
      and_from (nat_le (len (with_blocks dirty number first ((length bytes + 4095) / 4096))) frames) (nat_le (waiting + (13 + length bytes)) 67108864)
      (le-leb (len (with_blocks dirty number first ((length bytes + 4095) / 4096))) frames (omega (arith, most, blocks, none_dirty, enough)))
      (le-leb (waiting + (13 + length bytes)) 67108864 (omega (arith, none_waits, few)))

  edges_few : (first blocks : ℕ) (edges : Edges) → len (with_edges dirty number first blocks edges) ≤ 2
  edges_few first blocks Head = let one = len_with dirty number first (min 1 blocks) in omega (arith, one, none_dirty)
  edges_few first blocks Tail = let one = len_with dirty number (last_of first blocks) (min 1 blocks) in omega (arith, one, none_dirty)
  edges_few first blocks Both =
      let one = len_with dirty number first (min 1 blocks) in
      let more = len_with (with_blocks dirty number first (min 1 blocks)) number (last_of first blocks) (min 1 blocks) in
      omega (arith, one, more, none_dirty)

  edged_room : (first blocks : ℕ) (kind : Kind) (edges : Edges) (bytes : List ℕ) → length bytes ≤ 8192 → HasRoom (Edged first blocks kind edges bytes)
  edged_room first blocks kind edges bytes few =
      let most = edges_few first blocks edges in
      and_from (nat_le (len (with_edges dirty number first blocks edges)) frames) (nat_le (waiting + (14 + length bytes)) 67108864)
      (le-leb (len (with_edges dirty number first blocks edges)) frames (omega (arith, most, enough)))
      (le-leb (waiting + (14 + length bytes)) 67108864 (omega (arith, none_waits, few)))

  cleared_room : (first blocks : ℕ) (kind : Kind) → HasRoom (Cleared first blocks kind)
  cleared_room first blocks kind = and_from true (nat_le (waiting + 13) 67108864) refl (le-leb (waiting + 13) 67108864 (omega (arith, none_waits)))

  within_room : (first blocks : ℕ) (kind : Kind) (head tail : Bool) (front back : List ℕ) → length front ≡ 4096 * 1 → length back ≡ 4096 * 1
      → HasRoom (cleared_within first blocks kind head tail front back)
  within_room first blocks kind true true front back own other = edged_room first blocks kind Both (front ++ back) (omega (arith, length-append front back, own, other))
  within_room first blocks kind true false front back own other = edged_room first blocks kind Head front (omega (arith, own))
  within_room first blocks kind false true front back own other = edged_room first blocks kind Tail back (omega (arith, other))
  within_room first blocks kind false false front back own other = cleared_room first blocks kind

  pub edit_room : (request : Message) (image : Image) → length request.bytes ≤ 1048576 → HasRoom (becomes (edit_asked request) image)
  edit_room request image few = of_test (λ (edit : ByteEdit). HasRoom (becomes edit image)) (request.head.kind == 1) _ _ (λ put. by_put)
      (λ other. of_test (λ (edit : ByteEdit). HasRoom (becomes edit image)) (request.head.kind == 6) _ _ (λ zeroes. by_zeroes) (λ trim. by_trim))
    where
      offset : ℕ
      offset = request.head.offset

      count : ℕ
      count = request.head.length

      by_put : HasRoom (becomes (BytesPut offset request.bytes) image)
      by_put =
          let blocks : blocks_met offset (length request.bytes) ≤ 257 = omega (arith, few) in
          let long = length-bytes_of (apply_edit (BytesPut offset request.bytes) image) (offset / 4096) (blocks_met offset (length request.bytes)) in
          put_room (offset / 4096) (bytes_of (apply_edit (BytesPut offset request.bytes) image) (offset / 4096) (blocks_met offset (length request.bytes))) (omega (arith, long, blocks))

      by_zeroes : HasRoom (becomes (BytesZeroed offset count (cleared_as request.head)) image)
      by_zeroes =
          let after = apply_edit (BytesZeroed offset count (cleared_as request.head)) image in
          let first = offset / 4096 in
          let last = last_of first (blocks_met offset count) in
          within_room first (blocks_met offset count) (cleared_as request.head) (is_partial_data offset count first (image.kind first))
          (not (last == first) && is_partial_data offset count last (image.kind last))
          (bytes_of after first 1) (bytes_of after last 1) (length-bytes_of after first 1) (length-bytes_of after last 1)

      by_trim : HasRoom (becomes (BytesTrimmed offset count) image)
      by_trim = of_test HasRoom (nat_lt (first_spanned offset) (end_spanned offset count)) _ _
          (λ some. cleared_room (first_spanned offset) (end_spanned offset count - first_spanned offset) Hole)
          (λ none. cleared_room (offset / 4096) 0 Hole)

-- so it is after a checkpoint of all that was ordered
pub emptied_has_room : (first world : World) (request : Message) → IsWithin first → IsEmptied first.stage world.stage → first.stage.durable ≡ length first.stage.order → length request.bytes ≤ 1048576 → 512 ≤ world.stage.setting.frames
    → LacksRoom world request → ⊥
emptied_has_room first world request within emptied durable few frames lacks =
    both_ways (has_room world (becomes (edit_asked request) (image_shown lacks.failure world.stage))) lacks.full
    (edit_room world.stage.setting.frames dirty (last_number world + 1) waiting frames (omega (arith, none_dirty, emptied.clean)) none request (image_shown lacks.failure world.stage) few)
  where
    dirty : Dirty
    dirty = dirty_behind world.stage.cleaned world.stage

    waiting : ℕ
    waiting = bodies_bytes (drop world.stage.durable world.stage.order)

    all : world.stage.base ≡ length world.stage.order
    all = let order = ap length emptied.keeps.order in omega (arith, emptied.base, order, durable, within.durable, within.stored, within.sealed)

    none : waiting ≡ 0
    none = let order = ap length emptied.keeps.order in ap bodies_bytes (drop_all world.stage.durable world.stage.order (omega (arith, emptied.keeps.durable, order, durable)))

    none_dirty : len (dirty_behind world.stage.base world.stage) ≡ 0
    none_dirty = ap (λ (commands : List Change). len (dirty_blocks (world.stage.setting.opening + world.stage.base) commands)) (drop_all world.stage.base world.stage.order (omega (arith, all))) ∙ len-empty nat_cmp ℕ

-- what a request is judged to be stays so as long as the device isn't opened again
pub judged_as : (request : Message) (outcome : Result (Unit {0}) Refusal) (old new : Setting) (state : Connection) → new ≡ old → OnOk outcome (IsJudged request.head (verdict_on request.head new.geometry new.flags) state)
    → OnOk outcome (IsJudged request.head (verdict_on request.head old.geometry old.flags) state)
judged_as request outcome old new state same = subst (λ (s : Setting). OnOk outcome (IsJudged request.head (verdict_on request.head s.geometry s.flags) state)) same
