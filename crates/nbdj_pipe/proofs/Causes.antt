-- what shows why a session ended early
use Rattle.std.proofs.Common.{◌≡◌, ◌≢◌, ◌⊎◌, inl, inr, ℕ, ◌+◌, ◌<◌, ◌≤◌, ◌==◌, ◌&&◌, Bool, true, false, nat_le, nat_lt, List, [], ◌∷◌, ◌++◌, length, length-append, length-drop, take, drop, Result, Ok, Err, IfErr, IsErrAnd, MatchResult, refl, sym, ap, subst, ◌∙◌, arith}
use Rattle.std.proofs.lemmas.Bool.{and_parts, both_ways, cases_lt, eqb-false, eqb-true, false_from_ne_true, leb-false, ltb-false, ltb-true}
use Rattle.std.proofs.lemmas.List.{take-append-drop}
use Rattle.image_model.specs.Bodies.{body_bytes, body_limit, longest}
use Rattle.image_model.specs.declared.command.Edges.{Edges}
use Rattle.image_model.specs.declared.command.Edges.TheVariants.{Head, Tail, Both}
use Rattle.image_model.specs.Change.{Change, Written, Cleared, Edged, AreChanges, IsChange, edge_count}
use Rattle.order_book.specs.Order.{OrderState}
use Rattle.order_book.specs.Pending.{most_body}
use Rattle.export_steps.specs.Bench.{ConnectionsState}
use Rattle.export_steps.specs.Parts.{IsOrderOf}
use Rattle.request_core.specs.laws.Commands.{all_behind}
use Rattle.export_model.specs.declared.connection.Connection.TheVariants.{Waiting}
use Rattle.export_model.specs.declared.event.Event.{Event}
use Rattle.export_model.specs.declared.event.Event.TheVariants.{Took, Skipped, Failed}
use Rattle.export_model.specs.declared.event.StepFault.TheVariants as fault
use Rattle.export_model.specs.declared.step.Step.{Step}
use Rattle.export_model.specs.Run.{IsRun}
use Rattle.export_model.specs.Serve.{Failure, Nothing, OutOfMemory, DeviceFailure, Misread}
use Rattle.export_model.specs.Step.{after_step, append, publish, seal, sealed_more, stored_more}
use Rattle.export_model.specs.World.{World, area_bytes, fits, last_number}
use Rattle.export_model.specs.Law.{Grows, IsWithin}
use Rattle.nbdj_pipe.specs.Causes.{HasCause, HasNoGeneration, Passes}
use Rattle.nbdj_pipe.specs.inner.Checkpoint.{HasFullArea, IsUnfit}
use Rattle.nbdj_pipe.specs.inner.Export.{CameTo, GetsOn, IsSettled, IsWaiting, StoredBy}
use Rattle.nbdj_pipe.specs.inner.Refusals.{IsEarly, IsOfExport}
use Rattle.nbdj_pipe.specs.inner.Session.{IsEndShown}
use Rattle.front_end.specs.declared.refusal.Refusal.{Refusal}
use Rattle.front_end.specs.declared.refusal.Refusal.TheVariants.{NoMemory, DeviceFault, BadMap, NoHeader, BadHeader, NumbersFull, AreaFull, OutOfOrder, DamagedGroup, NotNow, Failed as NeverEnds, NoRoom, PeerClosed, ProtocolEnd, StreamFault, AreaSmall}
use Rattle.nbdj_pipe.proofs.Steps.{last_same, of_test}

-- what an export refuses ends its session early
pub early_of : (refusal : Refusal) → IsOfExport refusal → IsEarly refusal
early_of NoMemory is = tt
early_of NumbersFull is = tt
early_of NeverEnds is = tt
early_of DeviceFault is = absurd is
early_of BadMap is = absurd is
early_of NoHeader is = absurd is
early_of BadHeader is = absurd is
early_of AreaSmall is = absurd is
early_of AreaFull is = absurd is
early_of OutOfOrder is = absurd is
early_of DamagedGroup is = absurd is
early_of NotNow is = absurd is
early_of NoRoom is = absurd is
early_of PeerClosed is = absurd is
early_of ProtocolEnd is = absurd is
early_of StreamFault is = absurd is

-- one run after another
run_on : (first mid last : World) (before behind : List Step) → IsRun first before mid → IsRun mid behind last → IsRun first (before ++ behind) last
run_on first mid last [] behind is on = subst (λ (w : World). IsRun w behind last) is on
run_on first mid last (step ∷ before) behind run on = (run.0, run_on (after_step first step run.0) mid last before behind run.1 on)

-- what a part of a run passes the run passes
passes_between : (P : World → Type 0) (first second third last : World) (before behind : List Step) → IsRun first before second → IsRun third behind last → Passes P second third → Passes P first last
passes_between P first second third last before behind to on is = record {
  passed = is.passed;
  before = before ++ is.before;
  behind = is.behind ++ behind;
  to = run_on first second is.passed before is.before to is.to;
  on = run_on is.passed third last is.behind behind is.on on;
  holds = is.holds;
}

cause_between : (refusal : Refusal) (first second third last : World) (before behind : List Step) → IsRun first before second → IsRun third behind last → HasCause refusal second third → HasCause refusal first last
cause_between NoMemory first second third last before behind to on is = tt
cause_between DeviceFault first second third last before behind to on is = tt
cause_between BadMap first second third last before behind to on is = tt
cause_between NoHeader first second third last before behind to on is = tt
cause_between BadHeader first second third last before behind to on is = tt
cause_between AreaSmall first second third last before behind to on is = tt
cause_between NumbersFull first second third last before behind to on is = passes_between HasNoGeneration first second third last before behind to on is
cause_between AreaFull first second third last before behind to on is = is
cause_between OutOfOrder first second third last before behind to on is = tt
cause_between DamagedGroup first second third last before behind to on is = tt
cause_between NotNow first second third last before behind to on is = tt
cause_between NeverEnds first second third last before behind to on is = is
cause_between NoRoom first second third last before behind to on is = is
cause_between PeerClosed first second third last before behind to on is = tt
cause_between ProtocolEnd first second third last before behind to on is = tt
cause_between StreamFault first second third last before behind to on is = tt

pub cause_behind : (refusal : Refusal) (first mid last : World) (before : List Step) → IsRun first before mid → HasCause refusal mid last → HasCause refusal first last
cause_behind refusal first mid last before to is = cause_between refusal first mid last last before [] to refl is

-- what shows why a part of a run was refused shows it of the run
pub caused_behind : {T : Type 0} (outcome : Result T Refusal) (first mid last : World) (before : List Step) → IsRun first before mid → IfErr outcome (λ refusal. HasCause refusal mid last) → IfErr outcome (λ refusal. HasCause refusal first last)
caused_behind (Ok value) first mid last before to is = tt
caused_behind (Err refusal) first mid last before to is = cause_behind refusal first mid last before to is

pub caused_before : {T : Type 0} (outcome : Result T Refusal) (first mid last : World) (behind : List Step) → IsRun mid behind last → IfErr outcome (λ refusal. HasCause refusal first mid) → IfErr outcome (λ refusal. HasCause refusal first last)
caused_before (Ok value) first mid last behind on is = tt
caused_before (Err refusal) first mid last behind on is = cause_between refusal first first mid last [] behind refl on is

-- what holds of a refusal holds of an outcome that is that refusal
pub if_error : {T : Type 0} (P : Refusal → Type 0) (refusal : Refusal) (outcome : Result T Refusal) → IsErrAnd outcome (λ r. r ≡ refusal) → P refusal → IfErr outcome P
if_error P refusal (Ok value) is holds = tt
if_error P refusal (Err other) is holds = subst P (sym is) holds

-- the same of an outcome of which something else is said where it is Ok
pub if_matched : {T : Type 0} (Q : T → Type 0) (P : Refusal → Type 0) (refusal : Refusal) (outcome : Result T Refusal) → IsErrAnd outcome (λ r. r ≡ refusal) → P refusal → MatchResult outcome Q P
if_matched Q P refusal (Ok value) is holds = absurd is
if_matched Q P refusal (Err other) is holds = subst P (sym is) holds

-- a session ends as its input did, as its storing did, or for a fault of the device
pub end_shown : (end stored outcome : Result (Unit {0}) Refusal) (first last : World) → (outcome ≡ end) ⊎ (outcome ≡ stored) ⊎ (outcome ≡ Err DeviceFault)
    → IfErr stored (λ refusal. HasCause refusal first last) → IsEndShown end outcome first last
end_shown end stored outcome first last (inl same) is = inl same
end_shown end stored outcome first last (inr (inl same)) is = inr (subst (λ (o : Result (Unit {0}) Refusal). IfErr o (λ refusal. HasCause refusal first last)) (sym same) is)
end_shown end stored outcome first last (inr (inr same)) is = inr (subst (λ (o : Result (Unit {0}) Refusal). IfErr o (λ refusal. HasCause refusal first last)) (sym same) tt)

-- a refusal that a run shows nothing of
abbrev pub IsBare : Refusal → Type 0
IsBare refusal = (first last : World) → HasCause refusal first last

two_edges : (edges : Edges) → edge_count edges ≤ 2
two_edges Head = omega arith
two_edges Tail = omega arith
two_edges Both = omega arith

-- of commands that an image takes the first fits a group
longest_some : (limit image : ℕ) (changes : List Change) → AreChanges image changes → 0 < length changes → most_body ≤ limit → 0 < longest limit changes
longest_some limit image [] takes some large = absurd (omega (arith, some))
longest_some limit image (Written first bytes ∷ changes) takes some large =
    let (blocks, len, least, most, inside) = takes.0 in
    of_test (λ (n : ℕ). 0 < n) (nat_le (body_bytes (Written first bytes)) limit) _ _ (λ is. omega arith)
    (λ is. absurd (omega (arith, leb-false (body_bytes (Written first bytes)) limit is, len, most, large)))
longest_some limit image (Cleared first blocks kind ∷ changes) takes some large =
    of_test (λ (n : ℕ). 0 < n) (nat_le (body_bytes (Cleared first blocks kind)) limit) _ _ (λ is. omega arith)
    (λ is. absurd (omega (arith, leb-false (body_bytes (Cleared first blocks kind)) limit is, large)))
longest_some limit image (Edged first blocks kind edges bytes ∷ changes) takes some large =
    let own = takes.0 in
    let len = own.4 in
    of_test (λ (n : ℕ). 0 < n) (nat_le (body_bytes (Edged first blocks kind edges bytes)) limit) _ _ (λ is. omega arith)
    (λ is. absurd (omega (arith, leb-false (body_bytes (Edged first blocks kind edges bytes)) limit is, len, two_edges edges, large)))

-- an order that isn't settled works, and has commands that aren't durable
pub unsettled : (world : World) (order : OrderState) (connections : ConnectionsState) → IsWithin world → IsOrderOf world.stage order connections.group → (IsSettled order → ⊥)
    → (world.stage.stopped ≡ false) × (world.stage.durable < length world.stage.order)
unsettled world order connections within of none =
    (false_from_ne_true world.stage.stopped (λ is. none (inl (of.stopped ∙ is))), by_length (cases_lt world.stage.durable (length world.stage.order)))
  where
    by_length : (world.stage.durable < length world.stage.order) ⊎ (length world.stage.order ≤ world.stage.durable) → world.stage.durable < length world.stage.order
    by_length (inl is) = is
    by_length (inr is) = absurd (none (inr (omega (arith, of.durable, of.mark, within.durable, within.stored, within.sealed, is))))

-- all that is ordered is durable where an order that works is settled
pub all_durable : (world : World) (order : OrderState) (connections : ConnectionsState) → IsOrderOf world.stage order connections.group → world.stage.stopped ≡ false → IsSettled order
    → world.stage.durable ≡ length world.stage.order
all_durable world order connections of works (inl is) = absurd (both_ways world.stage.stopped works (sym of.stopped ∙ is))
all_durable world order connections of works (inr is) = omega (arith, of.durable, of.mark, is)

-- where an order has come to be settled that wasn't, storing got on
pub settled_gets_on : (old new : World) (order : OrderState) (connections : ConnectionsState) → IsOrderOf new.stage order connections.group → IsSettled order → old.stage.durable < length old.stage.order → Grows old new → GetsOn old new
settled_gets_on old new order connections of (inl stopped) pending grows = inl (sym of.stopped ∙ stopped)
settled_gets_on old new order connections of (inr level) pending grows =
    let (commands, same) = grows.order in
    let long : length new.stage.order ≡ length old.stage.order + length commands = ap length same ∙ length-append old.stage.order commands in
    inr (omega (arith, of.durable, of.mark, level, pending, long))

pub gets_on_behind : (old mid new : World) → Grows old mid → GetsOn mid new → GetsOn old new
gets_on_behind old mid new grows (inl stopped) = inl stopped
gets_on_behind old mid new grows (inr more) = inr (omega (arith, grows.durable, more))

-- Storing one group after another got on so often: a call of the device has failed, or as many commands more are durable.
abbrev pub HasStored : World → World → ℕ → Type 0
HasStored old new count = (new.stage.stopped ≡ true) ⊎ (old.stage.durable + count ≤ new.stage.durable)

pub stored_more_often : (old mid new : World) (count : ℕ) → (mid.stage.stopped ≡ true → new.stage.stopped ≡ true) → HasStored old mid count → GetsOn mid new → HasStored old new (count + 1)
stored_more_often old mid new count stays (inl stopped) on = inl (stays stopped)
stored_more_often old mid new count stays (inr here) (inl stopped) = inl stopped
stored_more_often old mid new count stays (inr here) (inr more) = inr (omega (arith, here, more))

-- no order has as many commands as 64 bits number
pub settled_at_last : (old new : World) (order : OrderState) (connections : ConnectionsState) (count : ℕ) → IsWithin new → IsOrderOf new.stage order connections.group → 18446744073709551615 ≤ count
    → HasStored old new count → IsSettled order
settled_at_last old new order connections count within of many (inl stopped) = inl (of.stopped ∙ stopped)
settled_at_last old new order connections count within of many (inr here) = inr (omega (arith, of.durable, of.mark, of.fits, within.durable, within.stored, within.sealed, many, here))

-- a number that a connection waits for is durable where all that is ordered is
pub none_waiting : (world : World) (order : OrderState) (connections : ConnectionsState) → ((number : ℕ) → world.connections 0 ≡ Waiting number → number ≤ last_number world)
    → IsOrderOf world.stage order connections.group → IsSettled order → IsWaiting world → ⊥
none_waiting world order connections law of settled waiting =
    let last = law waiting.number waiting.waits in
    omega (arith, all_durable world order connections of waiting.works settled, last, waiting.above)

and_none : (x y : Bool) → (x && y) ≡ false → (x ≡ false) ⊎ (y ≡ false)
and_none true y is = inr is
and_none false y is = inl refl

module _ (world : World) (within : IsWithin world) (takes : AreChanges world.stage.setting.geometry.blocks world.stage.order) (works : world.stage.stopped ≡ false)
    (pending : world.stage.durable < length world.stage.order) where
  -- the world in which what is pending was sealed: some of it is in a group
  record IsSealed (next : World) : Type 0 where
    durable : next.stage.durable ≡ world.stage.durable
    works_on : next.stage.stopped ≡ false
    above : world.stage.durable < next.stage.sealed

  abbrev IsSealedAs : World → Type 0
  IsSealedAs next = ((event : Event) → next.log ≡ world.log ++ event ∷ [] → event ≡ Failed fault.NoMemory) ⊎ IsSealed next

  sealed_some : world.stage.sealed ≡ world.stage.durable → 0 < longest (body_limit (area_bytes world.stage)) (drop world.stage.sealed world.stage.order)
  sealed_some level = longest_some (body_limit (area_bytes world.stage)) world.stage.setting.geometry.blocks (drop world.stage.sealed world.stage.order)
      (all_behind (IsChange world.stage.setting.geometry.blocks) (take world.stage.sealed world.stage.order) (drop world.stage.sealed world.stage.order)
      (subst (AreChanges world.stage.setting.geometry.blocks) (sym (take-append-drop world.stage.sealed world.stage.order)) takes))
      (omega (arith, length-drop world.stage.sealed world.stage.order, level, pending))
      (omega (arith, world.stage.setting.geometry.areas_not_too_small))

  sealed_more_as : (failure : Failure) → world.stage.sealed ≡ world.stage.durable → IsSealedAs (sealed_more failure world)
  sealed_more_as OutOfMemory level = inl (λ event log. sym (last_same world.log (Failed fault.NoMemory) event log))
  sealed_more_as Nothing level = inr (record { durable = refl; works_on = works; above = omega (arith, level, sealed_some level) })
  sealed_more_as DeviceFailure level = inr (record { durable = refl; works_on = works; above = omega (arith, level, sealed_some level) })
  sealed_more_as (Misread given image) level = inr (record { durable = refl; works_on = works; above = omega (arith, level, sealed_some level) })

  sealed_as : (failure : Failure) → IsSealedAs (seal failure world)
  sealed_as failure = of_test IsSealedAs (nat_lt world.stage.sealed (length world.stage.order) && (world.stage.sealed == world.stage.durable)) _ _
      (λ is. sealed_more_as failure (eqb-true world.stage.sealed world.stage.durable (and_parts (nat_lt world.stage.sealed (length world.stage.order)) (world.stage.sealed == world.stage.durable) is).1))
      (λ is. inr (record { durable = refl; works_on = works; above = above (and_none (nat_lt world.stage.sealed (length world.stage.order)) (world.stage.sealed == world.stage.durable) is) }))
    where
      above : (nat_lt world.stage.sealed (length world.stage.order) ≡ false) ⊎ ((world.stage.sealed == world.stage.durable) ≡ false) → world.stage.durable < world.stage.sealed
      above (inl is) = omega (arith, ltb-false world.stage.sealed (length world.stage.order) is, pending)
      above (inr is) = let unlike : world.stage.sealed ≢ world.stage.durable = eqb-false world.stage.sealed world.stage.durable is in omega (arith, unlike, within.durable, within.stored)

  -- the group in hand was appended, or was not, and what is stored was published
  module _ (sealed : World) (is_sealed : IsSealed sealed) where
    record IsStored (next : World) : Type 0 where
      durable : next.stage.durable ≡ world.stage.durable
      stored : world.stage.durable < next.stage.stored

    abbrev IsAppendedAs : World → Type 0
    IsAppendedAs next =
        ((event : Event) → next.log ≡ sealed.log ++ event ∷ [] → event ≡ Failed fault.NoMemory)
        ⊎ (((next.stage.stopped ≡ true) × ((event : Event) → next.log ≡ sealed.log ++ event ∷ [] → event ≡ Failed fault.DeviceFault))
        ⊎ (IsStored next
        ⊎ ((next.stage.durable ≡ world.stage.durable) × ((event : Event) → next.log ≡ sealed.log ++ event ∷ [] → event ≡ Skipped) × HasFullArea sealed × (next.stage.sealed ≡ next.stage.stored))))

    stored_as : (failure : Failure) → IsAppendedAs (stored_more failure sealed)
    stored_as OutOfMemory = inl (λ event log. sym (last_same sealed.log (Failed fault.NoMemory) event log))
    stored_as Nothing = inr (inr (inl (record { durable = is_sealed.durable; stored = is_sealed.above })))
    stored_as DeviceFailure = inr (inl (refl, λ event log. sym (last_same sealed.log (Failed fault.DeviceFault) event log)))
    stored_as (Misread given image) = inr (inr (inl (record { durable = is_sealed.durable; stored = is_sealed.above })))

    appended_as : (failure : Failure) → IsAppendedAs (append failure sealed)
    appended_as failure = of_test IsAppendedAs (nat_lt sealed.stage.stored sealed.stage.sealed) _ _
        (λ hand. of_test IsAppendedAs sealed.stage.stopped _ _ (λ stopped. absurd (unlike stopped))
        (λ on. of_test IsAppendedAs (fits sealed) _ _ (λ fit. stored_as failure)
        (λ full. inr (inr (inr (
          is_sealed.durable,
          λ event log. sym (last_same sealed.log Skipped event log),
          record { works = is_sealed.works_on; hand = ltb-true sealed.stage.stored sealed.stage.sealed hand; full = full },
          refl,
        ))))))
        (λ none. inr (inr (inl (record { durable = is_sealed.durable; stored = omega (arith, ltb-false sealed.stage.stored sealed.stage.sealed none, is_sealed.above) }))))
      where
        unlike : sealed.stage.stopped ≡ true → ⊥
        unlike is = let on = is_sealed.works_on in cc

    -- what is stored and wasn't is published
    gets_on : (next : World) → IsStored next → GetsOn world (publish next)
    gets_on next is = of_test (GetsOn world) (nat_lt next.stage.durable next.stage.stored) _ _ (λ more. inr is.stored)
        (λ none. absurd (omega (arith, ltb-false next.stage.durable next.stage.stored none, is.durable, is.stored)))

    took : (next : World) (event : Event) → IsStored next → (publish next).log ≡ next.log ++ event ∷ [] → event ≡ Took
    took next event is = of_test (λ (w : World). w.log ≡ next.log ++ event ∷ [] → event ≡ Took) (nat_lt next.stage.durable next.stage.stored) _ _
        (λ more log. sym (last_same next.log Took event log))
        (λ none. absurd (omega (arith, ltb-false next.stage.durable next.stage.stored none, is.durable, is.stored)))

    -- where nothing was published, or all is
    held_or_on : (next : World) (event : Event) → next.stage.durable ≡ world.stage.durable → (publish next).log ≡ next.log ++ event ∷ [] → (event ≡ Skipped) ⊎ GetsOn world (publish next)
    held_or_on next event level = of_test (λ (w : World). w.log ≡ next.log ++ event ∷ [] → (event ≡ Skipped) ⊎ GetsOn world w) (nat_lt next.stage.durable next.stage.stored) _ _
        (λ more log. inr (inr (omega (arith, ltb-true next.stage.durable next.stage.stored more, level))))
        (λ none log. inl (sym (last_same next.log Skipped event log)))

    stays_stopped : (next : World) → next.stage.stopped ≡ true → GetsOn world (publish next)
    stays_stopped next is = of_test (GetsOn world) (nat_lt next.stage.durable next.stage.stored) _ _ (λ more. inl is) (λ none. inl is)

    -- publishing puts nothing into a group, and stores nothing
    publish_level : (next : World) → next.stage.sealed ≡ next.stage.stored → (publish next).stage.sealed ≡ (publish next).stage.stored
    publish_level next is = of_test (λ (w : World). w.stage.sealed ≡ w.stage.stored) (nat_lt next.stage.durable next.stage.stored) _ _ (λ more. is) (λ none. is)

    -- what the three events tell
    module _ (appended : World) (sealed_event appended_event published_event : Event) (to : Failure) (sealed_is : sealed ≡ seal to world)
        (appended_log : appended.log ≡ sealed.log ++ appended_event ∷ []) (published_log : (publish appended).log ≡ appended.log ++ published_event ∷ []) where
      shown_as : (outcome : Result Bool Refusal) → StoredBy sealed_event appended_event published_event outcome → IsAppendedAs appended → CameTo world (publish appended) outcome
      shown_as (Ok true) told (inl memory) = absurd (told.1 (memory appended_event appended_log))
      shown_as (Ok true) told (inr (inl (stopped, event))) = stays_stopped appended stopped
      shown_as (Ok true) told (inr (inr (inl stored))) = gets_on appended stored
      shown_as (Ok true) told (inr (inr (inr (level, event, full, back)))) = either (held_or_on appended published_event level published_log)
        where
          either : (published_event ≡ Skipped) ⊎ GetsOn world (publish appended) → GetsOn world (publish appended)
          either (inl held) = absurd (told.2 (event appended_event appended_log) held)
          either (inr on) = on
      shown_as (Ok false) (sealing, appending, publishing) came = unfit came
        where
          memory_unlike : Skipped ≡ Failed fault.NoMemory → ⊥
          memory_unlike is = cc

          device_unlike : Skipped ≡ Failed fault.DeviceFault → ⊥
          device_unlike is = cc

          took_unlike : Skipped ≡ Took → ⊥
          took_unlike is = cc

          unfit : IsAppendedAs appended → IsUnfit world (publish appended)
          unfit (inl memory) = absurd (memory_unlike (sym appending ∙ memory appended_event appended_log))
          unfit (inr (inl (stopped, event))) = absurd (device_unlike (sym appending ∙ event appended_event appended_log))
          unfit (inr (inr (inl stored))) = absurd (took_unlike (sym publishing ∙ took appended published_event stored published_log))
          unfit (inr (inr (inr (level, event, here, back)))) = record { failure = to; full = subst HasFullArea sealed_is here; back = publish_level appended back }
      shown_as (Err refusal) told came = told

  -- what storing the next group comes to
  pub shown : (to on : Failure) (sealed_event appended_event published_event : Event) (outcome : Result Bool Refusal)
      → (seal to world).log ≡ world.log ++ sealed_event ∷ [] → (append on (seal to world)).log ≡ (seal to world).log ++ appended_event ∷ []
      → (publish (append on (seal to world))).log ≡ (append on (seal to world)).log ++ published_event ∷ [] → StoredBy sealed_event appended_event published_event outcome
      → CameTo world (publish (append on (seal to world))) outcome
  shown to on sealed_event appended_event published_event outcome sealed_log appended_log published_log told = as_sealed outcome told (sealed_as to)
    where
      as_sealed : (outcome : Result Bool Refusal) → StoredBy sealed_event appended_event published_event outcome → IsSealedAs (seal to world) → CameTo world (publish (append on (seal to world))) outcome
      as_sealed outcome told (inr sealed) =
          shown_as (seal to world) sealed (append on (seal to world)) sealed_event appended_event published_event to refl appended_log published_log outcome told (appended_as (seal to world) sealed on)
      as_sealed (Ok true) told (inl memory) = absurd (told.0 fault.NoMemory (memory sealed_event sealed_log))
      as_sealed (Ok false) told (inl memory) = absurd (told.0 fault.NoMemory (memory sealed_event sealed_log))
      as_sealed (Err refusal) told (inl memory) = told
