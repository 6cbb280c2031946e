-- the run of a pipe, from the opening of its device to the end
use Rattle.std.proofs.Common.{◌≤◌, ◌≡◌, ◌⊎◌, inl, inr, ℕ, suc, ◌<◌, Bool, true, false, List, [], ◌∷◌, ◌++◌, length, arith, Option, Some, None, Result, Ok, Err, IfErr, refl, sym, ap, subst, ◌∙◌}
use Rattle.std.proofs.lemmas.List.{append-nil}
use Rattle.std.specs.List.{AllByRecursion}
use Rattle.checkpoint.specs.Opening.{IsOpening}
use Rattle.checkpoint.specs.declared.fault.KeeperFault.TheVariants.{NoMemory}
use Rattle.checkpoint.specs.laws.FirstSync.{each_left}
use Rattle.device_image.specs.Keeper.{KeeperState}
use Rattle.device_image.specs.Keeps.{Keeps}
use Rattle.device_image.specs.Stands.{holes}
use Rattle.disk_model.specs.Disk.{State, MayLeave}
use Rattle.disk_model.specs.Faults.{HasRisen}
use Rattle.image_model.specs.Image.{Image}
use Rattle.image_model.specs.Layout.{area_size_of}
use Rattle.nbd_wire.specs.Request.{Message}
use Rattle.nbd_wire.specs.declared.error.Errno.TheVariants.{Io}
use Rattle.nbd_wire.specs.declared.message.Answer.TheVariants.{Refused}
use Rattle.nbd_wire.specs.declared.message.SessionFlags.{SessionFlags}
use Rattle.order_book.specs.Order.{OrderState, new_order}
use Rattle.order_book.specs.Shown.{ShowsImage}
use Rattle.export_steps.specs.Bench.{ConnectionsState, new_connections}
use Rattle.export_steps.specs.Life.{LeadsLaw, Trusts, first_world}
use Rattle.export_steps.specs.Parts.{IsExportOf, StandsAfter}
use Rattle.export_model.specs.Fits.{EditsFit, ReadsFit}
use Rattle.export_model.specs.Log.{StandsAt}
use Rattle.export_model.specs.Run.{IsReached, Fresh}
use Rattle.export_model.specs.World.{Setting, World}
use Rattle.export_model.specs.declared.event.Event.{Event}
use Rattle.export_model.specs.declared.event.Event.TheVariants.{Sent, Answered, Numbered, Took, Skipped, Failed}
use Rattle.export_model.specs.declared.step.Mode.{Mode}
use Rattle.export_model.specs.Law.{HasFailed, IsWithin, TellsFault, TellsTruth}
use Rattle.nbdj_pipe.specs.Causes.{HasCause}
use Rattle.nbdj_pipe.specs.inner.Export.{Follows, IsSettled, Settles}
use Rattle.nbdj_pipe.specs.Life.{IsFound, IsLife, IsLived}
use Rattle.nbdj_pipe.specs.Pipe.{IsOrderly}
use Rattle.nbdj_pipe.specs.inner.Session.{HasTalked, IsEndOr, IsEndShown, Runs}
use Rattle.nbdj_pipe.specs.Talk.{Exchange, plain, spoken, talk, talk_to}
use Rattle.front_end.specs.declared.refusal.Refusal.{Refusal}
use Rattle.front_end.specs.declared.refusal.Refusal.TheVariants.{DeviceFault, StreamFault}
use Rattle.nbdj_pipe.proofs.Causes.{caused_before, caused_behind}
use Rattle.nbdj_pipe.proofs.Sessions.{not_device}
use Rattle.nbdj_pipe.proofs.Steps.{follows_on}
use Rattle.checkpoint.specs.Recovery.{IsRecovered}
use Rattle.image_model.specs.declared.command.Kind.{Kind}

-- what holds of each event of a log, by its place, holds of all that was said
module _ (P : Event → Type 0) where
  each_said : (log : List Event) → ((place : ℕ) (event : Event) → StandsAt log place event → P event) → AllByRecursion P (spoken log)
  each_said [] each = tt
  each_said (Sent c request ∷ log) each = (each 0 (Sent c request) refl, each_said log (λ place event at. each (suc place) event at))
  each_said (Answered c answer ∷ log) each = (each 0 (Answered c answer) refl, each_said log (λ place event at. each (suc place) event at))
  each_said (Numbered c number ∷ log) each = each_said log (λ place event at. each (suc place) event at)
  each_said (Took ∷ log) each = each_said log (λ place event at. each (suc place) event at)
  each_said (Skipped ∷ log) each = each_said log (λ place event at. each (suc place) event at)
  each_said (Failed fault ∷ log) each = each_said log (λ place event at. each (suc place) event at)

-- what each answer tells, of the exchanges of a talk
told_exchanges : (Q : Type 0) (exchanges : List Exchange) → AllByRecursion (λ event. TellsFault event → Q) (talk exchanges)
    → AllByRecursion (λ (exchange : Exchange). exchange.answer ≡ Refused Io → Q) exchanges
told_exchanges Q [] each = tt
told_exchanges Q (exchange ∷ exchanges) each = (each.1.0, told_exchanges Q exchanges each.1.1)

front_of : {X : Type 0} (P : X → Type 0) (xs ys : List X) → AllByRecursion P (xs ++ ys) → AllByRecursion P xs
front_of P [] ys each = tt
front_of P (x ∷ xs) ys each = (each.0, front_of P xs ys each.1)

told_talk : (Q : Type 0) (exchanges : List Exchange) (last : Option Message) → AllByRecursion (λ event. TellsFault event → Q) (talk_to exchanges last)
    → AllByRecursion (λ (exchange : Exchange). exchange.answer ≡ Refused Io → Q) exchanges
told_talk Q exchanges None each = told_exchanges Q exchanges each
told_talk Q exchanges (Some request) each = told_exchanges Q exchanges (front_of (λ event. TellsFault event → Q) (talk exchanges) (Sent 0 request ∷ []) each)

module _ {D : Type 0} (state : D → State) (faults : D → ℕ) (honest : D → Type 0) (law : LeadsLaw state faults honest) (truth : (world : World) → IsReached world → TellsTruth world) (within : (world : World) → IsReached world → IsWithin world)
    (fits_law : (world : World) → IsReached world → world.stage.setting.trusted ≡ true → ReadsFit world.log world.stage.order world.paired world.shown world.stage.setting.image)
    (edits_law : (world : World) → IsReached world → world.stage.setting.trusted ≡ true → EditsFit world.log world.stage.order world.paired world.stage.setting.image)
    (fresh_law : (trusted : Bool) (keeper : KeeperState D) (found : Image) (states : List Kind) (frames connections : ℕ) (flags : SessionFlags) (mode : Mode) → IsRecovered keeper → length states ≡ keeper.geometry.blocks → keeper.count < 18446744073709551616
    → (Trusts trusted (honest keeper.disk) → Keeps keeper (state keeper.disk) found keeper.count)
    → (Trusts trusted (honest keeper.disk) → ShowsImage found (new_order states keeper.count frames (area_size_of keeper.geometry.layout keeper.geometry.area)).cache) → (trusted ≡ true → honest keeper.disk)
    → IsExportOf (first_world trusted keeper found (faults keeper.disk) frames connections flags mode) (new_order states keeper.count frames (area_size_of keeper.geometry.layout keeper.geometry.area))
    keeper (faults keeper.disk) (new_connections connections flags mode) (Trusts trusted (honest keeper.disk)) (state keeper.disk))
    (start : D) (keeper keeper' keeper'' : KeeperState D) (order' order'' : OrderState) (connections' connections'' : ConnectionsState) (frames : ℕ) (enough : 512 ≤ frames) (mode : Mode)
    (states : List Kind) (recovered : IsRecovered keeper) (blocks : length states ≡ keeper.geometry.blocks) (few : keeper.count < 18446744073709551616) (count_same : faults keeper.disk ≡ faults start)
    (found : honest start → (content : List ℕ) × IsOpening (state start) state (Ok keeper) content)
    (shows_of : (image : Image) → Keeps keeper (state keeper.disk) image keeper.count → ShowsImage image (new_order states keeper.count frames (area_size_of keeper.geometry.layout keeper.geometry.area)).cache)
    (opened_on : honest start → honest keeper.disk)
    (back : honest keeper''.disk → honest keeper'.disk) (on : honest start → honest keeper''.disk)
    (end outcome : Result (Unit {0}) Refusal) (exchanges : List Exchange) (last : Option Message)
    (runs : Runs state faults honest (new_order states keeper.count frames (area_size_of keeper.geometry.layout keeper.geometry.area)) keeper (new_connections 1 plain mode) order' keeper' connections' exchanges last end)
    (settles : (world : World) (trusted : Bool) → IsExportOf world order' keeper' (faults keeper'.disk) connections' (Trusts trusted (honest keeper'.disk)) (state keeper'.disk)
    → (next : World) × Settles world next order'' keeper'' (faults keeper''.disk) connections'' (Trusts trusted (honest keeper''.disk)) (state keeper'.disk) (state keeper''.disk)
    × IsEndShown end outcome world next) where
  -- the image that the life begins with; on a device that isn't trusted any
  abbrev image_of : (trusted : Bool) → (trusted ≡ true → honest start) → Image
  image_of true given = (found (given refl)).1.outcome.0
  image_of false given = holes keeper.geometry.blocks

  keeps_of : (trusted : Bool) (given : trusted ≡ true → honest start) → Trusts trusted (honest keeper.disk) → Keeps keeper (state keeper.disk) (image_of trusted given) keeper.count
  keeps_of true given is = (found (given refl)).1.outcome.2
  keeps_of false given is = absurd is

  trusts_of : (trusted : Bool) → trusted ≡ true → (trusted ≡ true → honest start) → Trusts trusted (honest keeper''.disk)
  trusts_of true is given = on (given is)
  trusts_of false is given = cc

  found_of : (trusted : Bool) (given : trusted ≡ true → honest start) → trusted ≡ true
      → IsFound ((first_world trusted keeper (image_of trusted given) (faults keeper.disk) frames 1 plain mode).stage.setting) (state start) (state keeper.disk)
  found_of true given is =
      let (content, opening) = found (given refl) in
      let (image, stands, keeps, base, sizes, generation) = opening.outcome in
      record { content = content; fixed = opening.fixed; stands = stands; sizes = sizes; seen = keeps.stands; geometry = keeps.sizes; generation = keeps.generation; base = sym base ∙ keeps.from_base; any_moment = each_left (state start) state content opening.fixed (Ok keeper) opening.crash }
  found_of false given is = cc

  -- the device has failed since the life began
  abbrev HasFailedSince : Type 0
  HasFailedSince = HasRisen (faults start) (faults keeper''.disk)

  module _ (trusted : Bool) (given : trusted ≡ true → honest start) where
    abbrev image : Image
    image = image_of trusted given

    abbrev first : World
    first = first_world trusted keeper image (faults keeper.disk) frames 1 plain mode

    begun : (next : World) × HasTalked first next exchanges last × Follows first next (talk_to exchanges last) order' keeper' (faults keeper'.disk) connections' (Trusts trusted (honest keeper'.disk)) (state keeper.disk) (state keeper'.disk)
        × IfErr end (λ refusal. HasCause refusal first next)
    begun =
        runs first trusted (fresh_law trusted keeper image states frames 1 plain mode recovered blocks few (keeps_of trusted given)
        (λ is. shows_of image (keeps_of trusted given is)) (λ is. opened_on (given is))) (record { idle = refl; flags = refl; frames = enough })

    abbrev mid : World
    mid = begun.0

    settled : (next : World) × Settles mid next order'' keeper'' (faults keeper''.disk) connections'' (Trusts trusted (honest keeper''.disk)) (state keeper'.disk) (state keeper''.disk)
        × IsEndShown end outcome mid next
    settled = settles mid trusted begun.2.leads.of_export

    abbrev next : World
    next = settled.0

    whole : Follows first next (talk_to exchanges last) order'' keeper'' (faults keeper''.disk) connections'' (Trusts trusted (honest keeper''.disk)) (state keeper.disk) (state keeper''.disk)
    whole = subst (λ (said : List Event). Follows first next said order'' keeper'' (faults keeper''.disk) connections'' (Trusts trusted (honest keeper''.disk)) (state keeper.disk) (state keeper''.disk))
        (append-nil (talk_to exchanges last))
        (follows_on state faults honest law first mid next trusted (talk_to exchanges last) [] order' order'' keeper' keeper'' connections' connections'' keeper.disk back begun.2 settled.1.follows)

    same_count : first.stage.setting.failures ≡ faults start
    same_count = count_same

    failed_since : HasFailed next.stage → HasFailedSince
    failed_since is =
        subst (λ (n : ℕ). HasRisen n (faults keeper''.disk)) (ap (λ (s : Setting). s.failures) whole.setting ∙ same_count)
        (subst (λ (n : ℕ). HasRisen next.stage.setting.failures n) (sym whole.leads.of_export.of_keeper.faults) is)

    tells : TellsTruth next
    tells = truth next whole.leads.of_export.reached

    each_told : AllByRecursion (λ event. TellsFault event → HasFailedSince) (talk_to exchanges last)
    each_told = subst (AllByRecursion (λ event. TellsFault event → HasFailedSince)) whole.said_is
        (each_said (λ event. TellsFault event → HasFailedSince) next.log (λ place event at is. failed_since (tells.told place event at is)))

    all_stored : order''.durable ≡ order''.mark → next.stage.durable ≡ length next.stage.order
    all_stored is =
        let of = whole.leads.of_export.of_order in
        omega (arith, is, of.durable, of.mark)

    settled_stage : IsSettled order'' → (next.stage.stopped ≡ true) ⊎ (next.stage.durable ≡ length next.stage.order)
    settled_stage (inl is) = inl (sym whole.leads.of_export.of_order.stopped ∙ is)
    settled_stage (inr is) = inr (all_stored is)

    -- the device has counted no fault where the order works
    none_since : order''.stopped ≡ false → faults keeper''.disk ≡ faults start
    none_since is =
        let of = whole.leads.of_export in
        of.of_keeper.faults ∙ tells.quiet (sym of.of_order.stopped ∙ is) ∙ ap (λ (s : Setting). s.failures) whole.setting ∙ same_count

    -- what is durable is stored
    all_reached : trusted ≡ true → (content : List ℕ) → MayLeave (state keeper''.disk) content → StandsAfter next.stage.order image keeper.count next.stage.durable content
    all_reached is content left =
        let kept = (whole.leads.of_export.disk (trusts_of trusted is given)).leaves content left in
        subst (λ (s : Setting). StandsAfter next.stage.order s.image s.opening next.stage.durable content) whole.setting (record {
          count = kept.count;
          reaches = omega (arith, kept.reaches, (within next whole.leads.of_export.reached).durable);
          within = kept.within;
          stands = kept.stands;
        })

    -- what shows why the session ended shows it in the whole run
    shown : IsEndShown end outcome mid next → IfErr outcome (λ refusal. HasCause refusal first next)
    shown (inl same) = subst (λ (o : Result (Unit {0}) Refusal). IfErr o (λ refusal. HasCause refusal first next)) (sym same)
        (caused_before end first mid next settled.1.follows.steps settled.1.follows.leads.run begun.3)
    shown (inr is) = caused_behind outcome first mid next begun.2.steps begun.2.leads.run is

    life : (IsOrderly outcome → order''.durable ≡ order''.mark) → (IsOrderly outcome → order''.stopped ≡ false) → (outcome ≡ Err StreamFault → IsSettled order'') → IsLife state faults frames mode start keeper''.disk outcome trusted exchanges last
    life stored works_on broken_on = record {
      opened = keeper.disk;
      setting = first.stage.setting;
      next = next;
      steps = whole.steps;
      run = whole.leads.run;
      said = whole.said_is;
      flags = refl;
      kept = refl;
      most = refl;
      one = refl;
      answered = begun.1.answered;
      truth = told_talk HasFailedSince exchanges last each_told;
      stored = λ is. all_stored (stored is);
      quiet = λ is. none_since (works_on is);
      broken = λ is. settled_stage (broken_on is);
      cause = shown settled.2;
      shows = λ is. subst (ReadsFit next.log next.stage.order next.paired next.shown) (ap (λ (s : Setting). s.image) whole.setting)
          (fits_law next whole.leads.of_export.reached (ap (λ (s : Setting). s.trusted) whole.setting ∙ is));
      edits = λ is. subst (EditsFit next.log next.stage.order next.paired) (ap (λ (s : Setting). s.image) whole.setting)
          (edits_law next whole.leads.of_export.reached (ap (λ (s : Setting). s.trusted) whole.setting ∙ is));
      found = found_of trusted given;
      leaves = all_reached;
      durable = λ is. law.durable first next trusted whole.steps order'' keeper'' connections'' keeper.disk (Fresh first.stage.setting) whole.leads (trusts_of trusted is given);
    }

    -- the order is stopped only where the device has failed
    stopped_since : order''.stopped ≡ true → HasFailedSince
    stopped_since is = failed_since (tells.stopped (sym whole.leads.of_export.of_order.stopped ∙ is))

  pub lived : (IsOrderly outcome → order''.durable ≡ order''.mark) → (IsOrderly outcome → order''.stopped ≡ false) → (outcome ≡ Err StreamFault → IsSettled order'') → IsLived state faults honest frames mode start keeper''.disk exchanges last outcome
  lived stored works_on broken_on trusted given = life trusted given stored works_on broken_on

  -- a device fault that is told is one that the device has counted
  pub told_fault : (end ≡ Err DeviceFault → ⊥) → IsEndOr end outcome order''.stopped → outcome ≡ Err DeviceFault → HasRisen (faults start) (faults keeper''.disk)
  told_fault none (inl same) is = absurd (none (sym same ∙ is))
  told_fault none (inr (inl (refusal, early, same))) is = absurd (not_device refusal early (refusal_is (sym same ∙ is)))
    where
      refusal_is : (let other : Result (Unit {0}) Refusal = Err refusal in other ≡ Err DeviceFault) → refusal ≡ DeviceFault
      refusal_is is = cc
  told_fault none (inr (inr (is_orderly, same, stopped))) is = stopped_since false (λ e. cc) stopped
