-- which refusals an answer of the order isn't
use Rattle.std.specs.Prelude.{IfErr, OnOk}
use Rattle.std.specs.Result.{IsErrAnd}
use Rattle.std.proofs.Common.{◌≡◌, ◌≢◌, ◌⊎◌, ◌↔◌, ◌<◌, ℕ, Bool, true, false, if◌then◌else◌, nat_eq, Some, None, Result, Ok, Err, ap, inl, inr, refl, sym, subst, ◌∙◌, arith}
use Rattle.std.proofs.lemmas.Bool.{both_ways, eq-eqb, eqb-true}
use Rattle.checkpoint.specs.Keeper.{faults_by, refused_by}
use Rattle.checkpoint.specs.declared.fault.KeeperFault.{KeeperFault}
use Rattle.checkpoint.specs.declared.fault.KeeperFault.TheVariants as keeper_fault
use Rattle.device_image.specs.Keeper.{KeeperState}
use Rattle.image_model.specs.Change.{Change}
use Rattle.order_book.specs.Edits.{faults_after, keeper_after}
use Rattle.order_book.specs.Order.{OrderState, has_room_for, refusal_for}
use Rattle.order_book.specs.declared.fault.OrderFault.{OrderFault}
use Rattle.order_book.specs.declared.fault.OrderFault.TheVariants.{NoMemory, DeviceFault, NumbersFull, Failed, NoRoom, Stopped}
use Rattle.order_book.proofs.KeeperRefusalHandedOn.{err_of}

-- it is none but that of memory
pub record IsMemoryAlone (fault : OrderFault) : Type 0 where
  pub stopped : fault ≡ Stopped → ⊥
  pub full : fault ≡ NumbersFull → ⊥
  pub no_room : fault ≡ NoRoom → ⊥
  pub device : fault ≢ DeviceFault
  pub failed : fault ≢ Failed

pub memory_alone : (fault : OrderFault) → fault ≡ NoMemory → IsMemoryAlone fault
memory_alone fault is = record { stopped = λ same. cc; full = λ same. cc; no_room = λ same. cc; device = λ same. cc; failed = λ same. cc }

-- nothing refuses the change before any growth of memory
pub record IsFree (order : OrderState) (change : Change) : Type 0 where
  pub stopped : order.stopped ≡ true → ⊥
  pub full : (order.stopped ≡ false) × (order.mark ≡ 18446744073709551615) → ⊥
  pub no_room : has_room_for order change ≡ false → ⊥

pub free_of : (order : OrderState) (change : Change) → refusal_for order change ≡ None → IsFree order change
free_of order change free = by order.stopped (nat_eq order.mark 18446744073709551615) (has_room_for order change) refl refl refl free
  where
    by : (stopped full room : Bool) → order.stopped ≡ stopped → nat_eq order.mark 18446744073709551615 ≡ full → has_room_for order change ≡ room
        → (if stopped then Some Stopped else (if full then Some NumbersFull else (if room then None else Some NoRoom))) ≡ None → IsFree order change
    by true full room at_stopped at_full at_room is = cc
    by false true room at_stopped at_full at_room is = cc
    by false false false at_stopped at_full at_room is = cc
    by false false true at_stopped at_full at_room is = record {
      stopped = λ due. cc;
      full = λ due. both_ways true (sym (eq-eqb order.mark 18446744073709551615 due.1) ∙ at_full) refl;
      no_room = λ due. cc;
    }

abbrev Answer : Type 0 → Type 0
Answer T = Result ℕ (OrderFault × T)

module _ {T : Type 0} (outcome : Answer T) where
  -- a refusal that doesn't come, where it isn't due
  pub never : (fault : OrderFault) (X : Type 0) → IfErr outcome (λ refused. refused.0 ≡ fault → ⊥) → (X → ⊥) → IsErrAnd outcome (λ refused. refused.0 ≡ fault) ↔ X
  never fault X = by outcome
    where
      by : (o : Answer T) → IfErr o (λ refused. refused.0 ≡ fault → ⊥) → (X → ⊥) → IsErrAnd o (λ refused. refused.0 ≡ fault) ↔ X
      by (Ok number) apart none = (λ is. absurd is, λ due. absurd (none due))
      by (Err refused) apart none = (λ is. absurd (apart is), λ due. absurd (none due))

  pub each_err : (P Q : OrderFault → Type 0) → ((fault : OrderFault) → P fault → Q fault) → IfErr outcome (λ refused. P refused.0) → IfErr outcome (λ refused. Q refused.0)
  each_err P Q to = by outcome
    where
      by : (o : Answer T) → IfErr o (λ refused. P refused.0) → IfErr o (λ refused. Q refused.0)
      by (Ok number) holds = tt
      by (Err refused) holds = to refused.0 holds

  pub never_then : (fault : OrderFault) (X : Type 0) → IfErr outcome (λ refused. refused.0 ≡ fault → ⊥) → IsErrAnd outcome (λ refused. refused.0 ≡ fault) → X
  never_then fault X = by outcome
    where
      by : (o : Answer T) → IfErr o (λ refused. refused.0 ≡ fault → ⊥) → IsErrAnd o (λ refused. refused.0 ≡ fault) → X
      by (Ok number) apart is = absurd is
      by (Err refused) apart is = absurd (apart is)

  pub always : {X : Type 0} → X → OnOk outcome X
  always {X} = by outcome
    where
      by : (o : Answer T) → X → OnOk o X
      by (Ok number) holds = holds
      by (Err refused) holds = tt

  abbrev IsMemory : Type 0
  IsMemory = IfErr outcome (λ refused. refused.0 ≡ NoMemory)

  -- the keeper, and the faults of its device, where this isn't read
  abbrev pub IsHeld : OrderFault → Type 0
  IsHeld fault = (fault ≢ DeviceFault) × (fault ≢ Failed)

  pub keeper_same : {D : Type 0} (keeper : KeeperState D) → IfErr outcome (λ refused. IsHeld refused.0) → IfErr outcome (λ refused. keeper ≡ keeper_after refused.0 keeper keeper.disk)
  keeper_same keeper = each_err IsHeld (λ fault. keeper ≡ keeper_after fault keeper keeper.disk) same
    where
      same : (fault : OrderFault) → IsHeld fault → keeper ≡ keeper_after fault keeper keeper.disk
      same NoMemory apart = refl
      same DeviceFault apart = absurd (apart.0 refl)
      same NumbersFull apart = refl
      same Failed apart = refl
      same NoRoom apart = refl
      same Stopped apart = refl

  pub faults_same : (faults : ℕ) → IfErr outcome (λ refused. IsHeld refused.0) → IfErr outcome (λ refused. faults ≡ faults_after refused.0 faults)
  faults_same faults = each_err IsHeld (λ fault. faults ≡ faults_after fault faults) same
    where
      same : (fault : OrderFault) → IsHeld fault → faults ≡ faults_after fault faults
      same NoMemory apart = refl
      same DeviceFault apart = absurd (apart.0 refl)
      same NumbersFull apart = refl
      same Failed apart = refl
      same NoRoom apart = refl
      same Stopped apart = refl

  -- and where memory is refused once it was read
  pub keeper_read : {D : Type 0} (old new : KeeperState D) → new ≡ record old { disk = new.disk } → IsMemory → IfErr outcome (λ refused. new ≡ keeper_after refused.0 old new.disk)
  keeper_read old new is =
      each_err (λ fault. fault ≡ NoMemory) (λ fault. new ≡ keeper_after fault old new.disk)
      (λ fault none. subst (λ (f : OrderFault). new ≡ keeper_after f old new.disk) (sym none) is)

  pub faults_read : (faults next : ℕ) → next ≡ faults → IsMemory → IfErr outcome (λ refused. next ≡ faults_after refused.0 faults)
  faults_read faults next is =
      each_err (λ fault. fault ≡ NoMemory) (λ fault. next ≡ faults_after fault faults)
      (λ fault none. subst (λ (f : OrderFault). next ≡ faults_after f faults) (sym none) is)

-- the refusal that comes before any growth of memory
pub record IsDue (order : OrderState) (change : Change) (fault : OrderFault) : Type 0 where
  pub stopped : (fault ≡ Stopped) ↔ (order.stopped ≡ true)
  pub full : (fault ≡ NumbersFull) ↔ ((order.stopped ≡ false) × (order.mark ≡ 18446744073709551615))
  pub no_room : (fault ≡ NoRoom) ↔ ((order.stopped ≡ false) × (order.mark < 18446744073709551615) × (has_room_for order change ≡ false))
  pub no_device : (fault ≢ DeviceFault) × (fault ≢ Failed)

pub due_of : (order : OrderState) (change : Change) (fault : OrderFault) → order.mark < 18446744073709551616 → Some fault ≡ refusal_for order change → IsDue order change fault
due_of order change fault fits is = by order.stopped (nat_eq order.mark 18446744073709551615) (has_room_for order change) refl refl refl is
  where
    same : (given other : OrderFault) → Some given ≡ Some other → given ≡ other
    same given other is = cc

    by : (stopped full room : Bool) → order.stopped ≡ stopped → nat_eq order.mark 18446744073709551615 ≡ full → has_room_for order change ≡ room
        → Some fault ≡ (if stopped then Some Stopped else (if full then Some NumbersFull else (if room then None else Some NoRoom))) → IsDue order change fault
    by true full room at_stopped at_full at_room is =
        let it = same fault Stopped is in
        record {
          stopped = (λ e. at_stopped, λ due. it);
          full = (λ e. cc, λ due. cc);
          no_room = (λ e. cc, λ due. cc);
          no_device = (λ e. cc, λ e. cc);
        }
    by false true room at_stopped at_full at_room is =
        let it = same fault NumbersFull is in
        let last : order.mark ≡ 18446744073709551615 = eqb-true order.mark 18446744073709551615 at_full in
        record {
          stopped = (λ e. cc, λ due. cc);
          full = (λ e. (at_stopped, last), λ due. it);
          no_room = (λ e. cc, λ due. absurd (omega (arith, last, due.1)));
          no_device = (λ e. cc, λ e. cc);
        }
    by false false true at_stopped at_full at_room is = cc
    by false false false at_stopped at_full at_room is =
        let it = same fault NoRoom is in
        let more : order.mark ≡ 18446744073709551615 → ⊥ = λ last. both_ways true (sym (eq-eqb order.mark 18446744073709551615 last) ∙ at_full) refl in
        record {
          stopped = (λ e. cc, λ due. cc);
          full = (λ e. cc, λ due. absurd (more due.1));
          no_room = (λ e. (at_stopped, less more, at_room), λ due. it);
          no_device = (λ e. cc, λ e. cc);
        }
      where
        less : (order.mark ≡ 18446744073709551615 → ⊥) → order.mark < 18446744073709551615
        less more = omega (arith, fits, more)

-- none of these comes where nothing but memory refuses
module _ {T : Type 0} (outcome : Answer T) (order : OrderState) (change : Change) (free : refusal_for order change ≡ None) (memory : IsMemory outcome) where
  pub not_stopped : IsErrAnd outcome (λ refused. refused.0 ≡ Stopped) ↔ (order.stopped ≡ true)
  not_stopped = never outcome Stopped (order.stopped ≡ true) (each_err outcome (λ fault. fault ≡ NoMemory) (λ fault. fault ≡ Stopped → ⊥) (λ fault is. (memory_alone fault is).stopped) memory) (free_of order change free).stopped

  pub not_full : IsErrAnd outcome (λ refused. refused.0 ≡ NumbersFull) ↔ ((order.stopped ≡ false) × (order.mark ≡ 18446744073709551615))
  not_full = never outcome NumbersFull ((order.stopped ≡ false) × (order.mark ≡ 18446744073709551615)) (each_err outcome (λ fault. fault ≡ NoMemory) (λ fault. fault ≡ NumbersFull → ⊥) (λ fault is. (memory_alone fault is).full) memory) (free_of order change free).full

  pub not_no_room : IsErrAnd outcome (λ refused. refused.0 ≡ NoRoom) ↔ ((order.stopped ≡ false) × (order.mark < 18446744073709551615) × (has_room_for order change ≡ false))
  not_no_room =
      never outcome NoRoom ((order.stopped ≡ false) × (order.mark < 18446744073709551615) × (has_room_for order change ≡ false))
      (each_err outcome (λ fault. fault ≡ NoMemory) (λ fault. fault ≡ NoRoom → ⊥) (λ fault is. (memory_alone fault is).no_room) memory) (λ due. (free_of order change free).no_room due.2)

  pub not_device : IfErr outcome (λ refused. (refused.0 ≢ DeviceFault) × (refused.0 ≢ Failed))
  not_device = each_err outcome (λ fault. fault ≡ NoMemory) (IsHeld outcome) (λ fault is. ((memory_alone fault is).device, (memory_alone fault is).failed)) memory

-- the refusal of an edit whose old bytes weren't read
pub record IsUnread (refusal : KeeperFault) (fault : OrderFault) : Type 0 where
  pub only : (refusal ≡ keeper_fault.DeviceFault) ⊎ (refusal ≡ keeper_fault.Failed)
  pub device : refusal ≡ keeper_fault.DeviceFault → fault ≡ DeviceFault
  pub failed : refusal ≡ keeper_fault.Failed → fault ≡ Failed

module _ (refusal : KeeperFault) (fault : OrderFault) (is : IsUnread refusal fault) where
  early : (P : OrderFault → Type 0) → P DeviceFault → P Failed → P fault
  early P device failed = elim is.only [
    | inl at ↦ subst P (sym (is.device at)) device
    | inr at ↦ subst P (sym (is.failed at)) failed
  ]

  pub unread_never : (due : OrderFault) (X : Type 0) → (DeviceFault ≡ due → ⊥) → (Failed ≡ due → ⊥) → (X → ⊥) → (fault ≡ due) ↔ X
  unread_never due X device failed none = (λ at. absurd (early (λ f. f ≡ due → ⊥) device failed at), λ holds. absurd (none holds))

  pub unread_failed : {Y P Q : Type 0} → ◌≡◌ {A = Result Y KeeperFault} (Err refusal) (Err keeper_fault.Failed) ↔ P → (P → Q) → (Q → P) → (fault ≡ Failed) ↔ Q
  unread_failed whether to back = (
    λ at. to (whether.0 (ap Err (elim is.only [ inl device ↦ absurd (apart (sym (is.device device) ∙ at)) | inr failed ↦ failed ]))),
    λ holds. is.failed (err_of refusal keeper_fault.Failed (whether.1 (back holds))),
  )
    where
      apart : DeviceFault ≡ Failed → ⊥
      apart e = cc

  pub unread_keeper : {D : Type 0} (old new : KeeperState D) → new ≡ refused_by refusal old new.disk → new ≡ keeper_after fault old new.disk
  unread_keeper old new at = elim is.only [
    | inl device ↦ at ∙ ap (λ (f : KeeperFault). refused_by f old new.disk) device ∙ ap (λ (f : OrderFault). keeper_after f old new.disk) (sym (is.device device))
    | inr failed ↦ at ∙ ap (λ (f : KeeperFault). refused_by f old new.disk) failed ∙ ap (λ (f : OrderFault). keeper_after f old new.disk) (sym (is.failed failed))
  ]

  pub unread_faults : (old new : ℕ) → new ≡ faults_by refusal old → new ≡ faults_after fault old
  unread_faults old new at = elim is.only [
    | inl device ↦ at ∙ ap (λ (f : KeeperFault). faults_by f old) device ∙ ap (λ (f : OrderFault). faults_after f old) (sym (is.device device))
    | inr failed ↦ at ∙ ap (λ (f : KeeperFault). faults_by f old) failed ∙ ap (λ (f : OrderFault). faults_after f old) (sym (is.failed failed))
  ]

-- and it is none that comes before them
module _ (refusal : KeeperFault) (fault : OrderFault) (is : IsUnread refusal fault) (order : OrderState) (change : Change) (free : refusal_for order change ≡ None) where
  pub unread_stopped : (fault ≡ Stopped) ↔ (order.stopped ≡ true)
  unread_stopped = unread_never refusal fault is Stopped (order.stopped ≡ true) (λ e. cc) (λ e. cc) (free_of order change free).stopped

  pub unread_full : (fault ≡ NumbersFull) ↔ ((order.stopped ≡ false) × (order.mark ≡ 18446744073709551615))
  unread_full = unread_never refusal fault is NumbersFull ((order.stopped ≡ false) × (order.mark ≡ 18446744073709551615)) (λ e. cc) (λ e. cc) (free_of order change free).full

  pub unread_room : (fault ≡ NoRoom) ↔ ((order.stopped ≡ false) × (order.mark < 18446744073709551615) × (has_room_for order change ≡ false))
  unread_room =
      unread_never refusal fault is NoRoom ((order.stopped ≡ false) × (order.mark < 18446744073709551615) × (has_room_for order change ≡ false)) (λ e. cc) (λ e. cc)
      (λ due. (free_of order change free).no_room due.2)
