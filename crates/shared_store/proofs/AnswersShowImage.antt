-- Bytes and states that are answered are those of the image after the history, and a command that is accepted is what its edit becomes over that.
use Rattle.std.specs.Prelude.{IfOk, OnErr}
use Rattle.std.proofs.Common.{◌≡◌, ◌≢◌, ◌⊎◌, inl, inr, ℕ, zero, suc, ◌+◌, ◌*◌, ◌/◌, ◌%◌, ◌<◌, ◌≤◌, ◌==◌, Bool, true, false, if◌then◌else◌, Option, None, Some, List, [], ◌∷◌, ◌++◌, length, take, Result, Ok, Err, refl, ap, sym, ◌∙◌, subst, arith}
use Rattle.std.proofs.lemmas.Bool.{cases_Bool}
use mathlib.Core.List.{IsPrefix}
use Rattle.device_image.specs.Holds.{joined}
use Rattle.device_image.specs.Keeper.{KeeperState}
use Rattle.disk_model.specs.Disk.{State}
use Rattle.image_model.specs.Change.{Change}
use Rattle.image_model.specs.Edit.{becomes, blocks_met}
use Rattle.image_model.specs.Image.{Image, apply_all}
use Rattle.image_model.specs.declared.geometry.Geometry.{Geometry}
use Rattle.marks.specs.Known.{KeeperKnows}
use Rattle.nbd_wire.specs.Request.{Message}
use Rattle.nbd_wire.specs.declared.error.Errno.{Errno}
use Rattle.nbd_wire.specs.declared.head.RequestHead.{RequestHead}
use Rattle.nbd_wire.specs.declared.message.Answer.{Answer}
use Rattle.nbd_wire.specs.declared.message.Answer.TheVariants.{Bytes, Done, Refused, States}
use Rattle.order_book.specs.Order.{OrderState}
use Rattle.order_book.specs.Shown.{ShowsImage}
use Rattle.order_book.specs.declared.span.Span.{Span}
use Rattle.request_core.specs.Outcomes.{IsPassed, IsServedBy, IsServedHere}
use Rattle.request_core.specs.Reading.{IsHeldRead, IsRead, IsReadOverServed, IsStatusServed}
use Rattle.order_book.specs.Edits.{IsKnownBy}
use Rattle.request_core.specs.Serving.{IsWriteServed, ready_for, served_after}
use Rattle.request_core.specs.declared.serving.Served.{Served}
use Rattle.shared_cache.specs.Cache.{bytes_seen}
use Rattle.export_model.specs.Log.{edit_asked, flush_waits, waits_for_store}
use Rattle.export_model.specs.Shown.{bytes_from, cut_to, most_runs, read_status_of, runs_met, shown_by, status_of}
use Rattle.export_model.specs.declared.action.Action.{Action}
use Rattle.export_model.specs.declared.action.Action.TheVariants.{End, Serve}
use Rattle.export_model.specs.declared.step.Mode.{Mode}
use Rattle.shared_store.specs.Answers.{ServesImage, TellsImage}
use Rattle.shared_store.specs.Keepers.{IsOfHistory}
use Rattle.shared_store.specs.Orders.{AreRight, IsOrderOfHistory, KeepsImage, SpanRead, Trusting, behind_noted, image_at_noted_base}
use Rattle.shared_store.proofs.OrderKnowsHistory.{clean_at, noted_clean}
use Rattle.shared_store.proofs.UnlockedReadPremises.{told_by}
use Rattle.shared_store.proofs.ServingKeepsHistory.{gives_base, read_for}

bytes_same : (one other : Image) (place count : ℕ) → ((k : ℕ) → k < count → one.byte (place + k) ≡ other.byte (place + k)) → bytes_from one place count ≡ bytes_from other place count
unfolding bytes_from
bytes_same one other place zero same = refl
bytes_same one other place (suc count) same =
    let here : place + 0 ≡ place = omega arith in
    let first : one.byte place ≡ other.byte place = subst (λ (n : ℕ). one.byte n ≡ other.byte n) here (same 0 (omega arith)) in
    let next : (k : ℕ) → place + (k + 1) ≡ place + 1 + k = λ k. omega arith in
    let rest = bytes_same one other (place + 1) count (λ k below. subst (λ (n : ℕ). one.byte n ≡ other.byte n) (next k) (same (k + 1) (omega arith))) in
    λ i. first i ∷ rest i

-- two images show the same where they have the same states, and the same bytes in the range
pub shown_same : (one other : Image) (head : RequestHead) → ((block : ℕ) → one.kind block ≡ other.kind block)
    → ((k : ℕ) → k < head.length → one.byte (head.offset + k) ≡ other.byte (head.offset + k)) → shown_by one head ≡ shown_by other head
shown_same one other head kinds bytes =
    let read = bytes_same one other head.offset head.length bytes in
    λ i. if head.kind == 0
    then Bytes (record {
      offset = head.offset;
      bytes = read i;
      runs = cut_to head.offset head.length (runs_met (λ block. read_status_of (kinds block i)) head.offset head.length);
    })
    else States (cut_to head.offset head.length (take (most_runs head) (runs_met (λ block. status_of (kinds block i)) head.offset head.length)))

tells : (image : Image) (head : RequestHead) (answer : Answer) → answer ≡ shown_by image head → TellsImage image head answer
tells image head Done is = tt
tells image head (Refused errno) is = tt
tells image head (Bytes read) is = is
tells image head (States runs) is = is

seen_some : (seen : Option (List ℕ)) → seen ≢ None → (bytes : List ℕ) × (seen ≡ Some bytes)
seen_some None other = absurd (other refl)
seen_some (Some bytes) other = (bytes, refl)

-- an order, and what it comes to by a request with this head
module _ (image : Image) (head : RequestHead) (old new : OrderState) (result : Served) where
  refused_tells : (cookie : ℕ) (errno : Errno) → result ≡ ready_for cookie (Refused errno) → ServesImage (apply_all new.history image) head result
  refused_tells cookie errno answer = subst (λ (r : Served). ServesImage (apply_all new.history image) head r) (sym answer) tt

  -- the answer shows an image that has the states and the bytes of the one after the history
  shown_tells : (found : Image) (cookie : ℕ) → new.history ≡ old.history → ((block : ℕ) → found.kind block ≡ (apply_all old.history image).kind block)
      → ((k : ℕ) → k < head.length → found.byte (head.offset + k) ≡ (apply_all old.history image).byte (head.offset + k)) → result ≡ ready_for cookie (shown_by found head)
      → ServesImage (apply_all new.history image) head result
  shown_tells found cookie history kinds bytes answer =
      subst (λ (h : List Change). ServesImage (apply_all h image) head result) (sym history)
      (subst (λ (r : Served). ServesImage (apply_all old.history image) head r) (sym answer)
      (tells (apply_all old.history image) head (shown_by found head) (shown_same found (apply_all old.history image) head kinds bytes)))

-- the image after the history is the order's own, for a keeper that hasn't failed, whose seat knows all of the order
pub known_by : (opening : ℕ) (image : Image) (trusted : Type 0) (order : OrderState) → IsOrderOfHistory opening image trusted order → trusted
    → {D : Type 0} (device : Type 0) → device → (state : D → State) (honest : D → Type 0) (seat : KeeperKnows) (keeper : KeeperState D) → IsOfHistory state honest opening image device seat keeper
    → seat.history ≡ order.history → order.base ≤ keeper.base → keeper.failed ≡ false → IsKnownBy state honest keeper order (apply_all order.history image)
known_by opening image trusted order is sure device so state honest seat keeper stored known base works = record {
  sure = stored.sure so;
  base = apply_all stored.copied image;
  fronts = stored.fronts;
  last = stored.last;
  holds = stored.holds so works;
  shows = is.shows sure;
  clean = clean_at opening image trusted order is stored.copied (joined stored.fronts) stored.last
      (subst (λ (h : List Change). IsPrefix ((stored.copied ++ joined stored.fronts) ++ stored.last) h) known stored.within) (omega (arith, base, stored.base));
}

-- an order of which it is trusted that it shows the image after its history
module _ (opening : ℕ) (image : Image) (trusted : Type 0) (request : Message) (geometry : Geometry) (kept : Mode) (old new : OrderState) (is : IsOrderOfHistory opening image trusted old)
    (result : Served) (sure : trusted) where
  abbrev after : Image
  after = apply_all old.history image

  abbrev Tells : Type 0
  Tells = ServesImage (apply_all new.history image) request.head result

  -- the command that was accepted, if one was
  abbrev Over : Type 0
  Over = old.mark < new.mark → new.history ≡ old.history ++ becomes (edit_asked request) after ∷ []

  refused : (cookie : ℕ) (errno : Errno) → result ≡ ready_for cookie (Refused errno) → Tells
  refused = refused_tells image request.head old new result

  shown : (found : Image) (cookie : ℕ) → new.history ≡ old.history → ((block : ℕ) → found.kind block ≡ after.kind block)
      → ((k : ℕ) → k < request.head.length → found.byte (request.head.offset + k) ≡ after.byte (request.head.offset + k)) → result ≡ ready_for cookie (shown_by found request.head) → Tells
  shown = shown_tells image request.head old new result

  status : new ≡ old → IsStatusServed request.head old result → Tells
  status same (inl none) = refused request.head.cookie _ none
  status same (inr shows) =
      shown after request.head.cookie (ap (λ (o : OrderState). o.history) same) (λ block. refl) (λ k below. refl)
      (shows after (λ block. sym ((is.shows sure).states block)))

  by_waits : (waits : Bool) (cookie number : ℕ) → ServesImage (apply_all new.history image) request.head (served_after waits cookie number)
  by_waits true cookie number = tt
  by_waits false cookie number = tt

  written : (own : Image → Type 0) → IsWriteServed request geometry kept own old new result → Tells
  written own (inl full) = refused request.head.cookie _ full.2
  written own (inr (left, found, inl room)) = subst (λ (r : Served). ServesImage (apply_all new.history image) request.head r) (sym room.2) tt
  written own (inr (left, found, inr (inl none))) = refused request.head.cookie _ none.2
  written own (inr (left, found, inr (inr (taken, done)))) =
      subst (λ (r : Served). ServesImage (apply_all new.history image) request.head r) (sym done) (by_waits (waits_for_store kept request) request.head.cookie (old.mark + 1))

  passed : IsPassed request geometry kept old new result → Tells
  passed (inl stopped) = refused request.head.cookie _ stopped.2
  passed (inr (inl flush)) = subst (λ (r : Served). ServesImage (apply_all new.history image) request.head r) (sym flush.3) (by_waits (flush_waits kept) request.head.cookie old.mark)
  passed (inr (inr (inl found))) = status found.2 found.3
  passed (inr (inr (inr write))) = written (λ given. ShowsImage given old.cache) write.4

  held : new ≡ old → IsHeldRead request.head old result → Tells
  held same read =
      shown read.image request.head.cookie (ap (λ (o : OrderState). o.history) same) (λ block. read.kinds block ∙ (is.shows sure).states block) (read.own after (is.shows sure)) read.answer

  pub here : (given : Result Action Errno) → IsServedHere given request geometry kept old new result → Tells
  here (Ok End) by = absurd by
  here (Ok Serve) (inl by) = passed by
  here (Ok Serve) (inr (works, kind, same, inl none)) = refused request.head.cookie _ none
  here (Ok Serve) (inr (works, kind, same, inr read)) = held same read
  here (Err errno) by = refused request.head.cookie errno by.1

  -- nothing was accepted
  unmoved : new.mark ≡ old.mark → Over
  unmoved same more = absurd (omega (arith, same, more))

  as_it_was : new ≡ old → Over
  as_it_was same = unmoved (ap (λ (o : OrderState). o.mark) same)

  taken_over : (own : Image → Type 0) → IsWriteServed request geometry kept own old new result → own after → Over
  taken_over own (inl full) is_own = as_it_was full.1
  taken_over own (inr (left, found, inl room)) is_own = as_it_was room.1
  taken_over own (inr (left, found, inr (inl none))) is_own = as_it_was none.1
  taken_over own (inr (left, found, inr (inr (taken, done)))) is_own = λ more.
      ap (λ (o : OrderState). o.history) taken.more.2 ∙ ap (λ (c : Change). old.history ++ c ∷ []) (taken.more.1 ∙ taken.same after is_own)

  passed_over : IsPassed request geometry kept old new result → Over
  passed_over (inl stopped) = as_it_was stopped.1
  passed_over (inr (inl flush)) = as_it_was flush.2
  passed_over (inr (inr (inl found))) = as_it_was found.2
  passed_over (inr (inr (inr write))) = taken_over (λ given. ShowsImage given old.cache) write.4 (is.shows sure)

  pub here_over : (given : Result Action Errno) → IsServedHere given request geometry kept old new result → Over
  here_over (Ok End) by = absurd by
  here_over (Ok Serve) (inl by) = passed_over by
  here_over (Ok Serve) (inr read) = as_it_was read.2
  here_over (Err errno) by = as_it_was by.0

  -- with a keeper whose seat knows all of the order
  module _ {D : Type 0} (device : Type 0) (so : device) (state : D → State) (faults : D → ℕ) (honest : D → Type 0) (seat : KeeperKnows) (keeper next : KeeperState D) (stored : IsOfHistory state honest opening image device seat keeper)
      (known : seat.history ≡ old.history) (base : old.base ≤ keeper.base) where
    -- the image is the order's own, where the keeper hasn't failed
    own : keeper.failed ≡ false → IsKnownBy state honest keeper old after
    own = known_by opening image trusted old is sure device so state honest seat keeper stored known base

    read_bytes : (read : IsRead state faults honest request.head old new keeper next result) → (keeper.failed ≡ true) ⊎ (keeper.failed ≡ false)
        → (k : ℕ) → k < request.head.length → read.image.byte (request.head.offset + k) ≡ after.byte (request.head.offset + k)
    read_bytes read (inl failed) k below =
        let block : ℕ = (request.head.offset + k) / 4096 in
        let rest : ℕ = (request.head.offset + k) % 4096 in
        let place : 4096 * block + rest ≡ request.head.offset + k = omega arith in
        let found = seen_some (bytes_seen old.cache block) (read.there failed k below) in
        read.in_memory k found.0 below found.1 ∙ (is.shows sure).bytes block found.0 found.1 rest (omega arith) ∙ ap after.byte place
    read_bytes read (inr works) k below =
        let is_own = own works in
        read.own is_own.sure is_own.base after is_own.fronts is_own.last is_own.holds (is.shows sure) is_own.clean k below

    pub with_keeper : (given : Result Action Errno) → IsServedBy state faults honest given request geometry kept old new keeper next result → Tells
    with_keeper (Ok End) by = absurd by
    with_keeper (Ok Serve) (inl by) = passed by.1
    with_keeper (Ok Serve) (inr (inl (works, kind, inl none))) = refused request.head.cookie _ none.2
    with_keeper (Ok Serve) (inr (inl (works, kind, inr (inl read)))) =
        shown read.image request.head.cookie (ap (λ (o : OrderState). o.history) read.order) (λ block. read.kinds block ∙ (is.shows sure).states block) (read_bytes read (cases_Bool keeper.failed)) read.answer
    with_keeper (Ok Serve) (inr (inl (works, kind, inr (inr unread)))) = refused request.head.cookie _ unread.answer
    with_keeper (Ok Serve) (inr (inr (works, write, inl edit))) = written (IsKnownBy state honest keeper old) edit.served
    with_keeper (Ok Serve) (inr (inr (works, write, inr edit))) = refused request.head.cookie _ edit.unread.answer
    with_keeper (Err errno) by = refused request.head.cookie errno by.2

    edit_over : (keeper.failed ≡ true) ⊎ (keeper.failed ≡ false) → (keeper.failed ≡ true → new ≡ old) → IsWriteServed request geometry kept (IsKnownBy state honest keeper old) old new result → Over
    edit_over (inl failed) works by = as_it_was (works failed)
    edit_over (inr works) unused by = taken_over (IsKnownBy state honest keeper old) by (own works)

    pub with_over : (given : Result Action Errno) → IsServedBy state faults honest given request geometry kept old new keeper next result → Over
    with_over (Ok End) by = absurd by
    with_over (Ok Serve) (inl by) = passed_over by.1
    with_over (Ok Serve) (inr (inl (works, kind, inl none))) = as_it_was none.0
    with_over (Ok Serve) (inr (inl (works, kind, inr (inl read)))) = unmoved (ap (λ (o : OrderState). o.mark) read.order)
    with_over (Ok Serve) (inr (inl (works, kind, inr (inr unread)))) = unmoved (ap (λ (o : OrderState). o.mark) unread.order)
    with_over (Ok Serve) (inr (inr (works, write, inl edit))) = edit_over (cases_Bool keeper.failed) edit.works edit.served
    with_over (Ok Serve) (inr (inr (works, write, inr edit))) = unmoved (ap (λ (o : OrderState). o.mark) edit.unread.order)
    with_over (Err errno) by = as_it_was by.1

-- the same of a request that may need the keeper
module _ (opening : ℕ) (image : Image) (vouches : SpanRead → Type 0) (trusted : Type 0) (old new : OrderState) (is : KeepsImage opening image vouches trusted old) where
  abbrev Sure : Type 0
  Sure = trusted × AreRight opening image is.reads

  abbrev Trusts : Type 0 → Type 0
  Trusts = Trusting opening image vouches trusted

  pub if_tells : {E : Type 0} (request : Message) (geometry : Geometry) (kept : Mode) (given : Result Action Errno) (result : Result Served E) → IfOk result (λ served. IsServedHere given request geometry kept old new served)
      → IfOk result (λ served. Trusts (ServesImage (apply_all new.history image) request.head served))
  if_tells request geometry kept given (Ok served) by = told_by opening image vouches trusted old is (λ sure. here opening image Sure request geometry kept old new is.is served sure given by)
  if_tells request geometry kept given (Err back) by = tt

  pub if_accepts : {E : Type 0} (X : Type 0) (request : Message) (geometry : Geometry) (kept : Mode) (given : Result Action Errno) (result : Result Served E) → IfOk result (λ served. IsServedHere given request geometry kept old new served)
      → OnErr result ((new ≡ old) × X) → Trusts (old.mark < new.mark → new.history ≡ old.history ++ becomes (edit_asked request) (apply_all old.history image) ∷ [])
  if_accepts X request geometry kept given (Ok served) by unchanged = told_by opening image vouches trusted old is (λ sure. here_over opening image Sure request geometry kept old new is.is served sure given by)
  if_accepts X request geometry kept given (Err back) by unchanged = told_by opening image vouches trusted old is (λ sure more. absurd (let same = ap (λ (o : OrderState). o.mark) unchanged.0 in omega (arith, same, more)))

  -- bytes that were read before, which are the base's where they were needed
  pub if_over_tells : {E : Type 0} (head : RequestHead) (span : Span) (bytes : List ℕ) → 0 < head.length → length bytes ≡ 4096 * blocks_met head.offset head.length
      → ∥ vouches (read_for head span bytes old) ∥₁ → (result : Result Served E)
      → IfOk result (λ served. IsReadOverServed head span bytes old new served)
      → IfOk result (λ served. Trusts (ServesImage (apply_all new.history image) head served))
  if_over_tells head span bytes some size vouched (Ok served) (inl none) = told_by opening image vouches trusted old is (λ sure. refused_tells image head old new served head.cookie _ none.1)
  if_over_tells head span bytes some size vouched (Ok served) (inr read) =
      let after : Image = apply_all old.history image in record {
        reads = read_for head span bytes old ∷ is.reads;
        vouched = (vouched, is.vouched);
        so = λ sure right.
            let shows = is.is.shows (sure, right.1) in
            shown_tells image head old new served read.image head.cookie (ap (λ (o : OrderState). o.history) read.order) (λ block. read.kinds block ∙ shows.states block)
            (read.own (image_at_noted_base opening image old) after (behind_noted opening old) (gives_base head.offset head.length some span bytes old size read.inside opening image right.0) shows
            (noted_clean opening image Sure old is.is)) read.answer;
      }
  if_over_tells head span bytes some size vouched (Err back) over = tt
