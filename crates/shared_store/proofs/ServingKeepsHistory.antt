-- Serving keeps what the order and the keeper know of the history.
use Rattle.std.specs.Prelude.{IfOk, OnErr}
use Rattle.std.proofs.Common.{◌≡◌, ◌⊎◌, inl, inr, ℕ, ◌+◌, ◌-◌, ◌*◌, ◌/◌, ◌%◌, ◌<◌, ◌≤◌, true, false, None, List, ◌∷◌, ◌++◌, length, Result, Ok, Err, ap, sym, ◌∙◌, subst, arith}
use Rattle.std.proofs.lemmas.Bool.{cases_Bool}
use mathlib.Core.List.{IsPrefix}
use Rattle.device_image.specs.Holds.{joined}
use Rattle.device_image.specs.Keeper.{KeeperState}
use Rattle.disk_model.specs.Disk.{IsSound, LeavesOnly, State}
use Rattle.image_model.specs.Change.{Change, IsChange, change_of}
use Rattle.image_model.specs.Edit.{becomes, blocks_met}
use Rattle.image_model.specs.Image.{Image, apply, apply_all}
use Rattle.image_model.specs.declared.command.Kind.{Kind}
use Rattle.image_model.specs.declared.geometry.Geometry.{Geometry}
use Rattle.marks.specs.Known.{KeeperKnows}
use Rattle.nbd_wire.specs.Request.{Message}
use Rattle.nbd_wire.specs.declared.error.Errno.{Errno}
use Rattle.nbd_wire.specs.declared.head.RequestHead.{RequestHead}
use Rattle.order_book.specs.Order.{OrderState}
use Rattle.order_book.specs.Reading.{GivesBase, LiesIn}
use Rattle.order_book.specs.Shown.{ShowsImage}
use Rattle.order_book.specs.declared.span.Span.{Span}
use Rattle.request_core.specs.Outcomes.{IsPassed, IsServedBy, IsServedHere}
use Rattle.request_core.specs.Reading.{IsRead, IsReadOverServed, IsUnread}
use Rattle.order_book.specs.Edits.{IsKnownBy}
use Rattle.request_core.specs.Serving.{IsWriteServed}
use Rattle.request_core.specs.declared.serving.Served.{Served}
use Rattle.export_model.specs.Log.{edit_asked}
use Rattle.export_model.specs.declared.action.Action.{Action}
use Rattle.export_model.specs.declared.action.Action.TheVariants.{End, Serve}
use Rattle.export_model.specs.declared.step.Mode.{Mode}
use Rattle.shared_store.specs.Keepers.{IsOfHistory}
use Rattle.shared_cache.specs.Cache.{bytes_seen}
use Rattle.shared_store.specs.Orders.{AreRight, IsOrderOfHistory, IsRight, KeepsImage, SpanRead, behind_noted, image_at_noted_base}
use Rattle.shared_store.specs.Parts.{StandsWithin}
use Rattle.shared_store.proofs.StoredBeginsHistory.{leaves_read, leaves_still, read_by, unread_by}
use Rattle.shared_store.proofs.OrderKnowsHistory.{cached, clean_at, more, noted_clean, stopped}
use Rattle.shared_store.proofs.UnlockedReadPremises.{weaker}

module _ (opening : ℕ) (image : Image) (trusted : Type 0) (request : Message) (geometry : Geometry) (kept : Mode) (old new : OrderState) (is : IsOrderOfHistory opening image trusted old)
    (result : Served) (blocks : geometry.blocks ≡ image.blocks) (sizes : length new.cache.states ≡ length old.cache.states) where
  abbrev Of : OrderState → Type 0
  Of order = IsOrderOfHistory opening image trusted order

  same_order : new ≡ old → Of new
  same_order same = subst Of (sym same) is

  written : (own : Image → Type 0) → IsWriteServed request geometry kept own old new result → Of new
  written own (inl full) = same_order full.1
  written own (inr (left, found, inl room)) = same_order room.1
  written own (inr (left, found, inr (inl none))) = same_order none.1
  written own (inr (left, found, inr (inr (taken, done)))) =
      let change : Change = becomes (edit_asked request) found in
      let is_change : change_of taken.more.0 ≡ change = taken.more.1 in
      more opening image trusted old is new taken.more.0 taken.more.2
      (subst (IsChange image.blocks) (sym is_change) (subst (λ (n : ℕ). IsChange n change) blocks taken.takes)) sizes
      (λ given shown. subst (λ (c : Change). ShowsImage (apply c given) new.cache) (sym is_change) (taken.shows given shown))

  passed : IsPassed request geometry kept old new result → Of new
  passed (inl halted) = same_order halted.1
  passed (inr (inl flush)) = same_order flush.2
  passed (inr (inr (inl status))) = same_order status.2
  passed (inr (inr (inr write))) = written (λ given. ShowsImage given old.cache) write.4

  pub here : (given : Result Action Errno) → IsServedHere given request geometry kept old new result → Of new
  here (Ok End) served = absurd served
  here (Ok Serve) (inl by) = passed by
  here (Ok Serve) (inr read) = same_order read.2
  here (Err errno) served = same_order served.0

  unread_order : new ≡ record old { stopped = true } → Of new
  unread_order same = subst Of (sym same) (stopped opening image trusted old is)

  -- with a keeper whose seat knows all of the order
  module _ {D : Type 0} (device : Type 0) (so : trusted → device) (state : D → State) (faults : D → ℕ) (honest : D → Type 0) (seat : KeeperKnows) (keeper next : KeeperState D) (stored : IsOfHistory state honest opening image device seat keeper)
      (known : seat.history ≡ old.history) (base : old.base ≤ keeper.base) where
    read_order : IsRead state faults honest request.head old new keeper next result → Of new
    read_order read = cached opening image trusted old is new read.order (ap (λ (l : List Kind). length l) read.states) shows
      where
        by_failed : trusted → (keeper.failed ≡ true) ⊎ (keeper.failed ≡ false) → ShowsImage (apply_all old.history image) new.cache
        by_failed sure (inl failed) = subst (λ (o : OrderState). ShowsImage (apply_all old.history image) o.cache) (sym (read.in_frames failed)) (is.shows sure)
        by_failed sure (inr works) =
            read.shows (stored.sure (so sure)) (apply_all stored.copied image) (apply_all old.history image) stored.fronts stored.last (stored.holds (so sure) works) (is.shows sure)
            (clean_at opening image trusted old is stored.copied (joined stored.fronts) stored.last
            (subst (λ (h : List Change). IsPrefix ((stored.copied ++ joined stored.fronts) ++ stored.last) h) known stored.within) (omega (arith, base, stored.base)))

        shows : trusted → ShowsImage (apply_all old.history image) new.cache
        shows sure = by_failed sure (cases_Bool keeper.failed)

    pub with_order : (given : Result Action Errno) → IsServedBy state faults honest given request geometry kept old new keeper next result → Of new
    with_order (Ok End) by = absurd by
    with_order (Ok Serve) (inl by) = passed by.1
    with_order (Ok Serve) (inr (inl (works, kind, inl none))) = same_order none.0
    with_order (Ok Serve) (inr (inl (works, kind, inr (inl read)))) = read_order read
    with_order (Ok Serve) (inr (inl (works, kind, inr (inr unread)))) = unread_order unread.order
    with_order (Ok Serve) (inr (inr (works, write, inl edit))) = written (IsKnownBy state honest keeper old) edit.served
    with_order (Ok Serve) (inr (inr (works, write, inr edit))) = unread_order edit.unread.order
    with_order (Err errno) by = same_order by.1

-- the keeper was read at most
module _ {D : Type 0} (state : D → State) (faults : D → ℕ) (honest : D → Type 0) (opening : ℕ) (image : Image) (trusted : Type 0) (seat : KeeperKnows) (keeper next : KeeperState D)
    (is : IsOfHistory state honest opening image trusted seat keeper) (extent : ℕ) (sound : honest next.disk → IsSound extent (state next.disk)) (kept : honest keeper.disk → honest next.disk)
    (request : Message) (geometry : Geometry) (mode : Mode) (old new : OrderState) (result : Served) where
  same_keeper : next ≡ keeper → IsOfHistory state honest opening image trusted seat next
  same_keeper same = subst (λ (k : KeeperState D). IsOfHistory state honest opening image trusted seat k) (sym same) is

  still : (size : ℕ) → (honest keeper.disk → IsSound size (state keeper.disk)) → trusted → next ≡ keeper → LeavesOnly (state keeper.disk) (state next.disk) (StandsWithin opening image seat.history keeper.count)
  still size before sure same = leaves_still state honest opening image trusted seat keeper is size next (before (is.sure sure)) sure (ap (λ (k : KeeperState D). k.disk) same)

  unread_keeper : IsUnread state faults honest request.head old new keeper next result → IsOfHistory state honest opening image trusted seat next
  unread_keeper unread = unread_by state honest opening image trusted seat keeper is extent unread.refusal next sound unread.keeper_is kept unread.only_read

  pub with_keeper : (given : Result Action Errno) → IsServedBy state faults honest given request geometry mode old new keeper next result → IsOfHistory state honest opening image trusted seat next
  with_keeper (Ok End) by = absurd by
  with_keeper (Ok Serve) (inl by) = same_keeper by.0
  with_keeper (Ok Serve) (inr (inl (works, kind, inl none))) = same_keeper none.1
  with_keeper (Ok Serve) (inr (inl (works, kind, inr (inl read)))) =
      read_by state honest opening image trusted seat keeper is extent next sound read.keeper_is kept read.only_read read.holds
  with_keeper (Ok Serve) (inr (inl (works, kind, inr (inr unread)))) = unread_keeper unread
  with_keeper (Ok Serve) (inr (inr (works, write, inl edit))) =
      read_by state honest opening image trusted seat keeper is extent next sound edit.keeper_is kept edit.only_read edit.holds
  with_keeper (Ok Serve) (inr (inr (works, write, inr edit))) = unread_keeper edit.unread
  with_keeper (Err errno) by = same_keeper by.0

  -- and a crash meanwhile leaves what was stored
  pub with_leaves : (size : ℕ) → (honest keeper.disk → IsSound size (state keeper.disk)) → trusted → (given : Result Action Errno) → IsServedBy state faults honest given request geometry mode old new keeper next result
      → LeavesOnly (state keeper.disk) (state next.disk) (StandsWithin opening image seat.history keeper.count)
  with_leaves size before sure (Ok End) by = absurd by
  with_leaves size before sure (Ok Serve) (inl by) = still size before sure by.0
  with_leaves size before sure (Ok Serve) (inr (inl (works, kind, inl none))) = still size before sure none.1
  with_leaves size before sure (Ok Serve) (inr (inl (works, kind, inr (inl read)))) = leaves_read state honest opening image trusted seat keeper is extent next sure read.only_read
  with_leaves size before sure (Ok Serve) (inr (inl (works, kind, inr (inr unread)))) = leaves_read state honest opening image trusted seat keeper is extent next sure unread.only_read
  with_leaves size before sure (Ok Serve) (inr (inr (works, write, inl edit))) = leaves_read state honest opening image trusted seat keeper is extent next sure edit.only_read
  with_leaves size before sure (Ok Serve) (inr (inr (works, write, inr edit))) = leaves_read state honest opening image trusted seat keeper is extent next sure edit.unread.only_read
  with_leaves size before sure (Err errno) by = still size before sure by.0

-- the same of a request that may need the keeper
pub if_here : {E : Type 0} (X : Type 0) (opening : ℕ) (image : Image) (trusted : Type 0) (request : Message) (geometry : Geometry) (kept : Mode) (old new : OrderState) → IsOrderOfHistory opening image trusted old
    → (given : Result Action Errno) (result : Result Served E) → geometry.blocks ≡ image.blocks → length new.cache.states ≡ length old.cache.states
    → IfOk result (λ served. IsServedHere given request geometry kept old new served) → OnErr result ((new ≡ old) × X) → IsOrderOfHistory opening image trusted new
if_here X opening image trusted request geometry kept old new is given (Ok served) blocks sizes by unchanged = here opening image trusted request geometry kept old new is served blocks sizes given by
if_here X opening image trusted request geometry kept old new is given (Err back) blocks sizes by unchanged = subst (λ (o : OrderState). IsOrderOfHistory opening image trusted o) (sym unchanged.0) is

-- a READ with bytes that were read before: each block that it needs and that isn't in memory lies in the span
module _ (offset count : ℕ) (some : 0 < count) (span : Span) (bytes : List ℕ) (order : OrderState) (size : length bytes ≡ 4096 * blocks_met offset count)
    (inside : (k : ℕ) → k < count → bytes_seen order.cache ((offset + k) / 4096) ≡ None → LiesIn ((offset + k) / 4096) span) where
  lies_in : (j : ℕ) → 4096 * j < length bytes → bytes_seen order.cache (offset / 4096 + j) ≡ None → LiesIn (offset / 4096 + j) span
  lies_in j below none = at (4096 * j - offset % 4096) (omega (arith, below, size, some)) (omega (arith, below, size, some))
    where
      at : (k : ℕ) → k < count → (offset + k) / 4096 ≡ offset / 4096 + j → LiesIn (offset / 4096 + j) span
      at k under same = subst (λ (b : ℕ). LiesIn b span) same (inside k under (ap (bytes_seen order.cache) same ∙ none))

  pub gives_base : (opening : ℕ) (image : Image) → IsRight opening image (record { first = offset / 4096; span = span; bytes = bytes; order = order })
      → GivesBase (offset / 4096) bytes order.cache (image_at_noted_base opening image order) (behind_noted opening order)
  gives_base opening image gives = λ j k below within none is_data unwritten. gives j k below within (lies_in j below none) none is_data unwritten

-- what a READ reads with no lock held
abbrev pub read_for : RequestHead → Span → List ℕ → OrderState → SpanRead
read_for head span bytes order = record { first = head.offset / 4096; span = span; bytes = bytes; order = order }

pub if_over : {E : Type 0} (opening : ℕ) (image : Image) (vouches : SpanRead → Type 0) (trusted : Type 0) (head : RequestHead) (span : Span) (bytes : List ℕ) (old new : OrderState)
    → KeepsImage opening image vouches trusted old → 0 < head.length → length bytes ≡ 4096 * blocks_met head.offset head.length
    → ∥ vouches (read_for head span bytes old) ∥₁ → (result : Result Served E)
    → IfOk result (λ served. IsReadOverServed head span bytes old new served) → OnErr result (new ≡ old) → KeepsImage opening image vouches trusted new
if_over opening image vouches trusted head span bytes old new is some size vouched (Ok served) (inl none) unchanged = subst (KeepsImage opening image vouches trusted) (sym none.0) is
if_over opening image vouches trusted head span bytes old new is some size vouched (Ok served) (inr read) unchanged =
    let reads : List SpanRead = read_for head span bytes old ∷ is.reads in
    let before : IsOrderOfHistory opening image (trusted × AreRight opening image reads) old =
    weaker opening image (trusted × AreRight opening image is.reads) (trusted × AreRight opening image reads) old (λ sure. (sure.0, sure.1.1)) is.is in
    record {
      reads = reads;
      vouched = (vouched, is.vouched);
      is = cached opening image (trusted × AreRight opening image reads) old before new read.order (ap (λ (l : List Kind). length l) read.states)
          (λ sure. read.shows (image_at_noted_base opening image old) (apply_all old.history image) (behind_noted opening old)
          (gives_base head.offset head.length some span bytes old size read.inside opening image sure.1.0) (before.shows sure) (noted_clean opening image (trusted × AreRight opening image reads) old before));
    }
if_over opening image vouches trusted head span bytes old new is some size vouched (Err back) over unchanged = subst (KeepsImage opening image vouches trusted) (sym unchanged) is
