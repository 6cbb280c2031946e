-- What a keeper has stored stays the beginning of the history.
use Rattle.std.specs.Prelude.{IfErr, IfOk, MatchBool, OnOk}
use Rattle.std.proofs.Common.{◌≡◌, ◌≢◌, ◌⊎◌, ◌↔◌, Result, Ok, Err, inl, inr, ℕ, ◌+◌, ◌<◌, ◌≤◌, Bool, true, false, IsTrue, List, [], ◌∷◌, ◌++◌, length, map, refl, ap, sym, ◌∙◌, subst, arith, append_assoc, length-append}
use Rattle.std.proofs.lemmas.Bool.{both_ways, cases_Bool, cases_eq, cases_lt}
use Rattle.std.proofs.lemmas.List.{append-nil}
use mathlib.Core.List.{IsPrefix}
use Rattle.checkpoint.specs.Keeper.{end_after, grown_by, refused_by}
use Rattle.checkpoint.specs.Recovery.{IsRecovered}
use Rattle.checkpoint.specs.Steps.{IsFinishTime, behind_first, copied_by, finished_by, first_turned, mapped_by, rotated_by}
use Rattle.checkpoint.specs.declared.fault.KeeperFault.{KeeperFault}
use Rattle.checkpoint.specs.declared.fault.KeeperFault.TheVariants as fault
use Rattle.device_image.specs.Holds.{Holds, joined}
use Rattle.device_image.specs.Keeper.{Copying, KeeperState, Mapped, Memory, One, Phase}
use Rattle.device_image.specs.Keeps.{Keeps}
use Rattle.device_image.specs.Stands.{StandsFor}
use Rattle.device_image.specs.laws.AfterCall.{joined-push, one_in_use}
use Rattle.device_image.specs.laws.Kept.{kept_content}
use Rattle.disk_model.specs.Disk.{IsSound, LeavesOnly, MayLeave, State}
use Rattle.disk_model.specs.laws.Moments.{begins, ends, goes_on, weakens}
use Rattle.image_model.specs.Change.{AreChanges, Change, change_of}
use Rattle.image_model.specs.Image.{Image, apply_all}
use Rattle.image_model.specs.declared.geometry.Geometry.{Geometry}
use Rattle.journal_format.specs.Group.{Numbered}
use Rattle.journal_format.specs.Reading.{IsOnlyRead}
use Rattle.marks.specs.Known.{KeeperKnows}
use Rattle.marks.specs.laws.Beginnings.{prefix_none, prefix_self, prefix_trans}
use Rattle.order_book.specs.Order.{IsPublishedTo, OrderState}
use Rattle.request_core.specs.laws.Commands.{apply_append, commands_length}
use Rattle.regions.specs.Layout.{area_size}
use Rattle.shared_store.specs.Keepers.{HasLeft, IsOfHistory, KeepsHistory, ends_of}
use Rattle.shared_store.specs.Parts.{IsPartOf, IsSealed, SealedState, StandsWithin}

-- of two beginnings of one list that are as long each is the other
pub prefix_same : {A : Type 0} (xs ys zs : List A) → IsPrefix xs zs → IsPrefix ys zs → length xs ≡ length ys → xs ≡ ys
prefix_same [] [] zs p q e = refl
prefix_same [] (y ∷ ys) zs p q e = absurd (omega arith)
prefix_same (x ∷ xs) [] zs p q e = absurd (omega arith)
prefix_same (x ∷ xs) (y ∷ ys) [] p q e = absurd (cc (p.1))
prefix_same (x ∷ xs) (y ∷ ys) (z ∷ zs) p q e =
    let heads : x ≡ y = cc (p.1, q.1) in
    let rest = prefix_same xs ys zs (p.0, cc (p.1)) (q.0, cc (q.1)) (omega arith) in cc (heads, rest)

pub prefix_front : {A : Type 0} (xs ys zs : List A) → IsPrefix (xs ++ ys) zs → IsPrefix xs zs
prefix_front xs ys zs p = (ys ++ p.0, sym (append_assoc xs ys p.0) ∙ p.1)

-- what stands within a history does so within a longer one
pub stands_longer : (opening : ℕ) (image : Image) (history longer : List Change) (least : ℕ) (content : List ℕ) → StandsWithin opening image history least content → IsPrefix history longer
    → StandsWithin opening image longer least content
stands_longer opening image history longer least content is grows = record {
  stored = is.stored;
  begins = prefix_trans is.stored history longer is.begins grows;
  reaches = is.reaches;
  stands = is.stands;
}

-- where one area is in use no checkpoint ends
none_to_finish : (phase : Phase) → phase ≡ One → IsFinishTime phase → ⊥
none_to_finish One one time = time
none_to_finish (Copying left) one time = time
none_to_finish Mapped one time = cc

-- one more area stands after others
ends-push : (number : ℕ) (fronts : List (List Change)) (last : List Change) → ends_of number (fronts ++ last ∷ []) ≡ ends_of number fronts ++ (number + length (joined fronts) + length last) ∷ []
ends-push number [] last = ap (λ (n : ℕ). n ∷ []) (omega arith)
ends-push number (front ∷ fronts) last =
    let all = length-append front (joined fronts) in
    ap (λ (l : List ℕ). (number + length front) ∷ l)
    (ends-push (number + length front) fronts last ∙ ap (λ (n : ℕ). ends_of (number + length front) fronts ++ n ∷ []) (omega (arith, all)))

-- the base goes up
pub first_after : (number : ℕ) (fronts : List (List Change)) → number ≤ first_turned number (ends_of number fronts)
first_after number [] = omega arith
first_after number (front ∷ fronts) = omega arith

full_is_other : fault.DeviceFault ≡ fault.AreaFull → ⊥
full_is_other is = cc

order_is_other : fault.DeviceFault ≡ fault.OutOfOrder → ⊥
order_is_other is = cc

failed_is_other : fault.DeviceFault ≡ fault.Failed → ⊥
failed_is_other is = cc

not_true_is : (b : Bool) → (IsTrue b → ⊥) → b ≡ false
not_true_is true none = absurd (none refl)
not_true_is false none = refl

-- the keeper of a device that was opened
pub opened : {D : Type 0} (state : D → State) (honest : D → Type 0) (opening : ℕ) (image : Image) (trusted : Type 0) (seat : KeeperKnows) (keeper : KeeperState D) → IsRecovered keeper → keeper.count ≡ opening
    → seat ≡ record { history = []; accepted = keeper.count; durable = keeper.count; base = keeper.count } → keeper.geometry.blocks ≡ image.blocks → (trusted → honest keeper.disk)
    → (trusted → Holds keeper (state keeper.disk) image [] []) → IsOfHistory state honest opening image trusted seat keeper
opened state honest opening image trusted seat keeper recovered count known blocks sure holds = record {
  copied = [];
  fronts = [];
  last = [];
  base = omega (arith, recovered.base, count);
  turned = recovered.turned;
  count = omega (arith, recovered.base);
  within = prefix_none seat.history;
  blocks = blocks;
  sure = sure;
  holds = λ is works. holds is;
  leaves = λ is failed. absurd (both_ways keeper.failed recovered.works failed);
  seat_durable = omega (arith, ap (λ (s : KeeperKnows). s.durable) known);
  seat_base = ap (λ (s : KeeperKnows). s.base) known ∙ sym recovered.base;
}

-- a seat that is published a count knows no less
pub grown_seat : (seat : KeeperKnows) (count : ℕ) (new : KeeperKnows) (order : OrderState) (b : Bool) → MatchBool b (IsPublishedTo seat order count new) (new ≡ seat) → IsPrefix seat.history new.history
grown_seat seat count new order true to = prefix_trans seat.history order.history new.history to.knew to.knows
grown_seat seat count new order false same = subst (λ (s : KeeperKnows). IsPrefix seat.history s.history) (sym same) (prefix_self seat.history)

module _ {D : Type 0} (state : D → State) (honest : D → Type 0) (opening : ℕ) (image : Image) (trusted : Type 0) where
  abbrev pub Of : KeeperKnows → KeeperState D → Type 0
  Of seat keeper = IsOfHistory state honest opening image trusted seat keeper

  -- the seat learns more of the history
  pub seated : (old new : KeeperKnows) (keeper : KeeperState D) → Of old keeper → IsPrefix old.history new.history → new.durable ≤ keeper.count → new.base ≡ old.base → Of new keeper
  seated old new keeper is grows durable base = record {
    copied = is.copied;
    fronts = is.fronts;
    last = is.last;
    base = is.base;
    turned = is.turned;
    count = is.count;
    within = prefix_trans ((is.copied ++ joined is.fronts) ++ is.last) old.history new.history is.within grows;
    blocks = is.blocks;
    sure = is.sure;
    holds = is.holds;
    leaves = λ sure failed content left. stands_longer opening image old.history new.history keeper.count content (is.leaves sure failed content left) grows;
    seat_durable = durable;
    seat_base = base ∙ is.seat_base;
  }

  module _ (seat : KeeperKnows) (keeper : KeeperState D) (is : Of seat keeper) where
    abbrev pub all : List Change
    all = (is.copied ++ joined is.fronts) ++ is.last

    pub all_count : keeper.count ≡ opening + length all
    all_count = omega (arith, is.base, is.count, length-append is.copied (joined is.fronts), length-append (is.copied ++ joined is.fronts) is.last)

    all_image : apply_all all image ≡ apply_all is.last (apply_all (joined is.fronts) (apply_all is.copied image))
    all_image = apply_append (is.copied ++ joined is.fronts) is.last image ∙ ap (apply_all is.last) (apply_append is.copied (joined is.fronts) image)

    -- it keeps the image after all that it has stored
    pub keeps_all : trusted → keeper.failed ≡ false → Keeps keeper (state keeper.disk) (apply_all all image) (opening + length all)
    keeps_all sure works =
        let holds = is.holds sure works in
        let number : keeper.base + length (joined is.fronts) + length is.last ≡ opening + length all = omega (arith, is.base, length-append is.copied (joined is.fronts), length-append (is.copied ++ joined is.fronts) is.last) in
        subst (λ (n : ℕ). Keeps keeper (state keeper.disk) (apply_all all image) n) number
        (subst (λ (i : Image). Keeps keeper (state keeper.disk) i (keeper.base + length (joined is.fronts) + length is.last)) (sym all_image) holds.keeps)

    -- so that is what a crash leaves
    pub leaves_all : trusted → (content : List ℕ) → MayLeave (state keeper.disk) content → StandsWithin opening image seat.history keeper.count content
    leaves_all sure content left = by_failed (cases_Bool keeper.failed)
      where
        by_failed : (keeper.failed ≡ true) ⊎ (keeper.failed ≡ false) → StandsWithin opening image seat.history keeper.count content
        by_failed (inl failed) = is.leaves sure failed content left
        by_failed (inr works) = record {
          stored = all;
          begins = is.within;
          reaches = omega (arith, all_count);
          stands = kept_content keeper (state keeper.disk) (apply_all all image) (opening + length all) (keeps_all sure works) content left;
        }

    -- a call of the device failed
    pub failed_by : (disk : D) → (honest keeper.disk → honest disk) → (trusted → (content : List ℕ) → MayLeave (state disk) content → StandsWithin opening image seat.history keeper.count content)
        → Of seat (record keeper { disk = disk; failed = true })
    failed_by disk kept left = record {
      copied = is.copied;
      fronts = is.fronts;
      last = is.last;
      base = is.base;
      turned = is.turned;
      count = is.count;
      within = is.within;
      blocks = is.blocks;
      sure = λ sure. kept (is.sure sure);
      holds = λ sure works. absurd (both_ways true works refl);
      leaves = λ sure failed. left sure;
      seat_durable = is.seat_durable;
      seat_base = is.seat_base;
    }

    -- a refusal, which a fault of the device alone gives a cause to say more of
    refused : (refusal : KeeperFault) (next : KeeperState D) → next ≡ refused_by refusal keeper next.disk → (honest keeper.disk → honest next.disk)
        → (refusal ≡ fault.DeviceFault → trusted → (content : List ℕ) → MayLeave (state next.disk) content → StandsWithin opening image seat.history keeper.count content) → Of seat next
    refused fault.NoMemory next same kept left = subst (Of seat) (sym same) is
    refused fault.DeviceFault next same kept left = subst (Of seat) (sym same) (failed_by next.disk kept (left refl))
    refused fault.BadMap next same kept left = subst (Of seat) (sym same) is
    refused fault.NoHeader next same kept left = subst (Of seat) (sym same) is
    refused fault.BadHeader next same kept left = subst (Of seat) (sym same) is
    refused fault.NumbersFull next same kept left = subst (Of seat) (sym same) is
    refused fault.AreaFull next same kept left = subst (Of seat) (sym same) is
    refused fault.OutOfOrder next same kept left = subst (Of seat) (sym same) is
    refused fault.DamagedGroup next same kept left = subst (Of seat) (sym same) is
    refused fault.NotNow next same kept left = subst (Of seat) (sym same) is
    refused fault.AreaSmall next same kept left = subst (Of seat) (sym same) is
    refused fault.Failed next same kept left = subst (Of seat) (sym same) is

  -- the same, where the seat has learned more meanwhile
  refused_as : (keeper : KeeperState D) (seat : KeeperKnows) (is : Of seat keeper) (refusal : KeeperFault) (next : KeeperState D) → next ≡ refused_by refusal keeper next.disk → (honest keeper.disk → honest next.disk)
      → (refusal ≡ fault.DeviceFault → trusted → (content : List ℕ) → MayLeave (state next.disk) content → StandsWithin opening image seat.history keeper.count content) → Of seat next
  refused_as keeper seat is = refused seat keeper is

  module _ (seat : KeeperKnows) (keeper : KeeperState D) (is : Of seat keeper) where
    -- a step of a checkpoint that failed left what the keeper kept
    pub left_by : (extent : ℕ) (next : KeeperState D) → IsSound extent (state next.disk) → trusted → keeper.failed ≡ false
        → ((found : Image) (number : ℕ) → Keeps keeper (state keeper.disk) found number → LeavesOnly (state keeper.disk) (state next.disk) (λ content. StandsFor content found number))
        → (content : List ℕ) → MayLeave (state next.disk) content → StandsWithin opening image seat.history keeper.count content
    left_by extent next sound sure works any_moment content left = record {
      stored = all seat keeper is;
      begins = is.within;
      reaches = let count = all_count seat keeper is in omega (arith, count);
      stands = ends (any_moment (apply_all (all seat keeper is) image) (opening + length (all seat keeper is)) (keeps_all seat keeper is sure works)) sound content left;
    }

    -- the keeper holds the same over the same image
    pub stays : (next : KeeperState D) → next.base ≡ keeper.base → next.turned ≡ keeper.turned → next.count ≡ keeper.count → next.geometry ≡ keeper.geometry
        → (honest keeper.disk → honest next.disk)
        → (trusted → next.failed ≡ false → Holds next (state next.disk) (apply_all is.copied image) is.fronts is.last)
        → (trusted → next.failed ≡ true → (content : List ℕ) → MayLeave (state next.disk) content → StandsWithin opening image seat.history keeper.count content)
        → Of seat next
    stays next base turned count geometry kept holds leaves = record {
      copied = is.copied;
      fronts = is.fronts;
      last = is.last;
      base = base ∙ is.base;
      turned = turned ∙ (is.turned ∙ ap (λ (n : ℕ). ends_of n is.fronts) (sym base));
      count = omega (arith, count, base, is.count);
      within = is.within;
      blocks = ap (λ (g : Geometry). g.blocks) geometry ∙ is.blocks;
      sure = λ sure. kept (is.sure sure);
      holds = holds;
      leaves = λ sure failed content left. subst (λ (n : ℕ). StandsWithin opening image seat.history n content) (sym count) (leaves sure failed content left);
      seat_durable = omega (arith, count, is.seat_durable);
      seat_base = is.seat_base ∙ sym base;
    }

    -- the device was read alone
    pub read_by : (extent : ℕ) (next : KeeperState D) → (honest next.disk → IsSound extent (state next.disk)) → next ≡ record keeper { disk = next.disk } → (honest keeper.disk → honest next.disk)
        → (honest keeper.disk → IsOnlyRead (state keeper.disk) (state next.disk))
        → (honest keeper.disk → (base : Image) (fronts : List (List Change)) (last : List Change) → Holds keeper (state keeper.disk) base fronts last → Holds next (state next.disk) base fronts last)
        → Of seat next
    read_by extent next sound same kept only holds =
        let failed : next.failed ≡ keeper.failed = ap (λ (k : KeeperState D). k.failed) same in
        stays next (ap (λ (k : KeeperState D). k.base) same) (ap (λ (k : KeeperState D). k.turned) same) (ap (λ (k : KeeperState D). k.count) same) (ap (λ (k : KeeperState D). k.geometry) same)
        kept
        (λ sure works. holds (is.sure sure) (apply_all is.copied image) is.fronts is.last (is.holds sure (sym failed ∙ works)))
        (λ sure failed content left. leaves_all seat keeper is sure content (ends (only (is.sure sure)).any_moment (sound (kept (is.sure sure))) content left))

    -- a read of the device failed
    pub unread_by : (extent : ℕ) (refusal : KeeperFault) (next : KeeperState D) → (honest next.disk → IsSound extent (state next.disk)) → next ≡ refused_by refusal keeper next.disk → (honest keeper.disk → honest next.disk)
        → (honest keeper.disk → IsOnlyRead (state keeper.disk) (state next.disk)) → Of seat next
    unread_by extent refusal next sound same kept only =
        refused seat keeper is refusal next same kept (λ cause sure content left. leaves_all seat keeper is sure content (ends (only (is.sure sure)).any_moment (sound (kept (is.sure sure))) content left))

    -- the next area is in use
    pub rotated : (disk : D) (memory : Memory) → keeper.failed ≡ false → (honest keeper.disk → honest disk)
        → (honest keeper.disk → (base : Image) (fronts : List (List Change)) (last : List Change) → Holds keeper (state keeper.disk) base fronts last → Holds (rotated_by keeper disk memory) (state disk) base (fronts ++ last ∷ []) [])
        → Of seat (rotated_by keeper disk memory)
    rotated disk memory works kept holds =
        let more = joined-push is.fronts is.last in
        let lists : (is.copied ++ joined is.fronts) ++ is.last ≡ (is.copied ++ joined (is.fronts ++ is.last ∷ [])) ++ [] =
        append_assoc is.copied (joined is.fronts) is.last ∙ (ap (λ (l : List Change). is.copied ++ l) (sym more) ∙ sym (append-nil (is.copied ++ joined (is.fronts ++ is.last ∷ [])))) in
        record {
          copied = is.copied;
          fronts = is.fronts ++ is.last ∷ [];
          last = [];
          base = is.base;
          turned = (λ i. is.turned i ++ is.count i ∷ []) ∙ sym (ends-push keeper.base is.fronts is.last);
          count = omega (arith, is.count, ap (λ (l : List Change). length l) more, length-append (joined is.fronts) is.last);
          within = subst (λ (l : List Change). IsPrefix l seat.history) lists is.within;
          blocks = is.blocks;
          sure = λ sure. kept (is.sure sure);
          holds = λ sure still. holds (is.sure sure) (apply_all is.copied image) is.fronts is.last (is.holds sure works);
          leaves = λ sure failed. absurd (both_ways keeper.failed works failed);
          seat_durable = is.seat_durable;
          seat_base = is.seat_base;
        }

    -- map and data hold what the first area did, and the seat knows the base
    pub finished : (disk : D) (memory : Memory) → keeper.failed ≡ false → (keeper.phase ≡ One → ⊥) → (honest keeper.disk → honest disk)
        → (honest keeper.disk → (base : Image) (first : List Change) (others : List (List Change)) (last : List Change) → Holds keeper (state keeper.disk) base (first ∷ others) last
        → Holds (finished_by keeper disk memory) (state disk) (apply_all first base) others last)
        → Of (record seat { base = first_turned keeper.base keeper.turned }) (finished_by keeper disk memory)
    finished disk memory works several kept holds = by_fronts is.fronts refl
      where
        by_fronts : (fronts : List (List Change)) → is.fronts ≡ fronts → Of (record seat { base = first_turned keeper.base keeper.turned }) (finished_by keeper disk memory)
        by_fronts [] none =
            let ends : keeper.turned ≡ [] = is.turned ∙ ap (ends_of keeper.base) none in
            let still : first_turned keeper.base keeper.turned ≡ keeper.base = ap (first_turned keeper.base) ends in
            record {
              copied = is.copied;
              fronts = [];
              last = is.last;
              base = still ∙ is.base;
              turned = ap behind_first ends;
              count = omega (arith, is.count, still, ap (λ (f : List (List Change)). length (joined f)) none);
              within = subst (λ (f : List (List Change)). IsPrefix ((is.copied ++ joined f) ++ is.last) seat.history) none is.within;
              blocks = is.blocks;
              sure = λ sure. kept (is.sure sure);
              holds = λ sure still. absurd (several (one_in_use keeper (state keeper.disk) (apply_all is.copied image) is.last
                  (subst (λ (f : List (List Change)). Holds keeper (state keeper.disk) (apply_all is.copied image) f is.last) none (is.holds sure works))));
              leaves = λ sure failed. absurd (both_ways keeper.failed works failed);
              seat_durable = is.seat_durable;
              seat_base = refl;
            }
        by_fronts (first ∷ others) are =
            let ends : keeper.turned ≡ (keeper.base + length first) ∷ ends_of (keeper.base + length first) others = is.turned ∙ ap (ends_of keeper.base) are in
            let reached : first_turned keeper.base keeper.turned ≡ keeper.base + length first = ap (first_turned keeper.base) ends in
            let lists : (is.copied ++ joined is.fronts) ++ is.last ≡ ((is.copied ++ first) ++ joined others) ++ is.last =
            ap (λ (f : List (List Change)). (is.copied ++ joined f) ++ is.last) are ∙ ap (λ (l : List Change). l ++ is.last) (sym (append_assoc is.copied first (joined others))) in
            record {
              copied = is.copied ++ first;
              fronts = others;
              last = is.last;
              base = omega (arith, reached, is.base, length-append is.copied first);
              turned = ap behind_first ends ∙ ap (λ (n : ℕ). ends_of n others) (sym reached);
              count = omega (arith, is.count, reached, ap (λ (f : List (List Change)). length (joined f)) are, length-append first (joined others));
              within = subst (λ (l : List Change). IsPrefix l seat.history) lists is.within;
              blocks = is.blocks;
              sure = λ sure. kept (is.sure sure);
              holds = λ sure still. subst (λ (i : Image). Holds (finished_by keeper disk memory) (state disk) i others is.last) (sym (apply_append is.copied first image))
                  (holds (is.sure sure) (apply_all is.copied image) first others is.last
                  (subst (λ (f : List (List Change)). Holds keeper (state keeper.disk) (apply_all is.copied image) f is.last) are (is.holds sure works)));
              leaves = λ sure failed. absurd (both_ways keeper.failed works failed);
              seat_durable = is.seat_durable;
              seat_base = refl;
            }

    -- a crash at any moment of a call leaves what was stored before it
    stands_all : (content : List ℕ) → StandsFor content (apply_all (all seat keeper is) image) (opening + length (all seat keeper is)) → StandsWithin opening image seat.history keeper.count content
    stands_all content stands = record {
      stored = all seat keeper is;
      begins = is.within;
      reaches = let count = all_count seat keeper is in omega (arith, count);
      stands = stands;
    }

    abbrev pub Leaves : KeeperState D → Type 0
    Leaves next = LeavesOnly (state keeper.disk) (state next.disk) (StandsWithin opening image seat.history keeper.count)

    pub leaves_still : (extent : ℕ) (next : KeeperState D) → IsSound extent (state keeper.disk) → trusted → next.disk ≡ keeper.disk → Leaves next
    leaves_still extent next sound sure same =
        subst (λ (d : D). LeavesOnly (state keeper.disk) (state d) (StandsWithin opening image seat.history keeper.count)) (sym same) (begins sound (leaves_all seat keeper is sure))

    pub leaves_read : (extent : ℕ) (next : KeeperState D) → trusted → (honest keeper.disk → IsOnlyRead (state keeper.disk) (state next.disk)) → Leaves next
    leaves_read extent next sure only = weakens (only (is.sure sure)).any_moment (leaves_all seat keeper is sure)

    pub leaves_step : {T : Type 0} (extent : ℕ) (next : KeeperState D) → (honest keeper.disk → IsSound extent (state keeper.disk)) → (result : Result T KeeperFault)
        → IfErr result (λ refusal. next ≡ refused_by refusal keeper next.disk) → (result ≡ Err fault.Failed) ↔ IsTrue keeper.failed
        → (honest keeper.disk → (found : Image) (number : ℕ) → Keeps keeper (state keeper.disk) found number → LeavesOnly (state keeper.disk) (state next.disk) (λ content. StandsFor content found number))
        → trusted → Leaves next
    leaves_step {T} extent next sound result err failed any_moment sure = by_failed (cases_Bool keeper.failed)
      where
        by_failed : (keeper.failed ≡ true) ⊎ (keeper.failed ≡ false) → Leaves next
        by_failed (inl broken) =
            let same : next ≡ keeper = subst (λ (r : Result T KeeperFault). IfErr r (λ refusal. next ≡ refused_by refusal keeper next.disk)) (failed.1 broken) err in
            leaves_still extent next (sound (is.sure sure)) sure (ap (λ (k : KeeperState D). k.disk) same)
        by_failed (inr works) = weakens (any_moment (is.sure sure) (apply_all (all seat keeper is) image) (opening + length (all seat keeper is)) (keeps_all seat keeper is sure works)) stands_all

    -- a step of a checkpoint, which a refusal may end
    module _ (extent : ℕ) (next : KeeperState D) (sound : honest next.disk → IsSound extent (state next.disk)) (kept : honest keeper.disk → honest next.disk) where
      unfailed : {T : Type 0} (result : Result T KeeperFault) (other : KeeperFault) → (result ≡ Err fault.Failed) ↔ IsTrue keeper.failed → result ≡ Err other → (other ≡ fault.Failed → ⊥) → keeper.failed ≡ false
      unfailed result other failed is unlike = not_true_is keeper.failed (λ was. let e = failed.1 was in unlike (cc (e, is)))

      pub worked : {T : Type 0} (value : T) → (Ok value ≡ Err fault.Failed) ↔ IsTrue keeper.failed → keeper.failed ≡ false
      worked value failed = not_true_is keeper.failed (λ was. let e = failed.1 was in cc)

      pub step_refused : {T : Type 0} (refusal : KeeperFault) (result : Result T KeeperFault) → result ≡ Err refusal → next ≡ refused_by refusal keeper next.disk → (result ≡ Err fault.Failed) ↔ IsTrue keeper.failed
          → (honest keeper.disk → (found : Image) (number : ℕ) → Keeps keeper (state keeper.disk) found number → LeavesOnly (state keeper.disk) (state next.disk) (λ content. StandsFor content found number))
          → Of seat next
      step_refused refusal result told same failed any_moment =
          refused seat keeper is refusal next same kept
          (λ cause sure. left_by extent next (sound (kept (is.sure sure))) sure (unfailed result refusal failed told (λ e. failed_is_other (sym cause ∙ e))) (any_moment (is.sure sure)))

      -- the same numbers, and the same held
      step_stays : keeper.failed ≡ false → next.failed ≡ keeper.failed → next.base ≡ keeper.base → next.turned ≡ keeper.turned → next.count ≡ keeper.count → next.geometry ≡ keeper.geometry
          → (honest keeper.disk → (base : Image) (fronts : List (List Change)) (last : List Change) → Holds keeper (state keeper.disk) base fronts last → Holds next (state next.disk) base fronts last) → Of seat next
      step_stays works failed base turned count geometry holds =
          stays next base turned count geometry kept
          (λ sure still. holds (is.sure sure) (apply_all is.copied image) is.fronts is.last (is.holds sure works))
          (λ sure broken. absurd (both_ways keeper.failed works (sym failed ∙ broken)))

      pub copied : (most : ℕ) (result : Result ℕ KeeperFault) → IfOk result (λ blocks. (1 ≤ blocks) × (blocks ≤ most) × (next ≡ copied_by keeper blocks next.disk next.memory))
          → IfErr result (λ refusal. next ≡ refused_by refusal keeper next.disk) → (result ≡ Err fault.Failed) ↔ IsTrue keeper.failed
          → (honest keeper.disk → (base : Image) (fronts : List (List Change)) (last : List Change) → Holds keeper (state keeper.disk) base fronts last → OnOk result (Holds next (state next.disk) base fronts last))
          → (honest keeper.disk → (found : Image) (number : ℕ) → Keeps keeper (state keeper.disk) found number → LeavesOnly (state keeper.disk) (state next.disk) (λ content. StandsFor content found number))
          → Of seat next
      copied most (Ok blocks) ok err failed held any_moment =
          let same = ok.2 in
          step_stays (worked blocks failed) (ap (λ (k : KeeperState D). k.failed) same) (ap (λ (k : KeeperState D). k.base) same) (ap (λ (k : KeeperState D). k.turned) same) (ap (λ (k : KeeperState D). k.count) same)
          (ap (λ (k : KeeperState D). k.geometry) same) held
      copied most (Err refusal) ok err failed held any_moment = step_refused refusal (Err refusal) refl err failed any_moment

      pub mapped : {T : Type 0} (result : Result T KeeperFault) → OnOk result (next ≡ mapped_by keeper next.disk next.memory)
          → IfErr result (λ refusal. next ≡ refused_by refusal keeper next.disk) → (result ≡ Err fault.Failed) ↔ IsTrue keeper.failed
          → (honest keeper.disk → (base : Image) (fronts : List (List Change)) (last : List Change) → Holds keeper (state keeper.disk) base fronts last → OnOk result (Holds next (state next.disk) base fronts last))
          → (honest keeper.disk → (found : Image) (number : ℕ) → Keeps keeper (state keeper.disk) found number → LeavesOnly (state keeper.disk) (state next.disk) (λ content. StandsFor content found number))
          → Of seat next
      mapped (Ok value) same err failed held any_moment =
          step_stays (worked value failed) (ap (λ (k : KeeperState D). k.failed) same) (ap (λ (k : KeeperState D). k.base) same) (ap (λ (k : KeeperState D). k.turned) same) (ap (λ (k : KeeperState D). k.count) same)
          (ap (λ (k : KeeperState D). k.geometry) same) held
      mapped (Err refusal) ok err failed held any_moment = step_refused refusal (Err refusal) refl err failed any_moment

      pub turned : {T : Type 0} (result : Result T KeeperFault) → OnOk result (next ≡ rotated_by keeper next.disk next.memory)
          → IfErr result (λ refusal. next ≡ refused_by refusal keeper next.disk) → (result ≡ Err fault.Failed) ↔ IsTrue keeper.failed
          → (honest keeper.disk → (base : Image) (fronts : List (List Change)) (last : List Change) → Holds keeper (state keeper.disk) base fronts last → OnOk result (Holds next (state next.disk) base (fronts ++ last ∷ []) []))
          → (honest keeper.disk → (found : Image) (number : ℕ) → Keeps keeper (state keeper.disk) found number → LeavesOnly (state keeper.disk) (state next.disk) (λ content. StandsFor content found number))
          → Of seat next
      turned (Ok value) same err failed held any_moment =
          subst (Of seat) (sym same)
          (rotated next.disk next.memory (worked value failed) kept
          (λ sure base fronts last holds. subst (λ (k : KeeperState D). Holds k (state next.disk) base (fronts ++ last ∷ []) []) same (held sure base fronts last holds)))
      turned (Err refusal) ok err failed held any_moment = step_refused refusal (Err refusal) refl err failed any_moment

      pub ended : {T : Type 0} (value : T) → keeper.failed ≡ false → next ≡ finished_by keeper next.disk next.memory → (Ok value ≡ Err fault.NotNow) ↔ ((keeper.failed ≡ false) × (IsFinishTime keeper.phase → ⊥))
          → (honest keeper.disk → (base : Image) (first : List Change) (others : List (List Change)) (last : List Change) → Holds keeper (state keeper.disk) base (first ∷ others) last
          → Holds next (state next.disk) (apply_all first base) others last)
          → Of (record seat { base = next.base }) next
      ended value works same not_now held =
          subst (λ (k : KeeperState D). Of (record seat { base = k.base }) k) (sym same)
          (finished next.disk next.memory works (λ one. let e = not_now.1 (works, none_to_finish keeper.phase one) in cc) kept
          (λ sure base first others last holds. subst (λ (k : KeeperState D). Holds k (state next.disk) (apply_all first base) others last) same (held sure base first others last holds)))

    -- the order made durable what is stored
    pub published : (new : KeeperKnows) (order : OrderState) (b : Bool) → MatchBool b (IsPublishedTo seat order keeper.count new) (new ≡ seat) → Of new keeper
    published new order true to =
        seated seat new keeper is (grown_seat seat keeper.count new order true to) (omega (arith, to.durable, is.seat_durable)) to.base.1
    published new order false same = subst (λ (s : KeeperKnows). Of s keeper) (sym same) is

    -- a group of the history that follows what is stored
    module _ (new : KeeperKnows) (group : Numbered) (told : List Change) (part : IsPartOf opening told group.first (map change_of group.commands)) (grows : IsPrefix seat.history new.history)
        (known : IsPrefix told new.history) (follows : group.first ≡ keeper.count + 1) where
      abbrev commands : List Change
      commands = map change_of group.commands

      behind : part.before ≡ all seat keeper is
      behind =
          prefix_same part.before (all seat keeper is) new.history (prefix_front part.before commands new.history (prefix_trans (part.before ++ commands) told new.history part.within known))
          (prefix_trans (all seat keeper is) seat.history new.history is.within grows) (let count = all_count seat keeper is in omega (arith, part.number, follows, count))

      pub all_within : IsPrefix (all seat keeper is ++ commands) new.history
      all_within = subst (λ (l : List Change). IsPrefix (l ++ commands) new.history) behind (prefix_trans (part.before ++ commands) told new.history part.within known)

      pub appended : (disk : D) (memory : Memory) → new.durable ≡ seat.durable → new.base ≡ seat.base → keeper.failed ≡ false → AreChanges image.blocks commands → (honest keeper.disk → honest disk)
          → (honest keeper.disk → (base : Image) (fronts : List (List Change)) (last : List Change) → Holds keeper (state keeper.disk) base fronts last → AreChanges keeper.geometry.blocks commands
          → Holds (grown_by keeper group disk memory) (state disk) base fronts (last ++ commands))
          → Of new (grown_by keeper group disk memory)
      appended disk memory durable base works takes kept holds = record {
        copied = is.copied;
        fronts = is.fronts;
        last = is.last ++ commands;
        base = is.base;
        turned = is.turned;
        count = omega (arith, is.count, length-append is.last commands, commands_length group);
        within = subst (λ (l : List Change). IsPrefix l new.history) (append_assoc (is.copied ++ joined is.fronts) is.last commands) all_within;
        blocks = is.blocks;
        sure = λ sure. kept (is.sure sure);
        holds = λ sure still. holds (is.sure sure) (apply_all is.copied image) is.fronts is.last (is.holds sure works)
            (subst (λ (n : ℕ). AreChanges n commands) (sym is.blocks) takes);
        leaves = λ sure failed. absurd (both_ways keeper.failed works failed);
        seat_durable = omega (arith, durable, is.seat_durable);
        seat_base = base ∙ is.seat_base;
      }

      -- a crash leaves the image without or with the group
      either : (content : List ℕ) → StandsFor content (apply_all (all seat keeper is) image) (opening + length (all seat keeper is))
          ⊎ StandsFor content (apply_all commands (apply_all (all seat keeper is) image)) (opening + length (all seat keeper is) + length group.commands)
          → StandsWithin opening image new.history keeper.count content
      either content (inl without) = record {
        stored = all seat keeper is;
        begins = prefix_trans (all seat keeper is) seat.history new.history is.within grows;
        reaches = let count = all_count seat keeper is in omega (arith, count);
        stands = without;
      }
      either content (inr with_group) = record {
        stored = all seat keeper is ++ commands;
        begins = all_within;
        reaches = let count = all_count seat keeper is in omega (arith, count, length-append (all seat keeper is) commands);
        stands = subst (λ (i : Image). StandsFor content i (opening + length (all seat keeper is ++ commands))) (sym (apply_append (all seat keeper is) commands image))
            (subst (λ (n : ℕ). StandsFor content (apply_all commands (apply_all (all seat keeper is) image)) n) (omega (arith, length-append (all seat keeper is) commands, commands_length group)) with_group);
      }

      pub leaves_with : (next : KeeperState D) → trusted → keeper.failed ≡ false → AreChanges image.blocks commands
          → ((found : Image) (number : ℕ) → Keeps keeper (state keeper.disk) found number → AreChanges keeper.geometry.blocks commands
          → LeavesOnly (state keeper.disk) (state next.disk) (λ content. StandsFor content found number ⊎ StandsFor content (apply_all commands found) (number + length group.commands)))
          → LeavesOnly (state keeper.disk) (state next.disk) (StandsWithin opening image new.history keeper.count)
      leaves_with next sure works takes any_moment =
          weakens (any_moment (apply_all (all seat keeper is) image) (opening + length (all seat keeper is)) (keeps_all seat keeper is sure works) (subst (λ (n : ℕ). AreChanges n commands) (sym is.blocks) takes)) either

      pub left_with : (extent : ℕ) (next : KeeperState D) → IsSound extent (state next.disk) → trusted → keeper.failed ≡ false → AreChanges image.blocks commands
          → ((found : Image) (number : ℕ) → Keeps keeper (state keeper.disk) found number → AreChanges keeper.geometry.blocks commands
          → LeavesOnly (state keeper.disk) (state next.disk) (λ content. StandsFor content found number ⊎ StandsFor content (apply_all commands found) (number + length group.commands)))
          → (content : List ℕ) → MayLeave (state next.disk) content → StandsWithin opening image new.history keeper.count content
      left_with extent next sound sure works takes any_moment = ends (leaves_with next sure works takes any_moment) sound

    -- what isn't refused for its size or its number is the next
    next_fits : (area end first number : ℕ) → keeper.failed ≡ false → (((keeper.failed ≡ false) × (area < end)) → ⊥) → (((keeper.failed ≡ false) × (end ≤ area) × (first ≢ number)) → ⊥) → first ≡ number
    next_fits area end first number works full order =
        let fits : end ≤ area = by_size (cases_lt area end) in by_number (cases_eq first number) fits
      where
        by_size : (area < end) ⊎ (end ≤ area) → end ≤ area
        by_size (inl over) = absurd (full (works, over))
        by_size (inr within) = within

        by_number : (first ≡ number) ⊎ (first ≢ number) → end ≤ area → first ≡ number
        by_number (inl same) fits = same
        by_number (inr other) fits = absurd (order (works, fits, other))

    pub follows : (group : Numbered) → keeper.failed ≡ false → (((keeper.failed ≡ false) × (area_size keeper.geometry < end_after keeper group)) → ⊥)
        → (((keeper.failed ≡ false) × (end_after keeper group ≤ area_size keeper.geometry) × (group.first ≢ keeper.count + 1)) → ⊥) → group.first ≡ keeper.count + 1
    follows group = next_fits (area_size keeper.geometry) (end_after keeper group) group.first (keeper.count + 1)

    -- what became of a sealed group
    module _ (new : KeeperKnows) (given : SealedState) (group : Numbered) (told : List Change) (sealed : IsSealed opening image.blocks given) (group_is : group ≡ given.group) (told_is : told ≡ given.told)
        (grows : IsPrefix seat.history new.history) (known : IsPrefix told new.history) (durable : new.durable ≡ seat.durable) (base : new.base ≡ seat.base) where
      part : IsPartOf opening told group.first (map change_of group.commands)
      part =
          subst (λ (g : Numbered). IsPartOf opening told g.first (map change_of g.commands)) (sym group_is)
          (subst (λ (h : List Change). IsPartOf opening h given.group.first (map change_of given.group.commands)) (sym told_is) sealed.part)

      takes : AreChanges image.blocks (map change_of group.commands)
      takes = subst (λ (g : Numbered). AreChanges image.blocks (map change_of g.commands)) (sym group_is) sealed.takes

      pub append_stored : (next : KeeperState D) → (honest keeper.disk → honest next.disk) → ⊥ ↔ IsTrue keeper.failed → ⊥ ↔ ((keeper.failed ≡ false) × (area_size keeper.geometry < end_after keeper group))
          → ⊥ ↔ ((keeper.failed ≡ false) × (end_after keeper group ≤ area_size keeper.geometry) × (group.first ≢ keeper.count + 1)) → next ≡ grown_by keeper group next.disk next.memory
          → (honest keeper.disk → (base : Image) (fronts : List (List Change)) (last : List Change) → Holds keeper (state keeper.disk) base fronts last → AreChanges keeper.geometry.blocks (map change_of group.commands)
          → Holds next (state next.disk) base fronts (last ++ map change_of group.commands))
          → Of new next
      append_stored next kept failed full order same held =
          let works = not_true_is keeper.failed (λ was. failed.1 was) in
          subst (Of new) (sym same)
          (appended new group told part grows known (follows group works full.1 order.1) next.disk next.memory durable base works takes kept
          (λ sure base fronts last holds takes. subst (λ (k : KeeperState D). Holds k (state next.disk) base fronts (last ++ map change_of group.commands)) same (held sure base fronts last holds takes)))

      pub append_leaves : (extent : ℕ) (next : KeeperState D) → (honest keeper.disk → IsSound extent (state keeper.disk)) → ⊥ ↔ IsTrue keeper.failed → ⊥ ↔ ((keeper.failed ≡ false) × (area_size keeper.geometry < end_after keeper group))
          → ⊥ ↔ ((keeper.failed ≡ false) × (end_after keeper group ≤ area_size keeper.geometry) × (group.first ≢ keeper.count + 1))
          → (honest keeper.disk → (found : Image) (number : ℕ) → Keeps keeper (state keeper.disk) found number → AreChanges keeper.geometry.blocks (map change_of group.commands)
          → LeavesOnly (state keeper.disk) (state next.disk) (λ content. StandsFor content found number ⊎ StandsFor content (apply_all (map change_of group.commands) found) (number + length group.commands)))
          → trusted → LeavesOnly (state keeper.disk) (state next.disk) (StandsWithin opening image new.history keeper.count)
      append_leaves extent next sound failed full order any_moment sure =
          let works = not_true_is keeper.failed (λ was. failed.1 was) in
          leaves_with new group told part grows known (follows group works full.1 order.1) next sure works takes (any_moment (is.sure sure))

      -- of a refusal but a fault of the device the device is as it was
      pub refused_leaves : (extent : ℕ) (next : KeeperState D) → (honest keeper.disk → IsSound extent (state keeper.disk)) → (refusal : KeeperFault)
          → (refusal ≡ fault.Failed) ↔ IsTrue keeper.failed → (refusal ≡ fault.AreaFull) ↔ ((keeper.failed ≡ false) × (area_size keeper.geometry < end_after keeper group))
          → (refusal ≡ fault.OutOfOrder) ↔ ((keeper.failed ≡ false) × (end_after keeper group ≤ area_size keeper.geometry) × (group.first ≢ keeper.count + 1))
          → (refusal ≡ fault.DeviceFault) ⊎ (next.disk ≡ keeper.disk)
          → (honest keeper.disk → (found : Image) (number : ℕ) → Keeps keeper (state keeper.disk) found number → AreChanges keeper.geometry.blocks (map change_of group.commands)
          → LeavesOnly (state keeper.disk) (state next.disk) (λ content. StandsFor content found number ⊎ StandsFor content (apply_all (map change_of group.commands) found) (number + length group.commands)))
          → trusted → LeavesOnly (state keeper.disk) (state next.disk) (StandsWithin opening image new.history keeper.count)
      refused_leaves extent next sound refusal failed full order (inl cause) any_moment sure =
          let works = not_true_is keeper.failed (λ was. failed_is_other (sym cause ∙ failed.1 was)) in
          let first = follows group works (λ over. full_is_other (sym cause ∙ full.1 over)) (λ wrong. order_is_other (sym cause ∙ order.1 wrong)) in
          leaves_with new group told part grows known first next sure works takes (any_moment (is.sure sure))
      refused_leaves extent next sound refusal failed full order (inr same) any_moment sure =
          weakens (leaves_still extent next (sound (is.sure sure)) sure same) (λ content stands. stands_longer opening image seat.history new.history keeper.count content stands grows)

      pub append_refused : (extent : ℕ) (next : KeeperState D) → (honest next.disk → IsSound extent (state next.disk)) → (honest keeper.disk → honest next.disk) → (refusal : KeeperFault)
          → (refusal ≡ fault.Failed) ↔ IsTrue keeper.failed → (refusal ≡ fault.AreaFull) ↔ ((keeper.failed ≡ false) × (area_size keeper.geometry < end_after keeper group))
          → (refusal ≡ fault.OutOfOrder) ↔ ((keeper.failed ≡ false) × (end_after keeper group ≤ area_size keeper.geometry) × (group.first ≢ keeper.count + 1))
          → next ≡ refused_by refusal keeper next.disk
          → (honest keeper.disk → (found : Image) (number : ℕ) → Keeps keeper (state keeper.disk) found number → AreChanges keeper.geometry.blocks (map change_of group.commands)
          → LeavesOnly (state keeper.disk) (state next.disk) (λ content. StandsFor content found number ⊎ StandsFor content (apply_all (map change_of group.commands) found) (number + length group.commands)))
          → Of new next
      append_refused extent next sound kept refusal failed full order same any_moment =
          refused_as keeper new (seated seat new keeper is grows (omega (arith, durable, is.seat_durable)) base) refusal next same kept left
        where
          left : refusal ≡ fault.DeviceFault → trusted → (content : List ℕ) → MayLeave (state next.disk) content → StandsWithin opening image new.history keeper.count content
          left cause sure =
              let works = not_true_is keeper.failed (λ was. failed_is_other (sym cause ∙ failed.1 was)) in
              let first = follows group works (λ over. full_is_other (sym cause ∙ full.1 over)) (λ wrong. order_is_other (sym cause ∙ order.1 wrong)) in
              left_with new group told part grows known first extent next (sound (kept (is.sure sure))) sure works takes (any_moment (is.sure sure))

    -- the same of a longer history, and of fewer commands
    pub stands_less : (new : KeeperKnows) (least : ℕ) → IsPrefix seat.history new.history → least ≤ keeper.count
        → trusted → (content : List ℕ) → MayLeave (state keeper.disk) content → StandsWithin opening image new.history least content
    stands_less new least grows less sure content left =
        let stands = stands_longer opening image seat.history new.history keeper.count content (leaves_all seat keeper is sure content left) grows in
        record { stored = stands.stored; begins = stands.begins; reaches = (let reaches = stands.reaches in omega (arith, reaches, less)); stands = stands.stands }

-- what stands with this many commands does so with fewer
stands_fewer : (opening : ℕ) (image : Image) (history : List Change) (least fewer : ℕ) (content : List ℕ) → fewer ≤ least → StandsWithin opening image history least content → StandsWithin opening image history fewer content
stands_fewer opening image history least fewer content less is =
    record { stored = is.stored; begins = is.begins; reaches = (let reaches = is.reaches in omega (arith, reaches, less)); stands = is.stands }

-- all that was left stands for a beginning of a longer history too
pub left_longer : (opening : ℕ) (image : Image) (start now : State) (history longer : List Change) → IsPrefix history longer → HasLeft start now opening image history → HasLeft start now opening image longer
left_longer opening image start now history longer grows left = weakens left (λ content stands. stands_longer opening image history longer opening content stands grows)

module _ {D : Type 0} (state : D → State) (honest : D → Type 0) (opening : ℕ) (image : Image) (start : State) (trusted : Type 0) where
  abbrev pub Keeps_all : KeeperKnows → KeeperState D → Type 0
  Keeps_all seat keeper = KeepsHistory state honest opening image start trusted seat keeper

  -- the keeper of a device that was opened
  pub begun : (seat : KeeperKnows) (keeper : KeeperState D) → (trusted → LeavesOnly start (state keeper.disk) (λ content. StandsFor content image opening))
      → IsOfHistory state honest opening image trusted seat keeper → Keeps_all seat keeper
  begun seat keeper from is = record {
    stored = is;
    passed = λ sure. weakens (from sure)
        (λ content stands. record { stored = []; begins = prefix_none seat.history; reaches = omega arith; stands = subst (λ (n : ℕ). StandsFor content image n) (omega arith) stands });
  }

  module _ (seat : KeeperKnows) (keeper : KeeperState D) (is : Keeps_all seat keeper) where
    -- a call of the device, which leaves only what stands for the image after a beginning of the history
    pub passing : (new : KeeperKnows) (next : KeeperState D) → IsOfHistory state honest opening image trusted new next → IsPrefix seat.history new.history
        → (trusted → LeavesOnly (state keeper.disk) (state next.disk) (StandsWithin opening image new.history keeper.count)) → Keeps_all new next
    passing new next stored grows step = record {
      stored = stored;
      passed = λ sure.
          goes_on (left_longer opening image start (state keeper.disk) seat.history new.history grows (is.passed sure)) (step sure)
          (λ content stands. stands_fewer opening image new.history keeper.count opening content
          (let count = all_count state honest opening image trusted seat keeper is.stored in omega (arith, count)) stands);
    }

    -- the same where the seat knows the same history
    pub passing_by : (new : KeeperKnows) (next : KeeperState D) → IsOfHistory state honest opening image trusted new next → new.history ≡ seat.history
        → (trusted → LeavesOnly (state keeper.disk) (state next.disk) (StandsWithin opening image seat.history keeper.count)) → Keeps_all new next
    passing_by new next stored same step =
        passing new next stored (subst (λ (h : List Change). IsPrefix seat.history h) (sym same) (prefix_self seat.history))
        (subst (λ (h : List Change). trusted → LeavesOnly (state keeper.disk) (state next.disk) (StandsWithin opening image h keeper.count)) (sym same) step)

    -- no call of the device
    pub passing_still : (new : KeeperKnows) → IsOfHistory state honest opening image trusted new keeper → IsPrefix seat.history new.history → Keeps_all new keeper
    passing_still new stored grows =
        record { stored = stored; passed = λ sure. left_longer opening image start (state keeper.disk) seat.history new.history grows (is.passed sure) }
