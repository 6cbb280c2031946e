-- What the order knows of the history stays true.
use Rattle.std.proofs.Common.{◌≡◌, ℕ, ◌+◌, ◌-◌, ◌≤◌, max, Bool, true, false, if◌then◌else◌, List, [], ◌∷◌, ◌++◌, length, map, take, drop, refl, ap, sym, ◌∙◌, subst, arith, append_assoc, length-append, take-append-drop}
use Rattle.std.proofs.lemmas.List.{append-nil, length-take-le, map-append}
use mathlib.Core.List.{IsPrefix, append_cancel_left}
use Rattle.image_model.specs.Change.{AreChanges, Change, IsChange, change_of}
use Rattle.image_model.specs.Dirty.{Dirty, clean_through, dirty_after, dirty_blocks}
use Rattle.image_model.specs.Image.{Image, apply, apply_all}
use Rattle.image_model.specs.declared.command.Command.{Command}
use Rattle.image_model.specs.declared.command.Kind.{Kind}
use Rattle.image_model.specs.laws.CleanedMaps.{cleaned-blocks}
use Rattle.image_model.specs.laws.DirtyMaps.{dirty_blocks-push}
use Rattle.journal_format.specs.Group.{Numbered}
use Rattle.device_image.specs.Holds.{joined}
use Rattle.device_image.specs.Keeper.{KeeperState}
use Rattle.disk_model.specs.Disk.{State}
use Rattle.marks.specs.Known.{KeeperKnows}
use Rattle.marks.specs.laws.Beginnings.{prefix_length, prefix_of_append, prefix_shorter, prefix_trans}
use Rattle.shared_store.specs.Keepers.{IsOfHistory}
use Rattle.order_book.specs.Order.{OrderState, IsInHand, Seals, is_published, new_order, with_clean, with_command, with_durable, with_group}
use Rattle.order_book.specs.Reading.{IsCleanAt}
use Rattle.order_book.specs.Shown.{ShowsImage}
use Rattle.request_core.specs.laws.Commands.{all_behind, all_both, all_front, apply_append, commands_length}
use Rattle.shared_store.specs.Orders.{IsOrderOfHistory, behind_noted, image_at_noted_base}
use Rattle.shared_store.specs.Parts.{IsPartOf, IsSealed, SealedState}
use Rattle.shared_store.proofs.CleanBlocks.{clean_behind}
use Rattle.shared_store.proofs.StoredBeginsHistory.{prefix_front, prefix_same}

module _ (opening : ℕ) (image : Image) (trusted : Type 0) where
  abbrev pub Of : OrderState → Type 0
  Of order = IsOrderOfHistory opening image trusted order

  -- an order in which nothing was accepted yet
  pub fresh : (states : List Kind) (frames area : ℕ) → length states ≡ image.blocks → (trusted → ShowsImage image (new_order states opening frames area).cache) → Of (new_order states opening frames area)
  fresh states frames area blocks shows = record {
    mark = omega arith;
    blocks = blocks;
    takes = tt;
    shows = shows;
    sent = [];
    all_sent = refl;
    sealed = omega arith;
    clean = [];
    behind = [];
    all_clean = refl;
    dirty = refl;
    settled = omega arith;
    noted = omega arith;
  }

  module _ (order : OrderState) (is : Of order) where
    -- only what memory has of the image has changed, or what isn't said of the history
    pub kept : (new : OrderState) → new.history ≡ order.history → new.mark ≡ order.mark → new.pending ≡ order.pending → new.sealed ≡ order.sealed → new.dirty ≡ order.dirty → new.base ≡ order.base
        → length new.cache.states ≡ length order.cache.states → (trusted → ShowsImage (apply_all order.history image) new.cache) → Of new
    kept new history mark pending sealed dirty base blocks shows = record {
      mark = omega (arith, mark, is.mark, ap length history);
      blocks = blocks ∙ is.blocks;
      takes = subst (AreChanges image.blocks) (sym history) is.takes;
      shows = λ sure. subst (λ (h : List Change). ShowsImage (apply_all h image) new.cache) (sym history) (shows sure);
      sent = is.sent;
      all_sent = history ∙ (is.all_sent ∙ ap (λ (p : List Command). is.sent ++ map change_of p) (sym pending));
      sealed = sealed ∙ is.sealed;
      clean = is.clean;
      behind = is.behind;
      all_clean = history ∙ is.all_clean;
      dirty = dirty ∙ is.dirty;
      settled = omega (arith, base, is.settled);
      noted = omega (arith, base, mark, is.noted);
    }

    pub cached : (new : OrderState) → new ≡ record order { cache = new.cache } → length new.cache.states ≡ length order.cache.states → (trusted → ShowsImage (apply_all order.history image) new.cache) → Of new
    cached new same =
        kept new (ap (λ (o : OrderState). o.history) same) (ap (λ (o : OrderState). o.mark) same) (ap (λ (o : OrderState). o.pending) same) (ap (λ (o : OrderState). o.sealed) same)
        (ap (λ (o : OrderState). o.dirty) same) (ap (λ (o : OrderState). o.base) same)

    pub stopped : Of (record order { stopped = true })
    stopped = kept (record order { stopped = true }) refl refl refl refl refl refl refl is.shows

    -- one command more
    pub more : (new : OrderState) (command : Command) → new ≡ with_command order command → IsChange image.blocks (change_of command) → length new.cache.states ≡ length order.cache.states
        → ((given : Image) → ShowsImage given order.cache → ShowsImage (apply (change_of command) given) new.cache) → Of new
    more new command same takes blocks shows =
        let change = change_of command in
        let history : new.history ≡ order.history ++ change ∷ [] = ap (λ (o : OrderState). o.history) same in
        let pending : new.pending ≡ order.pending ++ command ∷ [] = ap (λ (o : OrderState). o.pending) same in
        let mark : new.mark ≡ order.mark + 1 = ap (λ (o : OrderState). o.mark) same in
        let dirty : new.dirty ≡ dirty_after order.dirty (order.mark + 1) change = ap (λ (o : OrderState). o.dirty) same in
        let sealed : new.sealed ≡ order.sealed = ap (λ (o : OrderState). o.sealed) same in
        let base : new.base ≡ order.base = ap (λ (o : OrderState). o.base) same in
        let last : order.mark + 1 ≡ opening + length is.clean + length is.behind + 1 = omega (arith, is.mark, ap length is.all_clean, length-append is.clean is.behind) in
        record {
          mark = omega (arith, mark, is.mark, ap length history, length-append order.history (change ∷ []));
          blocks = blocks ∙ is.blocks;
          takes = subst (AreChanges image.blocks) (sym history) (all_both (IsChange image.blocks) order.history (change ∷ []) is.takes (takes, tt));
          shows = λ sure. subst (λ (i : Image). ShowsImage i new.cache) (sym (ap (λ (h : List Change). apply_all h image) history ∙ apply_append order.history (change ∷ []) image))
              (shows (apply_all order.history image) (is.shows sure));
          sent = is.sent;
          all_sent =
              history ∙ (ap (λ (h : List Change). h ++ change ∷ []) is.all_sent ∙ (append_assoc is.sent (map change_of order.pending) (change ∷ [])
              ∙ (ap (λ (l : List Change). is.sent ++ l) (sym (map-append change_of order.pending (command ∷ []))) ∙ ap (λ (p : List Command). is.sent ++ map change_of p) (sym pending))));
          sealed = sealed ∙ is.sealed;
          clean = is.clean;
          behind = is.behind ++ change ∷ [];
          all_clean = history ∙ (ap (λ (h : List Change). h ++ change ∷ []) is.all_clean ∙ append_assoc is.clean is.behind (change ∷ []));
          dirty =
              dirty ∙ (ap (λ (d : Dirty). dirty_after d (order.mark + 1) change) is.dirty
              ∙ (ap (λ (n : ℕ). dirty_after (dirty_blocks (opening + length is.clean) is.behind) n change) last ∙ sym (dirty_blocks-push (opening + length is.clean) is.behind change)));
          settled = omega (arith, base, is.settled);
          noted = omega (arith, base, mark, is.noted);
        }

    -- a group was sealed: it stands in the history
    module _ (new : OrderState) (group : Numbered) (seals : Seals order new group) where
      abbrev commands : List Change
      commands = map change_of group.commands

      split : map change_of order.pending ≡ commands ++ map change_of new.pending
      split = ap (map change_of) seals.beginning ∙ map-append change_of group.commands new.pending

      whole : order.history ≡ (is.sent ++ commands) ++ map change_of new.pending
      whole = is.all_sent ∙ (ap (λ (l : List Change). is.sent ++ l) split ∙ sym (append_assoc is.sent commands (map change_of new.pending)))

      pub sealed_group : (told : List Change) → told ≡ order.history → IsSealed opening image.blocks (record { group = group; told = told })
      sealed_group told known = record {
        part = record {
          before = is.sent;
          number = omega (arith, seals.first, is.sealed);
          within = subst (λ (h : List Change). IsPrefix (is.sent ++ commands) h) (sym (known ∙ whole)) (prefix_of_append (is.sent ++ commands) (map change_of new.pending));
        };
        takes = all_behind (IsChange image.blocks) is.sent commands (all_front (IsChange image.blocks) (is.sent ++ commands) (map change_of new.pending) (subst (AreChanges image.blocks) whole is.takes));
      }

      pub sealed : Of new
      sealed =
          let e = seals.rest in
          let history : new.history ≡ order.history = ap (λ (o : OrderState). o.history) e in
          record {
            mark = omega (arith, ap (λ (o : OrderState). o.mark) e, ap length history, is.mark);
            blocks = ap (λ (o : OrderState). length o.cache.states) e ∙ is.blocks;
            takes = subst (AreChanges image.blocks) (sym history) is.takes;
            shows = λ sure. subst (λ (o : OrderState). ShowsImage (apply_all o.history image) o.cache) (sym e) (is.shows sure);
            sent = is.sent ++ commands;
            all_sent = history ∙ whole;
            sealed = omega (arith, ap (λ (o : OrderState). o.sealed) e, is.sealed, length-append is.sent commands, commands_length group);
            clean = is.clean;
            behind = is.behind;
            all_clean = history ∙ is.all_clean;
            dirty = ap (λ (o : OrderState). o.dirty) e ∙ is.dirty;
            settled = omega (arith, ap (λ (o : OrderState). o.base) e, is.settled);
            noted = omega (arith, ap (λ (o : OrderState). o.base) e, ap (λ (o : OrderState). o.mark) e, is.noted);
          }

    -- the group that was sealed last is pending again
    pub unsealed : (group : Numbered) (told : List Change) → IsPartOf opening told group.first (map change_of group.commands) → IsPrefix told order.history → group.first + length group.commands ≡ order.sealed + 1
        → Of (with_group order group)
    unsealed group told part known last =
        let commands : List Change = map change_of group.commands in
        let before = part.before in
        let there : IsPrefix (before ++ commands) order.history = prefix_trans (before ++ commands) told order.history part.within known in
        let same : before ++ commands ≡ is.sent =
        prefix_same (before ++ commands) is.sent order.history there (map change_of order.pending, sym is.all_sent)
        (omega (arith, part.number, last, is.sealed, length-append before commands, commands_length group)) in
        record {
          mark = is.mark;
          blocks = is.blocks;
          takes = is.takes;
          shows = is.shows;
          sent = before;
          all_sent =
              is.all_sent ∙ (ap (λ (l : List Change). l ++ map change_of order.pending) (sym same) ∙ (append_assoc before commands (map change_of order.pending)
              ∙ ap (λ (l : List Change). before ++ l) (sym (map-append change_of group.commands order.pending))));
          sealed = omega (arith, part.number);
          clean = is.clean;
          behind = is.behind;
          all_clean = is.all_clean;
          dirty = is.dirty;
          settled = is.settled;
          noted = is.noted;
        }

    -- the same of a sealed group, once it is known to be the one in hand
    pub put_back : (given : SealedState) (group : Numbered) (told : List Change) → IsSealed opening image.blocks given → group ≡ given.group → told ≡ given.told → IsPrefix told order.history → IsInHand order group
        → (compared : OrderState) → compared ≡ order → (new : OrderState) → new ≡ with_group compared group → Of new
    put_back given group told sealed group_is told_is known hand compared compared_is new new_is =
        subst Of (sym (new_is ∙ ap (λ (o : OrderState). with_group o group) compared_is))
        (unsealed group told
        (subst (λ (g : Numbered). IsPartOf opening told g.first (map change_of g.commands)) (sym group_is)
        (subst (λ (h : List Change). IsPartOf opening h given.group.first (map change_of given.group.commands)) (sym told_is) sealed.part)) known hand.last)

    -- what is stored was made durable
    pub durable : (count : ℕ) → Of (with_durable order count)
    durable count = by_published (is_published order count)
      where
        by_published : (b : Bool) → Of (if b then record order { durable = count; bodies = drop (count - order.durable) order.bodies } else order)
        by_published true = kept (record order { durable = count; bodies = drop (count - order.durable) order.bodies }) refl refl refl refl refl refl refl is.shows
        by_published false = is

    -- the order notes a base, which it reaches
    pub based : (base : ℕ) → base ≤ order.mark → Of (record order { base = max order.base base })
    based base within = record {
      mark = is.mark;
      blocks = is.blocks;
      takes = is.takes;
      shows = is.shows;
      sent = is.sent;
      all_sent = is.all_sent;
      sealed = is.sealed;
      clean = is.clean;
      behind = is.behind;
      all_clean = is.all_clean;
      dirty = is.dirty;
      settled = omega (arith, is.settled);
      noted = omega (arith, within, is.noted);
    }

    -- blocks up to a base were made clean
    pub cleaned : (base : ℕ) (new : OrderState) → new ≡ with_clean order base → opening + length is.clean ≤ base → base ≤ order.mark → base ≤ order.base
        → length new.cache.states ≡ length order.cache.states → ((given : Image) → ShowsImage given order.cache → ShowsImage given new.cache) → Of new
    cleaned base new e from to known blocks shows =
        let k : ℕ = base - (opening + length is.clean) in
        let cut : take k is.behind ++ drop k is.behind ≡ is.behind = take-append-drop k is.behind in
        let history : new.history ≡ order.history = ap (λ (o : OrderState). o.history) e in
        let size : length (take k is.behind) ≡ k = length-take-le k is.behind (omega (arith, is.mark, to, ap length is.all_clean, length-append is.clean is.behind)) in
        let number : opening + length is.clean + length (take k is.behind) ≡ base = omega (arith, size, from) in
        let longer : opening + length (is.clean ++ take k is.behind) ≡ base = omega (arith, number, length-append is.clean (take k is.behind)) in
        record {
          mark = omega (arith, ap (λ (o : OrderState). o.mark) e, ap length history, is.mark);
          blocks = blocks ∙ is.blocks;
          takes = subst (AreChanges image.blocks) (sym history) is.takes;
          shows = λ sure. shows (apply_all new.history image) (subst (λ (h : List Change). ShowsImage (apply_all h image) order.cache) (sym history) (is.shows sure));
          sent = is.sent;
          all_sent = history ∙ (is.all_sent ∙ ap (λ (p : List Command). is.sent ++ map change_of p) (sym (ap (λ (o : OrderState). o.pending) e)));
          sealed = ap (λ (o : OrderState). o.sealed) e ∙ is.sealed;
          clean = is.clean ++ take k is.behind;
          behind = drop k is.behind;
          all_clean = history ∙ (is.all_clean ∙ (ap (λ (l : List Change). is.clean ++ l) (sym cut) ∙ sym (append_assoc is.clean (take k is.behind) (drop k is.behind))));
          dirty =
              ap (λ (o : OrderState). o.dirty) e ∙ (ap (λ (d : Dirty). clean_through d base) (is.dirty ∙ ap (dirty_blocks (opening + length is.clean)) (sym cut))
              ∙ (ap (clean_through (dirty_blocks (opening + length is.clean) (take k is.behind ++ drop k is.behind))) (sym number)
              ∙ (cleaned-blocks (opening + length is.clean) (take k is.behind) (drop k is.behind)
              ∙ ap (λ (n : ℕ). dirty_blocks n (drop k is.behind)) (number ∙ sym longer))));
          settled = omega (arith, longer, known, ap (λ (o : OrderState). o.base) e);
          noted = omega (arith, ap (λ (o : OrderState). o.base) e, ap (λ (o : OrderState). o.mark) e, is.noted);
        }

  -- (the same of any order)
  cleaned_to : (order : OrderState) (is : Of order) (base : ℕ) (new : OrderState) → new ≡ with_clean order base → opening + length is.clean ≤ base → base ≤ order.mark → base ≤ order.base
      → length new.cache.states ≡ length order.cache.states → ((given : Image) → ShowsImage given order.cache → ShowsImage given new.cache) → Of new
  cleaned_to order is = cleaned order is

  module _ (order : OrderState) (is : Of order) where
    -- map and data hold what isn't dirty, where they reach what the order knows to be there
    pub clean_at : (copied front last : List Change) → IsPrefix ((copied ++ front) ++ last) order.history → order.base ≤ opening + length copied
        → IsCleanAt (apply_all copied image) front (apply_all order.history image) order.dirty
    clean_at copied front last begins reaches =
        let rest : List Change = begins.0 in
        let whole : copied ++ (front ++ (last ++ rest)) ≡ order.history =
        sym (append_assoc copied front (last ++ rest)) ∙ (sym (append_assoc (copied ++ front) last rest) ∙ begins.1) in
        let mid = prefix_shorter is.clean copied order.history (is.behind, sym is.all_clean) (front ++ (last ++ rest), whole) (omega (arith, reaches, is.settled)) in
        let between : List Change = mid.0 in
        let parts : is.behind ≡ between ++ (front ++ (last ++ rest)) =
        append_cancel_left is.clean is.behind (between ++ (front ++ (last ++ rest)))
        (sym is.all_clean ∙ (sym whole ∙ (ap (λ (l : List Change). l ++ (front ++ (last ++ rest))) (sym mid.1) ∙ append_assoc is.clean between (front ++ (last ++ rest))))) in
        let start : Image = apply_all is.clean image in
        let takes : AreChanges image.blocks (between ++ (front ++ (last ++ rest))) =
        subst (AreChanges image.blocks) parts (all_behind (IsChange image.blocks) is.clean is.behind (subst (AreChanges image.blocks) is.all_clean is.takes)) in
        let base_is : apply_all between start ≡ apply_all copied image = sym (apply_append is.clean between image) ∙ ap (λ (l : List Change). apply_all l image) mid.1 in
        let image_is : apply_all (between ++ (front ++ (last ++ rest))) start ≡ apply_all order.history image =
        ap (λ (l : List Change). apply_all l start) (sym parts) ∙ (sym (apply_append is.clean is.behind image) ∙ ap (λ (l : List Change). apply_all l image) (sym is.all_clean)) in
        let dirty_is : dirty_blocks (opening + length is.clean) (between ++ (front ++ (last ++ rest))) ≡ order.dirty = ap (dirty_blocks (opening + length is.clean)) (sym parts) ∙ sym is.dirty in
        subst (λ (i : Image). IsCleanAt i front (apply_all order.history image) order.dirty) base_is
        (subst (λ (i : Image). IsCleanAt (apply_all between start) front i order.dirty) image_is
        (subst (λ (d : Dirty). IsCleanAt (apply_all between start) front (apply_all (between ++ (front ++ (last ++ rest))) start) d) dirty_is
        (clean_behind image.blocks (opening + length is.clean) start between front (last ++ rest) takes)))

    -- and so does the base that the order has noted
    pub noted_clean : IsCleanAt (image_at_noted_base opening image order) (behind_noted opening order) (apply_all order.history image) order.dirty
    noted_clean =
        let count : ℕ = order.base - opening in
        let all : take count order.history ++ drop count order.history ≡ order.history = take-append-drop count order.history in
        let size : length (take count order.history) ≡ count = length-take-le count order.history (omega (arith, is.noted, is.mark)) in
        clean_at (take count order.history) (drop count order.history) [] ([], append-nil _ ∙ (append-nil _ ∙ all)) (omega (arith, size))

    -- what the keeper has in map and data was made clean, once the order had met it and learned its base
    pub cleaned_by : {D : Type 0} (sure : Type 0) (state : D → State) (honest : D → Type 0) (met : OrderState) → met ≡ order → (told : OrderState) (seat : KeeperKnows) (keeper : KeeperState D)
        → told ≡ record met { base = max met.base keeper.base } → IsOfHistory state honest opening image sure seat keeper → seat.history ≡ order.history → order.base ≤ keeper.base
        → (number : ℕ) → number ≡ keeper.base → (new : OrderState) → new ≡ with_clean told number → ((given : Image) → ShowsImage given told.cache → ShowsImage given new.cache) → Of new
    cleaned_by sure state honest met met_is told seat keeper told_is stored history base number number_is new new_is shows =
        let same : told ≡ record order { base = max order.base keeper.base } = told_is ∙ ap (λ (o : OrderState). record o { base = max o.base keeper.base }) met_is in
        let told_base : told.base ≡ max order.base keeper.base = ap (λ (o : OrderState). o.base) same in
        let told_mark : told.mark ≡ order.mark = ap (λ (o : OrderState). o.mark) same in
        let within = prefix_length stored.copied seat.history (prefix_front stored.copied (joined stored.fronts ++ stored.last) seat.history
        (subst (λ (l : List Change). IsPrefix l seat.history) (append_assoc stored.copied (joined stored.fronts) stored.last) stored.within)) in
        let known : Of told = subst Of (sym same) (based order is keeper.base (omega (arith, stored.base, within, ap length history, is.mark))) in
        cleaned_to told known number new new_is (omega (arith, known.settled, told_base, base, number_is))
        (omega (arith, number_is, stored.base, within, ap length history, is.mark, told_mark)) (omega (arith, told_base, number_is))
        (ap (λ (o : OrderState). length o.cache.states) new_is) shows
