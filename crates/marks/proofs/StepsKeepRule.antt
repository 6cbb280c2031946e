-- Each step on a board keeps its rule.
use Rattle.std.proofs.Common.{◌≡◌, ◌≢◌, ℕ, ◌+◌, ◌-◌, ◌≤◌, max, eqb, true, false, List, [], ◌∷◌, ◌++◌, length, length-append, replicate, take, get_or, set, refl, sym, ap, ◌∙◌, subst, arith, eq-eqb, eqb-true, Bool}
use Rattle.std.proofs.lemmas.List.{length-take-le}
use mathlib.Core.Option.{none, some}
use mathlib.Core.List.{IsPrefix}
use lib.ListN.{get_elem?}
use prog.Atomic.{either}
use Rattle.atomic_table.specs.Table.{Me, Act, Valid, keeps, stepped, carried_after, step, Allows, Splits, Joins, Seen}
use Rattle.image_model.specs.Change.{Change, change_of}
use Rattle.image_model.specs.Image.{Image}
use Rattle.image_model.specs.declared.command.Command.{Command}
use Rattle.nbd_wire.specs.Request.{Message}
use Rattle.nbd_wire.specs.declared.message.Answer.{Answer}
use Rattle.export_model.specs.Answers.{MayAnswer}
use Rattle.export_model.specs.declared.connection.Connection.TheVariants.{Idle}
use Rattle.export_model.specs.declared.event.Event.TheVariants.{Sent, Answered}
use Rattle.export_model.specs.OneLog.{AreAll, IsOneLog}
use Rattle.export_model.specs.declared.step.Mode.{Mode}
use Rattle.export_model.specs.laws.Good.{covers_durable, reads_fit}
use Rattle.marks.specs.Client.{HasAsked, HasFlushed, accepting, answering, flushing, sending}
use Rattle.marks.specs.declared.said.Said.{Said}
use Rattle.marks.specs.declared.said.Said.TheVariants.{Speaks, Adds}
use Rattle.marks.specs.declared.view.Transcript.{Transcript}
use Rattle.marks.specs.declared.view.View.{View}
use Rattle.marks.specs.Rule.{AreGathered, Fits, IsBoard, Room, World}
use Rattle.marks.specs.Seats.{calls_of, roster_of}
use Rattle.marks.specs.inner.Steps.{Awaits, LooksAccepted, LooksDurable, TakesIn, RaisesAccepted, RaisesDurable, RaisesBase, Replies, Sends, gathering, keeper_only, learning_base, hearing, made_by, making, nothing, order_only, own_after, taking_in, taking_keeper, taking_order, telling, without_keeper, without_order}
use Rattle.marks.specs.laws.Beginnings.{longer_of, prefix_length, prefix_none, prefix_of_append, prefix_self, prefix_shorter, prefix_take, prefix_trans}
use Rattle.marks.proofs.SeatsFitBoard.{Grows, Log, Table, at_end, join_to, looked, moved, quiet_at, quiet_stay, split_to, there_still}
use Rattle.marks.proofs.ClientsFitLog.{SameLog, log_accepted, log_flushed, log_gathered, log_join, log_made, log_replied, log_same, log_sent, log_split, log_stored}

same_log : (v : View) → SameLog v v
same_log v = record { makes = refl; made = refl; gathered = refl; client = refl }

-- exchanging a number for itself changes nothing
stays_by : (n k : ℕ) (c : Bool) → eqb n k ≡ c → either c k n ≡ n
stays_by n k true is = sym (eqb-true n k is)
stays_by n k false is = refl

stays : (n k : ℕ) → either (eqb n k) k n ≡ n
stays n k = stays_by n k (eqb n k) refl

-- the board with one command more, and with this durable number and this base
abbrev with_change : World → Change → World
with_change w change = record { opening = w.opening; history = w.history ++ change ∷ []; durable = w.durable; base = w.base; order = w.order; keeper = w.keeper }

abbrev with_numbers : World → ℕ → ℕ → World
with_numbers w durable base = record { opening = w.opening; history = w.history; durable = durable; base = base; order = w.order; keeper = w.keeper }

abbrev with_order : World → ℕ → World
with_order w seat = record { opening = w.opening; history = w.history; durable = w.durable; base = w.base; order = seat; keeper = w.keeper }

abbrev with_keeper : World → ℕ → World
with_keeper w seat = record { opening = w.opening; history = w.history; durable = w.durable; base = w.base; order = w.order; keeper = seat }

unlike_flags : (x : Bool) → x ≡ true → x ≡ false → ⊥
unlike_flags x yes_is no_is = cc

module _ (logs trusted : Type 0) (mode : Mode) (image : Image) where
  abbrev Mine : Type 0
  Mine = Me Said View

  abbrev Here : Table → Type 0
  Here = IsBoard logs trusted mode image

  -- what a step owes at the number that it finds
  abbrev Owes : Table → ℕ → Mine → ℕ → (ℕ → ℕ) → (ℕ → Mine → Type 0) → ℕ → Type 0
  Owes s id me i f tells n = (w : View) × (act : Act Said) × Valid s.homes me.1 act × Here (stepped s i (f n) id me.1 w act) × tells n (w, carried_after me.1 act)

  accepted_word : (s : Table) (b : Here s) → b.world.opening + length b.world.history ≡ get_or s.words 0 0
  accepted_word s b = sym (ap (λ (ws : List ℕ). get_or ws 0 0) b.words)

  durable_word : (s : Table) (b : Here s) → b.world.durable ≡ get_or s.words 1 0
  durable_word s b = sym (ap (λ (ws : List ℕ). get_or ws 1 0) b.words)

  quiet_word : (s : Table) (b : Here s) (i : ℕ) → 2 ≤ i → 0 ≡ get_or s.words i 0
  quiet_word s b i above = sym (ap (λ (ws : List ℕ). get_or ws i 0) b.words ∙ quiet_at b.world i above)

  -- the log stays as it is where a seat's view is the same as far as that is concerned
  stays_log : (s : Table) (b : Here s) (id : ℕ) (v w : View) → get_elem? s.views id ≡ some v → SameLog v w → length v.seen ≤ length w.seen → IsPrefix w.seen b.world.history
      → Log logs trusted mode image b.world (set s.views id w)
  stays_log s b id v w at same grows within kept =
      log_same trusted mode image b.world.opening b.world.history b.world.durable s.views (b.logged kept) id v w at same grows (prefix_length w.seen b.world.history within)

  pub looks_accepted : (slots id : ℕ) (me : Mine) → me.0.spent ≡ false → Allows Here slots id me 0 (λ n. n) (LooksAccepted (step slots 0 0 0 none) me)
  looks_accepted slots id me live s b long at small =
      let mine = b.each id me.0 at in let history = b.world.history in let w : View = record me.0 { seen = history } in
      let fits : Fits b.world id w = record {
        opened = mine.opened;
        seen = prefix_self history;
        durable = mine.durable;
        base = mine.base;
        told = mine.told;
        told_durable = mine.told_durable;
        told_base = mine.told_base;
        as_order = λ right. ((mine.as_order right).0, refl);
        as_keeper = mine.as_keeper;
      } in
      let n : ℕ = b.world.opening + length history in
      let tells : LooksAccepted (step slots 0 0 0 none) me n (w, me.1) = record {
        grows = mine.seen;
        told = mine.told;
        number = ap (λ (k : ℕ). k + length history) (sym (mine.opened live));
        same = refl;
        as_order = λ right. sym (mine.as_order right).1;
      } in
      let log = stays_log s b id me.0 w at (record { makes = refl; made = refl; gathered = refl; client = refl }) (prefix_length me.0.seen history mine.seen) (prefix_self history) in
      subst (Owes s id me 0 (λ n. n) (LooksAccepted (step slots 0 0 0 none) me)) (accepted_word s b)
      (w, keeps, tt, looked logs trusted mode image s b 0 n id me.1 w refl fits log, tells)

  pub looks_durable : (slots id : ℕ) (me : Mine) → me.0.spent ≡ false → me.0.raises_accepted ≡ false → me.0.raises_durable ≡ false
      → Allows Here slots id me 1 (λ n. n) (LooksDurable (step slots 1 0 0 none) me)
  looks_durable slots id me live no_order no_keeper s b long at small =
      let mine = b.each id me.0 at in let ordered = b.ordered in let old = b.world in let n = old.durable in
      let opened : me.0.opening ≡ old.opening = mine.opened live in
      let known : length me.0.seen ≤ length old.history = prefix_length me.0.seen old.history mine.seen in
      let k : ℕ = max (length me.0.seen) (n - me.0.opening) in let seen : List Change = take k old.history in
      let size : length seen ≡ k = length-take-le k old.history (omega (arith, opened, known, ordered)) in
      let w : View = record me.0 { seen = seen; durable = n } in
      let fits : Fits old id w = record {
        opened = mine.opened;
        seen = prefix_take k old.history;
        durable = omega arith;
        base = mine.base;
        told = mine.told;
        told_durable = mine.told_durable;
        told_base = mine.told_base;
        as_order = λ right. (cc);
        as_keeper = λ right. (cc);
      } in
      let tells : LooksDurable (step slots 1 0 0 none) me n (w, me.1) = record {
        grows = prefix_shorter me.0.seen seen old.history mine.seen (prefix_take k old.history) (omega (arith, size));
        durable = mine.durable;
        number = omega (arith, size);
        same = refl;
      } in
      let log = stays_log s b id me.0 w at (record { makes = refl; made = refl; gathered = refl; client = refl }) (omega (arith, size)) (prefix_take k old.history) in
      subst (Owes s id me 1 (λ n. n) (LooksDurable (step slots 1 0 0 none) me)) (durable_word s b)
      (w, keeps, tt, looked logs trusted mode image s b 1 n id me.1 w refl fits log, tells)

  pub takes_in : (slots id : ℕ) (me : Mine) → me.0.raises_accepted ≡ false → Allows Here slots id me 0 (λ n. n) (TakesIn (step slots 0 0 0 none) me)
  takes_in slots id me no_order s b long at small =
      let mine = b.each id me.0 at in let old = b.world in let w : View = taking_in me.0 in
      let both = longer_of me.0.seen me.0.told old.history mine.seen mine.told in
      let d = mine.durable in let td = mine.told_durable in let tb = mine.told_base in
      let fits : Fits old id w = record {
        opened = mine.opened;
        seen = both.2;
        durable = omega arith;
        base = mine.base;
        told = mine.told;
        told_durable = td;
        told_base = tb;
        as_order = λ right. (cc);
        as_keeper = λ right. let own = mine.as_keeper right in (own.0, omega (arith, own.1), own.2);
      } in
      let tells : TakesIn (step slots 0 0 0 none) me (old.opening + length old.history) (w, me.1) = record {
        grows = both.0;
        told = both.1;
        same = refl;
        as_keeper = λ right. let own = mine.as_keeper right in (omega (arith, own.1), omega (arith, own.2));
      } in
      let log = stays_log s b id me.0 w at (record { makes = refl; made = refl; gathered = refl; client = refl }) (prefix_length me.0.seen w.seen both.0) both.2 in
      subst (Owes s id me 0 (λ n. n) (TakesIn (step slots 0 0 0 none) me)) (accepted_word s b)
      (w, keeps, tt, looked logs trusted mode image s b 0 (old.opening + length old.history) id me.1 w refl fits log, tells)

  pub raises_accepted : (slots id : ℕ) (me : Mine) (last : ℕ) (command : Command) → me.0.raises_accepted ≡ true → me.0.spent ≡ false → last ≡ me.0.opening + length me.0.seen
      → (logs → HasAsked trusted image me.0.seen (change_of command) me.0.client)
      → Allows Here slots id me 0 (λ n. either (eqb n last) (last + 1) n) (RaisesAccepted mode (step slots 0 last (last + 1) (some (Adds command))) me)
  raises_accepted slots id me last command right live is asked s b long at small =
      let change : Change = change_of command in
      let mine = b.each id me.0 at in let own = mine.as_order right in let ordered = b.ordered in let old = b.world in let new : World = with_change old change in
      let opened : me.0.opening ≡ old.opening = mine.opened live in
      let n : ℕ = old.opening + length old.history in
      let lengths : length me.0.seen ≡ length old.history = ap length own.1 in
      let hit : n ≡ last = omega (arith, is, opened, lengths) in
      let w : View = record me.0 {
        seen = me.0.seen ++ change ∷ [];
        commands = me.0.commands + 1;
        own = own_after (step slots 0 last (last + 1) (some (Adds command)));
        client = accepting mode (last + 1) me.0.client;
      } in
      let same : me.0.seen ++ change ∷ [] ≡ new.history = ap (λ (h : List Change). h ++ change ∷ []) own.1 in
      let longer_is : length new.history ≡ length old.history + 1 = length-append old.history (change ∷ []) in
      let grows : Grows old new = record { opened = refl; history = prefix_of_append old.history (change ∷ []); durable = omega arith; base = omega arith; order = refl; keeper = refl } in
      let fits : Fits new id w = record {
        opened = mine.opened;
        seen = subst (λ h. IsPrefix h new.history) (sym same) (prefix_self new.history);
        durable = mine.durable;
        base = mine.base;
        told = prefix_trans me.0.told old.history new.history mine.told (prefix_of_append old.history (change ∷ []));
        told_durable = mine.told_durable;
        told_base = mine.told_base;
        as_order = λ _. (own.0, same);
        as_keeper = mine.as_keeper;
      } in
      let log : Log logs trusted mode image new (set s.views id w) =
      λ kept. log_accepted trusted mode image old.opening old.history old.durable s.views (b.logged kept) id me.0 w change at
      (subst (λ (h : List Change). HasAsked trusted image h change me.0.client) own.1 (asked kept)) mine.seen refl refl refl (ap (λ (k : ℕ). accepting mode (k + 1) me.0.client) (sym hit)) same in
      let after : Here (stepped s 0 (last + 1) id me.1 w keeps) =
      moved logs trusted mode image s b new 0 (last + 1) id me.1 w (ap (λ (k : ℕ). k ∷ old.durable ∷ replicate 526 0) (omega (arith, longer_is, hit))) (omega (arith, longer_is, ordered)) grows
      (λ seat other. record { order = λ is_order. absurd (other (is_order ∙ sym own.0)); keeper = λ _. (refl, refl) }) fits log in
      subst (Owes s id me 0 (λ n. either (eqb n last) (last + 1) n) (RaisesAccepted mode (step slots 0 last (last + 1) (some (Adds command))) me)) (accepted_word s b)
      (w, keeps, tt, subst (λ c. Here (stepped s 0 (either c (last + 1) n) id me.1 w keeps)) (sym (eq-eqb n last hit)) after, refl)

  pub raises_durable : (slots id : ℕ) (me : Mine) (k : ℕ) → me.0.raises_durable ≡ true → me.0.spent ≡ false → k ≤ me.0.opening + length me.0.seen
      → Allows Here slots id me 1 (λ n. max n k) (RaisesDurable (step slots 1 k 0 none) me)
  raises_durable slots id me k right live below s b long at small =
      let mine = b.each id me.0 at in let own = mine.as_keeper right in let ordered = b.ordered in let old = b.world in let new : World = with_numbers old (max old.durable k) old.base in
      let opened : me.0.opening ≡ old.opening = mine.opened live in
      let known : length me.0.seen ≤ length old.history = prefix_length me.0.seen old.history mine.seen in
      let d = mine.durable in
      let w : View = record me.0 { durable = max me.0.durable k } in
      let fits : Fits new id w = record {
        opened = mine.opened;
        seen = mine.seen;
        durable = omega arith;
        base = mine.base;
        told = mine.told;
        told_durable = (let t = mine.told_durable in omega arith);
        told_base = mine.told_base;
        as_order = mine.as_order;
        as_keeper = λ _. (own.0, ap (λ (n : ℕ). max n k) own.1, own.2);
      } in
      let grows : Grows old new = record { opened = refl; history = prefix_self old.history; durable = omega arith; base = omega arith; order = refl; keeper = refl } in
      let log : Log logs trusted mode image new (set s.views id w) =
      λ kept. log_stored trusted mode image old.opening old.history old.durable s.views (b.logged kept) (max old.durable k) id me.0 w at (record { makes = refl; made = refl; gathered = refl; client = refl }) refl known (omega arith) in
      subst (Owes s id me 1 (λ n. max n k) (RaisesDurable (step slots 1 k 0 none) me)) (durable_word s b) (
        w,
        keeps,
        tt,
        moved logs trusted mode image s b new 1 (max old.durable k) id me.1 w refl (omega (arith, opened, known, ordered, below)) grows
            (λ seat other. record { order = λ _. refl; keeper = λ is_keeper. absurd (other (is_keeper ∙ sym own.0)) }) fits log,
        refl,
      )

  pub raises_base : (slots id : ℕ) (me : Mine) (k : ℕ) → me.0.raises_durable ≡ true → me.0.base ≤ k
      → Allows Here slots id me 1 (λ n. either (eqb n k) k n) (RaisesBase (step slots 1 k k none) me)
  raises_base slots id me k right more s b long at small =
      let mine = b.each id me.0 at in let own = mine.as_keeper right in let ordered = b.ordered in let old = b.world in let new : World = with_numbers old old.durable k in
      let w : View = record me.0 { base = k } in
      let above : old.base ≤ k = subst (λ n. n ≤ k) own.2 more in
      let fits : Fits new id w = record {
        opened = mine.opened;
        seen = mine.seen;
        durable = mine.durable;
        base = omega arith;
        told = mine.told;
        told_durable = mine.told_durable;
        told_base = (let t = mine.told_base in omega arith);
        as_order = mine.as_order;
        as_keeper = λ _. (own.0, own.1, refl);
      } in
      let grows : Grows old new = record { opened = refl; history = prefix_self old.history; durable = omega arith; base = above; order = refl; keeper = refl } in
      let log = stays_log s b id me.0 w at (record { makes = refl; made = refl; gathered = refl; client = refl }) (omega arith) mine.seen in
      subst (Owes s id me 1 (λ n. either (eqb n k) k n) (RaisesBase (step slots 1 k k none) me)) (durable_word s b) (
        w,
        keeps,
        tt,
        moved logs trusted mode image s b new 1 (either (eqb old.durable k) k old.durable) id me.1 w (ap (λ (n : ℕ). (old.opening + length old.history) ∷ n ∷ replicate 526 0) (stays old.durable k)) ordered grows
            (λ seat other. record { order = λ _. refl; keeper = λ is_keeper. absurd (other (is_keeper ∙ sym own.0)) }) fits log,
        refl,
      )

  pub sends : (slots id : ℕ) (me : Mine) (i by : ℕ) (request : Message) → 2 ≤ i → me.0.client.speaks ≡ true → me.0.client.state ≡ Idle
      → Allows Here slots id me i (λ n. either (eqb n 0) 0 n) (Sends (step slots i 0 0 (some (Speaks (Sent by request)))) me)
  sends slots id me i by request above speaks idle s b long at small =
      let mine = b.each id me.0 at in let old = b.world in let history = old.history in
      let w : View = record me.0 { seen = history; client = sending me.0.client request } in
      let fits : Fits old id w = record {
        opened = mine.opened;
        seen = prefix_self history;
        durable = mine.durable;
        base = mine.base;
        told = mine.told;
        told_durable = mine.told_durable;
        told_base = mine.told_base;
        as_order = λ right. ((mine.as_order right).0, refl);
        as_keeper = mine.as_keeper;
      } in
      let log : Log logs trusted mode image old (set s.views id w) =
      λ kept. log_sent trusted mode image old.opening history old.durable s.views (b.logged kept) id me.0 request at speaks idle in
      subst (Owes s id me i (λ n. either (eqb n 0) 0 n) (Sends (step slots i 0 0 (some (Speaks (Sent by request)))) me)) (quiet_word s b i above)
      (w, keeps, tt, looked logs trusted mode image s b i 0 id me.1 w (quiet_stay old i above) fits log, record { grows = mine.seen; same = refl })

  pub replies : (slots id : ℕ) (me : Mine) (i by : ℕ) (outcome : Answer) → 2 ≤ i → me.0.client.speaks ≡ true → (logs → MayAnswer trusted image me.0.durable me.0.seen me.0.client.state outcome)
      → Allows Here slots id me i (λ n. either (eqb n 0) 0 n) (Replies (step slots i 0 0 (some (Speaks (Answered by outcome)))) me)
  replies slots id me i by outcome above speaks may s b long at small =
      let mine = b.each id me.0 at in let old = b.world in
      let w : View = record me.0 { client = answering me.0.client outcome } in
      let fits : Fits old id w = record {
        opened = mine.opened;
        seen = mine.seen;
        durable = mine.durable;
        base = mine.base;
        told = mine.told;
        told_durable = mine.told_durable;
        told_base = mine.told_base;
        as_order = mine.as_order;
        as_keeper = mine.as_keeper;
      } in
      let log : Log logs trusted mode image old (set s.views id w) =
      λ kept. log_replied trusted mode image old.opening old.history old.durable s.views (b.logged kept) id me.0 outcome at speaks mine.seen mine.durable (may kept) in
      subst (Owes s id me i (λ n. either (eqb n 0) 0 n) (Replies (step slots i 0 0 (some (Speaks (Answered by outcome)))) me)) (quiet_word s b i above)
      (w, keeps, tt, looked logs trusted mode image s b i 0 id me.1 w (quiet_stay old i above) fits log, refl)

  pub awaits : (slots id : ℕ) (me : Mine) → me.0.spent ≡ false → (logs → me.0.client.speaks ≡ true → HasFlushed me.0.client) → Allows Here slots id me 0 (λ n. n) (Awaits mode (step slots 0 0 0 none) me)
  awaits slots id me live asked s b long at small =
      let mine = b.each id me.0 at in let old = b.world in
      let n : ℕ = old.opening + length old.history in
      let w : View = record me.0 { client = flushing mode n me.0.client } in
      let fits : Fits old id w = record {
        opened = mine.opened;
        seen = mine.seen;
        durable = mine.durable;
        base = mine.base;
        told = mine.told;
        told_durable = mine.told_durable;
        told_base = mine.told_base;
        as_order = mine.as_order;
        as_keeper = mine.as_keeper;
      } in
      let log : Log logs trusted mode image old (set s.views id w) =
      λ kept. log_flushed trusted mode image old.opening old.history old.durable s.views (b.logged kept) id me.0 at (asked kept) mine.seen in
      let tells : Awaits mode (step slots 0 0 0 none) me n (w, me.1) = record {
        same = refl;
        as_order = λ right. omega (arith, sym (mine.opened live), sym (ap length (mine.as_order right).1));
      } in
      subst (Owes s id me 0 (λ n. n) (Awaits mode (step slots 0 0 0 none) me)) (accepted_word s b)
      (w, keeps, tt, looked logs trusted mode image s b 0 n id me.1 w refl fits log, tells)

  -- the right to store goes to a new seat
  pub gives_keeper : (id : ℕ) (v : View) → v.raises_durable ≡ true → Splits Here id v (without_keeper v) (keeper_only v)
  gives_keeper id v right s b at =
      let mine = b.each id v at in let own = mine.as_keeper right in let old = b.world in
      let left : View = without_keeper v in let new : World = with_keeper old (length (set s.views id left)) in
      split_to logs trusted mode image s b new id left (keeper_only v) refl b.ordered
      (λ seat view other there. let fits = b.each seat view there in record {
        opened = fits.opened;
        seen = fits.seen;
        durable = fits.durable;
        base = fits.base;
        told = fits.told;
        told_durable = fits.told_durable;
        told_base = fits.told_base;
        as_order = fits.as_order;
        as_keeper = λ r. absurd (other ((fits.as_keeper r).0 ∙ sym own.0));
      })
      record {
        opened = mine.opened;
        seen = mine.seen;
        durable = mine.durable;
        base = mine.base;
        told = mine.told;
        told_durable = mine.told_durable;
        told_base = mine.told_base;
        as_order = mine.as_order;
        as_keeper = λ r. (cc);
      }
      record {
        opened = mine.opened;
        seen = mine.seen;
        durable = mine.durable;
        base = mine.base;
        told = prefix_none old.history;
        told_durable = omega arith;
        told_base = omega arith;
        as_order = λ r. (cc);
        as_keeper = λ r. (refl, own.1, own.2);
      }
      (λ kept. log_split trusted mode image old.opening old.history old.durable s.views (b.logged kept) id v left (keeper_only v) at (record { makes = refl; made = refl; gathered = refl; client = refl }) (omega arith)
      (prefix_length v.seen old.history mine.seen) refl refl refl (λ seat view. at_end (set s.views id left) (keeper_only v) view seat))

  fits_told : (w : World) (id seat : ℕ) (v : View) → Fits w id v → Fits w seat (telling v)
  fits_told w id seat v fits = record {
    opened = fits.opened;
    seen = fits.seen;
    durable = fits.durable;
    base = fits.base;
    told = prefix_none w.history;
    told_durable = omega arith;
    told_base = omega arith;
    as_order = λ r. (cc);
    as_keeper = λ r. (cc);
  }

  pub tells : (id : ℕ) (v : View) → Splits Here id v v (telling v)
  tells id v s b at =
      let mine = b.each id v at in let old = b.world in
      split_to logs trusted mode image s b old id v (telling v) refl b.ordered (λ seat view other there. b.each seat view there) mine (fits_told old id (length (set s.views id v)) v mine)
      (λ kept. log_split trusted mode image old.opening old.history old.durable s.views (b.logged kept) id v v (telling v) at (same_log v) (omega arith) (prefix_length v.seen old.history mine.seen) refl refl refl
      (λ seat view. at_end (set s.views id v) (telling v) view seat))

  -- one client more is made
  pub makes_client : (id : ℕ) (v : View) → v.makes ≡ true → Splits Here id v (making v) (made_by v)
  makes_client id v right s b at =
      let mine = b.each id v at in let old = b.world in let left : View = making v in
      split_to logs trusted mode image s b old id left (made_by v) refl b.ordered (λ seat view other there. b.each seat view there)
      record {
        opened = mine.opened;
        seen = mine.seen;
        durable = mine.durable;
        base = mine.base;
        told = mine.told;
        told_durable = mine.told_durable;
        told_base = mine.told_base;
        as_order = mine.as_order;
        as_keeper = mine.as_keeper;
      }
      record {
        opened = mine.opened;
        seen = mine.seen;
        durable = mine.durable;
        base = mine.base;
        told = prefix_none old.history;
        told_durable = omega arith;
        told_base = omega arith;
        as_order = λ r. (cc);
        as_keeper = λ r. (cc);
      }
      (λ kept. log_made trusted mode image old.opening old.history old.durable s.views (b.logged kept) id v at right mine.seen (λ seat view. at_end (set s.views id left) (made_by v) view seat))

  -- which seat raises the accepted number doesn't matter to one that doesn't
  fits_without : (w : World) (order seat : ℕ) (view : View) → view.raises_accepted ≡ false → Fits w seat view → Fits (with_order w order) seat view
  fits_without w order seat view none_is fits = record {
    opened = fits.opened;
    seen = fits.seen;
    durable = fits.durable;
    base = fits.base;
    told = fits.told;
    told_durable = fits.told_durable;
    told_base = fits.told_base;
    as_order = λ right. absurd (unlike_flags view.raises_accepted right none_is);
    as_keeper = fits.as_keeper;
  }

  fits_other : (w : World) (order seat : ℕ) (view : View) → seat ≢ w.order → Fits w seat view → Fits (with_order w order) seat view
  fits_other w order seat view unlike fits = record {
    opened = fits.opened;
    seen = fits.seen;
    durable = fits.durable;
    base = fits.base;
    told = fits.told;
    told_durable = fits.told_durable;
    told_base = fits.told_base;
    as_order = λ right. absurd (unlike (fits.as_order right).0);
    as_keeper = fits.as_keeper;
  }

  pub gives_order : (id : ℕ) (v : View) → v.raises_accepted ≡ true → Splits Here id v (without_order v) (order_only v)
  gives_order id v right s b at =
      let mine = b.each id v at in let own = mine.as_order right in let old = b.world in
      let left : View = without_order v in let seat' : ℕ = length (set s.views id left) in let new : World = with_order old seat' in
      split_to logs trusted mode image s b new id left (order_only v) refl b.ordered
      (λ seat view other there. fits_other old seat' seat view (λ is. other (is ∙ sym own.0)) (b.each seat view there))
      record {
        opened = mine.opened;
        seen = mine.seen;
        durable = mine.durable;
        base = mine.base;
        told = mine.told;
        told_durable = mine.told_durable;
        told_base = mine.told_base;
        as_order = λ r. (cc);
        as_keeper = mine.as_keeper;
      }
      record {
        opened = mine.opened;
        seen = mine.seen;
        durable = omega arith;
        base = mine.base;
        told = prefix_none old.history;
        told_durable = omega arith;
        told_base = omega arith;
        as_order = λ r. (refl, own.1);
        as_keeper = λ r. (cc);
      }
      (λ kept. log_split trusted mode image old.opening old.history old.durable s.views (b.logged kept) id v left (order_only v) at (record { makes = refl; made = refl; gathered = refl; client = refl }) (omega arith)
      (prefix_length v.seen old.history mine.seen) refl refl refl (λ seat view. at_end (set s.views id left) (order_only v) view seat))

  pub takes_order : (id : ℕ) (v : View) (other : ℕ) (w : View) → w.raises_accepted ≡ true → Joins Here id v other w (taking_order v w) nothing
  takes_order id v other w right s b at apart there =
      let mine = b.each id v at in let old = b.world in
      let both : View = taking_order v w in
      let theirs = b.each other w (there_still logs trusted mode image s id other both w apart there) in
      let own = theirs.as_order right in
      let grows : length v.seen ≤ length w.seen = (let known = prefix_length v.seen old.history mine.seen in omega (arith, known, ap length own.1)) in
      join_to logs trusted mode image s b (with_order old id) id other both refl b.ordered
      (λ seat view unlike unlike_other at_seat. fits_other old id seat view (λ is. unlike_other (is ∙ sym own.0)) (b.each seat view at_seat))
      record {
        opened = mine.opened;
        seen = theirs.seen;
        durable = mine.durable;
        base = mine.base;
        told = mine.seen;
        told_durable = mine.told_durable;
        told_base = mine.told_base;
        as_order = λ _. (refl, own.1);
        as_keeper = mine.as_keeper;
      }
      (λ kept. log_join trusted mode image old.opening old.history old.durable s.views (b.logged kept) id other v both at (record { makes = refl; made = refl; gathered = refl; client = refl }) grows
      (prefix_length w.seen old.history theirs.seen))

  pub takes_keeper : (id : ℕ) (v : View) (other : ℕ) (w : View) → w.raises_durable ≡ true → Joins Here id v other w (taking_keeper v w) nothing
  takes_keeper id v other w right s b at apart there =
      let mine = b.each id v at in let old = b.world in
      let both : View = taking_keeper v w in
      let theirs = b.each other w (there_still logs trusted mode image s id other both w apart there) in
      let own = theirs.as_keeper right in
      join_to logs trusted mode image s b (with_keeper old id) id other both refl b.ordered
      (λ seat view unlike unlike_other at_seat. let fits = b.each seat view at_seat in record {
        opened = fits.opened;
        seen = fits.seen;
        durable = fits.durable;
        base = fits.base;
        told = fits.told;
        told_durable = fits.told_durable;
        told_base = fits.told_base;
        as_order = fits.as_order;
        as_keeper = λ r. absurd (unlike_other ((fits.as_keeper r).0 ∙ sym own.0));
      })
      record {
        opened = mine.opened;
        seen = mine.seen;
        durable = theirs.durable;
        base = theirs.base;
        told = mine.told;
        told_durable = mine.told_durable;
        told_base = mine.told_base;
        as_order = mine.as_order;
        as_keeper = λ _. (refl, own.1, own.2);
      }
      (λ kept. log_join trusted mode image old.opening old.history old.durable s.views (b.logged kept) id other v both at (record { makes = refl; made = refl; gathered = refl; client = refl }) (omega arith)
      (prefix_length v.seen old.history mine.seen))

  -- a join that leaves the rights
  joins : (s : Table) (b : Here s) (id other : ℕ) (v both : View) → get_elem? s.views id ≡ some v → SameLog v both → length v.seen ≤ length both.seen → Fits b.world id both
      → Here record { words = s.words; homes = s.homes; views = set (set s.views id both) other nothing }
  joins s b id other v both at same grows fits =
      join_to logs trusted mode image s b b.world id other both refl b.ordered (λ seat view unlike unlike_other at_seat. b.each seat view at_seat) fits
      (λ kept. log_join trusted mode image b.world.opening b.world.history b.world.durable s.views (b.logged kept) id other v both at same grows (prefix_length both.seen b.world.history fits.seen))

  pub hears : (id : ℕ) (v : View) (other : ℕ) (w : View) → Joins Here id v other w (hearing v w) nothing
  hears id v other w s b at apart there =
      let mine = b.each id v at in
      let theirs = b.each other w (there_still logs trusted mode image s id other (hearing v w) w apart there) in
      joins s b id other v (hearing v w) at (record { makes = refl; made = refl; gathered = refl; client = refl }) (omega arith) record {
        opened = mine.opened;
        seen = mine.seen;
        durable = mine.durable;
        base = mine.base;
        told = theirs.seen;
        told_durable = theirs.durable;
        told_base = theirs.base;
        as_order = mine.as_order;
        as_keeper = mine.as_keeper;
      }

  pub learns_base : (id : ℕ) (v : View) (other : ℕ) (w : View) → v.raises_durable ≡ false → Joins Here id v other w (learning_base v w) nothing
  learns_base id v other w no_keeper s b at apart there =
      let mine = b.each id v at in
      let theirs = b.each other w (there_still logs trusted mode image s id other (learning_base v w) w apart there) in
      joins s b id other v (learning_base v w) at (record { makes = refl; made = refl; gathered = refl; client = refl }) (omega arith) record {
        opened = mine.opened;
        seen = mine.seen;
        durable = mine.durable;
        base = (let m = mine.base in let t = theirs.base in omega arith);
        told = mine.told;
        told_durable = mine.told_durable;
        told_base = mine.told_base;
        as_order = mine.as_order;
        as_keeper = λ r. (cc);
      }

  -- a client is gone
  pub gathers : (id : ℕ) (v : View) (other : ℕ) (w : View) → v.client.speaks ≡ false → w.client.speaks ≡ true → Joins Here id v other w (gathering v w) nothing
  gathers id v other w silent speaks s b at apart there =
      let mine = b.each id v at in let old = b.world in
      let at_other = there_still logs trusted mode image s id other (gathering v w) w apart there in
      join_to logs trusted mode image s b old id other (gathering v w) refl b.ordered (λ seat view unlike unlike_other at_seat. b.each seat view at_seat)
      record {
        opened = mine.opened;
        seen = mine.seen;
        durable = mine.durable;
        base = mine.base;
        told = mine.told;
        told_durable = mine.told_durable;
        told_base = mine.told_base;
        as_order = mine.as_order;
        as_keeper = mine.as_keeper;
      }
      (λ kept. log_gathered trusted mode image old.opening old.history old.durable s.views (b.logged kept) id other v w at at_other silent speaks)

  all_calls : (room : Room) (seat : ℕ) (ts : List Transcript) → AreGathered room seat ts → AreAll (calls_of ts) room.world.log
  all_calls room seat [] all = tt
  all_calls room seat (t ∷ ts) all = (all.2, all_calls room seat ts all.3)

  -- a seat with all rights sees one log
  pub one_log : (id : ℕ) (v : View) (s : Table) → Seen Here id v s → v.spent ≡ false → v.raises_accepted ≡ true → v.raises_durable ≡ true → v.makes ≡ true → logs
      → (durable : ℕ) × (v.durable ≡ v.opening + durable) × IsOneLog trusted mode image v.seen durable (roster_of v)
  one_log id v s seen live raises stores makes kept =
      let b = seen.0 in let l = b.logged kept in let world = l.room.world in
      let fits = b.each id v seen.1 in let log = l.each id v seen.1 in
      let maker = log.as_maker makes in
      let made : v.made ≡ l.room.made = maker.1 in (
        world.stage.durable,
        (fits.as_keeper stores).1 ∙ sym l.stored ∙ ap (λ (n : ℕ). n + world.stage.durable) (sym (fits.opened live)),
        subst (λ (h : List Change). IsOneLog trusted mode image h world.stage.durable (roster_of v)) (l.order ∙ sym (fits.as_order raises).1)
            (subst (λ (x : Mode × Image). IsOneLog trusted x.0 x.1 world.stage.order world.stage.durable (roster_of v)) (λ k. (l.mode_is k, l.image_is k)) (record {
              log = world.log;
              paired = world.paired;
              shown = world.shown;
              legal = l.good.sound.legal;
              covers = covers_durable world l.good.sound;
              reads = reads_fit trusted world l.good;
              edits = l.good.edits;
              all = all_calls l.room id v.gathered log.gathered;
              others = λ by above. (l.unmade by (omega (arith, above, made))).0;
            })),
      )
