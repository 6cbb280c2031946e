-- What clients' seats know keeps fitting the log as it goes on, and as seats come, take rights and are spent.
use Rattle.std.proofs.Common.{◌≡◌, ◌≢◌, ℕ, ◌+◌, ◌-◌, ◌<◌, ◌≤◌, ◌⊎◌, Bool, true, false, List, [], ◌∷◌, ◌++◌, length, length-append, set, refl, sym, ap, ◌∙◌, subst, ⊎_elim, inl, inr, arith, eqb, eq-eqb, ne_eqb}
use Rattle.std.proofs.lemmas.Bool.{cases_eq}
use mathlib.Core.Option.{some}
use mathlib.Core.List.{IsPrefix}
use lib.ListN.{get_elem?}
use Rattle.atomic_table.proofs.Lists.{at_set}
use Rattle.image_model.specs.Change.{Change}
use Rattle.image_model.specs.Edit.{becomes}
use Rattle.image_model.specs.Image.{Image, apply_all}
use Rattle.nbd_wire.specs.Request.{Message}
use Rattle.nbd_wire.specs.declared.message.Answer.{Answer}
use Rattle.export_model.specs.Answers.{MayAnswer}
use Rattle.export_model.specs.Log.{edit_asked, flush_waits, waits_for_store}
use Rattle.export_model.specs.OneLog.{Call, events_of}
use Rattle.export_model.specs.Serve.{moved, ordered, state_after}
use Rattle.export_model.specs.World.{World, Stage, last_number, put}
use Rattle.export_model.specs.declared.connection.Connection.{Connection}
use Rattle.export_model.specs.declared.connection.Connection.TheVariants.{Idle, Requested}
use Rattle.export_model.specs.declared.event.Event.{Event}
use Rattle.export_model.specs.declared.event.Event.TheVariants.{Sent, Answered}
use Rattle.export_model.specs.declared.step.Mode.{Mode}
use Rattle.export_model.specs.laws.Good.{IsGood, good_accepted, good_answered, good_flush, good_sent, good_stored, may_more}
use Rattle.export_model.specs.laws.Knows.{Knows, knows_all, knows_event, knows_more, knows_ordered}
use Rattle.export_model.specs.laws.Logged.{put_other, put_same}
use Rattle.export_model.specs.laws.Own.{other_event, own_event}
use Rattle.export_model.specs.laws.Sound.{IsOpen, IsRight, facts_of}
use Rattle.export_model.specs.laws.Talk.{sent_by}
use Rattle.marks.specs.Client.{HasAsked, HasFlushed, accepting, answering, flushing, sending, waiting_by}
use Rattle.marks.specs.declared.view.Client.{Client}
use Rattle.marks.specs.declared.view.Transcript.{Transcript}
use Rattle.marks.specs.declared.view.View.{View}
use Rattle.marks.specs.Rule.{Room, FitsClient, FitsLog, AreGathered, IsLogged}
use Rattle.marks.specs.Seats.{calls_of}
use Rattle.marks.specs.inner.Steps.{gathering, made_by, making, nothing}
use Rattle.marks.specs.laws.Beginnings.{prefix_length}

no_both : (x : Bool) → x ≡ true → x ≡ false → ⊥
no_both x yes_is no_is = cc

-- what this seat has a part in stays as it is
pub record Keeps (old new : Room) (seat : ℕ) : Type 0 where
  pub maker : seat ≡ old.maker → (new.maker ≡ old.maker) × (new.made ≡ old.made)
  pub made : old.made ≤ new.made
  pub clients : (by : ℕ) → by < old.made → old.holder by ≡ seat
      → (new.holder by ≡ seat) × (events_of by new.world.log ≡ events_of by old.world.log) × (new.world.connections by ≡ old.world.connections by)
      × ((count : ℕ) → Knows old.world by count → Knows new.world by count)

pub keeps_all : (room : Room) (seat : ℕ) → Keeps room room seat
keeps_all room seat = record { maker = λ is. (refl, refl); made = omega arith; clients = λ by below here. (here, refl, refl, λ count is. is) }

gathered_kept : (old new : Room) (seat : ℕ) (ts : List Transcript) → Keeps old new seat → AreGathered old seat ts → AreGathered new seat ts
gathered_kept old new seat [] kept all = tt
gathered_kept old new seat (t ∷ ts) kept all =
    let now = kept.clients t.by all.1 all.0 in
    let more = kept.made in
    let below = all.1 in
    (now.0, omega (arith, below, more), now.1 ∙ all.2, gathered_kept old new seat ts kept all.3)

client_kept : (old new : Room) (seat : ℕ) (view : View) → Keeps old new seat → FitsClient old seat view → FitsClient new seat view
client_kept old new seat view kept fits =
    let now = kept.clients view.client.by fits.made fits.here in
    let more = kept.made in
    let below = fits.made in
    record {
      here = now.0;
      made = omega (arith, below, more);
      mine = now.1 ∙ fits.mine;
      state = now.2 ∙ fits.state;
      alone = fits.alone;
      knows = now.3 (length view.seen) fits.knows;
    }

pub fits_kept : (old new : Room) (seat : ℕ) (view : View) → Keeps old new seat → FitsLog old seat view → FitsLog new seat view
fits_kept old new seat view kept fits = record {
  as_maker = λ right. let own = fits.as_maker right in let same = kept.maker own.0 in (own.0 ∙ sym same.0, own.1 ∙ sym same.1);
  as_client = λ right. client_kept old new seat view kept (fits.as_client right);
  gathered = gathered_kept old new seat view.gathered kept fits.gathered;
}

-- a view that the log has nothing of fits in any seat
pub fits_silent : (room : Room) (seat : ℕ) (view : View) → view.makes ≡ false → view.client.speaks ≡ false → view.gathered ≡ [] → FitsLog room seat view
fits_silent room seat view no_maker silent none = record {
  as_maker = λ right. absurd (no_both view.makes right no_maker);
  as_client = λ right. absurd (no_both view.client.speaks right silent);
  gathered = subst (AreGathered room seat) (sym none) tt;
}

-- a view that is another one as far as the log is concerned
pub record SameLog (v w : View) : Type 0 where
  pub makes : w.makes ≡ v.makes
  pub made : w.made ≡ v.made
  pub gathered : w.gathered ≡ v.gathered
  pub client : w.client ≡ v.client

pub fits_same : (room : Room) (seat : ℕ) (v w : View) → SameLog v w → length v.seen ≤ length w.seen → length w.seen ≤ length room.world.stage.order → FitsLog room seat v → FitsLog room seat w
fits_same room seat v w same grows within fits = record {
  as_maker = λ right. let own = fits.as_maker (sym same.makes ∙ right) in (own.0, same.made ∙ own.1);
  as_client = λ right.
      let own = fits.as_client (sym (ap (λ (c : Client). c.speaks) same.client) ∙ right) in
      let by : w.client.by ≡ v.client.by = ap (λ (c : Client). c.by) same.client in
      record {
        here = ap room.holder by ∙ own.here;
        made = subst (λ (n : ℕ). n < room.made) (sym by) own.made;
        mine = ap (λ (n : ℕ). events_of n room.world.log) by ∙ own.mine ∙ sym (ap (λ (c : Client). c.mine) same.client);
        state = ap room.world.connections by ∙ own.state ∙ sym (ap (λ (c : Client). c.state) same.client);
        alone = same.gathered ∙ own.alone;
        knows = subst (λ (n : ℕ). Knows room.world n (length w.seen)) (sym by) (knows_more room.world v.client.by (length v.seen) (length w.seen) grows within own.knows);
      };
  gathered = subst (AreGathered room seat) (sym same.gathered) fits.gathered;
}

-- all seats fit once one of them has another view
each_log : (old new : Room) (id : ℕ) (w : View) (views : List View) → ((seat : ℕ) → seat ≢ id → Keeps old new seat) → FitsLog new id w
    → ((seat : ℕ) (view : View) → get_elem? views seat ≡ some view → FitsLog old seat view)
    → (seat : ℕ) (view : View) → get_elem? (set views id w) seat ≡ some view → FitsLog new seat view
each_log old new id w views kept mine each seat view at =
    ⊎_elim
    (λ (here : (seat ≡ id) × (w ≡ view)). subst (λ (x : ℕ × View). FitsLog new x.0 x.1) (λ k. (sym here.0 k, here.1 k)) mine)
    (λ (there : (seat ≢ id) × (get_elem? views seat ≡ some view)). fits_kept old new seat view (kept seat there.0) (each seat view there.1))
    (at_set views id seat w view at)

abbrev pub Unmade : Room → Type 0
Unmade room = (by : ℕ) → room.made ≤ by → (events_of by room.world.log ≡ []) × (room.world.connections by ≡ Idle) × Knows room.world by 0

abbrev pub in_world : Room → World → Room
in_world room world = record room { world = world }

-- what a client's step changes is that client's alone
record Apart (old new : World) (c : ℕ) : Type 0 where
  events : (by : ℕ) → by ≢ c → events_of by new.log ≡ events_of by old.log
  states : (by : ℕ) → by ≢ c → new.connections by ≡ old.connections by
  knows : (by : ℕ) → by ≢ c → (count : ℕ) → Knows old by count → Knows new by count

other_seats : (room : Room) (new : World) (c id : ℕ) → room.holder c ≡ id → Apart room.world new c → (seat : ℕ) → seat ≢ id → Keeps room (in_world room new) seat
other_seats room new c id here apart seat unlike = record {
  maker = λ is. (refl, refl);
  made = omega arith;
  clients = λ by below there.
      let other : by ≢ c = λ same. unlike (sym there ∙ (ap room.holder same ∙ here)) in
      (there, apart.events by other, apart.states by other, apart.knows by other);
}

unmade_still : (room : Room) (new : World) (c : ℕ) → c < room.made → Apart room.world new c → Unmade room → Unmade (in_world room new)
unmade_still room new c below apart unmade by above =
    let other : by ≢ c = λ same. omega (arith, same, below, above) in
    let was = unmade by above in
    (apart.events by other ∙ was.0, apart.states by other ∙ was.1, apart.knows by other 0 was.2)

knows_moved : (world : World) (c : ℕ) (state : Connection) (by count : ℕ) → Knows world by count → Knows (moved world c state) by count
knows_moved world c state by count is = record { placed = is.placed; below = is.below; after = is.after; rising = is.rising }

by_other : (by c : ℕ) → by ≢ c → eqb c by ≡ false
by_other by c unlike = ne_eqb c by (λ is. unlike (sym is))

apart_sent : (world : World) (c : ℕ) (request : Message) → Apart world (sent_by world c request) c
apart_sent world c request = record {
  events = λ by unlike. other_event by world.log (Sent c request) (by_other by c unlike);
  states = λ by unlike. put_other world.connections c (Requested request) by unlike;
  knows = λ by unlike count is. knows_event world (sent_by world c request) by count (Sent c request) refl refl refl (put_other world.places c (length world.log) by unlike) (λ place told. refl) is;
}

apart_moved : (world : World) (c : ℕ) (state : Connection) → Apart world (moved world c state) c
apart_moved world c state = record { events = λ by unlike. refl; states = λ by unlike. put_other world.connections c state by unlike; knows = λ by unlike. knows_moved world c state by }

-- a client's seat whose view has come to another client's part and history
client_fits : (room : Room) (new : World) (id : ℕ) (v w : View) → FitsLog room id v → v.client.speaks ≡ true → w.makes ≡ v.makes → w.made ≡ v.made → w.gathered ≡ v.gathered
    → w.client.by ≡ v.client.by → events_of v.client.by new.log ≡ w.client.mine → new.connections v.client.by ≡ w.client.state → Knows new v.client.by (length w.seen) → FitsLog (in_world room new) id w
client_fits room new id v w fits speaks makes made gathered by mine state knows =
    let client = fits.as_client speaks in record {
      as_maker = λ right. let own = fits.as_maker (sym makes ∙ right) in (own.0, made ∙ own.1);
      as_client = λ _. record {
        here = ap room.holder by ∙ client.here;
        made = subst (λ (n : ℕ). n < room.made) (sym by) client.made;
        mine = ap (λ (n : ℕ). events_of n new.log) by ∙ mine;
        state = ap new.connections by ∙ state;
        alone = gathered ∙ client.alone;
        knows = subst (λ (n : ℕ). Knows new n (length w.seen)) (sym by) knows;
      };
      gathered = subst (AreGathered (in_world room new) id) (sym (gathered ∙ client.alone)) tt;
    }

-- what was gathered, where the log is the same
gathered_same : (old new : Room) (seat : ℕ) (ts : List Transcript) → new.world.log ≡ old.world.log → new.made ≡ old.made → ((by : ℕ) → by < old.made → old.holder by ≡ seat → new.holder by ≡ seat)
    → AreGathered old seat ts → AreGathered new seat ts
gathered_same old new seat [] log made holder all = tt
gathered_same old new seat (t ∷ ts) log made holder all =
    (holder t.by all.1 all.0, subst (λ n. t.by < n) (sym made) all.1, ap (events_of t.by) log ∙ all.2, gathered_same old new seat ts log made holder all.3)

gathered_last : (room : Room) (seat : ℕ) (ts : List Transcript) (t : Transcript) → room.holder t.by ≡ seat → t.by < room.made → events_of t.by room.world.log ≡ t.events
    → AreGathered room seat ts → AreGathered room seat (ts ++ t ∷ [])
gathered_last room seat [] t here made events all = (here, made, events, tt)
gathered_last room seat (x ∷ ts) t here made events all = (all.0, all.1, all.2, gathered_last room seat ts t here made events all.3)

-- one client more, which this seat has
abbrev with_client : Room → ℕ → Room
with_client room seat = record room { made = room.made + 1; holder = put room.holder room.made seat }

gathered_made : (room : Room) (new seat : ℕ) (ts : List Transcript) → AreGathered room seat ts → AreGathered (with_client room new) seat ts
gathered_made room new seat [] all = tt
gathered_made room new seat (t ∷ ts) all =
    let below = all.1 in
    (put_other room.holder room.made new t.by (λ is. omega (arith, is, below)) ∙ all.0, omega (arith, below), all.2, gathered_made room new seat ts all.3)

more_clients : (room : Room) (new seat : ℕ) → seat ≢ room.maker → Keeps room (with_client room new) seat
more_clients room new seat unlike = record {
  maker = λ is. absurd (unlike is);
  made = omega arith;
  clients = λ by below here. (put_other room.holder room.made new by (λ is. omega (arith, is, below)) ∙ here, refl, refl, λ count is. is);
}

-- a client is had by another seat
abbrev with_holder : Room → ℕ → ℕ → Room
with_holder room by seat = record room { holder = put room.holder by seat }

gathered_held : (room : Room) (by seat : ℕ) (ts : List Transcript) → AreGathered room seat ts → AreGathered (with_holder room by seat) seat ts
gathered_held room by seat [] all = tt
gathered_held room by seat (t ∷ ts) all = (here (cases_eq t.by by), all.1, all.2, gathered_held room by seat ts all.3)
  where
    here : (t.by ≡ by) ⊎ (t.by ≡ by → ⊥) → put room.holder by seat t.by ≡ seat
    here (inl is) = ap (put room.holder by seat) is ∙ put_same room.holder by seat
    here (inr other) = put_other room.holder by seat t.by other ∙ all.0

-- the calls of clients of which one more is gone
pub calls_more : (ts : List Transcript) (t : Transcript) → calls_of (ts ++ t ∷ []) ≡ calls_of ts ++ record { by = t.by; events = t.events } ∷ []
calls_more [] t = refl
calls_more (x ∷ ts) t = ap (λ (calls : List Call). record { by = x.by; events = x.events } ∷ calls) (calls_more ts t)

-- the client's state says which request it is at
waits_at : (waits : Message → Bool) (number : ℕ) (state : Connection) (request : Message) → state ≡ Requested request → state_after (waits request) number ≡ waiting_by waits number state
waits_at waits number state request is = sym (ap (waiting_by waits number) is)

module _ (trusted : Type 0) (mode : Mode) (image : Image) (opening : ℕ) (history : List Change) (durable : ℕ) (views : List View) (l : IsLogged trusted mode image opening history durable views) where
  abbrev Now : List View → Type 0
  Now = IsLogged trusted mode image opening history durable

  -- a seat comes to another view, which is the same as far as the log is concerned
  pub log_same : (id : ℕ) (v w : View) → get_elem? views id ≡ some v → SameLog v w → length v.seen ≤ length w.seen → length w.seen ≤ length history → Now (set views id w)
  log_same id v w at same grows within = record {
    room = l.room;
    good = l.good;
    mode_is = l.mode_is;
    image_is = l.image_is;
    opened = l.opened;
    order = l.order;
    stored = l.stored;
    unmade = l.unmade;
    each = each_log l.room l.room id w views (λ seat _. keeps_all l.room seat) (fits_same l.room id v w same grows (omega (arith, within, ap length l.order)) (l.each id v at)) l.each;
  }

  -- the rights of seats stay, and one more comes
  pub log_split_to : (new : Room) (id : ℕ) (left right : View) → new.world ≡ l.room.world → Unmade new
      → ((seat : ℕ) (view : View) → seat ≢ id → get_elem? views seat ≡ some view → FitsLog new seat view) → FitsLog new id left → FitsLog new (length (set views id left)) right
      → ((seat : ℕ) (view : View) → get_elem? (set views id left ++ right ∷ []) seat ≡ some view → (get_elem? (set views id left) seat ≡ some view) ⊎ ((seat ≡ length (set views id left)) × (right ≡ view)))
      → Now (set views id left ++ right ∷ [])
  log_split_to new id left right same unmade others mine theirs at_end = record {
    room = new;
    good = subst (IsGood trusted) (sym same) l.good;
    mode_is = ap (λ (w : World). w.stage.setting.mode) same ∙ l.mode_is;
    image_is = ap (λ (w : World). w.stage.setting.image) same ∙ l.image_is;
    opened = ap (λ (w : World). w.stage.setting.opening) same ∙ l.opened;
    order = ap (λ (w : World). w.stage.order) same ∙ l.order;
    stored = ap (λ (w : World). opening + w.stage.durable) same ∙ l.stored;
    unmade = unmade;
    each = λ seat view e.
        ⊎_elim
        (λ (was : get_elem? (set views id left) seat ≡ some view).
        ⊎_elim
        (λ (here : (seat ≡ id) × (left ≡ view)). subst (λ (x : ℕ × View). FitsLog new x.0 x.1) (λ k. (sym here.0 k, here.1 k)) mine)
        (λ (there : (seat ≢ id) × (get_elem? views seat ≡ some view)). others seat view there.0 there.1)
        (at_set views id seat left view was))
        (λ (last : (seat ≡ length (set views id left)) × (right ≡ view)). subst (λ (x : ℕ × View). FitsLog new x.0 x.1) (λ k. (sym last.0 k, last.1 k)) theirs)
        (at_end seat view e);
  }

  pub log_join_to : (new : Room) (id other : ℕ) (both : View) → new.world ≡ l.room.world → Unmade new
      → ((seat : ℕ) (view : View) → seat ≢ id → seat ≢ other → get_elem? views seat ≡ some view → FitsLog new seat view) → FitsLog new id both
      → Now (set (set views id both) other nothing)
  log_join_to new id other both same unmade others mine = record {
    room = new;
    good = subst (IsGood trusted) (sym same) l.good;
    mode_is = ap (λ (w : World). w.stage.setting.mode) same ∙ l.mode_is;
    image_is = ap (λ (w : World). w.stage.setting.image) same ∙ l.image_is;
    opened = ap (λ (w : World). w.stage.setting.opening) same ∙ l.opened;
    order = ap (λ (w : World). w.stage.order) same ∙ l.order;
    stored = ap (λ (w : World). opening + w.stage.durable) same ∙ l.stored;
    unmade = unmade;
    each = λ seat view e.
        ⊎_elim
        (λ (gone : (seat ≡ other) × (nothing ≡ view)). subst (FitsLog new seat) gone.1 (fits_silent new seat nothing refl refl refl))
        (λ (there : (seat ≢ other) × (get_elem? (set views id both) seat ≡ some view)).
        ⊎_elim
        (λ (here : (seat ≡ id) × (both ≡ view)). subst (λ (x : ℕ × View). FitsLog new x.0 x.1) (λ k. (sym here.0 k, here.1 k)) mine)
        (λ (away : (seat ≢ id) × (get_elem? views seat ≡ some view)). others seat view away.0 there.0 away.1)
        (at_set views id seat both view there.1))
        (at_set (set views id both) other seat nothing view e);
  }

  -- a seat that the log has nothing of comes, and the one that it came from is the same as far as the log is concerned
  pub log_split : (id : ℕ) (v left right : View) → get_elem? views id ≡ some v → SameLog v left → length v.seen ≤ length left.seen → length left.seen ≤ length history
      → right.makes ≡ false → right.client.speaks ≡ false → right.gathered ≡ []
      → ((seat : ℕ) (view : View) → get_elem? (set views id left ++ right ∷ []) seat ≡ some view → (get_elem? (set views id left) seat ≡ some view) ⊎ ((seat ≡ length (set views id left)) × (right ≡ view)))
      → Now (set views id left ++ right ∷ [])
  log_split id v left right at same grows within no_maker silent none at_end =
      log_split_to l.room id left right refl l.unmade (λ seat view unlike there. l.each seat view there)
      (fits_same l.room id v left same grows (omega (arith, within, ap length l.order)) (l.each id v at))
      (fits_silent l.room (length (set views id left)) right no_maker silent none) at_end

  pub log_join : (id other : ℕ) (v both : View) → get_elem? views id ≡ some v → SameLog v both → length v.seen ≤ length both.seen → length both.seen ≤ length history
      → Now (set (set views id both) other nothing)
  log_join id other v both at same grows within =
      log_join_to l.room id other both refl l.unmade (λ seat view unlike unlike_other there. l.each seat view there)
      (fits_same l.room id v both same grows (omega (arith, within, ap length l.order)) (l.each id v at))

  -- the durable number is raised
  pub log_stored : (more : ℕ) (id : ℕ) (v w : View) → get_elem? views id ≡ some v → SameLog v w → w.seen ≡ v.seen → length v.seen ≤ length history → durable ≤ more
      → IsLogged trusted mode image opening history more (set views id w)
  log_stored more id v w at same seen within less = record {
    room = in_world l.room new;
    good = good_stored trusted world count (omega (arith, less, is)) l.good;
    mode_is = l.mode_is;
    image_is = l.image_is;
    opened = l.opened;
    order = l.order;
    stored = omega (arith, less, is);
    unmade = λ by above. let was = l.unmade by above in (was.0, was.1, knows by 0 was.2);
    each = each_log l.room (in_world l.room new) id w views (λ seat _. kept seat)
        (fits_kept l.room (in_world l.room new) id w (kept id) (fits_same l.room id v w same (omega (arith, ap length seen)) (omega (arith, within, ap length l.order, ap length seen)) (l.each id v at))) l.each;
  }
    where
      is : opening + l.room.world.stage.durable ≡ durable
      is = l.stored

      world : World
      world = l.room.world

      count : ℕ
      count = more - opening

      new : World
      new = record world { stage = record world.stage { durable = count } }

      knows : (by held : ℕ) → Knows world by held → Knows new by held
      knows by held known = record { placed = known.placed; below = known.below; after = known.after; rising = known.rising }

      kept : (seat : ℕ) → Keeps l.room (in_world l.room new) seat
      kept seat = record { maker = λ _. (refl, refl); made = omega arith; clients = λ by below here. (here, refl, refl, knows by) }

  -- a client's step that leaves the order
  client_steps : (id : ℕ) (v w : View) (new : World) → get_elem? views id ≡ some v → v.client.speaks ≡ true → IsGood trusted new → Apart l.room.world new v.client.by → new.stage ≡ l.room.world.stage
      → w.makes ≡ v.makes → w.made ≡ v.made → w.gathered ≡ v.gathered → w.client.by ≡ v.client.by → events_of v.client.by new.log ≡ w.client.mine
      → new.connections v.client.by ≡ w.client.state → Knows new v.client.by (length w.seen) → Now (set views id w)
  client_steps id v w new at speaks good apart stage makes made gathered by mine state knows =
      let fits = l.each id v at in let client = fits.as_client speaks in record {
        room = in_world l.room new;
        good = good;
        mode_is = ap (λ (t : Stage). t.setting.mode) stage ∙ l.mode_is;
        image_is = ap (λ (t : Stage). t.setting.image) stage ∙ l.image_is;
        opened = ap (λ (t : Stage). t.setting.opening) stage ∙ l.opened;
        order = ap (λ (t : Stage). t.order) stage ∙ l.order;
        stored = ap (λ (t : Stage). opening + t.durable) stage ∙ l.stored;
        unmade = unmade_still l.room new v.client.by client.made apart l.unmade;
        each = each_log l.room (in_world l.room new) id w views (other_seats l.room new v.client.by id client.here apart) (client_fits l.room new id v w fits speaks makes made gathered by mine state knows) l.each;
      }

  pub log_sent : (id : ℕ) (v : View) (request : Message) → get_elem? views id ≡ some v → v.client.speaks ≡ true → v.client.state ≡ Idle
      → Now (set views id (record v { seen = history; client = sending v.client request }))
  log_sent id v request at speaks idle =
      let world = l.room.world in let c = v.client.by in
      let client = (l.each id v at).as_client speaks in
      client_steps id v (record v { seen = history; client = sending v.client request }) (sent_by world c request) at speaks (good_sent trusted world c request l.good (client.state ∙ idle)) (apart_sent world c request) refl refl refl refl refl
      (own_event c world.log (Sent c request) (eq-eqb c c refl) ∙ ap (λ (es : List Event). es ++ Sent c request ∷ []) client.mine) (put_same world.connections c (Requested request))
      (subst (λ (h : List Change). Knows (sent_by world c request) c (length h)) l.order (knows_all world c request l.good.fits.within))

  pub log_replied : (id : ℕ) (v : View) (outcome : Answer) → get_elem? views id ≡ some v → v.client.speaks ≡ true → IsPrefix v.seen history → v.durable ≤ durable
      → MayAnswer trusted image v.durable v.seen v.client.state outcome → Now (set views id (record v { client = answering v.client outcome }))
  log_replied id v outcome at speaks part below may =
      let world = l.room.world in let c = v.client.by in
      let client = (l.each id v at).as_client speaks in
      let is = l.stored in
      let opened = l.opened in
      let allowed = may_more trusted image v.durable (world.stage.setting.opening + world.stage.durable) v.seen v.client.state outcome (omega (arith, below, is, opened)) may in
      let a = good_answered trusted world c l.good v.client.state v.seen outcome client.state (subst (IsPrefix v.seen) (sym l.order) part) client.knows
      (subst (λ (i : Image). MayAnswer trusted i (world.stage.setting.opening + world.stage.durable) v.seen v.client.state outcome) (sym l.image_is) allowed) in
      let event : Event = Answered c outcome in
      let order : a.next.stage.order ≡ world.stage.order = ap (λ (t : Stage). t.order) a.stage in
      let knows : (d count : ℕ) → Knows world d count → Knows a.next d count =
      λ d count known. knows_event world a.next d count event a.log order a.paired (ap (λ (f : ℕ → ℕ). f d) a.places) a.shown known in
      let apart : Apart world a.next c = record {
        events = λ d unlike. ap (events_of d) a.log ∙ other_event d world.log event (by_other d c unlike);
        states = λ d unlike. ap (λ (f : ℕ → Connection). f d) a.states ∙ put_other world.connections c Idle d unlike;
        knows = λ d unlike. knows d;
      } in
      client_steps id v (record v { client = answering v.client outcome }) a.next at speaks a.is_good apart a.stage refl refl refl refl
      (ap (events_of c) a.log ∙ (own_event c world.log event (eq-eqb c c refl) ∙ ap (λ (es : List Event). es ++ event ∷ []) client.mine))
      (ap (λ (f : ℕ → Connection). f c) a.states ∙ put_same world.connections c Idle) (knows c (length v.seen) client.knows)

  pub log_flushed : (id : ℕ) (v : View) → get_elem? views id ≡ some v → (v.client.speaks ≡ true → HasFlushed v.client) → IsPrefix v.seen history
      → Now (set views id (record v { client = flushing mode (opening + length history) v.client }))
  log_flushed id v at asked part = by_case (or_not v.client.speaks)
    where
      w : View
      w = record v { client = flushing mode (opening + length history) v.client }

      or_not : (x : Bool) → (x ≡ true) ⊎ (x ≡ false)
      or_not true = inl refl
      or_not false = inr refl

      world : World
      world = l.room.world

      by_case : (v.client.speaks ≡ true) ⊎ (v.client.speaks ≡ false) → Now (set views id w)
      by_case (inr silent) = record {
        room = l.room;
        good = l.good;
        mode_is = l.mode_is;
        image_is = l.image_is;
        opened = l.opened;
        order = l.order;
        stored = l.stored;
        unmade = l.unmade;
        each = each_log l.room l.room id w views (λ seat _. keeps_all l.room seat)
            (record { as_maker = (l.each id v at).as_maker; as_client = λ right. absurd (no_both v.client.speaks right silent); gathered = (l.each id v at).gathered }) l.each;
      }
      by_case (inl speaks) =
          let c = v.client.by in
          let client = (l.each id v at).as_client speaks in
          let flush = asked speaks in
          let state : Connection = state_after (flush_waits world.stage.setting.mode) (last_number world) in
          client_steps id v w (moved world c state) at speaks (good_flush trusted world c flush.request l.good (client.state ∙ flush.asks) flush.flush) (apart_moved world c state) refl refl refl refl refl client.mine
          (put_same world.connections c state
          ∙ ((λ k. state_after (flush_waits (l.mode_is k)) (l.opened k + length (l.order k))) ∙ waits_at (λ request. flush_waits mode) (opening + length history) v.client.state flush.request flush.asks))
          (knows_moved world c state c (length v.seen) client.knows)

  -- a client's command is the history's last
  pub log_accepted : (id : ℕ) (v w : View) (change : Change) → get_elem? views id ≡ some v → HasAsked trusted image history change v.client → IsPrefix v.seen history
      → w.makes ≡ v.makes → w.made ≡ v.made → w.gathered ≡ v.gathered → w.client ≡ accepting mode (opening + length history + 1) v.client → w.seen ≡ history ++ change ∷ []
      → IsLogged trusted mode image opening (history ++ change ∷ []) durable (set views id w)
  log_accepted id v w change at asked part makes made gathered client_is seen =
      let world = l.room.world in let c = v.client.by in
      let fits = l.each id v at in
      let client = fits.as_client asked.speaks in
      let request = asked.request in
      let waits = waits_for_store world.stage.setting.mode request in
      let state : Connection = state_after waits (last_number world + 1) in
      let new : World = moved (ordered world c change) c state in
      let is_open : IsOpen world.log c (world.places c) request = (subst (IsRight (facts_of world) c (world.places c)) (client.state ∙ asked.asks) (l.good.sound.right c)).0 in
      let apart : Apart world new c = record {
        events = λ by unlike. refl;
        states = λ by unlike. put_other world.connections c state by unlike;
        knows = λ by unlike count is. knows_ordered world c request change state by count is_open is;
      } in
      let right_now : trusted → becomes (edit_asked request) (apply_all world.stage.order world.stage.setting.image) ≡ change =
      λ t. ap (becomes (edit_asked request)) (λ k. apply_all (l.order k) (l.image_is k)) ∙ asked.right t in
      let order : new.stage.order ≡ history ++ change ∷ [] = ap (λ (h : List Change). h ++ change ∷ []) l.order in
      let held = prefix_length v.seen history part in
      record {
        room = in_world l.room new;
        good = good_accepted trusted world c request change l.good (client.state ∙ asked.asks) asked.write asked.own right_now;
        mode_is = l.mode_is;
        image_is = l.image_is;
        opened = l.opened;
        order = order;
        stored = l.stored;
        unmade = unmade_still l.room new c client.made apart l.unmade;
        each = each_log l.room (in_world l.room new) id w views (other_seats l.room new c id client.here apart)
            (client_fits l.room new id v w fits asked.speaks makes made gathered (ap (λ (a : Client). a.by) client_is) (client.mine ∙ sym (ap (λ (a : Client). a.mine) client_is))
            (put_same world.connections c state
            ∙ ((λ k. state_after (waits_for_store (l.mode_is k) request) (l.opened k + length (l.order k) + 1))
            ∙ (waits_at (waits_for_store mode) (opening + length history + 1) v.client.state request asked.asks ∙ sym (ap (λ (a : Client). a.state) client_is))))
            (knows_more new c (length v.seen) (length w.seen) (omega (arith, ap length seen, length-append history (change ∷ []), held)) (omega (arith, ap length seen, ap length order))
            (knows_ordered world c request change state c (length v.seen) is_open client.knows)))
            l.each;
      }

  -- one client more is made
  pub log_made : (id : ℕ) (v : View) → get_elem? views id ≡ some v → v.makes ≡ true → IsPrefix v.seen history
      → ((seat : ℕ) (view : View) → get_elem? (set views id (making v) ++ made_by v ∷ []) seat ≡ some view → (get_elem? (set views id (making v)) seat ≡ some view) ⊎ ((seat ≡ length (set views id (making v))) × (made_by v ≡ view)))
      → Now (set views id (making v) ++ made_by v ∷ [])
  log_made id v at right part at_end =
      let fits = l.each id v at in let own = fits.as_maker right in
      let left = making v in let seat' : ℕ = length (set views id left) in
      let room = l.room in
      let new : Room = with_client room seat' in
      let made : v.made ≡ room.made = own.1 in
      let held = prefix_length v.seen history part in
      log_split_to new id left (made_by v) refl (λ by above. l.unmade by (omega (arith, above)))
      (λ seat view unlike there. fits_kept room new seat view (more_clients room seat' seat (λ is. unlike (is ∙ sym own.0))) (l.each seat view there))
      record {
        as_maker = λ _. (own.0, omega (arith, made));
        as_client = λ r. let client = fits.as_client r in let below = client.made in record {
          here = put_other room.holder room.made seat' v.client.by (λ is. omega (arith, is, below)) ∙ client.here;
          made = omega (arith, below);
          mine = client.mine;
          state = client.state;
          alone = client.alone;
          knows = client.knows;
        };
        gathered = gathered_made room seat' id v.gathered fits.gathered;
      }
      record {
        as_maker = λ r. (cc);
        as_client = λ _. record {
          here = ap new.holder made ∙ put_same room.holder room.made seat';
          made = omega (arith, made);
          mine = (l.unmade v.made (omega (arith, made))).0;
          state = (l.unmade v.made (omega (arith, made))).1;
          alone = refl;
          knows = knows_more room.world v.made 0 (length v.seen) (omega arith) (omega (arith, held, ap length l.order)) (l.unmade v.made (omega (arith, made))).2;
        };
        gathered = tt;
      }
      at_end

  -- a client is gone
  pub log_gathered : (id other : ℕ) (v w : View) → get_elem? views id ≡ some v → get_elem? views other ≡ some w → v.client.speaks ≡ false → w.client.speaks ≡ true
      → Now (set (set views id (gathering v w)) other nothing)
  log_gathered id other v w at there silent speaks =
      let room = l.room in
      let mine = l.each id v at in
      let client = (l.each other w there).as_client speaks in
      let by = w.client.by in
      let new : Room = with_holder room by id in
      log_join_to new id other (gathering v w) refl l.unmade
      (λ seat view unlike unlike_other at_seat. fits_kept room new seat view (record {
        maker = λ is. (refl, refl);
        made = omega arith;
        clients = λ other_by below here. (put_other room.holder by id other_by (λ is. unlike_other (sym here ∙ (ap room.holder is ∙ client.here))) ∙ here, refl, refl, λ count is. is);
      }) (l.each seat view at_seat))
      record {
        as_maker = mine.as_maker;
        as_client = λ r. absurd (no_both v.client.speaks r silent);
        gathered = gathered_last new id v.gathered record { by = by; events = w.client.mine } (put_same room.holder by id) client.made client.mine (gathered_held room by id v.gathered mine.gathered);
      }
