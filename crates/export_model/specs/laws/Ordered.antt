-- a world stays sound when the command of a request gets its place in the order
use Rattle.std.proofs.Common.{◌≡◌, ◌≢◌, ◌⊎◌, inl, inr, ℕ, ◌+◌, ◌<◌, true, Some, List, [], ◌∷◌, ◌++◌, length, length-append, sym, ◌∙◌, ap, subst, arith}
use Rattle.std.specs.List.{slice_get}
use Rattle.std.proofs.lemmas.Option.{slice_get_within}
use Rattle.std.proofs.lemmas.Bool.{cases_eq}
use Rattle.image_model.specs.Change.{Change}
use Rattle.image_model.specs.Edit.{becomes}
use Rattle.image_model.specs.Image.{Image}
use Rattle.nbd_wire.specs.Request.{Message}
use Rattle.nbd_wire.specs.declared.error.Errno.{Errno}
use Rattle.nbd_wire.specs.declared.error.Errno.TheVariants.{Io}
use Rattle.export_model.specs.declared.connection.Connection.{Connection}
use Rattle.export_model.specs.declared.connection.Connection.TheVariants.{Idle, Requested, Waiting, Ready, Closed}
use Rattle.export_model.specs.declared.event.Event.{Event}
use Rattle.export_model.specs.declared.event.Event.TheVariants.{Sent, Answered}
use Rattle.nbd_wire.specs.declared.message.Answer.{Answer}
use Rattle.nbd_wire.specs.declared.message.Answer.TheVariants.{Done, Refused, Bytes, States}
use Rattle.export_model.specs.Covered.{IsCovered}
use Rattle.export_model.specs.Log.{StandsAt, IsAnswered, IsLegal, IsPaired, edit_asked, is_write}
use Rattle.export_model.specs.Serve.{moved, ordered}
use Rattle.export_model.specs.World.{World, put}
use Rattle.export_model.specs.laws.Events.{get_split}
use Rattle.export_model.specs.laws.Logged.{put_same, put_other}
use Rattle.export_model.specs.laws.Sound.{IsDoneAtOnce, AwaitsItself, AwaitsOthers, IsOpen, IsUnpaired, IsRight, IsSound, facts_of, one_event}

-- a place has one request
pub one_sender : (log : List Event) (place c d : ℕ) (request other : Message) → StandsAt log place (Sent c request) → StandsAt log place (Sent d other) → c ≡ d
one_sender log place c d request other at is = let same = one_event log place (Sent c request) (Sent d other) at is in cc

-- a request that is open has no answer
pub no_answer : (log : List Event) (c place d answer : ℕ) (request other : Message) (outcome : Answer)
    → IsOpen log c place request → IsAnswered log d place other answer outcome → ⊥
no_answer log c place d answer request other outcome is_open is =
    let same = one_sender log place d c other request is.sent is_open.sent in
    is_open.unanswered answer outcome is.later (subst (λ (e : ℕ). StandsAt log answer (Answered e outcome)) same is.answered)

module _ (world : World) (c : ℕ) (request : Message) (added : Change) (sound : IsSound world) (is_open : IsOpen world.log c (world.places c) request)
    (unpaired : IsUnpaired world.stage.order world.paired (world.places c)) (write : is_write request ≡ true) (asked : (image : Image) × (becomes (edit_asked request) image ≡ added)) where
  -- the number of commands before, and which one of those after a command is
  below_more : (k : ℕ) → k < length (world.stage.order ++ added ∷ []) → (k < length world.stage.order) ⊎ (k ≡ length world.stage.order)
  below_more k below = by_case (cases_eq k (length world.stage.order))
    where
      by_case : (k ≡ length world.stage.order) ⊎ (k ≡ length world.stage.order → ⊥) → (k < length world.stage.order) ⊎ (k ≡ length world.stage.order)
      by_case (inl is) = inr is
      by_case (inr other) = inl (omega (arith, length-append world.stage.order (added ∷ []), below, other))

  more_below : (k : ℕ) → k < length world.stage.order → k < length (world.stage.order ++ added ∷ [])
  more_below k below = omega (arith, length-append world.stage.order (added ∷ []), below)

  old_pair : (k : ℕ) → k < length world.stage.order → put world.paired (length world.stage.order) (world.places c) k ≡ world.paired k
  old_pair k below = put_other world.paired (length world.stage.order) (world.places c) k (λ is. omega (arith, is, below))

  new_pair : (k : ℕ) → k ≡ length world.stage.order → put world.paired (length world.stage.order) (world.places c) k ≡ world.places c
  new_pair k is = ap (put world.paired (length world.stage.order) (world.places c)) is ∙ put_same world.paired (length world.stage.order) (world.places c)

  -- the new command's request has no answer
  new_unanswered : (k d answer : ℕ) (other : Message) (outcome : Answer) → k ≡ length world.stage.order
      → IsAnswered world.log d (put world.paired (length world.stage.order) (world.places c) k) other answer outcome → ⊥
  new_unanswered k d answer other outcome is answered =
      no_answer world.log c (world.places c) d answer request other outcome is_open
      (subst (λ (place : ℕ). IsAnswered world.log d place other answer outcome) (new_pair k is) answered)

  pub legal_ordered : IsLegal world.log (world.stage.order ++ added ∷ []) (put world.paired (length world.stage.order) (world.places c))
  legal_ordered = record {
    own = λ k command at. own k command (get_split world.stage.order (added) k command at);
    apart = λ k m before below. apart k m before (below_more m below);
    done = λ d place answer other is other_write. let found = sound.legal.done d place answer other is other_write in
        (found.0, more_below found.0 found.1, old_pair found.0 found.1 ∙ found.2);
    refused = λ d place answer k other errno is unlike below. refused d place answer k other errno is unlike (below_more k below);
    in_order = λ d answer k m other outcome k_below m_below is before. in_order d answer k m other outcome is before (below_more k k_below) (below_more m m_below);
    one_open = sound.legal.one_open;
  }
    where
      own : (k : ℕ) (command : Change) → (slice_get world.stage.order k ≡ Some command) ⊎ ((k ≡ length world.stage.order) × (command ≡ added))
          → IsPaired world.log command (put world.paired (length world.stage.order) (world.places c) k)
      own k command (inl at) = subst (IsPaired world.log command) (sym (old_pair k (slice_get_within world.stage.order k command at))) (sound.legal.own k command at)
      own k command (inr last) = subst (IsPaired world.log command) (sym (new_pair k last.0))
          (record { connection = c; request = request; sent = is_open.sent; write = write; own = (asked.0, asked.1 ∙ sym last.1) })

      apart : (k m : ℕ) → k < m → (m < length world.stage.order) ⊎ (m ≡ length world.stage.order)
          → put world.paired (length world.stage.order) (world.places c) k ≢ put world.paired (length world.stage.order) (world.places c) m
      apart k m before (inl below) same = sound.legal.apart k m before below (sym (old_pair k (omega (arith, before, below))) ∙ (same ∙ old_pair m below))
      apart k m before (inr is) same =
          let below : k < length world.stage.order = omega (arith, before, is) in
          unpaired k below (sym (old_pair k below) ∙ (same ∙ new_pair m is))

      refused : (d place answer k : ℕ) (other : Message) (errno : Errno) → IsAnswered world.log d place other answer (Refused errno)
          → errno ≢ Io → (k < length world.stage.order) ⊎ (k ≡ length world.stage.order) → put world.paired (length world.stage.order) (world.places c) k ≢ place
      refused d place answer k other errno is unlike (inl below) same = sound.legal.refused d place answer k other errno is unlike below (sym (old_pair k below) ∙ same)
      refused d place answer k other errno is unlike (inr last) same =
          new_unanswered k d answer other (Refused errno) last (subst (λ (p : ℕ). IsAnswered world.log d p other answer (Refused errno)) (sym same) is)

      in_order : (d answer k m : ℕ) (other : Message) (outcome : Answer)
          → IsAnswered world.log d (put world.paired (length world.stage.order) (world.places c) k) other answer outcome
          → answer < put world.paired (length world.stage.order) (world.places c) m
          → (k < length world.stage.order) ⊎ (k ≡ length world.stage.order) → (m < length world.stage.order) ⊎ (m ≡ length world.stage.order) → k < m
      in_order d answer k m other outcome is before (inl k_below) (inl m_below) =
          sound.legal.in_order d answer k m other outcome k_below m_below
          (subst (λ (p : ℕ). IsAnswered world.log d p other answer outcome) (old_pair k k_below) is)
          (subst (λ (p : ℕ). answer < p) (old_pair m m_below) before)
      in_order d answer k m other outcome is before (inl k_below) (inr m_is) = omega (arith, k_below, m_is)
      in_order d answer k m other outcome is before (inr k_is) m_case = absurd (new_unanswered k d answer other outcome k_is is)

  pub durable_ordered : (k : ℕ) → k < length (world.stage.order ++ added ∷ [])
      → IsCovered world.stage.setting.mode world.log (put world.paired (length world.stage.order) (world.places c) k) → k < world.stage.durable
  durable_ordered k below covered = by_case (below_more k below) covered
    where
      by_case : (k < length world.stage.order) ⊎ (k ≡ length world.stage.order)
          → IsCovered world.stage.setting.mode world.log (put world.paired (length world.stage.order) (world.places c) k) → k < world.stage.durable
      by_case (inl old) is = sound.durable k old (subst (IsCovered world.stage.setting.mode world.log) (old_pair k old) is)
      by_case (inr last) (inl flushed) =
          absurd (new_unanswered k flushed.confirmed.connection flushed.confirmed.answer flushed.confirmed.request Done last flushed.confirmed.answered)
      by_case (inr last) (inr forced) =
          absurd (new_unanswered k forced.confirmed.connection forced.confirmed.answer forced.confirmed.request Done last forced.confirmed.answered)

  -- another connection's open request isn't paired with the new command
  unpaired_more : (d place : ℕ) (other : Message) → (d ≡ c → ⊥) → IsOpen world.log d place other → IsUnpaired world.stage.order world.paired place
      → IsUnpaired (world.stage.order ++ added ∷ []) (put world.paired (length world.stage.order) (world.places c)) place
  unpaired_more d place other unlike their_open theirs k below = by_case (below_more k below)
    where
      by_case : (k < length world.stage.order) ⊎ (k ≡ length world.stage.order) → put world.paired (length world.stage.order) (world.places c) k ≢ place
      by_case (inl old) same = theirs k old (sym (old_pair k old) ∙ same)
      by_case (inr last) same = unlike (one_sender world.log place d c other request their_open.sent
          (subst (λ (p : ℕ). StandsAt world.log p (Sent c request)) (sym (new_pair k last) ∙ same) is_open.sent))

  -- another connection's state stays right
  pub right_ordered : (d place : ℕ) (state : Connection) → (d ≡ c → ⊥)
      → IsRight (facts_of world) d place state → IsRight (facts_of (ordered world c added)) d place state
  right_ordered d place Idle unlike all = all
  right_ordered d place (Requested other) unlike is = (is.0, unpaired_more d place other unlike is.0 is.1)
  right_ordered d place (Waiting number) unlike is = (is.0, is.1, awaits_more is.2)
    where
      awaits_more : AwaitsItself (facts_of world) place number is.0 ⊎ AwaitsOthers (facts_of world) place number is.0
          → AwaitsItself (facts_of (ordered world c added)) place number is.0 ⊎ AwaitsOthers (facts_of (ordered world c added)) place number is.0
      awaits_more (inl itself) = inl (record {
        write = itself.write;
        k = itself.k;
        below = more_below itself.k itself.below;
        own = old_pair itself.k itself.below ∙ itself.own;
        reached = itself.reached;
      })
      awaits_more (inr others) = inr (record {
        no_write = others.no_write;
        reached = λ from k answer other below answered before. reached from k answer other (below_more k below) answered before;
      })
        where
          reached : (from k answer : ℕ) (other : Message) → (k < length world.stage.order) ⊎ (k ≡ length world.stage.order)
              → IsAnswered world.log from (put world.paired (length world.stage.order) (world.places c) k) other answer Done → answer < place → world.stage.setting.opening + k < number
          reached from k answer other (inl below) answered before =
              others.reached from k answer other below (subst (λ (p : ℕ). IsAnswered world.log from p other answer Done) (old_pair k below) answered) before
          reached from k answer other (inr last) answered before = absurd (new_unanswered k from answer other Done last answered)
  right_ordered d place (Ready Done) unlike is = (is.0, is.1, done_more is.2)
    where
      done_more : IsDoneAtOnce (facts_of world) place is.0 → IsDoneAtOnce (facts_of (ordered world c added)) place is.0
      done_more (inl write) = inl (write.0, write.1, (write.2.0, more_below write.2.0 write.2.1, old_pair write.2.0 write.2.1 ∙ write.2.2))
      done_more (inr flush) = inr flush
  right_ordered d place (Ready (Refused errno)) unlike is = (is.0, is.1, unpaired_more d place is.0 unlike is.1 is.2)
  right_ordered d place (Ready (Bytes read)) unlike is = is
  right_ordered d place (Ready (States runs)) unlike is = is
  right_ordered d place Closed unlike is = tt

  pub sound_ordered : (state : Connection) → IsRight (facts_of (ordered world c added)) c (world.places c) state
      → IsSound (moved (ordered world c added) c state)
  sound_ordered state right = record {
    legal = legal_ordered;
    durable = durable_ordered;
    right = λ d. by_place d (cases_eq d c);
  }
    where
      by_place : (d : ℕ) → (d ≡ c) ⊎ (d ≡ c → ⊥) → IsRight (facts_of (ordered world c added)) d (world.places d) (put world.connections c state d)
      by_place d (inl is) = subst (λ (e : ℕ). IsRight (facts_of (ordered world c added)) e (world.places e) (put world.connections c state e)) (sym is)
          (subst (λ (s : Connection). IsRight (facts_of (ordered world c added)) c (world.places c) s) (sym (put_same world.connections c state)) right)
      by_place d (inr other) = subst (λ (s : Connection). IsRight (facts_of (ordered world c added)) d (world.places d) s) (sym (put_other world.connections c state d other))
          (right_ordered d (world.places d) (world.connections d) other (sound.right d))
