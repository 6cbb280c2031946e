-- what a connection knows of the order: at least all that was told before it sent its last request
use Rattle.std.proofs.Common.{◌≡◌, ◌⊎◌, inl, inr, ℕ, ◌<◌, ◌≤◌, List, [], ◌∷◌, ◌++◌, take, length, length-append, sym, ◌∙◌, ap, subst, refl, arith}
use Rattle.std.proofs.lemmas.Bool.{cases_eq}
use mathlib.Core.List.{IsPrefix}
use Rattle.nbd_wire.specs.Request.{Message}
use Rattle.nbd_wire.specs.declared.message.Answer.TheVariants.{Done}
use Rattle.export_model.specs.declared.connection.Connection.{Connection}
use Rattle.export_model.specs.declared.event.Event.{Event}
use Rattle.export_model.specs.declared.event.Event.TheVariants.{Sent}
use Rattle.export_model.specs.Fits.{IsShown}
use Rattle.export_model.specs.Log.{IsAnswered}
use Rattle.image_model.specs.Change.{Change}
use Rattle.image_model.specs.Image.{Image, apply_all}
use Rattle.export_model.specs.World.{World, image_after, put}
use Rattle.export_model.specs.Serve.{moved, ordered}
use Rattle.export_model.specs.laws.Talk.{sent_by}
use Rattle.export_model.specs.laws.Events.{IsLast, answered_split}
use Rattle.export_model.specs.laws.Logged.{put_other, put_same}
use Rattle.export_model.specs.laws.Ordered.{no_answer}
use Rattle.export_model.specs.laws.Sound.{IsOpen}

pub record Knows (world : World) (by count : ℕ) : Type 0 where
  pub placed : world.places by ≤ length world.log
  pub below : count ≤ length world.stage.order
  pub after : (k connection answer : ℕ) (other : Message) → k < length world.stage.order
      → IsAnswered world.log connection (world.paired k) other answer Done → answer < world.places by → k < count
  pub rising : (earlier : ℕ) (is : IsShown world.log earlier) → is.answer < world.places by → world.shown earlier ≤ count

-- who knows more knows that too
pub knows_more : (world : World) (by count more : ℕ) → count ≤ more → more ≤ length world.stage.order → Knows world by count → Knows world by more
knows_more world by count more le most is = record {
  placed = is.placed;
  below = most;
  after = λ k connection answer other below told before. let less = is.after k connection answer other below told before in omega (arith, less, le);
  rising = λ earlier told before. let less = is.rising earlier told before in omega (arith, less, le);
}

abbrev as_before : (log : List Event) (event : Event) (place : ℕ) (is : IsShown (log ++ event ∷ []) place)
    → IsAnswered log is.connection place is.request is.answer is.outcome → IsShown log place
as_before log event place is old = record { connection = is.connection; request = is.request; answer = is.answer; outcome = is.outcome; read = is.read; given = is.given; answered = old }

-- an event more, by which what earlier READs show stays as it is
pub knows_event : (world next : World) (by count : ℕ) (event : Event) → next.log ≡ world.log ++ event ∷ [] → next.stage.order ≡ world.stage.order → next.paired ≡ world.paired
    → next.places by ≡ world.places by → ((place : ℕ) → IsShown world.log place → next.shown place ≡ world.shown place) → Knows world by count → Knows next by count
knows_event world next by count event log order paired places shown is = record {
  placed = (let p = is.placed in omega (arith, p, places, ap length log, length-append world.log (event ∷ [])));
  below = (let b = is.below in omega (arith, b, ap length order));
  after = λ k connection answer other below told before.
      after k connection answer other (subst (λ (l : List Change). k < length l) order below)
      (subst (λ (p : ℕ). answer < p) places before)
      (answered_split world.log event connection (world.paired k) other answer Done (subst (λ (x : List Event × ℕ). IsAnswered x.0 connection x.1 other answer Done) (λ i. (log i, paired i k)) told));
  rising = λ earlier told before. rising earlier (moved_told earlier told) (subst (λ (p : ℕ). told.answer < p) places before);
}
  where
    moved_told : (earlier : ℕ) (told : IsShown next.log earlier) → IsShown (world.log ++ event ∷ []) earlier
    moved_told earlier told = record {
      connection = told.connection;
      request = told.request;
      answer = told.answer;
      outcome = told.outcome;
      read = told.read;
      given = told.given;
      answered = subst (λ (l : List Event). IsAnswered l told.connection earlier told.request told.answer told.outcome) log told.answered;
    }

    after : (k connection answer : ℕ) (other : Message) → k < length world.stage.order → answer < world.places by
        → IsAnswered world.log connection (world.paired k) other answer Done ⊎ IsLast world.log event connection (world.paired k) other answer Done → k < count
    after k connection answer other below before (inl old) = is.after k connection answer other below old before
    after k connection answer other below before (inr last) = let p = is.placed in absurd (omega (arith, last.at, before, p))

    rising : (earlier : ℕ) (told : IsShown (world.log ++ event ∷ []) earlier) → told.answer < world.places by → next.shown earlier ≤ count
    rising earlier told before = by_case (answered_split world.log event told.connection earlier told.request told.answer told.outcome told.answered)
      where
        by_case : IsAnswered world.log told.connection earlier told.request told.answer told.outcome ⊎ IsLast world.log event told.connection earlier told.request told.answer told.outcome
            → next.shown earlier ≤ count
        by_case (inl old) = let less = is.rising earlier (as_before world.log event earlier told old) before in omega (arith, less, shown earlier (as_before world.log event earlier told old))
        by_case (inr last) = let p = is.placed in absurd (omega (arith, last.at, before, p))

-- who sends a request then knows all commands
pub knows_all : (world : World) (c : ℕ) (request : Message) → ((place : ℕ) → world.shown place ≤ length world.stage.order) → Knows (sent_by world c request) c (length world.stage.order)
knows_all world c request within = record {
  placed = omega (arith, put_same world.places c (length world.log), length-append world.log (Sent c request ∷ []));
  below = omega arith;
  after = λ k connection answer other below told before. below;
  rising = λ earlier told before. within earlier;
}

-- a command more
pub knows_ordered : (world : World) (c : ℕ) (request : Message) (command : Change) (state : Connection) (by count : ℕ) → IsOpen world.log c (world.places c) request
    → Knows world by count → Knows (moved (ordered world c command) c state) by count
knows_ordered world c request command state by count is_open is = record {
  placed = is.placed;
  below = (let b = is.below in omega (arith, b, length-append world.stage.order (command ∷ [])));
  after = λ k connection answer other below told before. after k connection answer other below told before (cases_eq k (length world.stage.order));
  rising = is.rising;
}
  where
    after : (k connection answer : ℕ) (other : Message) → k < length (world.stage.order ++ command ∷ [])
        → IsAnswered world.log connection (put world.paired (length world.stage.order) (world.places c) k) other answer Done → answer < world.places by
        → (k ≡ length world.stage.order) ⊎ (k ≡ length world.stage.order → ⊥) → k < count
    after k connection answer other below told before (inl same) = absurd (no_answer world.log c (world.places c) connection answer request other Done is_open
        (subst (λ (p : ℕ). IsAnswered world.log connection p other answer Done) (ap (put world.paired (length world.stage.order) (world.places c)) same ∙ put_same world.paired (length world.stage.order) (world.places c)) told))
    after k connection answer other below told before (inr unlike) = is.after k connection answer other (omega (arith, below, unlike, length-append world.stage.order (command ∷ [])))
        (subst (λ (p : ℕ). IsAnswered world.log connection p other answer Done) (put_other world.paired (length world.stage.order) (world.places c) k unlike) told) before

take_part : (xs rest : List Change) → take (length xs) (xs ++ rest) ≡ xs
take_part [] rest = refl
take_part (x ∷ xs) rest = ap (λ (l : List Change). x ∷ l) (take_part xs rest)

-- what a beginning of the order leaves
pub image_of_part : (seen order : List Change) (image : Image) → IsPrefix seen order → image_after order (length seen) image ≡ apply_all seen image
image_of_part seen order image part =
    ap (λ (l : List Change). apply_all (take (length seen) l) image) (sym part.1) ∙ ap (λ (l : List Change). apply_all l image) (take_part seen part.0)
