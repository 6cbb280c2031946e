-- the run of a pipe, from the opening of its device to the end
use Rattle.std.specs.Prelude.{ℕ, ◌≡◌, ◌⊎◌, Bool, true, List, length, Option, Result, Err, IfErr}
use Rattle.std.specs.List.{AllByRecursion}
use Rattle.checkpoint.specs.Opening.{StandsAs}
use Rattle.device_image.specs.Stands.{StandsFor}
use Rattle.disk_model.specs.Disk.{State, LeavesOnly, MayLeave}
use Rattle.disk_model.specs.Faults.{HasRisen}
use Rattle.nbd_wire.specs.Request.{Message}
use Rattle.nbd_wire.specs.declared.error.Errno.TheVariants.{Io}
use Rattle.nbd_wire.specs.declared.message.Answer.TheVariants.{Refused}
use Rattle.export_steps.specs.Life.{IsDurable}
use Rattle.export_steps.specs.Parts.{StandsAfter}
use Rattle.export_model.specs.Fits.{EditsFit, ReadsFit}
use Rattle.export_model.specs.Run.{IsRun}
use Rattle.export_model.specs.World.{Setting, World, fresh}
use Rattle.export_model.specs.declared.step.Mode.{Mode}
use Rattle.export_model.specs.declared.step.Step.{Step}
use Rattle.nbdj_pipe.specs.Causes.{HasCause}
use Rattle.nbdj_pipe.specs.Pipe.{IsOrderly}
use Rattle.nbdj_pipe.specs.Talk.{AreAnswered, Exchange, plain, spoken, talk_to}
use Rattle.front_end.specs.declared.refusal.Refusal.{Refusal}
use Rattle.front_end.specs.declared.refusal.Refusal.TheVariants.{StreamFault}

-- What an opening found on an honest device: a content that a crash at its start may leave stands for the image and the
-- number with which the life begins, and so does what the device gives from then on, whose sizes and generation are the
-- life's, and which has all of the image in map and data. A crash in the opening leaves what it could leave before, or what
-- stands for the same.
pub record IsFound (setting : Setting) (start opened : State) : Type 0 where
  pub content : List ℕ
  pub fixed : MayLeave start content
  pub stands : StandsFor content setting.image setting.opening
  pub sizes : setting.geometry ≡ stands.header.geometry
  pub seen : StandsFor opened.seen setting.image setting.opening
  pub geometry : setting.geometry ≡ seen.header.geometry
  pub generation : setting.generation ≡ seen.header.generation
  pub base : setting.opening ≡ seen.header.base
  pub any_moment : LeavesOnly start opened (λ left. MayLeave start left ⊎ StandsAs content left)

-- The run of a pipe is one of a world, from the opening of its device to the end, in which the requests were sent and
-- answered in turn. What is said of a device's content has its honesty as a premise.
pub record IsLife {D : Type 0} (state : D → State) (faults : D → ℕ) (frames : ℕ) (mode : Mode) (start end : D) (outcome : Result (Unit {0}) Refusal) (trusted : Bool)
    (exchanges : List Exchange) (last : Option Message) : Type 0 where
  pub opened : D
  -- the world at the beginning and at the end, and the steps between them
  pub setting : Setting
  pub next : World
  pub steps : List Step
  pub run : IsRun (fresh setting) steps next
  pub said : spoken next.log ≡ talk_to exchanges last
  -- what was agreed on, and how much may wait for the checkpoint
  pub flags : setting.flags ≡ plain
  pub kept : setting.mode ≡ mode
  pub most : setting.frames ≡ frames
  pub one : setting.connections ≡ 1
  -- each answer is one that its request may have, and EIO comes only where the device failed
  pub answered : AreAnswered setting.geometry exchanges
  pub truth : AllByRecursion (λ (exchange : Exchange). exchange.answer ≡ Refused Io → HasRisen (faults start) (faults end)) exchanges
  -- where the input came to its end and the device didn't fail, all is durable that was ordered
  pub stored : IsOrderly outcome → next.stage.durable ≡ length next.stage.order
  pub quiet : IsOrderly outcome → faults end ≡ faults start
  -- where a stream failed it is durable too, or the device has failed
  pub broken : outcome ≡ Err StreamFault → (next.stage.stopped ≡ true) ⊎ (next.stage.durable ≡ length next.stage.order)
  -- the run shows why the session ended before its input did
  pub cause : IfErr outcome (λ refusal. HasCause refusal (fresh setting) next)
  -- on an honest device: each READ is answered the bytes of the image after some first commands of the order
  pub shows : trusted ≡ true → ReadsFit next.log next.stage.order next.paired next.shown setting.image
  -- and each command is what its request's edit becomes over the image after those before it
  pub edits : trusted ≡ true → EditsFit next.log next.stage.order next.paired setting.image
  pub found : trusted ≡ true → IsFound setting (state start) (state opened)
  pub durable : trusted ≡ true → IsDurable (fresh setting) next (state opened) (state end)
  -- whatever a crash at the end may leave reaches all that is durable by then, covered or not
  pub leaves : trusted ≡ true → (content : List ℕ) → MayLeave (state end) content → StandsAfter next.stage.order setting.image setting.opening next.stage.durable content

-- the run of a pipe, on any device, and with what its content keeps and what reads of it show on an honest one
abbrev pub IsLived : {D : Type 0} → (D → State) → (D → ℕ) → (D → Type 0) → ℕ → Mode → D → D → List Exchange → Option Message → Result (Unit {0}) Refusal → Type 0
IsLived state faults honest frames mode start end exchanges last outcome =
    (trusted : Bool) → (trusted ≡ true → honest start) → IsLife state faults frames mode start end outcome trusted exchanges last
