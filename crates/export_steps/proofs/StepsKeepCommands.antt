-- steps that leave the order of commands, and what an order knows of the image
use Rattle.std.proofs.Common.{◌≡◌, ℕ, ◌&&◌, ◌==◌, ◌+◌, Bool, nat_le, nat_lt, List, [], ◌∷◌, length, refl, subst, sym}
use Rattle.image_model.specs.Change.{Change}
use Rattle.image_model.specs.Image.{Image}
use Rattle.nbd_wire.specs.Request.{Message}
use Rattle.order_book.specs.Order.{OrderState}
use Rattle.order_book.specs.Shown.{ShowsImage}
use Rattle.export_steps.specs.Parts.{Shows}
use Rattle.shared_cache.specs.Cache.{CacheState}
use Rattle.export_model.specs.declared.connection.Connection.{Connection}
use Rattle.export_model.specs.declared.connection.Connection.TheVariants.{Idle, Requested, Waiting, Ready, Closed}
use Rattle.export_model.specs.Checkpoint.{can_clean, can_copy, can_finish, can_map, can_rotate, finished, is_full}
use Rattle.export_model.specs.Serve.{Failure, Nothing, OutOfMemory, DeviceFailure, Misread, answer}
use Rattle.export_model.specs.Step.{append, clean, copy_block, finish, in_time, publish, rotate, seal, sealed_more, send, sent, with_generation, without_memory, write_map, written}
use Rattle.export_model.specs.World.{Setting, Stage, World, fits, image_after}
use Rattle.export_model.specs.laws.Steps.{of_either}

-- the order of commands stays, and what stays as long as the device isn't opened again
pub record IsSteady (old new : Stage) : Type 0 where
  pub order : new.order ≡ old.order
  pub setting : new.setting ≡ old.setting

steady : (stage : Stage) → IsSteady stage stage
steady stage = record { order = refl; setting = refl }

-- then the order shows the image still
pub shows_still : (old new : Stage) (first order : OrderState) → IsSteady old new → order.cache ≡ first.cache → Shows old first → Shows new order
shows_still old new first order is same shown =
    subst (λ (cache : CacheState). ShowsImage (image_after new.order (length new.order) new.setting.image) cache) (sym same)
    (subst (λ (setting : Setting). ShowsImage (image_after new.order (length new.order) setting.image) first.cache) (sym is.setting)
    (subst (λ (commands : List Change). ShowsImage (image_after commands (length commands) old.setting.image) first.cache) (sym is.order) shown))

-- and so it does where its cache shows what it showed
pub shows_after : (old new : Stage) (first order : OrderState) → IsSteady old new → ((image : Image) → ShowsImage image first.cache → ShowsImage image order.cache) → Shows old first → Shows new order
shows_after old new first order is keeps shown =
    keeps (image_after new.order (length new.order) new.setting.image) (shows_still old new first first is refl shown)

module _ (world : World) where
  abbrev Steady : World → Type 0
  Steady next = IsSteady world.stage next.stage

  none : Steady world
  none = steady world.stage

  steady_sent : (failure : Failure) (c : ℕ) (request : Message) → Steady (sent failure world c request)
  steady_sent OutOfMemory c request = record { order = refl; setting = refl }
  steady_sent Nothing c request = record { order = refl; setting = refl }
  steady_sent DeviceFailure c request = record { order = refl; setting = refl }
  steady_sent (Misread given image) c request = record { order = refl; setting = refl }

  pub steady_send : (failure : Failure) (c : ℕ) (request : Message) (state : Connection) → Steady (send failure world c request state)
  steady_send failure c request Idle = steady_sent failure c request
  steady_send failure c request (Requested other) = record { order = refl; setting = refl }
  steady_send failure c request (Waiting number) = record { order = refl; setting = refl }
  steady_send failure c request (Ready outcome) = record { order = refl; setting = refl }
  steady_send failure c request Closed = record { order = refl; setting = refl }

  pub steady_answer : (c : ℕ) (state : Connection) → Steady (answer world c state)
  steady_answer c (Ready outcome) = record { order = refl; setting = refl }
  steady_answer c (Waiting number) = of_either Steady (nat_le number (world.stage.setting.opening + world.stage.durable)) _ _ (λ reached. record { order = refl; setting = refl })
      (λ above. of_either Steady world.stage.stopped _ _ (λ stopped. record { order = refl; setting = refl }) (λ works. record { order = refl; setting = refl }))
  steady_answer c Idle = record { order = refl; setting = refl }
  steady_answer c (Requested request) = record { order = refl; setting = refl }
  steady_answer c Closed = record { order = refl; setting = refl }

  steady_sealed : (failure : Failure) → Steady (sealed_more failure world)
  steady_sealed OutOfMemory = record { order = refl; setting = refl }
  steady_sealed Nothing = record { order = refl; setting = refl }
  steady_sealed DeviceFailure = record { order = refl; setting = refl }
  steady_sealed (Misread given image) = record { order = refl; setting = refl }

  pub steady_seal : (failure : Failure) → Steady (seal failure world)
  steady_seal failure = of_either Steady (nat_lt world.stage.sealed (length world.stage.order) && (world.stage.sealed == world.stage.durable)) _ _ (λ pending. steady_sealed failure) (λ nothing. record { order = refl; setting = refl })

  steady_written : (failure : Failure) (stage : Stage) → IsSteady world.stage stage → Steady (written failure world stage)
  steady_written Nothing stage is = record { order = is.order; setting = is.setting }
  steady_written OutOfMemory stage is = record { order = refl; setting = refl }
  steady_written DeviceFailure stage is = record { order = refl; setting = refl }
  steady_written (Misread given image) stage is = record { order = is.order; setting = is.setting }

  pub steady_append : (failure : Failure) → Steady (append failure world)
  steady_append failure = of_either Steady (nat_lt world.stage.stored world.stage.sealed) _ _
      (λ hand. of_either Steady world.stage.stopped _ _ (λ stopped. record { order = refl; setting = refl })
      (λ works. of_either Steady (fits world) _ _ (λ room. steady_written failure _ (record { order = refl; setting = refl })) (λ full. record { order = refl; setting = refl })))
      (λ nothing. record { order = refl; setting = refl })

  pub steady_publish : Steady (publish world)
  steady_publish = of_either Steady (nat_lt world.stage.durable world.stage.stored) _ _ (λ more. record { order = refl; setting = refl }) (λ nothing. record { order = refl; setting = refl })

  steady_in_time : (is_time : Bool) (next : World) → Steady next → Steady (in_time is_time world next)
  steady_in_time is_time next is = of_either Steady world.stage.stopped _ _ (λ stopped. record { order = refl; setting = refl })
      (λ works. of_either Steady is_time next _ (λ now. is) (λ not_now. record { order = refl; setting = refl }))

  steady_full : (next : World) → Steady next → Steady (with_generation world next)
  steady_full next is = of_either Steady (is_full world.stage) _ next (λ full. record { order = refl; setting = refl }) (λ room. is)

  steady_finished : (turned : List ℕ) → IsSteady world.stage (finished world.stage turned)
  steady_finished [] = record { order = refl; setting = refl }
  steady_finished (first ∷ rest) = record { order = refl; setting = refl }

  pub steady_rotate : (failure : Failure) → Steady (rotate failure world)
  steady_rotate failure = steady_in_time (can_rotate world.stage) _ (steady_full _ (steady_written failure _ (record { order = refl; setting = refl })))

  pub steady_copy : (failure : Failure) → Steady (copy_block failure world)
  steady_copy failure = steady_in_time (can_copy world.stage) _ (steady_written failure _ (record { order = refl; setting = refl }))

  pub steady_map : (failure : Failure) → Steady (write_map failure world)
  steady_map failure = steady_in_time (can_map world.stage) _ (steady_written failure _ (record { order = refl; setting = refl }))

  pub steady_finish : (failure : Failure) → Steady (finish failure world)
  steady_finish failure = steady_in_time (can_finish world.stage) _ (steady_full _ (steady_written (without_memory failure) _ (steady_finished world.stage.turned)))

  pub steady_clean : Steady (clean world)
  steady_clean = of_either Steady (can_clean world.stage) _ _ (λ more. record { order = refl; setting = refl }) (λ nothing. record { order = refl; setting = refl })
