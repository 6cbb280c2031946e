-- what serving and answering a connection do
use Rattle.std.specs.Prelude.{ℕ, ◌≡◌, ◌+◌, ◌<◌, ◌≤◌, ◌⊎◌, MatchBool, Bool, true, false, nat_lt, Some, List, [], ◌∷◌, ◌++◌, length}
use mathlib.Core.List.{IsPrefix}
use Rattle.image_model.specs.Change.{Change, IsChange, change_of}
use Rattle.image_model.specs.Edit.{becomes}
use Rattle.image_model.specs.declared.command.Command.{Command}
use Rattle.image_model.specs.declared.geometry.Geometry.{Geometry}
use Rattle.image_model.specs.Image.{Image, apply, apply_all}
use Rattle.marks.specs.Client.{accepting, flushing}
use Rattle.marks.specs.declared.view.Client.{Client}
use Rattle.export_model.specs.declared.connection.Connection.TheVariants.{Requested}
use Rattle.marks.specs.Known.{PassState, known}
use Rattle.nbd_wire.specs.Request.{Message}
use Rattle.nbd_wire.specs.declared.error.Errno.TheVariants as errno
use Rattle.order_book.specs.Order.{OrderState, has_room_for, with_command}
use Rattle.order_book.specs.Shown.{ShowsImage}
use Rattle.request_core.specs.declared.serving.Served.{Served}
use Rattle.request_core.specs.declared.serving.Served.TheVariants as served
use Rattle.export_model.specs.Log.{edit_asked, is_flush, waits_for_store}
use Rattle.nbd_wire.specs.declared.message.Answer.{Answer}
use Rattle.nbd_wire.specs.declared.message.Answer.TheVariants.{Bytes, Done, Refused, States}
use Rattle.export_model.specs.declared.step.Mode.{Mode}

-- an answer to the request with this cookie
abbrev pub ready_for : ℕ → Answer → Served
ready_for number given = served.Ready (record { cookie = number; answer = given })

-- what a request comes to that waits for this number, or is answered at once
abbrev pub served_after : Bool → ℕ → ℕ → Served
served_after true cookie number = served.Wait number
served_after false cookie number = ready_for cookie Done

-- the order has a command more, which is this change
abbrev pub IsMore : Change → OrderState → OrderState → Type 0
IsMore change old new = (command : Command) × (change_of command ≡ change) × (new ≡ with_command old command)

-- whether there is room for what a request's edit becomes over this image, and over each image that is the order's own
abbrev pub IsRoom : Message → (Image → Type 0) → OrderState → Image → Bool → Type 0
IsRoom request own order image room =
    (has_room_for order (becomes (edit_asked request) image) ≡ room)
    × ((given : Image) → own given → has_room_for order (becomes (edit_asked request) given) ≡ room)

-- What a request's edit becomes over this image, which memory shows, goes to the end of the order; it becomes the same over each image
-- that is the order's own, and each image that memory shows it shows then with that carried out.
pub record IsTaken (request : Message) (geometry : Geometry) (own : Image → Type 0) (old new : OrderState) (image : Image) : Type 0 where
  pub seen : ShowsImage image old.cache
  pub takes : IsChange geometry.blocks (becomes (edit_asked request) image)
  pub same : (given : Image) → own given → becomes (edit_asked request) image ≡ becomes (edit_asked request) given
  pub room : has_room_for old (becomes (edit_asked request) image) ≡ true
  pub more : IsMore (becomes (edit_asked request) image) old new
  pub shows : (given : Image) → ShowsImage given old.cache → ShowsImage (apply (becomes (edit_asked request) image) given) new.cache

-- What a write request that passes judgement makes of an order that isn't stopped: no number is left, there is no room and the
-- request comes back, memory is refused, or what its edit becomes is the last command.
abbrev pub IsWriteServed : Message → Geometry → Mode → (Image → Type 0) → OrderState → OrderState → Served → Type 0
IsWriteServed request geometry kept own old new result =
    ((old.mark ≡ 18446744073709551615) × (new ≡ old) × (result ≡ ready_for request.head.cookie (Refused errno.NoSpace)))
    ⊎ ((old.mark < 18446744073709551615) × (image : Image) × (
    (IsRoom request own old image false × (new ≡ old) × (result ≡ served.NoRoom request))
    ⊎ (IsRoom request own old image true × (new ≡ old) × (result ≡ ready_for request.head.cookie (Refused errno.NoMemory)))
    ⊎ (IsTaken request geometry own old new image × (result ≡ served_after (waits_for_store kept request) request.head.cookie (old.mark + 1)))))

-- A command was accepted for a pass under a number above all that the pass knew: it is what the request's edit becomes over an image,
-- and the pass's own, one more than before. The history that the pass then knows has it as its last, at its number, after all that
-- the pass knew.
pub record IsAcceptedFor (opening : ℕ) (request : Message) (number : ℕ) (old new : PassState) : Type 0 where
  pub above : known old < number
  pub image : Image
  pub earlier : List Change
  pub knew : IsPrefix old.history earlier
  pub place : number ≡ opening + length earlier + 1
  pub pass : new ≡ record old {
    history = earlier ++ becomes (edit_asked request) image ∷ [];
    accepted = number;
    own = record { count = old.own.count + 1; last = Some (record { number = number; change = becomes (edit_asked request) image }) };
    client = new.client;
  }

-- All up to a number was shown to a pass, which knew no more: what it knew begins what it knows then.
pub record IsShownTo (opening number : ℕ) (old new : PassState) : Type 0 where
  pub known_is : known old ≤ number
  pub knew : IsPrefix old.history new.history
  pub place : number ≡ opening + length new.history
  pub pass : new ≡ record old { history = new.history; accepted = number; client = new.client }

-- What a pass knows whose request was answered and ordered no command. Ok is the answer to a FLUSH that doesn't wait: all of the order
-- was shown to its pass. All else leaves the pass.
abbrev pub IsAnsweredFor : ℕ → ℕ → Answer → PassState → PassState → Type 0
IsAnsweredFor opening number Done old new = IsShownTo opening number old new
IsAnsweredFor opening number (Refused error) old new = new ≡ old
IsAnsweredFor opening number (Bytes read) old new = new ≡ old
IsAnsweredFor opening number (States runs) old new = new ≡ old

-- What a pass knows once a request was served for it, where the last number of the order went from one to another. The number of a
-- command is above all that the pass knew, and is then its own; a FLUSH is shown all of the order, and waits for no less than what it
-- knew, if it waits; all else leaves it.
abbrev pub IsPassServed : ℕ → Message → ℕ → ℕ → Served → PassState → PassState → Type 0
IsPassServed opening request before after (served.Ready reply) old new = MatchBool (nat_lt before after) (IsAcceptedFor opening request after old new) (IsAnsweredFor opening after reply.answer old new)
IsPassServed opening request before after (served.Wait number) old new =
    MatchBool (is_flush request) (IsShownTo opening number old new) (IsAcceptedFor opening request number old new)
IsPassServed opening request before after (served.NoRoom back) old new = new ≡ old

-- The client of a pass has sent the request, and where the device is trusted memory shows what the history made of the image.
pub record HasSent (trusted : Type 0) (image : Image) (order : OrderState) (request : Message) (client : Client) : Type 0 where
  pub speaks : client.speaks ≡ true
  pub asks : client.state ≡ Requested request
  pub shows : trusted → ShowsImage (apply_all order.history image) order.cache

-- What a client is at whose request was answered and ordered no command: Ok is the answer to a FLUSH that doesn't wait, whose state is then
-- that of one that is done. All else leaves it at its request.
abbrev pub IsClientAnswered : Mode → ℕ → Answer → Client → Client → Type 0
IsClientAnswered mode number Done old new = new ≡ flushing mode number old
IsClientAnswered mode number (Refused error) old new = new ≡ old
IsClientAnswered mode number (Bytes read) old new = new ≡ old
IsClientAnswered mode number (States runs) old new = new ≡ old

-- What a client is at whose request was served, where the last number of the order went from one to another.
abbrev pub IsClientServed : Mode → Message → ℕ → ℕ → Served → Client → Client → Type 0
IsClientServed mode request before after (served.Ready reply) old new = MatchBool (nat_lt before after) (new ≡ accepting mode after old) (IsClientAnswered mode after reply.answer old new)
IsClientServed mode request before after (served.Wait number) old new = MatchBool (is_flush request) (new ≡ flushing mode number old) (new ≡ accepting mode number old)
IsClientServed mode request before after (served.NoRoom back) old new = new ≡ old
