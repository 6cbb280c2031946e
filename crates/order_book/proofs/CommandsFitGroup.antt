-- a command that an image takes fits a group, and one that isn't refused fits the backlog
use Rattle.std.proofs.Common.{◌≡◌, ℕ, ◌+◌, ◌≤◌, ◌<◌, ◌==◌, Bool, true, false, if◌then◌else◌, nat_le, Some, None, List, [], ◌∷◌, ◌++◌, refl, arith}
use Rattle.std.specs.List.{sum}
use Rattle.std.proofs.lemmas.Bool.{and_parts, eqb-false, leb-true}
use Rattle.std.proofs.lemmas.Grind.{common_steps}
use Rattle.image_model.specs.declared.command.Command.{Command}
use Rattle.image_model.specs.declared.command.Command.TheVariants.{Put, Clear, Edged}
use Rattle.image_model.specs.declared.command.Edges.{Edges}
use Rattle.image_model.specs.declared.command.Edges.TheVariants.{Head, Tail, Both}
use Rattle.image_model.specs.Command.{IsCommand, body_of}
use Rattle.image_model.specs.Dirty.{frames_suffice}
use Rattle.image_model.specs.Change.{change_of, edge_count}
use Rattle.order_book.specs.Order.{OrderState, has_room}
use Rattle.order_book.specs.inner.Order.{refusal_of}
use Rattle.order_book.specs.Pending.{HasSmallBody}
use Rattle.order_book.specs.declared.fault.OrderFault.{OrderFault}

pub two_edges : (edges : Edges) → edge_count edges ≤ 2
two_edges Head = omega arith
two_edges Tail = omega arith
two_edges Both = omega arith

pub small_body : (image : ℕ) (command : Command) → IsCommand image command → HasSmallBody command
small_body image (Put first bytes) is = let whole = is.1 in let few = is.3 in omega (arith, whole, few)
small_body image (Clear first blocks kind) is = omega arith
small_body image (Edged first blocks kind edges bytes) is = let whole = is.4 in omega (arith, whole, two_edges edges)

-- the backlog with the bytes of one command more
pub sum_push : (bodies : List ℕ) (body : ℕ) → sum (bodies ++ body ∷ []) ≡ sum bodies + body
sum_push bodies body = grind (arith, common_steps)

-- the room of a command that isn't refused
module _ (order : OrderState) (command : Command) (none : refusal_of order command ≡ None) where
  parts : (frames_suffice order.frames order.dirty (order.mark + 1) (change_of command) ≡ true) × (nat_le (sum order.bodies + body_of command) 67108864 ≡ true)
  parts = and_parts (frames_suffice order.frames order.dirty (order.mark + 1) (change_of command)) _ (last order.stopped _ (has_room order command) _ _ _ none)
    where
      last : (stopped full room : Bool) (x y z : OrderFault) → (if stopped then Some x else (if full then Some y else (if room then None else Some z))) ≡ None → room ≡ true
      last true full room x y z is = cc
      last false true room x y z is = cc
      last false false true x y z is = refl
      last false false false x y z is = cc

  pub frames_left : frames_suffice order.frames order.dirty (order.mark + 1) (change_of command) ≡ true
  frames_left = parts.0

  pub room_left : sum order.bodies + body_of command ≤ 67108864
  room_left = leb-true _ _ parts.1

  pub number_left : order.mark < 18446744073709551616 → order.mark + 1 < 18446744073709551616
  number_left below = let other = eqb-false order.mark 18446744073709551615 (last order.stopped (order.mark == 18446744073709551615) (has_room order command) _ _ _ none) in omega (arith, other, below)
    where
      last : (stopped full room : Bool) (x y z : OrderFault) → (if stopped then Some x else (if full then Some y else (if room then None else Some z))) ≡ None → full ≡ false
      last true full room x y z is = cc
      last false true room x y z is = cc
      last false false room x y z is = refl
