use Rattle.std.proofs.Common.{◌≡◌, ℕ, Option, None, Some, sym, ap, ◌∙◌, unwrap_or, arith, refl}
use Rattle.std.proofs.lemmas.Bool.{le-leb, lt-leb}
use Rattle.frame_pool.specs.Numbers.{number_at}
use Rattle.frame_pool.specs.Pool.{PoolState, front_through}
use Rattle.frame_pool.proofs.FrameNumbers.{IsPool_seen, front_through-some}
use Rattle.frame_pool.proofs.pool.FramePool.front_through.Goals as goal

pub returns-in_err-frame-clause-pool : goal.returns-in_err-frame-clause-pool
returns-in_err-frame-clause-pool c = IsPool_seen _ _ _ _ _ c.self.invariant.0 c.self.view_is

pub returns-then-kept-number-clause-front : goal.returns-then-kept-number-clause-front
returns-then-kept-number-clause-front c =
    let number = c.unwrap_or-kept.ensures ∙ ap (λ (o : Option ℕ). unwrap_or o 0) c.number.ensures in
    let test = le-leb (number_at c.self.inside.lists.numbers c.in_ok-frame.frame) c.args.number (omega arith) in
    let found = front_through-some c.self.inside.lists.numbers c.args.number c.in_ok-frame.frame c.self.inside.lists.linked.dirty (sym c.in_ok-frame.ensures.front) in
    let answer : front_through c.args.number c.args.self.now.dirty ≡ Some c.in_ok-frame.frame =
    ap (λ (pool : PoolState). front_through c.args.number pool.dirty) (sym c.self.view_is) ∙ found ∙ rw test refl in
    sym answer

pub returns-then-kept-number-clause-pool : goal.returns-then-kept-number-clause-pool
returns-then-kept-number-clause-pool c = IsPool_seen _ _ _ _ _ c.self.invariant.0 c.self.view_is

pub returns-else-kept-number-clause-front : goal.returns-else-kept-number-clause-front
returns-else-kept-number-clause-front c =
    let number = c.unwrap_or-kept.ensures ∙ ap (λ (o : Option ℕ). unwrap_or o 0) c.number.ensures in
    let test = lt-leb (number_at c.self.inside.lists.numbers c.in_ok-frame.frame) c.args.number (omega arith) in
    let found = front_through-some c.self.inside.lists.numbers c.args.number c.in_ok-frame.frame c.self.inside.lists.linked.dirty (sym c.in_ok-frame.ensures.front) in
    let answer : front_through c.args.number c.args.self.now.dirty ≡ None =
    ap (λ (pool : PoolState). front_through c.args.number pool.dirty) (sym c.self.view_is) ∙ found ∙ rw test refl in
    sym answer

pub returns-else-kept-number-clause-pool : goal.returns-else-kept-number-clause-pool
returns-else-kept-number-clause-pool c = IsPool_seen _ _ _ _ _ c.self.invariant.0 c.self.view_is
