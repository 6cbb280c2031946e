-- the numbers of dirty frames after a call
use Rattle.std.proofs.Common.{◌≡◌, ◌≤◌, ℕ, not, List, Option, None, Some, Result, Ok, Err, IfOk, IfSome, IfNone, OnErr, sym, ap, subst}
use Rattle.std.proofs.lemmas.List.Elements.{All-filter}
use Rattle.std.proofs.Math.Dec.{eqb}
use Rattle.frame_pool.specs.Pool.{DirtyFrame, PoolState, others, with_clean, with_free}
use Rattle.storage_tests.specs.Both.{IsAtMost}

-- a frame that left the dirty ones
pub left : (last frame : ℕ) (dirty dirty' : List DirtyFrame) → dirty' ≡ others frame dirty → IsAtMost last dirty → IsAtMost last dirty'
left last frame dirty dirty' is most =
    subst (IsAtMost last) (sym is) (All-filter (λ (held : DirtyFrame). not (eqb held.frame frame)) (λ (held : DirtyFrame). held.number ≤ last) dirty most)

-- what an eviction leaves
pub evicted : {E : Type 0} (last : ℕ) (pool pool' : PoolState) (result : Result ℕ E)
    → IfOk result (λ frame. pool' ≡ with_free frame pool) → OnErr result (pool' ≡ pool) → IsAtMost last pool.dirty → IsAtMost last pool'.dirty
evicted last pool pool' (Ok frame) moved kept most = left last frame pool.dirty pool'.dirty (ap (λ (now : PoolState). now.dirty) moved) most
evicted last pool pool' (Err error) moved kept most = subst (λ (now : PoolState). IsAtMost last now.dirty) (sym kept) most

-- what a pop leaves
pub popped : (last : ℕ) (pool pool' : PoolState) (result : Option ℕ)
    → IfSome result (λ frame. pool' ≡ with_clean frame pool) → IfNone result (pool' ≡ pool) → IsAtMost last pool.dirty → IsAtMost last pool'.dirty
popped last pool pool' (Some frame) moved kept most = left last frame pool.dirty pool'.dirty (ap (λ (now : PoolState). now.dirty) moved) most
popped last pool pool' None moved kept most = subst (λ (now : PoolState). IsAtMost last now.dirty) (sym kept) most
