-- What a crash may leave from the start of an opening to its end, of each content by itself, as crates above use it.
use Rattle.std.proofs.Common.{◌⊎◌, inl, inr, ⊎_elim, ℕ, List, Result, Ok, Err, sym, subst}
use Rattle.disk_model.specs.Disk.{State, LeavesOnly, MayLeave}
use Rattle.disk_model.specs.laws.Moments.{goes_on, weakens}
use Rattle.device_image.specs.Keeper.{KeeperState}
use Rattle.checkpoint.specs.Opening.{AreHeadersInTurn, IsAsFound, IsFixedOrNot, IsOpening, IsUnfixed, StandsAs, disk_after}
use Rattle.checkpoint.specs.declared.fault.KeeperFault.{KeeperFault}
use Rattle.checkpoint.specs.declared.fault.KeeperFault.TheVariants.{NoMemory}

module _ {D : Type 0} (before : State) (state : D → State) (found : List ℕ) (fixed : MayLeave before found) where
  was_or_stands : (content : List ℕ) → IsAsFound found content → MayLeave before content ⊎ StandsAs found content
  was_or_stands content = ⊎_elim (λ is. inl (subst (MayLeave before) (sym is) fixed)) (λ stands. inr stands)

  unfixed_leaves : (result : Result (KeeperState D) (KeeperFault × D)) → IsUnfixed before state result → LeavesOnly before (state (disk_after result)) (λ content. MayLeave before content ⊎ StandsAs found content)
  unfixed_leaves (Ok keeper) failed = absurd failed
  unfixed_leaves (Err refused) failed = weakens failed.2 (λ content left. inl left)

  -- what it could leave at the start, or what stands for the same as the content found
  pub each_left : (result : Result (KeeperState D) (KeeperFault × D)) → IsFixedOrNot before state result found → LeavesOnly before (state (disk_after result)) (λ content. MayLeave before content ⊎ StandsAs found content)
  each_left result = ⊎_elim (λ is. goes_on (weakens is.until_then (λ content left. inl left)) is.from_then was_or_stands) (unfixed_leaves result)

-- the keeper of an opening is let go, and hands its device back
module _ {D : Type 0} (before : State) (state : D → State) (found : List ℕ) (keeper : KeeperState D) (fault : KeeperFault) where
  abbrev let_go : IsFixedOrNot before state (Ok keeper) found → IsFixedOrNot before state (Err (fault, keeper.disk)) found
  let_go (inl is) = inl is
  let_go (inr failed) = absurd failed

  headers_let_go : (crash : IsFixedOrNot before state (Ok keeper) found) → AreHeadersInTurn before state (Ok keeper) found crash → AreHeadersInTurn before state (Err (fault, keeper.disk)) found (let_go crash)
  headers_let_go (inl is) headers = headers
  headers_let_go (inr failed) headers = absurd failed

-- where memory is refused after the opening
pub starved : {D : Type 0} (before : State) (state : D → State) (found : List ℕ) (keeper : KeeperState D) → IsOpening before state (Ok keeper) found → IsOpening before state (Err (NoMemory, keeper.disk)) found
starved before state found keeper opening = record {
  fixed = opening.fixed;
  outcome = tt;
  crash = let_go before state found keeper NoMemory opening.crash;
  headers = headers_let_go before state found keeper NoMemory opening.crash opening.headers;
}
