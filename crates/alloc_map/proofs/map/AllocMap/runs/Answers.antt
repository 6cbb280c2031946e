use Rattle.std.proofs.Common.{◌≡◌, ◌-◌, ◌≤◌, ◌⊎◌, [], List, inl, inr, length, subst, arith}
use Rattle.std.proofs.lemmas.List.{append-nil}
use Rattle.alloc_map.specs.Runs.{AreRuns}
use Rattle.alloc_map.specs.declared.run.Run.{Run}
use Rattle.alloc_map.proofs.map.AllocMap.runs.Goals as goal
use Rattle.alloc_map.proofs.map.AllocMap.runs.Goals.{then-loop-block-test+else-len-limit, else-loop-block-test}

pub returns : goal.returns
returns c =
    let runs = c.loop-block.runs.items in
    let none : (c.args.to ≤ c.loop-block.block) ⊎ (c.args.limit - length runs ≡ 0) =
    elim c.loop-block-test.branch [
      | then-loop-block-test+else-len-limit w ↦ (let full = w.if-len-limit.false in let count = w.len.ensures in inr (omega arith))
      | else-loop-block-test w ↦ inl w.loop-block-test.false
    ] in
    subst (λ (all : List Run). AreRuns c.args.self.now c.args.from c.args.to c.args.limit all) (append-nil runs) (c.loop-block.invariant.1 [] none)
