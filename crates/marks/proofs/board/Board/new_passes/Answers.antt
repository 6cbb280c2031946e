use Rattle.std.proofs.Common.{◌≡◌, ◌∙◌, ℕ, List, [], ◌∷◌, ◌++◌, ap, replicate, ◌+◌}
use Rattle.std.proofs.lemmas.List.{replicate_more}
use Rattle.marks.specs.Known.{KeeperKnows, PassState, knowing}
use Rattle.marks.proofs.board.Board.new_passes.Goals as goal

-- what a push of one more pass leaves, which knows what the keeper's seat does
one_more : (keeper old : KeeperKnows) (made : PassState) (count : ℕ) (passes after : List PassState) → keeper ≡ old → made ≡ knowing keeper → passes ≡ replicate count (knowing old)
    → after ≡ passes ++ made ∷ [] → after ≡ replicate (count + 1) (knowing old)
one_more keeper old made count passes after same made_is passes_are after_is =
    after_is ∙ ap (λ (list : List PassState). list ++ made ∷ []) passes_are ∙ ap (λ (pass : PassState). replicate count (knowing old) ++ pass ∷ []) (made_is ∙ ap knowing same)
    ∙ replicate_more count (knowing old)

pub loop-preserved : goal.loop-preserved
loop-preserved g c =
    let loop = c.loop.invariant in record {
      same = c.new_pass.ensures.same ∙ loop.same;
      passes = one_more c.loop.keeper _ c.new_pass.result c.loop.counter c.loop.passes.items _ loop.same c.new_pass.ensures.pass loop.passes c.in_ok-push.ensures.items;
    }
