use Rattle.std.proofs.Common.{List, length, sym, ◌∙◌, ap}
use Rattle.std.proofs.lemmas.Result.{IfOk-weaker}
use Rattle.alloc_map.specs.Codes.{state_at}
use Rattle.image_model.specs.declared.command.Kind.{Kind}
use Rattle.device_image.specs.Keeper.{KeeperState}
use Rattle.checkpoint.proofs.keeper.Keeper.map.Goals as goal

pub returns-clause-blocks : goal.returns-clause-blocks
returns-clause-blocks g c =
    let blocks = c.self.invariant.1 ∙ ap (λ (k : KeeperState g.row.D.Denot). k.geometry.blocks) c.self.view_is in
    IfOk-weaker c.copy.result _ _ (λ map is. ap length is ∙ blocks) c.copy.ensures

pub returns-clause-remembered : goal.returns-clause-remembered
returns-clause-remembered g c =
    IfOk-weaker c.copy.result _ _ (λ map is. is ∙ ap (λ (k : KeeperState g.row.D.Denot). k.memory.map) c.self.view_is) c.copy.ensures

pub returns-clause-kinds : goal.returns-clause-kinds
returns-clause-kinds g c base fronts last holds =
    let same = ap (λ (k : KeeperState g.row.D.Denot). k.memory.map) c.self.view_is in
    IfOk-weaker c.copy.result _ _ (λ map is block. ap (λ (states : List Kind). state_at states block) (is ∙ same) ∙ sym (holds.is_base.kinds block)) c.copy.ensures
