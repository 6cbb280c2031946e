use Rattle.std.proofs.Common.{ap}
use Rattle.frame_pool.specs.Nodes.{NodesState}
use Rattle.frame_pool.specs.Ring.{AreLinked}
use Rattle.frame_pool.proofs.AscendingLinks.{AreLinked-fresh, fresh}
use Rattle.frame_pool.proofs.LinksOfLists.{linked_shown, lists_linked}
use Rattle.frame_pool.proofs.lists.FrameLists.new.Goals as goal

ring_made : (c : goal.In_ok-ring) → AreLinked c.args.frames c.in_ok-ring.field-0.next c.in_ok-ring.field-0.previous (fresh c.args.frames)
ring_made c =
    AreLinked-fresh c.args.frames _ _ c.requires (ap (λ (nodes : NodesState). nodes.next) c.in_ok-ring.ensures)
    (ap (λ (nodes : NodesState). nodes.previous) c.in_ok-ring.ensures)

pub invariant_of-result : goal.invariant_of-result
invariant_of-result c = linked_shown c.args.frames _ _ _ (ring_made c)

pub returns : goal.returns
returns c =
    let lists = lists_linked c.args.frames _ _ _ (ring_made c) in
    let numbers = ap (λ (nodes : NodesState). nodes.numbers) c.in_ok-ring.ensures in
    λ i. record { linked = lists i; numbers = numbers i }
