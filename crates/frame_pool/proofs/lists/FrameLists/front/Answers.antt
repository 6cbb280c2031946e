use Rattle.std.proofs.Common.{rules, ◌≡◌, ℕ, get_or, slice_get, Some, sym, subst, ap, ◌∙◌}
use Rattle.frame_pool.specs.Linked.{LinkedState}
use Rattle.frame_pool.specs.Lists.{HoldEach}
use Rattle.frame_pool.specs.inner.Lists.{list_at}
use Rattle.frame_pool.proofs.FrameChangesList.{front_held}
use Rattle.frame_pool.proofs.LinksOfLists.{front_linked}
use Rattle.frame_pool.proofs.lists.FrameLists.front.Goals as goal

pub returns-then-first-after-clause-front : goal.returns-then-first-after-clause-front
returns-then-first-after-clause-front c =
    let seen : c.next-first.result ≡ get_or c.self.inside.nodes.next c.start-before.result 0 = search rules in
    let read = seen ∙ ap (λ (v : ℕ). get_or c.self.inside.nodes.next v 0) c.start-before.ensures in
    (front_linked c.self.inside.frames c.args.place _ _ _ c.self.invariant).0 (sym read ∙ c.if-first-after.true ∙ c.end-after.ensures)
    ∙ ap (λ (lists : LinkedState). slice_get (list_at lists.linked c.args.place) 0) c.self.view_is

-- the node that was read is the front
found : (c : goal.Else-first-after) → Some c.next-first.result ≡ slice_get (list_at c.args.self.now.linked c.args.place) 0
found c =
    let seen : c.next-first.result ≡ get_or c.self.inside.nodes.next c.start-before.result 0 = search rules in
    let read = seen ∙ ap (λ (v : ℕ). get_or c.self.inside.nodes.next v 0) c.start-before.ensures in
    ap (λ (v : ℕ). Some v) read
    ∙ (front_linked c.self.inside.frames c.args.place _ _ _ c.self.invariant).1 (λ e. c.if-first-after.false (read ∙ e ∙ sym c.end-after.ensures))
    ∙ ap (λ (lists : LinkedState). slice_get (list_at lists.linked c.args.place) 0) c.self.view_is

pub returns-else-first-after-clause-front : goal.returns-else-first-after-clause-front
returns-else-first-after-clause-front c = found c

pub returns-else-first-after-clause-inside : goal.returns-else-first-after-clause-inside
returns-else-first-after-clause-inside c =
    let P : LinkedState → Type 0 = λ lists. HoldEach lists.linked in
    front_held c.args.self.now.linked c.args.place c.next-first.result (subst P c.self.view_is c.self.invariant.each) (sym (found c))
