use Rattle.std.proofs.Common.{◌≡◌, ◌<◌, ℕ, ap, ◌∙◌, sym, subst}
use Rattle.frame_pool.specs.Linked.{LinkedState}
use Rattle.frame_pool.specs.Lists.{moved, total}
use Rattle.frame_pool.specs.Ring.{AreLinked, lists_of}
use Rattle.frame_pool.proofs.LinksOfLists.{moved_links, linked_shown, lists_linked}
use Rattle.frame_pool.proofs.lists.FrameLists.move_to.Goals as goal

held : (frame : ℕ) (shown lists : LinkedState) → shown ≡ lists → frame < total lists.linked → frame < total shown.linked
held frame shown lists is below = let P : LinkedState → Type 0 = λ seen. frame < total seen.linked in subst P (sym is) below

-- the links at the return
links_now : (c : goal.After-link_before)
    → AreLinked c.self.inside.frames c.link_before.new.nodes.next c.link_before.new.nodes.previous
    (moved (lists_of c.self.inside.frames c.self.inside.nodes.next) c.args.frame c.args.place)
links_now c =
    moved_links c.self.inside.frames c.args.frame _ c.args.place _ _ _ _ _ _ _ c.self.invariant (held c.args.frame _ _ c.self.view_is c.requires)
    c.end-after.ensures c.unlink.ensures.next c.unlink.ensures.previous c.link_before.ensures.next c.link_before.ensures.previous

pub invariant_of-self : goal.invariant_of-self
invariant_of-self c = linked_shown c.self.inside.frames _ _ _ (links_now c)

pub returns-clause-moved : goal.returns-clause-moved
returns-clause-moved c =
    let lists = lists_linked c.self.inside.frames _ _ _ (links_now c) in
    let numbers = c.link_before.ensures.numbers ∙ c.unlink.ensures.numbers in
    (λ i. record { linked = lists i; numbers = numbers i })
    ∙ ap (λ (lists : LinkedState). record lists { linked = moved lists.linked c.args.frame c.args.place }) c.self.view_is

pub returns-clause-each : goal.returns-clause-each
returns-clause-each c = (linked_shown c.self.inside.frames _ _ _ (links_now c)).each
