use Rattle.std.proofs.Common.{◌≡◌, length, arith, refl, sym, ap, ◌∙◌}
use Rattle.alloc_map.specs.laws.Coded.{run_of_codes}
use Rattle.alloc_map.specs.laws.States.{length-states_of}
use Rattle.alloc_map.proofs.map.AllocMap.run_at.Goals as goal

pub run_end-requires-clause-inside : goal.run_end-requires-clause-inside
run_end-requires-clause-inside c =
    let size = c.self.invariant.size in
    let blocks = sym (length-states_of _ _) ∙ ap length c.self.view_is in
    rw c.deref.ensures.value (omega arith)

pub returns : goal.returns
returns c =
    let blocks : length c.args.self.now ≡ c.self.inside.blocks = ap length (sym c.self.view_is) ∙ length-states_of _ _ in
    let found = c.run_end.ensures in
    let value = c.deref.ensures.value in
    run_of_codes c.self.inside.blocks c.self.inside.bytes.items c.args.self.now c.args.block c.args.to c.run_end.result _ c.self.invariant c.self.view_is (omega arith) found.some found.within
    (rw value at found.same) (rw value at found.longest) refl c.state.ensures
