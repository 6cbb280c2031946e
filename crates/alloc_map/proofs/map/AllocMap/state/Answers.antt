use Rattle.std.proofs.Common.{◌≡◌, length, arith, sym, ap, ◌∙◌}
use Rattle.alloc_map.specs.Codes.{code_at}
use Rattle.alloc_map.specs.laws.States.{length-states_of, state_of_code}
use Rattle.alloc_map.proofs.map.AllocMap.state.Goals as goal

pub code_in-requires : goal.code_in-requires
code_in-requires c =
    let size = c.self.invariant.size in
    let blocks = sym (length-states_of _ _) ∙ ap length c.self.view_is in
    rw c.deref.ensures.value (omega arith)

pub returns-in-0 : goal.returns-in-0
returns-in-0 c =
    let code = ap (λ bytes. code_at bytes c.args.block) (sym c.deref.ensures.value) ∙ sym c.code_in.ensures ∙ c.in-0.is in
    sym (state_of_code _ _ _ _ 0 c.self.view_is c.requires code)

pub returns-in-1 : goal.returns-in-1
returns-in-1 c =
    let code = ap (λ bytes. code_at bytes c.args.block) (sym c.deref.ensures.value) ∙ sym c.code_in.ensures ∙ c.in-1.is in
    sym (state_of_code _ _ _ _ 1 c.self.view_is c.requires code)

pub returns-in_default : goal.returns-in_default
returns-in_default c =
    let below = c.self.invariant.below_three c.args.block in
    let same = ap (λ bytes. code_at bytes c.args.block) (sym c.deref.ensures.value) ∙ sym c.code_in.ensures in
    let two : c.code_in.result ≡ 2 = omega arith in
    sym (state_of_code _ _ _ _ 2 c.self.view_is c.requires (same ∙ two))
