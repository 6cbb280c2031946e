use Rattle.std.proofs.Common.{◌≡◌, ◌+◌, ◌-◌, ℕ, List, if◌then◌else◌, length, replicate, arith, sym, ap, ◌∙◌}
use Rattle.alloc_map.specs.laws.States.{length-states_of}
use Rattle.image_model.specs.declared.command.Kind.{Kind}
use Rattle.image_model.specs.Image.{covers}
use Rattle.image_model.specs.Patched.{patched}
use Rattle.alloc_map.specs.Codes.{code_at, code_of}
use Rattle.alloc_map.specs.laws.Coded.{map_set, states_set}
use Rattle.alloc_map.proofs.map.AllocMap.set_range.Goals as goal

-- the range by its first block and how many there are
codes_set : (first count : ℕ) (kind : Kind) (bytes new : List ℕ) (code : ℕ) → code ≡ code_of kind
    → ((q : ℕ) → code_at new q ≡ (if covers first (first + count - first) q then code else code_at bytes q))
    → (q : ℕ) → code_at new q ≡ (if covers first count q then code_of kind else code_at bytes q)
codes_set first count kind bytes new code is codes q =
    let whole : first + count - first ≡ count = omega arith in
    codes q
    ∙ ap (λ (n : ℕ). if covers first n q then code else code_at bytes q) whole
    ∙ ap (λ (n : ℕ). if covers first count q then n else code_at bytes q) is

pub overflow_add-first : goal.overflow_add-first
overflow_add-first c =
    let blocks = sym (length-states_of _ _) ∙ ap length c.self.view_is in
    let few = c.self.invariant.few in
    omega arith

pub set_codes-requires-clause-inside : goal.set_codes-requires-clause-inside
set_codes-requires-clause-inside c =
    let blocks = sym (length-states_of _ _) ∙ ap length c.self.view_is in
    let size = c.self.invariant.size in
    omega arith

pub set_codes-requires-clause-few : goal.set_codes-requires-clause-few
set_codes-requires-clause-few c =
    let blocks = sym (length-states_of _ _) ∙ ap length c.self.view_is in
    let few = c.self.invariant.few in
    omega arith

pub invariant_of-self : goal.invariant_of-self
invariant_of-self c =
    let blocks : length c.args.self.now ≡ c.self.inside.blocks = ap length (sym c.self.view_is) ∙ length-states_of _ _ in
    map_set c.self.inside.blocks c.self.inside.bytes.items c.set_codes.new.bytes.items c.args.first c.args.blocks c.args.kind c.self.invariant (omega arith) c.set_codes.ensures.size
    (codes_set c.args.first c.args.blocks c.args.kind _ _ c.code_of.result c.code_of.ensures.code c.set_codes.ensures.codes)

pub returns : goal.returns
returns c =
    let blocks : length c.args.self.now ≡ c.self.inside.blocks = ap length (sym c.self.view_is) ∙ length-states_of _ _ in
    states_set c.self.inside.blocks c.self.inside.bytes.items c.set_codes.new.bytes.items c.args.first c.args.blocks c.args.kind c.self.invariant (omega arith) c.set_codes.ensures.size
    (codes_set c.args.first c.args.blocks c.args.kind _ _ c.code_of.result c.code_of.ensures.code c.set_codes.ensures.codes)
    ∙ ap (λ (states : List Kind). patched states c.args.first (replicate c.args.blocks c.args.kind)) c.self.view_is
