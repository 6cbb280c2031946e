use Rattle.std.proofs.Common.{◌≡◌, Bool, if◌then◌else◌, length, refl, arith, sym, ap, ◌∙◌}
use Rattle.std.proofs.lemmas.List.{take_all}
use Rattle.std.specs.List.{count_by}
use denote.Enum.Bare.{sameb}
use Rattle.image_model.specs.contracts.command.Kind.{the_type}
use Rattle.image_model.specs.declared.command.Kind.{Kind}
use Rattle.image_model.specs.declared.command.Kind.TheVariants.{Data, Zero, Hole}
use Rattle.alloc_map.specs.Codes.{is_state}
use Rattle.alloc_map.specs.laws.Coded.{counted_run}
use Rattle.alloc_map.specs.laws.States.{length-states_of}
use Rattle.alloc_map.proofs.map.AllocMap.count.Goals as goal
use Rattle.alloc_map.proofs.map.AllocMap.count.Goals.{then-eq, else-eq}

same_kind : (state kind : Kind) → sameb the_type state kind ≡ is_state kind state
same_kind Data Data = refl
same_kind Data Zero = refl
same_kind Data Hole = refl
same_kind Zero Data = refl
same_kind Zero Zero = refl
same_kind Zero Hole = refl
same_kind Hole Data = refl
same_kind Hole Zero = refl
same_kind Hole Hole = refl

pub run_at-run-requires-clause-inside : goal.run_at-run-requires-clause-inside
run_at-run-requires-clause-inside c =
    let size : length c.args.self.now ≡ c.self.inside.blocks = ap length (sym c.self.view_is) ∙ length-states_of _ _ in
    omega arith

pub loop-block-preserved : goal.loop-block-preserved
loop-block-preserved c =
    let run = c.run_at-run.result in
    let size : length c.args.self.now ≡ c.self.inside.blocks = ap length (sym c.self.view_is) ∙ length-states_of _ _ in
    let counted = counted_run c.args.self.now c.args.kind c.loop-block.block c.self.inside.blocks run c.run_at-run.ensures (omega arith) in
    let within = c.run_at-run.ensures.within in
    let so_far = c.loop-block.invariant.2 in
    let is = c.eq.ensures ∙ same_kind run.kind c.args.kind in
    elim c.if-eq.branch [
      | then-eq w ↦
          let more = ap (λ (test : Bool). if test then run.blocks else 0) (sym is ∙ w.if-eq.true) in
          let count = w.count-is in
          (omega arith, omega arith, omega arith)
      | else-eq w ↦
          let more = ap (λ (test : Bool). if test then run.blocks else 0) (sym is ∙ w.if-eq.false) in
          let count = w.count-is in
          (omega arith, omega arith, omega arith)
    ]

pub returns : goal.returns
returns c =
    let size : length c.args.self.now ≡ c.self.inside.blocks = ap length (sym c.self.view_is) ∙ length-states_of _ _ in
    c.loop-block.invariant.2
    ∙ ap (count_by (is_state c.args.kind)) (take_all c.loop-block.block c.args.self.now (omega arith))
