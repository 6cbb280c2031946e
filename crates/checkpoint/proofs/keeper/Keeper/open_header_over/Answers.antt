use Rattle.std.proofs.Common.{◌≡◌, inl, inr, ⊎_elim, rules, subst, ◌∙◌}
use Rattle.std.proofs.lemmas.Result.{on_ok_weaker, IfOk-from_err}
use Rattle.disk_model.specs.Disk.{State}
use Rattle.disk_model.specs.laws.Moments.{goes_on, weakens}
use Rattle.checkpoint.specs.Format.{AreClosed}
use Rattle.checkpoint.proofs.DeviceWhileFormatted.{made_over}
use Rattle.checkpoint.proofs.keeper.Keeper.open_header_over.Goals as goal

pub returns-in_err-write_parts-clause-any_moment : goal.returns-in_err-write_parts-clause-any_moment
returns-in_err-write_parts-clause-any_moment g c honest closed =
    weakens (c.write_parts.ensures.any_moment honest closed) (λ content left. inl left)

pub returns-clause-any_moment : goal.returns-clause-any_moment
returns-clause-any_moment g c honest closed =
    let first = c.in_ok-write_parts.ensures in
    let size = first.extent ∙ c.requires.size in
    goes_on (weakens (first.any_moment honest closed) (λ content left. inl left))
    (c.open_header.ensures.any_moment (first.honest.1 honest) (first.closed honest closed) c.args.geometry c.args.map.now size (first.fresh honest closed))
    (λ content left. ⊎_elim (λ none. inl none) (λ made. inr (made_over _ _ content c.args.geometry c.args.map.now (first.stays honest closed) made)) left)

pub returns-clause-made : goal.returns-clause-made
returns-clause-made g c honest closed =
    let first = c.in_ok-write_parts.ensures in
    let size = first.extent ∙ c.requires.size in
    on_ok_weaker c.open_header.result
    (λ made. made_over _ _ _ c.args.geometry c.args.map.now (first.stays honest closed) made)
    (c.open_header.ensures.opened (first.honest.1 honest) (first.closed honest closed) c.args.geometry c.args.map.now size (first.fresh honest closed))
