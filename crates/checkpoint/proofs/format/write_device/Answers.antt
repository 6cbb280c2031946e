use Rattle.std.proofs.Common.{◌≡◌, inl, inr, ⊎_elim, rules, subst, ◌∙◌}
use Rattle.std.proofs.lemmas.Result.{on_ok_weaker}
use Rattle.disk_model.specs.laws.Moments.{goes_on, weakens}
use Rattle.checkpoint.proofs.DeviceWhileFormatted.{made_of_holes}
use Rattle.checkpoint.proofs.format.write_device.Goals as goal

pub returns-clause-any_moment : goal.returns-clause-any_moment
returns-clause-any_moment g c honest =
    let first = c.in_ok-close_headers.ensures in
    goes_on (weakens (first.any_moment honest) (λ content left. inl left))
    (c.open_header_over.ensures.any_moment (first.honest.1 honest) (first.closed honest))
    (λ content left. inr (⊎_elim (λ none. inl none) (λ made. inr (made_of_holes _ content c.args.geometry c.args.map.now c.requires.holes made)) left))

pub returns-clause-formatted : goal.returns-clause-formatted
returns-clause-formatted g c honest =
    let first = c.in_ok-close_headers.ensures in
    on_ok_weaker c.open_header_over.result
    (λ made. made_of_holes _ _ c.args.geometry c.args.map.now c.requires.holes made)
    (c.open_header_over.ensures.made (first.honest.1 honest) (first.closed honest))
