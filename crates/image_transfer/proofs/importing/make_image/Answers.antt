use Rattle.std.proofs.Common.{inl, inr, ⊎_elim}
use Rattle.std.proofs.lemmas.Result.{IfOk-from_err, on_ok_weaker}
use Rattle.disk_model.specs.laws.Moments.{goes_on, weakens}
use Rattle.image_transfer.proofs.Filling.{filled_image}
use Rattle.image_transfer.proofs.importing.make_image.Goals as goal

pub returns-in_err-close_headers-clause-synced : goal.returns-in_err-close_headers-clause-synced
returns-in_err-close_headers-clause-synced g c honest = IfOk-from_err c.from_residual.result _ c.from_residual.ensures.0

pub returns-in_err-close_headers-clause-imported : goal.returns-in_err-close_headers-clause-imported
returns-in_err-close_headers-clause-imported g c honest trusted = IfOk-from_err c.from_residual.result _ c.from_residual.ensures.0

pub returns-in_err-close_headers-clause-any_moment : goal.returns-in_err-close_headers-clause-any_moment
returns-in_err-close_headers-clause-any_moment g c honest trusted = weakens (c.close_headers.ensures.any_moment honest) (λ content left. inl left)

pub returns-in_err-fill-clause-synced : goal.returns-in_err-fill-clause-synced
returns-in_err-fill-clause-synced g c honest = IfOk-from_err c.from_residual-in_err-fill.result _ c.from_residual-in_err-fill.ensures.0

pub returns-in_err-fill-clause-imported : goal.returns-in_err-fill-clause-imported
returns-in_err-fill-clause-imported g c honest trusted = IfOk-from_err c.from_residual-in_err-fill.result _ c.from_residual-in_err-fill.ensures.0

pub returns-in_err-fill-clause-any_moment : goal.returns-in_err-fill-clause-any_moment
returns-in_err-fill-clause-any_moment g c honest trusted =
    let first = c.in_ok-close_headers.ensures in
    goes_on (weakens (first.any_moment honest) (λ content left. inl left))
    (c.fill.ensures.any_moment (first.honest.1 honest) (first.closed honest)) (λ content left. inr (inl left))

pub returns-in_err-open_header_over-clause-synced : goal.returns-in_err-open_header_over-clause-synced
returns-in_err-open_header_over-clause-synced g c honest = IfOk-from_err c.from_residual-in_err-open_header_over.result _ c.from_residual-in_err-open_header_over.ensures.0

pub returns-in_err-open_header_over-clause-imported : goal.returns-in_err-open_header_over-clause-imported
returns-in_err-open_header_over-clause-imported g c honest trusted = IfOk-from_err c.from_residual-in_err-open_header_over.result _ c.from_residual-in_err-open_header_over.ensures.0

pub returns-in_err-open_header_over-clause-any_moment : goal.returns-in_err-open_header_over-clause-any_moment
returns-in_err-open_header_over-clause-any_moment g c honest trusted =
    let first = c.in_ok-close_headers.ensures in
    let second = c.in_ok-fill.ensures in
    let one_honest = first.honest.1 honest in
    let closed = first.closed honest in
    let filled = filled_image (g.S.Source.byte c.args.source.now) c.args.geometry _ _ (second.filled one_honest closed trusted) in
    goes_on
    (goes_on (weakens (first.any_moment honest) (λ content left. inl left)) (second.any_moment one_honest closed) (λ content left. inr (inl left)))
    (c.open_header_over.ensures.any_moment (second.honest.1 one_honest) (second.closed one_honest closed))
    (λ content left. inr (⊎_elim (λ none. inl none) (λ made. inr (_, filled, made)) left))

pub returns-clause-any_moment : goal.returns-clause-any_moment
returns-clause-any_moment g c honest trusted =
    let first = c.in_ok-close_headers.ensures in
    let second = c.in_ok-fill.ensures in
    let one_honest = first.honest.1 honest in
    let closed = first.closed honest in
    let filled = filled_image (g.S.Source.byte c.args.source.now) c.args.geometry _ _ (second.filled one_honest closed trusted) in
    goes_on
    (goes_on (weakens (first.any_moment honest) (λ content left. inl left)) (second.any_moment one_honest closed) (λ content left. inr (inl left)))
    (c.open_header_over.ensures.any_moment (second.honest.1 one_honest) (second.closed one_honest closed))
    (λ content left. inr (⊎_elim (λ none. inl none) (λ made. inr (_, filled, made)) left))

pub returns-clause-imported : goal.returns-clause-imported
returns-clause-imported g c honest trusted =
    let first = c.in_ok-close_headers.ensures in
    let second = c.in_ok-fill.ensures in
    let one_honest = first.honest.1 honest in
    let closed = first.closed honest in
    let filled = filled_image (g.S.Source.byte c.args.source.now) c.args.geometry _ _ (second.filled one_honest closed trusted) in
    (_, filled, c.in_ok-open_header_over.ensures.made (second.honest.1 one_honest) (second.closed one_honest closed))

pub returns-in_err-close_headers-clause-made : goal.returns-in_err-close_headers-clause-made
returns-in_err-close_headers-clause-made g c honest = IfOk-from_err c.from_residual.result _ c.from_residual.ensures.0

pub returns-in_err-close_headers-clause-whole : goal.returns-in_err-close_headers-clause-whole
returns-in_err-close_headers-clause-whole g c honest = weakens (c.close_headers.ensures.any_moment honest) (λ content left. inl left)

pub returns-in_err-fill-clause-made : goal.returns-in_err-fill-clause-made
returns-in_err-fill-clause-made g c honest = IfOk-from_err c.from_residual-in_err-fill.result _ c.from_residual-in_err-fill.ensures.0

pub returns-in_err-fill-clause-whole : goal.returns-in_err-fill-clause-whole
returns-in_err-fill-clause-whole g c honest =
    let first = c.in_ok-close_headers.ensures in
    goes_on (weakens (first.any_moment honest) (λ content left. inl left))
    (c.fill.ensures.any_moment (first.honest.1 honest) (first.closed honest)) (λ content left. inr (inl left))

pub returns-in_err-open_header_over-clause-made : goal.returns-in_err-open_header_over-clause-made
returns-in_err-open_header_over-clause-made g c honest = IfOk-from_err c.from_residual-in_err-open_header_over.result _ c.from_residual-in_err-open_header_over.ensures.0

pub returns-in_err-open_header_over-clause-whole : goal.returns-in_err-open_header_over-clause-whole
returns-in_err-open_header_over-clause-whole g c honest =
    let first = c.in_ok-close_headers.ensures in
    let second = c.in_ok-fill.ensures in
    let one_honest = first.honest.1 honest in
    let closed = first.closed honest in
    goes_on
    (goes_on (weakens (first.any_moment honest) (λ content left. inl left)) (second.any_moment one_honest closed) (λ content left. inr (inl left)))
    (c.open_header_over.ensures.any_moment (second.honest.1 one_honest) (second.closed one_honest closed))
    (λ content left. inr (⊎_elim (λ none. inl none) (λ made. inr (_, made)) left))

pub returns-clause-made : goal.returns-clause-made
returns-clause-made g c honest =
    let first = c.in_ok-close_headers.ensures in
    let second = c.in_ok-fill.ensures in
    let one_honest = first.honest.1 honest in
    (_, c.in_ok-open_header_over.ensures.made (second.honest.1 one_honest) (second.closed one_honest (first.closed honest)))

pub returns-clause-whole : goal.returns-clause-whole
returns-clause-whole g c honest =
    let first = c.in_ok-close_headers.ensures in
    let second = c.in_ok-fill.ensures in
    let one_honest = first.honest.1 honest in
    let closed = first.closed honest in
    goes_on
    (goes_on (weakens (first.any_moment honest) (λ content left. inl left)) (second.any_moment one_honest closed) (λ content left. inr (inl left)))
    (c.open_header_over.ensures.any_moment (second.honest.1 one_honest) (second.closed one_honest closed))
    (λ content left. inr (⊎_elim (λ none. inl none) (λ made. inr (_, made)) left))
