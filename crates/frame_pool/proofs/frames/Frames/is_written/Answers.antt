use Rattle.std.proofs.Common.{◌<◌, ℕ, List, Option, None, length, get_or, is_some, sym, ap, ◌∙◌, subst}
use Rattle.frame_pool.proofs.FramesWithBytes.{flag_read}
use Rattle.frame_pool.proofs.frames.Frames.is_written.Goals as goal

pub returns : goal.returns
returns c =
    let below : c.args.frame < length c.self.inside.region =
    subst (λ (frames : List (Option (List ℕ))). c.args.frame < length frames) (sym c.self.view_is) c.requires in
    flag_read _ _ c.args.frame _ c.self.invariant below c.index.ensures
    ∙ ap (λ (frames : List (Option (List ℕ))). is_some (get_or frames c.args.frame None)) c.self.view_is
