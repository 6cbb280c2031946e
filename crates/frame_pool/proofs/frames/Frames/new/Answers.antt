use Rattle.std.proofs.Common.{ℕ, List, Option, sym, ap, ◌∙◌, map, is_some}
use Rattle.frame_pool.proofs.FramesWithBytes.{no_bytes}
use Rattle.frame_pool.proofs.frames.Frames.new.Goals as goal

pub invariant_of-result : goal.invariant_of-result
invariant_of-result c =
    c.in_ok-vec.ensures.items_if_clones_equal (λ flag same. same) ∙ sym (no_bytes (List ℕ) c.args.frames)
    ∙ ap (λ (cells : List (Option (List ℕ))). map is_some cells) (sym c.in_ok-new.ensures)
