-- what is shown of a frame
use Rattle.std.specs.Prelude.{ℕ, List, slice_index_or, Option, None}
use Rattle.frame_pool.specs.Frames.{shown}

abbrev pub shown_at : List (Option (List ℕ)) → ℕ → List ℕ
shown_at frames frame = shown (slice_index_or frames frame None)
