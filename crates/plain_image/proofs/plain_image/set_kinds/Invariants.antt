use Rattle.std.proofs.Common.{◌≡◌, ℕ, ◌<◌, ◌≤◌, get_or}
use Rattle.image_model.specs.declared.command.Kind.TheVariants as Kind
use Rattle.image_model.specs.Edit.{edit_of, kind_edited}
use Rattle.plain_image.proofs.plain_image.set_kinds.Given as goal

abbrev pub invariant-loop-block : goal.invariant-loop-block
invariant-loop-block l = record {
  done : (k : ℕ) → k < l.block → get_or l.kinds k Kind.Hole ≡ kind_edited (edit_of l.edit) k (get_or l.fn.kinds k Kind.Hole);
  same : (k : ℕ) → l.block ≤ k → get_or l.kinds k Kind.Hole ≡ get_or l.fn.kinds k Kind.Hole;
}
