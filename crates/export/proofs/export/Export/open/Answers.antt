use Rattle.std.proofs.Common.{◌∙◌}
use Rattle.export.proofs.export.Export.open.Goals as goal

pub open_parts-requires-clause-held : goal.open_parts-requires-clause-held
open_parts-requires-clause-held g c = λ sure. (c.requires.trusted sure).holds

pub new-requires-clause-image : goal.new-requires-clause-image
new-requires-clause-image g c = λ sure. (c.requires.trusted sure).holds

pub invariant_of-made : goal.invariant_of-made
invariant_of-made g c = record { sized = c.geometry-geometry.ensures ∙ c.requires.geometry; moded = c.new-log.ensures; vouched = λ handle is read vouches. ∣ c.requires.vouches handle is read vouches ∣₁ }
