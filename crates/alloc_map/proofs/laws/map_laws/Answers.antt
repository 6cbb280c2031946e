use Rattle.alloc_map.specs.laws.Spelling.{one_map, one_spelling, never_bad}
use Rattle.alloc_map.proofs.laws.map_laws.Goals as goal

pub returns : goal.returns
returns c = record { one_map = one_map; one_spelling = one_spelling; never_bad = never_bad }
