use Rattle.std.proofs.Common.{arith}
use Rattle.image_model.specs.laws.Layouts.{areas_fill}
use Rattle.regions.specs.laws.Ring.{apart, area_high, behind_apart}
use Rattle.regions.specs.Layout.{areas_in}
use Rattle.regions.proofs.laws.layout_laws.Goals as goal

pub returns-clause-first_map : goal.returns-clause-first_map
returns-clause-first_map c geometry = omega (arith, areas_fill geometry.layout geometry.area geometry.area_whole)

pub returns-clause-inside : goal.returns-clause-inside
returns-clause-inside c geometry area below = omega (arith, area_high geometry area below)

pub returns-clause-apart : goal.returns-clause-apart
returns-clause-apart c geometry area other place differ here there = apart geometry area other place differ here there

pub returns-clause-once : goal.returns-clause-once
returns-clause-once c geometry area places more below less few = behind_apart (areas_in geometry) places more area below less few
