use Rattle.std.proofs.Common.{refl, rules}
use Rattle.request_core.proofs.serving.serve_held.Goals as goal

pub serve_passed-requires-clause-passes : goal.serve_passed-requires-clause-passes
serve_passed-requires-clause-passes g c = search rules

pub serve_passed-requires-clause-range : goal.serve_passed-requires-clause-range
serve_passed-requires-clause-range g c = search rules

pub serve_passed-requires-clause-works : goal.serve_passed-requires-clause-works
serve_passed-requires-clause-works g c = search rules

pub returns-in-Ok-Serve : goal.returns-in-Ok-Serve
returns-in-Ok-Serve g c = record {
  blocks = refl;
  serves = search rules;
  needs = search rules;
  handed_back = tt;
  range = tt;
  unchanged = tt;
  pass = search rules;
  client = search rules;
  grown = search rules;
}

pub returns-in-Err : goal.returns-in-Err
returns-in-Err g c = record {
  blocks = refl;
  serves = search rules;
  needs = search rules;
  handed_back = tt;
  range = tt;
  unchanged = tt;
  pass = search rules;
  client = search rules;
  grown = search rules;
}

pub returns-in-Ok-Serve-2 : goal.returns-in-Ok-Serve-2
returns-in-Ok-Serve-2 g c = record {
  blocks = c.serve_passed.ensures.blocks;
  serves = search rules;
  needs = search rules;
  handed_back = c.serve_passed.ensures.handed_back;
  range = search rules;
  unchanged = c.serve_passed.ensures.unchanged;
  pass = c.serve_passed.ensures.pass;
  client = c.serve_passed.ensures.client;
  grown = c.serve_passed.ensures.grown;
}

pub serve_passed-requires-clause-blocks : goal.serve_passed-requires-clause-blocks
serve_passed-requires-clause-blocks g c = c.requires.blocks

pub serve_passed-requires-clause-asked : goal.serve_passed-requires-clause-asked
serve_passed-requires-clause-asked g c = c.requires.asked
