use Rattle.std.proofs.Common.{◌≡◌, vec_len}
use Rattle.option_wire.specs.Field.{IsText, counted}
use Rattle.option_wire.specs.laws.Items.{Reads}
use Rattle.option_wire.proofs.field.read_queries.Given as goal

abbrev pub invariant-loop : goal.invariant-loop
invariant-loop l = record {
  reads : Reads counted IsText l.initial.rest l.queries.items l.rest;
  len : vec_len l.queries ≡ l.counter;
}
