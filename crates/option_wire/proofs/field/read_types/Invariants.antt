use Rattle.std.proofs.Common.{◌≡◌, ◌<◌, ◌^◌, vec_len}
use Rattle.std.specs.Int.{w16, to_be_bytes}
use Rattle.option_wire.specs.laws.Items.{Reads}
use Rattle.option_wire.proofs.field.read_types.Given as goal

abbrev pub invariant-loop : goal.invariant-loop
invariant-loop l = record {
  reads : Reads (to_be_bytes w16) (λ kind. kind < 2 ^ 16) l.initial.rest l.types.items l.rest;
  len : vec_len l.types ≡ l.counter;
}
