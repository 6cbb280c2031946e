use Rattle.std.proofs.Common.{◌≡◌, ◌<◌, length, rules}
use Rattle.option_wire.proofs.Counts.{no_types, short_types, long_types, types_of}
use Rattle.option_wire.proofs.field.read_types.Goals as goal

pub returns-in_default-clause-none : goal.returns-in_default-clause-none
returns-in_default-clause-none c malformed types are same = no_types c.args.bytes.now types c.in_default.ensures.none same

pub returns-in_default-take_u16-clause-none : goal.returns-in_default-take_u16-clause-none
returns-in_default-take_u16-clause-none c malformed types are same =
    let more : length c.loop.types.items < c.in-Some.count = search rules in
    short_types c.args.bytes.now c.in-Some.rest.now _ _ types c.in-Some.count c.in-Some.ensures.fits c.in-Some.ensures.found c.loop.invariant.reads more c.in_default-take_u16.ensures.none are same

pub returns-then-not-is_empty-clause-none : goal.returns-then-not-is_empty-clause-none
returns-then-not-is_empty-clause-none c malformed types are same =
    let all : length c.loop.types.items ≡ c.in-Some.count = search rules in
    let some : 0 < length c.loop.rest.now = search rules in
    long_types c.args.bytes.now c.in-Some.rest.now _ _ types c.in-Some.count c.in-Some.ensures.fits c.in-Some.ensures.found c.loop.invariant.reads all some are same

pub returns-clause-found : goal.returns-clause-found
returns-clause-found c =
    let all : length c.loop.types.items ≡ c.in-Some.count = search rules in
    let none : length c.loop.rest.now ≡ 0 = search rules in
    types_of c.args.bytes.now c.in-Some.rest.now _ _ c.in-Some.count c.in-Some.ensures.found c.loop.invariant.reads all none
