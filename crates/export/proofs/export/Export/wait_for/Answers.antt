use Rattle.export.proofs.PassAfterWait.{IsLater, found, looked, refused, then}
use Rattle.export.proofs.export.Export.wait_for.Goals as goal

pub returns-then-look_durable-number : goal.returns-then-look_durable-number
returns-then-look_durable-number g c =
    let first = looked c.args.pass.now c.look_durable.new.pass c.look_durable.result c.look_durable.ensures.known c.look_durable.ensures.seen c.look_durable.ensures.pass in
    found c.args.number c.look_durable.result c.args.pass.now c.args.pass.now c.look_durable.new.pass first c.look_durable.ensures.pass c.if-look_durable-number.true

pub returns-then-look_durable-number-2 : goal.returns-then-look_durable-number-2
returns-then-look_durable-number-2 g c =
    let first = looked c.args.pass.now c.look_durable.new.pass c.look_durable.result c.look_durable.ensures.known c.look_durable.ensures.seen c.look_durable.ensures.pass in
    let second = looked c.look_durable.new.pass c.look_durable-2.new.pass c.look_durable-2.result c.look_durable-2.ensures.known c.look_durable-2.ensures.seen c.look_durable-2.ensures.pass in
    found c.args.number c.look_durable-2.result c.args.pass.now c.look_durable.new.pass c.look_durable-2.new.pass
    (then c.args.pass.now c.look_durable.new.pass c.look_durable-2.new.pass first second) c.look_durable-2.ensures.pass c.if-look_durable-number-2.true

pub loop-init : goal.loop-init
loop-init g c =
    let first = looked c.args.pass.now c.look_durable.new.pass c.look_durable.result c.look_durable.ensures.known c.look_durable.ensures.seen c.look_durable.ensures.pass in
    let second = looked c.look_durable.new.pass c.look_durable-2.new.pass c.look_durable-2.result c.look_durable-2.ensures.known c.look_durable-2.ensures.seen c.look_durable-2.ensures.pass in
    let both = then c.args.pass.now c.look_durable.new.pass c.look_durable-2.new.pass first second in
    record { iterates = (tt, tt); own = both.own; client = both.client; knew = both.knew; lasts = both.lasts }

pub returns-then-look_durable-number-3 : goal.returns-then-look_durable-number-3
returns-then-look_durable-number-3 g c =
    let is = c.loop.invariant in let before : IsLater c.args.pass.now c.loop.pass = record { own = is.own; client = is.client; knew = is.knew; lasts = is.lasts } in let look = c.look_durable-in-loop.ensures in
    let last = looked c.loop.pass c.look_durable-in-loop.new.pass c.look_durable-in-loop.result look.known look.seen look.pass in
    found c.args.number c.look_durable-in-loop.result c.args.pass.now c.loop.pass c.look_durable-in-loop.new.pass
    (then c.args.pass.now c.loop.pass c.look_durable-in-loop.new.pass before last) look.pass c.if-look_durable-number-3.true

pub returns-then-is_stopped : goal.returns-then-is_stopped
returns-then-is_stopped g c =
    let is = c.loop.invariant in let before : IsLater c.args.pass.now c.loop.pass = record { own = is.own; client = is.client; knew = is.knew; lasts = is.lasts } in let look = c.look_durable-in-loop.ensures in
    let last = looked c.loop.pass c.look_durable-in-loop.new.pass c.look_durable-in-loop.result look.known look.seen look.pass in
    refused c.args.number c.args.pass.now c.look_durable-in-loop.new.pass (then c.args.pass.now c.loop.pass c.look_durable-in-loop.new.pass before last)

pub loop-preserved : goal.loop-preserved
loop-preserved g c =
    let is = c.loop.invariant in let before : IsLater c.args.pass.now c.loop.pass = record { own = is.own; client = is.client; knew = is.knew; lasts = is.lasts } in let look = c.look_durable-in-loop.ensures in
    let last = looked c.loop.pass c.look_durable-in-loop.new.pass c.look_durable-in-loop.result look.known look.seen look.pass in
    let both = then c.args.pass.now c.loop.pass c.look_durable-in-loop.new.pass before last in
    record { iterates = (tt, tt); own = both.own; client = both.client; knew = both.knew; lasts = both.lasts }
