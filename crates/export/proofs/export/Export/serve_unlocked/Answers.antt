use Rattle.std.specs.Prelude.{slice_range}
use Rattle.std.proofs.Common.{◌∙◌, ◌≤◌, ◌-◌, ◌*◌, ◌/◌, ℕ, length, ap, refl, subst, sym}
use Rattle.export.proofs.UnlockedReadIsServed.{given, inside}
use Rattle.export.proofs.RequestIsServed.{equal_as, may_again, unserved_as}
use Rattle.image_model.specs.Edit.{blocks_met}
use Rattle.nbd_wire.specs.declared.head.RequestHead.{RequestHead}
use Rattle.regions.specs.Layout.{block_at}
use Rattle.export.proofs.export.Export.serve_unlocked.Goals as goal

pub serve_over-served-requires-clause-size : goal.serve_over-served-requires-clause-size
serve_over-served-requires-clause-size g c = c.loop.invariant.size

pub serve_over-served-requires-clause-vouched : goal.serve_over-served-requires-clause-vouched
serve_over-served-requires-clause-vouched g c = c.args.self.now.vouched c.in-Some-second_handle.handle c.in-Some-second_handle.is

pub returns-in_default : goal.returns-in_default
returns-in_default g c = record { served = tt; unchanged = refl }

pub returns-in_default-second_handle : goal.returns-in_default-second_handle
returns-in_default-second_handle g c = record { served = tt; unchanged = refl }

pub returns-in_default-take_buffer : goal.returns-in_default-take_buffer
returns-in_default-take_buffer g c = record { served = tt; unchanged = refl }

pub returns-in_default-read_span : goal.returns-in_default-read_span
returns-in_default-read_span g c = record { served = unserved_as c.args.pass.now c.requires.may c.loop.pass c.refuse.result c.refuse.ensures c.loop.invariant.pass; unchanged = tt }

pub returns-in-Ok-served : goal.returns-in-Ok-served
returns-in-Ok-served g c =
    record { served = equal_as c.args.request.now c.loop.pass c.serve_over-served.new.pass c.in-Ok-served.served refl c.loop.invariant.pass c.in-Ok-served.ensures.served; unchanged = tt }

pub loop-preserved : goal.loop-preserved
loop-preserved g c = record { size = c.in-Err.ensures.size; pass = c.in-Err.ensures.unchanged.1 ∙ c.loop.invariant.pass; planned = c.in-Some-plan.ensures.planned }

pub returns-in-None : goal.returns-in-None
returns-in-None g c = record { served = tt; unchanged = c.in-Err.ensures.unchanged.1 ∙ c.loop.invariant.pass }

pub returns : goal.returns
returns g c = record { served = tt; unchanged = c.loop.invariant.pass }

pub read_span-requires-clause-from : goal.read_span-requires-clause-from
read_span-requires-clause-from g c =
    let first = c.loop.planned.span.first in
    subst (λ (n : ℕ). n ≤ first) (sym (c.from_head-blocks.ensures.first ∙ ap (λ (h : RequestHead). h.offset / 4096) c.head-head.ensures)) c.loop.invariant.planned.from

pub read_span-requires-clause-order : goal.read_span-requires-clause-order
read_span-requires-clause-order g c = c.loop.invariant.planned.order

pub read_span-requires-clause-inside : goal.read_span-requires-clause-inside
read_span-requires-clause-inside g c =
    let head = c.args.request.now.head in
    inside c.loop.planned.span.end c.from_head-blocks.result.first (head.offset / 4096) (blocks_met head.offset head.length) (length c.deref_mut.result.now)
    (c.from_head-blocks.ensures.first ∙ ap (λ (h : RequestHead). h.offset / 4096) c.head-head.ensures) c.loop.invariant.planned.end (c.deref_mut.ensures.len ∙ c.loop.invariant.size)

pub serve_over-served-requires-clause-planned : goal.serve_over-served-requires-clause-planned
serve_over-served-requires-clause-planned g c = c.loop.invariant.planned

pub serve_over-served-requires-clause-given : goal.serve_over-served-requires-clause-given
serve_over-served-requires-clause-given g c =
    let own = c.args.self.now.geometry in let span = c.loop.planned.span in let first = c.from_head-blocks.result.first in let into = c.read_span.new.into in let Gives = g.H.ReadUnlocked.gives c.in-Some-second_handle.handle c.loop.planned.noted_base.number in
    let place : Gives (block_at own span.first) (slice_range into (4096 * (span.first - first)) (4096 * (span.end - first))) = c.in-Ok.ensures.place in
    given Gives own c.args.terms.now.geometry span.first span.end first (c.args.request.now.head.offset / 4096) c.loop.bytes.len into c.loop.bytes.items
    (c.args.self.now.sized ∙ sym c.requires.may.geometry) (c.from_head-blocks.ensures.first ∙ ap (λ (h : RequestHead). h.offset / 4096) c.head-head.ensures) (c.read_span.ensures.size ∙ c.deref_mut.ensures.len)
    place

pub serve_over-served-requires-clause-may : goal.serve_over-served-requires-clause-may
serve_over-served-requires-clause-may g c = may_again c.args.pass.now c.requires.may c.args.request.now c.loop.pass refl c.loop.invariant.pass
