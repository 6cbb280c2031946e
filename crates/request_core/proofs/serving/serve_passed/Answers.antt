use Rattle.std.proofs.Common.{◌≡◌, ◌≢◌, ◌*◌, ◌+◌, ◌≤◌, ◌∙◌, ℕ, ap, arith, eq-eqb, inl, inr, refl, subst, sym, true, rules}
use Rattle.std.proofs.lemmas.Bool.{false≢true}
use Rattle.export_model.specs.Verdict.{IsServedRange}
use Rattle.image_model.specs.declared.geometry.Geometry.{Geometry}
use Rattle.nbd_wire.specs.declared.head.RequestHead.{RequestHead}
use Rattle.request_core.specs.Reading.{IsHeldReadServed, IsStatusServed}
use Rattle.request_core.proofs.WhoNeedsDevice.{lacks_blocks, lacks_given, neither_3, neither_7, not_read}
use Rattle.request_core.proofs.Passes.{held_passes, not_grown, status_passes}
use Rattle.export_model.specs.Log.{flush_waits, is_flush}
use Rattle.marks.specs.Known.{PassState}
use Rattle.nbd_wire.specs.Request.{Message}
use Rattle.order_book.specs.Order.{OrderState}
use Rattle.request_core.proofs.Clients.{client_flushed, client_held, client_status}
use Rattle.request_core.proofs.serving.serve_passed.Goals as goal

-- the range of a head whose type isn't that of a FLUSH
in_range : (head given : RequestHead) (geometry : Geometry) (kind : ℕ) → head ≡ given → head.kind ≡ kind → (kind ≡ 3 → ⊥) → (given.kind ≢ 3 → IsServedRange given geometry) → IsServedRange head geometry
in_range head given geometry kind is at other range =
    subst (λ (h : RequestHead). IsServedRange h geometry) (sym is) (range (λ three. other (sym at ∙ ap (λ (h : RequestHead). h.kind) is ∙ three)))

pub returns-in-7 : goal.returns-in-7
returns-in-7 g c = record {
  blocks = refl;
  serves = inl (inr (inr (inl (c.requires.works, (sym (ap (λ (h : RequestHead). h.kind) c.head-head.ensures) ∙ c.in-7.is), refl, subst (λ (h : RequestHead). IsStatusServed h c.args.order.now c.serve_status.result) c.head-head.ensures c.serve_status.ensures))));
  needs = (λ e. absurd (false≢true e), λ needs. absurd (neither_7 c.args.request c.args.order.now (sym (ap (λ (h : RequestHead). h.kind) c.head-head.ensures) ∙ c.in-7.is) needs.2));
  handed_back = tt;
  unchanged = tt;
  pass = status_passes g.B.BoardName.opening c.args.request c.args.order.now.mark c.serve_status.result c.args.pass.now c.head-head.result c.args.order.now c.serve_status.ensures;
  client = client_status g.T.Trust.mode c.args.request c.args.order.now.mark c.args.order.now.mark refl c.serve_status.result c.args.pass.now.client c.head-head.result c.args.order.now c.serve_status.ensures;
  grown = not_grown _ _ refl;
}

pub returns-in-3-clause-needs : goal.returns-in-3-clause-needs
returns-in-3-clause-needs g c =
    (λ e. absurd (false≢true e), λ needs. absurd (neither_3 c.args.request c.args.order.now (sym (ap (λ (h : RequestHead). h.kind) c.head-head.ensures) ∙ c.in-3.is) needs.2))

pub returns-then-holds : goal.returns-then-holds
returns-then-holds g c = record {
  blocks = refl;
  serves = inr (c.requires.works, (sym (ap (λ (h : RequestHead). h.kind) c.head-head.ensures) ∙ c.in-0.is), refl, subst (λ (h : RequestHead). IsHeldReadServed h c.args.order.now c.serve_held_read.result) c.head-head.ensures c.serve_held_read.ensures);
  needs = (
    λ e. absurd (false≢true e),
    λ needs. absurd (not_read c.args.request c.args.order.now (sym (ap (λ (h : RequestHead). h.kind) c.head-head.ensures) ∙ c.in-0.is) (λ lacks. false≢true (sym (c.holds.ensures.1 (lacks_blocks c.args.request c.args.order.now c.head-head.result c.from_head-blocks.result.first c.from_head-blocks.result.count c.head-head.ensures c.from_head-blocks.ensures.first c.from_head-blocks.ensures.count lacks)) ∙ c.if-holds.true)) needs.2),
  );
  handed_back = tt;
  unchanged = tt;
  pass = held_passes g.B.BoardName.opening c.args.request c.args.order.now.mark c.serve_held_read.result c.args.pass.now c.head-head.result c.args.order.now c.serve_held_read.ensures;
  client = client_held g.T.Trust.mode c.args.request c.args.order.now.mark c.args.order.now.mark refl c.serve_held_read.result c.args.pass.now.client c.head-head.result c.args.order.now c.serve_held_read.ensures;
  grown = not_grown _ _ refl;
}

pub returns-else-holds : goal.returns-else-holds
returns-else-holds g c = record {
  blocks = refl;
  serves = tt;
  needs = (λ e. (refl, c.requires.works, inl ((sym (ap (λ (h : RequestHead). h.kind) c.head-head.ensures) ∙ c.in-0.is), lacks_given c.args.request c.args.order.now c.head-head.result c.from_head-blocks.result.first c.from_head-blocks.result.count c.head-head.ensures c.from_head-blocks.ensures.first c.from_head-blocks.ensures.count (c.holds.ensures.0 c.if-holds.false))), λ needs. refl);
  handed_back = refl;
  unchanged = (refl, refl);
  pass = tt;
  client = tt;
  grown = not_grown _ _ refl;
}

pub from_head-blocks-requires : goal.from_head-blocks-requires
from_head-blocks-requires g c = let range = in_range _ _ _ 0 c.head-head.ensures c.in-0.is (λ e. cc) c.requires.range in omega (arith, range.inside)

pub holds-requires : goal.holds-requires
holds-requires g c = search rules

pub serve_held_read-requires-clause-kind : goal.serve_held_read-requires-clause-kind
serve_held_read-requires-clause-kind g c = c.in-0.is

pub serve_held_read-requires-clause-some : goal.serve_held_read-requires-clause-some
serve_held_read-requires-clause-some g c = (in_range _ _ _ 0 c.head-head.ensures c.in-0.is (λ e. cc) c.requires.range).some

pub serve_held_read-requires-clause-most : goal.serve_held_read-requires-clause-most
serve_held_read-requires-clause-most g c = (in_range _ _ _ 0 c.head-head.ensures c.in-0.is (λ e. cc) c.requires.range).most_read c.in-0.is

pub serve_held_read-requires-clause-few : goal.serve_held_read-requires-clause-few
serve_held_read-requires-clause-few g c = omega (arith, c.requires.blocks)

pub serve_held_read-requires-clause-inside : goal.serve_held_read-requires-clause-inside
serve_held_read-requires-clause-inside g c = subst (λ (n : ℕ). c.head-head.result.offset + c.head-head.result.length ≤ 4096 * n) (sym c.requires.blocks) (in_range _ _ _ 0 c.head-head.ensures c.in-0.is (λ e. cc) c.requires.range).inside

pub serve_held_read-requires-clause-held : goal.serve_held_read-requires-clause-held
serve_held_read-requires-clause-held g c = search rules

pub serve_status-requires-clause-kind : goal.serve_status-requires-clause-kind
serve_status-requires-clause-kind g c = search rules

pub serve_status-requires-clause-some : goal.serve_status-requires-clause-some
serve_status-requires-clause-some g c = (in_range _ _ _ 7 c.head-head.ensures c.in-7.is (λ e. cc) c.requires.range).some

pub serve_status-requires-clause-few : goal.serve_status-requires-clause-few
serve_status-requires-clause-few g c = omega (arith, c.requires.blocks)

pub serve_status-requires-clause-inside : goal.serve_status-requires-clause-inside
serve_status-requires-clause-inside g c = subst (λ (n : ℕ). c.head-head.result.offset + c.head-head.result.length ≤ 4096 * n) (sym c.requires.blocks) (in_range _ _ _ 7 c.head-head.ensures c.in-7.is (λ e. cc) c.requires.range).inside

pub serve_held_edit-requires-clause-write : goal.serve_held_edit-requires-clause-write
serve_held_edit-requires-clause-write g c = search rules

pub serve_held_edit-requires-clause-range : goal.serve_held_edit-requires-clause-range
serve_held_edit-requires-clause-range g c = search rules

pub returns-in-3-clause-blocks : goal.returns-in-3-clause-blocks
returns-in-3-clause-blocks g c = search rules

pub returns-in-3-clause-serves : goal.returns-in-3-clause-serves
returns-in-3-clause-serves g c = search rules

pub returns-in-3-clause-pass : goal.returns-in-3-clause-pass
returns-in-3-clause-pass g c = search rules

pub returns-in-3-clause-grown : goal.returns-in-3-clause-grown
returns-in-3-clause-grown g c = search rules

pub returns-in_default-clause-serves : goal.returns-in_default-clause-serves
returns-in_default-clause-serves g c = search rules

pub returns-in_default-clause-needs : goal.returns-in_default-clause-needs
returns-in_default-clause-needs g c = search rules

pub returns-in-3-clause-handed_back : goal.returns-in-3-clause-handed_back
returns-in-3-clause-handed_back g c = tt

pub returns-in-3-clause-unchanged : goal.returns-in-3-clause-unchanged
returns-in-3-clause-unchanged g c = tt

pub serve_held_edit-requires-clause-works : goal.serve_held_edit-requires-clause-works
serve_held_edit-requires-clause-works g c = c.requires.works

pub serve_held_edit-requires-clause-blocks : goal.serve_held_edit-requires-clause-blocks
serve_held_edit-requires-clause-blocks g c = c.requires.blocks

pub returns-in_default-clause-blocks : goal.returns-in_default-clause-blocks
returns-in_default-clause-blocks g c = c.serve_held_edit.ensures.blocks

pub returns-in_default-clause-handed_back : goal.returns-in_default-clause-handed_back
returns-in_default-clause-handed_back g c = c.serve_held_edit.ensures.handed_back

pub returns-in_default-clause-unchanged : goal.returns-in_default-clause-unchanged
returns-in_default-clause-unchanged g c = c.serve_held_edit.ensures.unchanged

pub returns-in_default-clause-pass : goal.returns-in_default-clause-pass
returns-in_default-clause-pass g c = c.serve_held_edit.ensures.pass

pub returns-in_default-clause-grown : goal.returns-in_default-clause-grown
returns-in_default-clause-grown g c = c.serve_held_edit.ensures.grown

-- the request is a FLUSH
is_flush_3 : (head : RequestHead) (request : Message) → head ≡ request.head → head.kind ≡ 3 → is_flush request ≡ true
is_flush_3 head request is three = eq-eqb request.head.kind 3 (sym (ap (λ (h : RequestHead). h.kind) is) ∙ three)

pub await_mark-requires : goal.await_mark-requires
await_mark-requires g c = record { asked = λ kept speaks. record { request = c.args.request; asks = (c.requires.asked kept).asks; flush = is_flush_3 c.head-head.result c.args.request c.head-head.ensures c.in-3.is } }

pub returns-in-3-clause-client : goal.returns-in-3-clause-client
returns-in-3-clause-client g c =
    let order = ap (λ (o : OrderState). o.mark) c.await_mark.ensures.same in
    client_flushed g.T.Trust.mode c.args.request c.args.order.now.mark c.await_mark.new.self.mark c.await_mark.result (flush_waits c.args.terms.mode) c.head-head.result.cookie c.answer_flush.result c.args.pass.now.client c.await_mark.new.pass.client
    (is_flush_3 c.head-head.result c.args.request c.head-head.ensures c.in-3.is) order (c.await_mark.ensures.mark ∙ sym order) (ap (λ (p : PassState). p.client) c.await_mark.ensures.pass) c.answer_flush.ensures

pub serve_held_edit-requires-clause-asked : goal.serve_held_edit-requires-clause-asked
serve_held_edit-requires-clause-asked g c = c.requires.asked

pub returns-in_default-clause-client : goal.returns-in_default-clause-client
returns-in_default-clause-client g c = c.serve_held_edit.ensures.client
