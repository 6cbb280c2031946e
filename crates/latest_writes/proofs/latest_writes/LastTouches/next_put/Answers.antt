use Rattle.std.proofs.Common.{subst, sym, arith}
use Rattle.latest_writes.specs.declared.range.PutRange.{PutRange}
use Rattle.latest_writes.specs.Puts.{HasNoPut, IsNextPut}
use Rattle.latest_writes.specs.Resolved.{ResolvedTouches}
use Rattle.latest_writes.proofs.NextPut.{searchable, searched, searched_none}
use Rattle.latest_writes.proofs.latest_writes.LastTouches.next_put.Goals as goal

pub first_after-index-requires : goal.first_after-index-requires
first_after-index-requires c =
    let known = c.self.invariant in
    searchable c.self.inside.blocks c.self.inside.ranges.items c.self.inside.puts.items c.deref.result.now known.apart known.longest c.deref.ensures.value known.puts_are

pub from_block-requires : goal.from_block-requires
from_block-requires c =
    let known = c.self.invariant in
    let put = searched c.self.inside.blocks c.args.from c.first_after-index.result c.self.inside.ranges.items c.self.inside.puts.items c.deref.result.now known.apart known.longest
    c.deref.ensures.value known.puts_are c.first_after-index.ensures.before c.first_after-index.ensures.behind c.index.result.now (omega (arith, c.deref.ensures.len)) c.index.ensures in
    record { blocks_fit = put.found.blocks_fit; bytes_fit = put.found.bytes_fit; behind = put.ends }

pub returns-then-index-len-clause-some : goal.returns-then-index-len-clause-some
returns-then-index-len-clause-some c =
    let known = c.self.invariant in
    let put = searched c.self.inside.blocks c.args.from c.first_after-index.result c.self.inside.ranges.items c.self.inside.puts.items c.deref.result.now known.apart known.longest
    c.deref.ensures.value known.puts_are c.first_after-index.ensures.before c.first_after-index.ensures.behind c.index.result.now (omega (arith, c.deref.ensures.len)) c.index.ensures in
    let P : ResolvedTouches → Type 0 = λ touches. IsNextPut c.args.from touches.ranges c.from_block.result in
    let Q : PutRange → Type 0 = λ put. IsNextPut c.args.from c.self.inside.ranges.items put in
    subst P c.self.view_is (subst Q (sym c.from_block.ensures) put.next)

pub returns-else-index-len-clause-none : goal.returns-else-index-len-clause-none
returns-else-index-len-clause-none c =
    let known = c.self.invariant in
    let none = searched_none c.self.inside.blocks c.args.from c.first_after-index.result c.self.inside.ranges.items c.self.inside.puts.items c.deref.result.now known.apart known.longest
    c.deref.ensures.value known.puts_are c.first_after-index.ensures.before c.first_after-index.ensures.behind (omega (arith, c.deref.ensures.len)) in
    let P : ResolvedTouches → Type 0 = λ touches. HasNoPut c.args.from touches.ranges in
    subst P c.self.view_is none
