use Rattle.std.proofs.Common.{MatchOption, Option, ℕ, sym, ◌∙◌, ap, arith, subst}
use Rattle.header_slots.specs.declared.header.Header.{Header}
use Rattle.header_slots.specs.Header.{IsBadAt, SpellsAt, another_magic, no_first_area, no_mode, outside_limits}
use Rattle.header_slots.specs.Number.{number_at}
use Rattle.image_model.specs.Layout.{AreSizesOf, areas_of}
use Rattle.header_slots.proofs.header.Header.decode.Goals as goal

pub returns-in_err-layout : goal.returns-in_err-layout
returns-in_err-layout c =
    let bytes = c.args.bytes.now in
    let bad : IsBadAt bytes 0 = another_magic (λ layout is. c.in_err-layout.ensures layout (c.u64_at.ensures ∙ is)) in
    subst (λ (found : Option Header). MatchOption found (IsBadAt bytes 0) (SpellsAt bytes 0)) (sym c.from_residual.ensures) bad

pub returns-in_err-geometry : goal.returns-in_err-geometry
returns-in_err-geometry c =
    let bytes = c.args.bytes.now in
    let layout = c.in_ok-layout.layout in
    let bad : IsBadAt bytes 0 = outside_limits layout (sym c.u64_at.ensures ∙ c.in_ok-layout.ensures) (λ sizes.
    let some = c.in_err-geometry.ensures.within.1
    (subst (λ (blocks : ℕ). AreSizesOf layout blocks c.u32_at.result) (sym c.u64_at-2.ensures)
    (subst (λ (size : ℕ). AreSizesOf layout (number_at 16 8 bytes) size) (sym c.u32_at.ensures) sizes)) in
    cc) in
    subst (λ (found : Option Header). MatchOption found (IsBadAt bytes 0) (SpellsAt bytes 0)) (sym c.from_residual-in_err-geometry.ensures) bad

pub returns-in_err-before_last : goal.returns-in_err-before_last
returns-in_err-before_last c =
    let bytes = c.args.bytes.now in
    let bad : IsBadAt bytes 0 = no_mode c.in_ok-layout.layout (sym c.u64_at.ensures ∙ c.in_ok-layout.ensures) c.in_err-before_last.ensures in
    subst (λ (found : Option Header). MatchOption found (IsBadAt bytes 0) (SpellsAt bytes 0)) (sym c.from_residual-in_err-before_last.ensures) bad

pub returns-then-first_area-areas : goal.returns-then-first_area-areas
returns-then-first_area-areas c =
    no_first_area c.in_ok-layout.layout (sym c.u64_at.ensures ∙ c.in_ok-layout.ensures)
    (omega (arith, c.if-first_area-areas.true, c.areas.ensures, ap areas_of c.in_ok-geometry.ensures.given.2))
