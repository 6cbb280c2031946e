use Rattle.std.proofs.Common.{◌≡◌, ◌+◌, ℕ, List, [], ◌∷◌, Option, drop, ap, sym, subst, ◌∙◌, arith}
use Rattle.std.specs.Option.{option_map_or}
use Rattle.latest_writes.specs.declared.range.LastRange.{LastRange}
use Rattle.latest_writes.specs.Ranges.{AreRanges}
use Rattle.latest_writes.specs.inner.Ranges.{IsNextLaid, left_at}
use Rattle.latest_writes.proofs.NewerOverOlder.{first_limits, left_by_older, next_by_older, next_is_newer, next_is_part, nothing_left}
use Rattle.latest_writes.proofs.overlay.next_range.Goals as goal

pub returns-in-Some-clause-next : goal.returns-in-Some-clause-next
returns-in-Some-clause-next c =
    let done = c.args.laid.now.done in
    let newer = drop c.args.laid.now.newer c.args.newer.now in
    let apart = first_limits _ newer _ done c.range_at-new.ensures.some c.range_at-new.ensures.none (omega arith) c.requires.newer_apart in
    let limits : AreRanges c.first_of.result 4294967295 newer = subst (λ (n : ℕ). AreRanges n 4294967295 newer) (sym c.first_of.ensures) apart in
    let others = drop c.first_after-laid.result c.args.older.now in
    let next = next_is_part others newer done c.first_of.result c.in-Some.part limits c.in-Some.ensures.part in
    let P : ℕ → Type 0 = λ end. IsNextLaid (drop c.args.laid.now.older c.args.older.now) newer done c.in-Some.part others newer end in
    subst P (sym c.end-laid.ensures) (next_by_older _ others newer done c.in-Some.part others newer _ c.first_after-laid.ensures.same next)

pub returns-in_err-range-clause-none : goal.returns-in_err-range-clause-none
returns-in_err-range-clause-none c =
    let done = c.args.laid.now.done in
    let all = drop c.args.laid.now.older c.args.older.now in
    let others = drop c.first_after-laid.result c.args.older.now in
    let limit : c.first_of.result ≡ 4294967295 = c.first_of.ensures ∙ ap (λ (next : Option LastRange). option_map_or (λ range. range.first) next 4294967295) c.in_err-range.was in
    let none = λ (block : ℕ). ap (λ (l : List LastRange). left_at all l done block) c.in_err-range.ensures.none
    ∙ left_by_older all others [] done c.first_after-laid.ensures.same block
    ∙ nothing_left others done c.first_after-laid.ensures.left (λ place low high. c.in_default.ensures.none place low (omega (arith, high, limit))) block in
    rw c.from_residual.ensures none

pub returns-clause-next : goal.returns-clause-next
returns-clause-next c =
    let range = c.in_ok-range.range in
    let done = c.args.laid.now.done in
    let all = drop c.args.laid.now.older c.args.older.now in
    let others = drop c.first_after-laid.result c.args.older.now in
    let behind = drop (c.args.laid.now.newer + 1) c.args.newer.now in
    let are = c.in_ok-range.ensures.some in
    let limit : c.first_of.result ≡ range.first = c.first_of.ensures ∙ ap (λ (next : Option LastRange). option_map_or (λ range. range.first) next 4294967295) c.in_ok-range.was in
    let apart : AreRanges done 4294967295 (range ∷ behind) = subst (λ (l : List LastRange). AreRanges done 4294967295 l) are c.requires.newer_apart in
    let next = next_is_newer others range behind done apart (λ block low high. c.in_default.ensures.none block low (omega (arith, high, limit))) in
    let shown = next_by_older all others (range ∷ behind) done range others behind (range.first + range.blocks) c.first_after-laid.ensures.same next in
    let P : ℕ → Type 0 = λ end. IsNextLaid all (drop c.args.laid.now.newer c.args.newer.now) done range others behind end in
    let Q : List LastRange → Type 0 = λ l. IsNextLaid all l done range others behind (range.first + range.blocks) in
    subst P (sym c.end-laid-2.ensures) (subst Q (sym are) shown)
