use Rattle.std.proofs.Common.{◌≡◌, ◌≤◌, ◌<◌, ◌+◌, ◌*◌, ◌-◌, ◌/◌, ◌∙◌, ap, ℕ, false, List, length, get_or, arith, rules}
use Rattle.std.proofs.lemmas.List.{places}
use Rattle.std.proofs.lemmas.Result.{on_ok_weaker}
use borrow.Rule.Slice.PartMut.{put_mid}
use Rattle.device_image.specs.Holds.{is_written, joined}
use Rattle.image_model.specs.Change.{Change}
use Rattle.image_model.specs.Image.{Image}
use Rattle.image_model.specs.declared.command.Kind.TheVariants.{Data}
use Rattle.order_book.proofs.reading.read_run.Goals as goal

within : (xs ys : List ℕ) (a e k : ℕ) → a ≤ length xs → k < length ys → get_or (put_mid a (e - a) xs ys) (a + k) 0 ≡ get_or ys k 0
within xs ys a e k inside less = search (rules, places)

-- what is known of a run's bytes, told by the places of all blocks
moved : (first from to : ℕ) (xs ys : List ℕ) (base : Image) (front : List Change) → from < to → 4096 * to ≤ length xs → length ys ≡ 4096 * to - 4096 * from
    → ((k : ℕ) → k < length ys → base.kind (first + from + k / 4096) ≡ Data → is_written (first + from + k / 4096) front ≡ false → get_or ys k 0 ≡ base.byte (4096 * (first + from) + k))
    → (j k : ℕ) → from ≤ j → j < to → k < 4096 → base.kind (first + j) ≡ Data → is_written (first + j) front ≡ false
    → get_or (put_mid (4096 * from) (4096 * to - 4096 * from) xs ys) (4096 * j + k) 0 ≡ base.byte (4096 * (first + j) + k)
moved first from to xs ys base front some inside long read j k above below_to less kind unwritten =
    let p = 4096 * (j - from) + k in
    let at : 4096 * j + k ≡ 4096 * from + p = omega (arith, above) in
    let whole : first + from + p / 4096 ≡ first + j = omega (arith, above, less) in
    let place : 4096 * (first + from) + p ≡ 4096 * (first + j) + k = omega (arith, above) in
    let short : p < length ys = omega (arith, above, below_to, less, long) in
    ap (λ (n : ℕ). get_or (put_mid (4096 * from) (4096 * to - 4096 * from) xs ys) n 0) at
    ∙ within xs ys (4096 * from) (4096 * to) p (omega (arith, some, inside)) short
    ∙ read p short (ap base.kind whole ∙ kind) (ap (λ (n : ℕ). is_written n front) whole ∙ unwritten)
    ∙ ap base.byte place

pub returns-clause-bytes : goal.returns-clause-bytes
returns-clause-bytes g c honest base fronts last holds =
    on_ok_weaker c.read_base.result
    (λ read j k above below less kind unwritten.
    moved c.args.first c.args.from c.args.to c.args.into.now c.read_base.new.into base (joined fronts) c.requires.some c.requires.inside (c.read_base.auto.into ∙ search (rules, places)) read j k above below less kind unwritten)
    (c.read_base.ensures.bytes honest base fronts last holds)

pub returns-clause-ok : goal.returns-clause-ok
returns-clause-ok g c = c.read_base.ensures.ok

pub returns-clause-err : goal.returns-clause-err
returns-clause-err g c = c.read_base.ensures.err

pub returns-clause-failed : goal.returns-clause-failed
returns-clause-failed g c = c.read_base.ensures.failed

pub returns-clause-only : goal.returns-clause-only
returns-clause-only g c = c.read_base.ensures.only

pub returns-clause-extent : goal.returns-clause-extent
returns-clause-extent g c = c.read_base.ensures.extent

pub returns-clause-faults_ok : goal.returns-clause-faults_ok
returns-clause-faults_ok g c = c.read_base.ensures.faults_ok

pub returns-clause-faults_err : goal.returns-clause-faults_err
returns-clause-faults_err g c = c.read_base.ensures.faults_err

pub returns-clause-honest : goal.returns-clause-honest
returns-clause-honest g c = c.read_base.ensures.honest

pub returns-clause-only_read : goal.returns-clause-only_read
returns-clause-only_read g c = c.read_base.ensures.only_read

pub returns-clause-holds : goal.returns-clause-holds
returns-clause-holds g c = c.read_base.ensures.held
