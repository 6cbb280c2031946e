use Rattle.std.proofs.Common.{◌≡◌, ◌/◌, ◌%◌, ◌<◌, ◌≤◌, ◌==◌, Bool, if◌then◌else◌, List, take, bit_and, ℕ, length, sym, ◌∙◌, ap, subst, arith}
use Rattle.std.specs.List.{AllByRecursion}
use Rattle.std.proofs.lemmas.Bool.{ne_eqb}
use Rattle.alloc_map.specs.Codes.{state_at}
use Rattle.image_model.specs.Edit.{blocks_met}
use Rattle.nbd_wire.specs.declared.message.Answer.TheVariants.{Bytes, States}
use Rattle.nbd_wire.specs.declared.message.Run.{Run}
use Rattle.nbd_wire.specs.declared.head.RequestHead.{RequestHead}
use Rattle.export_model.specs.Shown.{bytes_from, cut_front, cut_to, most_runs, read_status_of, runs_from, runs_met, status_of}
use Rattle.request_core.proofs.Cuts.{front_long, long_first, long_taken, sizes_cut, some_behind}
use Rattle.request_core.proofs.Parts.{none_empty, runs_same, some_empty, some_runs, taken}
use Rattle.request_core.proofs.answers.status_answer.Goals as goal

most_within : (head : RequestHead) → (0 < most_runs head) × (most_runs head ≤ 1024)
most_within head = by_test (bit_and head.flags 8 == 8)
  where
    by_test : (test : Bool) → (0 < (if test then 1 else 1024)) × ((if test then 1 else 1024) ≤ 1024)
    by_test Bool.true = (omega arith, omega arith)
    by_test Bool.false = (omega arith, omega arith)

pub new-requires : goal.new-requires
new-requires g c =
    let head = c.args.head.now in
    let some = c.requires.some in
    let status : ℕ → ℕ = λ b. status_of (state_at c.args.order.now.cache.states b) in
    let first = head.offset / 4096 in
    let blocks = blocks_met head.offset head.length in
    let all = runs_from status first blocks in
    let limit = most_within head in
    let there : 0 < blocks = omega (arith, some) in
    let are : c.in_ok-runs.runs.items ≡ cut_to head.offset head.length (take (most_runs head) all) =
    c.in_ok-runs.ensures ∙ ap (λ (n : ℕ). cut_to head.offset head.length (take n all)) c.most_runs.ensures in
    let size = taken (most_runs head) all limit.0 (some_runs status first blocks there) in
    let cut = sizes_cut (head.offset % 4096) head.length (take (most_runs head) all) in
    let long = long_taken (most_runs head) all limit.0 (long_first status first blocks there) in
    record {
      count = subst (λ (l : List Run). (0 < length l) × (length l ≤ 1024)) (sym are)
          (cut.1 size.0, (let most = size.1 in let bound = limit.1 in let fewer = cut.0 in omega (arith, most, bound, fewer)));
      some = subst (AllByRecursion (λ (run : Run). 0 < run.length)) (sym are)
          (some_behind head.length (cut_front (head.offset % 4096) (take (most_runs head) all)) some
          (front_long (head.offset % 4096) (take (most_runs head) all) (omega arith) long (some_empty (most_runs head) all (none_empty status first blocks))));
    }

pub returns : goal.returns
returns g c = λ image kinds.
    let head = c.args.head.now in
    let first = head.offset / 4096 in
    let blocks = blocks_met head.offset head.length in
    let status : ℕ → ℕ = λ b. status_of (state_at c.args.order.now.cache.states b) in
    let runs_is : c.in_ok-runs.runs.items ≡ cut_to head.offset head.length (take (most_runs head) (runs_met (λ b. status_of (image.kind b)) head.offset head.length)) =
    c.in_ok-runs.ensures ∙ ap (λ (n : ℕ). cut_to head.offset head.length (take n (runs_from status first blocks))) c.most_runs.ensures
    ∙ ap (λ (l : List Run). cut_to head.offset head.length (take (most_runs head) l)) (runs_same status (λ b. status_of (image.kind b)) first blocks (λ b. ap status_of (sym (kinds b)))) in
    ap States (c.new.ensures ∙ runs_is)
    ∙ sym (ap (λ (b : Bool). if b
    then Bytes (record { offset = head.offset; bytes = bytes_from image head.offset head.length; runs = cut_to head.offset head.length (runs_met (λ b. read_status_of (image.kind b)) head.offset head.length) })
    else States (cut_to head.offset head.length (take (most_runs head) (runs_met (λ b. status_of (image.kind b)) head.offset head.length)))) (ne_eqb head.kind 0 c.requires.kind))
