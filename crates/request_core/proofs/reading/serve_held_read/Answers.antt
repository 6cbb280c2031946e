use Rattle.std.proofs.Common.{◌≡◌, ◌+◌, ◌-◌, ◌/◌, ◌%◌, ℕ, inr, replicate, get_or, sym, ◌∙◌, ap, refl, arith, inl}
use Rattle.alloc_map.specs.Codes.{state_at}
use Rattle.image_model.specs.Image.{Image}
use Rattle.nbd_wire.specs.declared.message.Answer.{Answer}
use Rattle.request_core.specs.Serving.{ready_for}
use Rattle.request_core.proofs.InMemory.{seen_zero, zero_there}
use Rattle.request_core.proofs.reading.serve_held_read.Goals as goal

pub bytes_answer-requires-clause-zero : goal.bytes_answer-requires-clause-zero
bytes_answer-requires-clause-zero g c =
    let head = c.args.head.now in
    let copied = c.in-Ok-copy_in_memory.ensures in
    λ k below other.
    copied.in_memory k (replicate 4096 0) (omega (arith, below, copied.size)) (seen_zero c.args.order.now.cache ((head.offset + k) / 4096) other)
    ∙ zero_there 4096 ((head.offset + k) % 4096)

pub returns : goal.returns
returns g c =
    let head = c.args.head.now in
    let old = c.args.order.now in
    let items = c.in-Ok-copy_in_memory.bytes.items in
    let copied = c.in-Ok-copy_in_memory.ensures in
    let given : Image = record { blocks = 0; byte = λ place. get_or items (place - head.offset) 0; kind = λ block. state_at old.cache.states block } in
    let at : (n : ℕ) → get_or items (head.offset + n - head.offset) 0 ≡ get_or items n 0 = λ n. ap (λ (m : ℕ). get_or items m 0) (let same : head.offset + n - head.offset ≡ n = omega arith in same) in
    let answer_is = c.bytes_answer.ensures given (λ block. refl) (λ k below. sym (at k)) in
    inr (record {
      image = given;
      kinds = λ block. refl;
      there = copied.there;
      in_memory = λ k bytes below is. at k ∙ copied.in_memory k bytes below is;
      own = λ image shows k below. at k ∙ copied.image image shows k below;
      answer = ap (λ (a : Answer). ready_for head.cookie a) answer_is;
    })

pub read_runs-requires-clause-some : goal.read_runs-requires-clause-some
read_runs-requires-clause-some g c = c.requires.some

pub read_runs-requires-clause-most : goal.read_runs-requires-clause-most
read_runs-requires-clause-most g c = c.requires.most

pub read_runs-requires-clause-few : goal.read_runs-requires-clause-few
read_runs-requires-clause-few g c = c.requires.few

pub read_runs-requires-clause-inside : goal.read_runs-requires-clause-inside
read_runs-requires-clause-inside g c = c.requires.inside

pub returns-in_default : goal.returns-in_default
returns-in_default g c = inl c.refuse.ensures

pub bytes_answer-requires-clause-kind : goal.bytes_answer-requires-clause-kind
bytes_answer-requires-clause-kind g c = c.requires.kind

pub bytes_answer-requires-clause-some : goal.bytes_answer-requires-clause-some
bytes_answer-requires-clause-some g c = c.requires.some

pub bytes_answer-requires-clause-most : goal.bytes_answer-requires-clause-most
bytes_answer-requires-clause-most g c = c.requires.most

pub bytes_answer-requires-clause-few : goal.bytes_answer-requires-clause-few
bytes_answer-requires-clause-few g c = c.requires.few

pub bytes_answer-requires-clause-inside : goal.bytes_answer-requires-clause-inside
bytes_answer-requires-clause-inside g c = c.requires.inside

pub bytes_answer-requires-clause-runs : goal.bytes_answer-requires-clause-runs
bytes_answer-requires-clause-runs g c = c.in-Ok.ensures
