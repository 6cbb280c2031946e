use Rattle.std.proofs.Common.{◌≡◌, ◌≤◌, ◌+◌, ◌-◌, ◌*◌, ◌/◌, ◌%◌, ℕ, inr, List, drop, take, get_or, length, None, Some, sym, ◌∙◌, ap, subst, refl, arith, rules}
use Rattle.alloc_map.specs.Codes.{state_at}
use Rattle.image_model.specs.Edit.{blocks_met}
use Rattle.image_model.specs.Image.{Image}
use Rattle.image_model.specs.declared.command.Kind.{Kind}
use Rattle.nbd_wire.specs.declared.message.Answer.{Answer}
use Rattle.order_book.specs.Reading.{GivesBase, LiesIn}
use Rattle.request_core.specs.Serving.{ready_for}
use Rattle.request_core.proofs.InMemory.{at_place, block_from, part_at, part_holds, part_size, part_zero, whole}
use Rattle.request_core.proofs.reading.serve_read_over.Goals as goal
use Rattle.shared_cache.specs.Cache.{bytes_seen}

pub bytes_answer-requires-clause-zero : goal.bytes_answer-requires-clause-zero
bytes_answer-requires-clause-zero g c =
    let head = c.args.head.now in
    let old = c.args.order.now in
    let into = c.read_over.new.into in
    let items = c.cut.new.bytes.items in
    let read = c.if-not-read_over.ensures in
    let size : length into ≡ c.args.bytes.len = read.size ∙ ap length c.deref_mut.ensures.value ∙ sym c.args.bytes.ok.0 in
    let long : length into ≡ 4096 * blocks_met head.offset head.length = size ∙ c.requires.size in
    let part : items ≡ take head.length (drop (head.offset % 4096) into) = c.cut.ensures ∙ ap (λ (l : List ℕ). take head.length (drop (head.offset % 4096) l)) (whole c.args.bytes.len into c.args.bytes.items size) in
    let count = part_size head.offset head.length into items part long in
    let states = (read.view refl).states in
    λ k below other. part_zero head.offset head.length into items part long old.cache
    (λ j k bytes under inside seen. read.in_memory refl j k bytes under inside seen)
    k (let held = c.cut.new.bytes.ok.0 in omega (arith, below, held, count))
    (λ is. other (ap (λ (s : List Kind). state_at s ((head.offset + k) / 4096)) states ∙ is))

pub returns-clause-read : goal.returns-clause-read
returns-clause-read g c =
    let head = c.args.head.now in
    let old = c.args.order.now in
    let into = c.read_over.new.into in
    let items = c.cut.new.bytes.items in
    let read = c.if-not-read_over.ensures in
    let handed : c.deref_mut.result.now ≡ c.args.bytes.items = c.deref_mut.ensures.value in
    let same_size : length into ≡ length c.deref_mut.result.now = read.size in
    let size : length into ≡ c.args.bytes.len = read.size ∙ ap length handed ∙ sym c.args.bytes.ok.0 in
    let long : length into ≡ 4096 * blocks_met head.offset head.length = size ∙ c.requires.size in
    let part : items ≡ take head.length (drop (head.offset % 4096) into) = c.cut.ensures ∙ ap (λ (l : List ℕ). take head.length (drop (head.offset % 4096) l)) (whole c.args.bytes.len into c.args.bytes.items size) in
    let states = (read.view refl).states in
    let given : Image = record { blocks = 0; byte = λ place. get_or items (place - head.offset) 0; kind = λ block. state_at old.cache.states block } in
    let at : (n : ℕ) → get_or items (head.offset + n - head.offset) 0 ≡ get_or items n 0 = λ n. ap (λ (m : ℕ). get_or items m 0) (let same : head.offset + n - head.offset ≡ n = omega arith in same) in
    let place : (k : ℕ) → 4096 * ((head.offset + k) / 4096) + (head.offset + k) % 4096 ≡ head.offset + k = λ k. omega arith in
    let answer_is = c.bytes_answer.ensures given (λ block. ap (λ (s : List Kind). state_at s block) (sym states)) (λ k below. sym (at k)) in
    inr (record {
      works = sym c.is_stopped.ensures ∙ c.if-is_stopped.false;
      inside = part_holds head.offset head.length into items part long (λ block k byte. bytes_seen old.cache block ≡ None → LiesIn block c.args.span)
          (λ j k below inside none. read.done refl j (omega (arith, below, same_size)) none);
      image = given;
      kinds = λ block. refl;
      in_memory = λ k bytes below is. at k ∙ part_holds head.offset head.length into items part long (λ block r byte. (bytes : List ℕ) → bytes_seen old.cache block ≡ Some bytes → byte ≡ get_or bytes r 0)
          (λ j r under inside bytes is. read.in_memory refl j r bytes under inside is) k below bytes is;
      handed = λ k below none.
          let spot = at_place head.offset k in
          let here = part_at head.offset head.length into items part long k below in
          at k ∙ here.0 ∙ read.handed refl (block_from head.offset k) ((head.offset + k) % 4096) here.1 spot.inside
          (ap (bytes_seen old.cache) spot.block ∙ none)
          ∙ ap (λ (l : List ℕ). get_or l (4096 * block_from head.offset k + (head.offset + k) % 4096) 0) handed
          ∙ ap (λ (n : ℕ). get_or c.args.bytes.items n 0) (sym spot.place);
      own = λ base image front gives shows clean k below. at k ∙ part_holds head.offset head.length into items part long (λ block r byte. byte ≡ image.byte (4096 * block + r))
          (λ j r under inside. read.image base image front (subst (λ (l : List ℕ). GivesBase (head.offset / 4096) l old.cache base front) (sym handed) gives) shows clean refl j r under inside) k below
          ∙ ap image.byte (place k);
      shows = λ base image front gives shows clean. read.shown base image front (subst (λ (l : List ℕ). GivesBase (head.offset / 4096) l old.cache base front) (sym handed) gives) shows clean refl;
      answer = ap (λ (a : Answer). ready_for head.cookie a) answer_is;
      order = read.new;
      states = states;
    })

pub returns-then-is_stopped-clause-read : goal.returns-then-is_stopped-clause-read
returns-then-is_stopped-clause-read g c = search rules

pub returns-then-is_stopped-clause-stopped : goal.returns-then-is_stopped-clause-stopped
returns-then-is_stopped-clause-stopped g c = search rules

pub returns-then-is_stopped-clause-back : goal.returns-then-is_stopped-clause-back
returns-then-is_stopped-clause-back g c = search rules

pub returns-in_default-clause-read : goal.returns-in_default-clause-read
returns-in_default-clause-read g c = search rules

pub returns-in_default-clause-stopped : goal.returns-in_default-clause-stopped
returns-in_default-clause-stopped g c = search rules

pub returns-in_default-clause-back : goal.returns-in_default-clause-back
returns-in_default-clause-back g c = search rules

pub read_over-requires-clause-whole : goal.read_over-requires-clause-whole
read_over-requires-clause-whole g c = search rules

pub read_over-requires-clause-range : goal.read_over-requires-clause-range
read_over-requires-clause-range g c = search rules

pub read_over-requires-clause-end : goal.read_over-requires-clause-end
read_over-requires-clause-end g c = search rules

pub returns-then-not-read_over-clause-read : goal.returns-then-not-read_over-clause-read
returns-then-not-read_over-clause-read g c = search rules

pub returns-then-not-read_over-clause-stopped : goal.returns-then-not-read_over-clause-stopped
returns-then-not-read_over-clause-stopped g c = search rules

pub returns-then-not-read_over-clause-size : goal.returns-then-not-read_over-clause-size
returns-then-not-read_over-clause-size g c = search rules

pub returns-then-not-read_over-clause-unchanged : goal.returns-then-not-read_over-clause-unchanged
returns-then-not-read_over-clause-unchanged g c = search rules

pub returns-then-not-read_over-clause-blocks : goal.returns-then-not-read_over-clause-blocks
returns-then-not-read_over-clause-blocks g c = search rules

pub returns-then-not-read_over-clause-back : goal.returns-then-not-read_over-clause-back
returns-then-not-read_over-clause-back g c = search rules

pub cut-requires : goal.cut-requires
cut-requires g c = search rules

pub bytes_answer-requires-clause-few : goal.bytes_answer-requires-clause-few
bytes_answer-requires-clause-few g c = subst (λ (states : List Kind). length states ≤ 16777216) (sym (c.if-not-read_over.ensures.view refl).states) (omega (arith, c.requires.blocks))

pub bytes_answer-requires-clause-inside : goal.bytes_answer-requires-clause-inside
bytes_answer-requires-clause-inside g c = search rules

pub bytes_answer-requires-clause-runs : goal.bytes_answer-requires-clause-runs
bytes_answer-requires-clause-runs g c = search rules

pub returns-clause-blocks : goal.returns-clause-blocks
returns-clause-blocks g c = search rules

pub returns-clause-stopped : goal.returns-clause-stopped
returns-clause-stopped g c = search rules

pub returns-clause-back : goal.returns-clause-back
returns-clause-back g c = search rules

pub read_runs-requires-clause-some : goal.read_runs-requires-clause-some
read_runs-requires-clause-some g c = search rules

pub read_runs-requires-clause-most : goal.read_runs-requires-clause-most
read_runs-requires-clause-most g c = search rules

pub read_runs-requires-clause-few : goal.read_runs-requires-clause-few
read_runs-requires-clause-few g c = search rules

pub read_runs-requires-clause-inside : goal.read_runs-requires-clause-inside
read_runs-requires-clause-inside g c = search rules

pub bytes_answer-requires-clause-some : goal.bytes_answer-requires-clause-some
bytes_answer-requires-clause-some g c = search rules

pub bytes_answer-requires-clause-most : goal.bytes_answer-requires-clause-most
bytes_answer-requires-clause-most g c = search rules

pub read_over-requires-clause-some : goal.read_over-requires-clause-some
read_over-requires-clause-some g c = search rules

pub returns-in_default-clause-unchanged : goal.returns-in_default-clause-unchanged
returns-in_default-clause-unchanged g c = search rules

pub returns-then-is_stopped-clause-blocks : goal.returns-then-is_stopped-clause-blocks
returns-then-is_stopped-clause-blocks g c = refl

pub returns-in_default-clause-blocks : goal.returns-in_default-clause-blocks
returns-in_default-clause-blocks g c = refl

pub returns-then-is_stopped-clause-size : goal.returns-then-is_stopped-clause-size
returns-then-is_stopped-clause-size g c = c.requires.size

pub returns-then-is_stopped-clause-unchanged : goal.returns-then-is_stopped-clause-unchanged
returns-then-is_stopped-clause-unchanged g c = refl

pub returns-in_default-clause-size : goal.returns-in_default-clause-size
returns-in_default-clause-size g c = tt

pub read_over-requires-clause-from : goal.read_over-requires-clause-from
read_over-requires-clause-from g c = c.requires.planned.from

pub bytes_answer-requires-clause-kind : goal.bytes_answer-requires-clause-kind
bytes_answer-requires-clause-kind g c = c.requires.planned.reads

pub returns-clause-size : goal.returns-clause-size
returns-clause-size g c = tt

pub returns-clause-unchanged : goal.returns-clause-unchanged
returns-clause-unchanged g c = tt

pub bytes_answer-requires-clause-size : goal.bytes_answer-requires-clause-size
bytes_answer-requires-clause-size g c =
    let head = c.args.head.now in
    let into = c.read_over.new.into in
    let items = c.cut.new.bytes.items in
    let read = c.if-not-read_over.ensures in
    let size : length into ≡ c.args.bytes.len = read.size ∙ ap length c.deref_mut.ensures.value ∙ sym c.args.bytes.ok.0 in
    let long : length into ≡ 4096 * blocks_met head.offset head.length = size ∙ c.requires.size in
    let part : items ≡ take head.length (drop (head.offset % 4096) into) = c.cut.ensures ∙ ap (λ (l : List ℕ). take head.length (drop (head.offset % 4096) l)) (whole c.args.bytes.len into c.args.bytes.items size) in
    c.cut.new.bytes.ok.0 ∙ part_size head.offset head.length into items part long
