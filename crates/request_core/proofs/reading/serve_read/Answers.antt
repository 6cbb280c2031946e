use Rattle.device_image.specs.Keeper.{KeeperState}
use Rattle.std.proofs.Common.{◌≡◌, ◌≢◌, ◌+◌, ◌-◌, ◌*◌, ◌/◌, ◌%◌, ℕ, false, inl, inr, List, drop, take, get_or, length, None, Some, sym, ◌∙◌, ◌≤◌, ap, refl, arith, rules, subst}
use Rattle.alloc_map.specs.Codes.{state_at}
use Rattle.device_image.specs.Holds.{is_written, joined}
use Rattle.image_model.specs.Edit.{blocks_met}
use Rattle.image_model.specs.Image.{Image}
use Rattle.image_model.specs.declared.command.Kind.{Kind}
use Rattle.image_model.specs.declared.command.Kind.TheVariants.{Data}
use Rattle.export_model.specs.Shown.{cut_to, read_status_of, runs_met}
use Rattle.nbd_wire.specs.declared.message.Answer.{Answer}
use Rattle.request_core.specs.Serving.{ready_for}
use Rattle.request_core.proofs.InMemory.{lacks_at, part_holds, part_size, part_zero, whole}
use Rattle.request_core.proofs.reading.serve_read.Goals as goal
use Rattle.shared_cache.specs.Cache.{bytes_seen}

pub bytes_answer-requires-clause-zero : goal.bytes_answer-requires-clause-zero
bytes_answer-requires-clause-zero g c =
    let head = c.args.head.now in
    let old = c.args.order.now in
    let into = c.read_with.new.into in
    let items = c.cut.new.bytes.items in
    let read = c.in-Ok-read_with.ensures in
    let size : length into ≡ c.in-Ok-vec.bytes.len = read.size ∙ ap length c.deref_mut.ensures.value ∙ sym c.in-Ok-vec.bytes.ok.0 in
    let long : length into ≡ 4096 * blocks_met head.offset head.length = size ∙ c.in-Ok-vec.ensures.len ∙ c.bytes.ensures ∙ ap (λ (n : ℕ). 4096 * n) c.from_head-blocks.ensures.count in
    let part : items ≡ take head.length (drop (head.offset % 4096) into) = c.cut.ensures ∙ ap (λ (l : List ℕ). take head.length (drop (head.offset % 4096) l)) (whole c.in-Ok-vec.bytes.len into c.in-Ok-vec.bytes.items size) in
    let count = part_size head.offset head.length into items part long in
    let states = read.view.states in
    λ k below other. part_zero head.offset head.length into items part long old.cache
    (λ j k bytes under inside seen. read.in_memory j k bytes under inside (ap (λ (n : ℕ). bytes_seen old.cache (n + j)) c.from_head-blocks.ensures.first ∙ seen))
    k (let held = c.cut.new.bytes.ok.0 in omega (arith, below, held, count))
    (λ is. other (ap (λ (s : List Kind). state_at s ((head.offset + k) / 4096)) states ∙ is))

pub returns : goal.returns
returns g c = record {
  read =
      let head = c.args.head.now in
      let old = c.args.order.now in
      let into = c.read_with.new.into in
      let items = c.cut.new.bytes.items in
      let read = c.in-Ok-read_with.ensures in
      let size : length into ≡ c.in-Ok-vec.bytes.len = read.size ∙ ap length c.deref_mut.ensures.value ∙ sym c.in-Ok-vec.bytes.ok.0 in
      let long : length into ≡ 4096 * blocks_met head.offset head.length = size ∙ c.in-Ok-vec.ensures.len ∙ c.bytes.ensures ∙ ap (λ (n : ℕ). 4096 * n) c.from_head-blocks.ensures.count in
      let part : items ≡ take head.length (drop (head.offset % 4096) into) = c.cut.ensures ∙ ap (λ (l : List ℕ). take head.length (drop (head.offset % 4096) l)) (whole c.in-Ok-vec.bytes.len into c.in-Ok-vec.bytes.items size) in
      let first = c.from_head-blocks.ensures.first in
      let seen : (j : ℕ) → bytes_seen old.cache (c.from_head-blocks.result.first + j) ≡ bytes_seen old.cache (head.offset / 4096 + j) = λ j. ap (λ (n : ℕ). bytes_seen old.cache (n + j)) first in
      let states = read.view.states in
      let given : Image = record { blocks = 0; byte = λ place. get_or items (place - head.offset) 0; kind = λ block. state_at old.cache.states block } in
      let at : (n : ℕ) → get_or items (head.offset + n - head.offset) 0 ≡ get_or items n 0 = λ n. ap (λ (m : ℕ). get_or items m 0) (let same : head.offset + n - head.offset ≡ n = omega arith in same) in
      let place : (k : ℕ) → 4096 * ((head.offset + k) / 4096) + (head.offset + k) % 4096 ≡ head.offset + k = λ k. omega arith in
      let answer_is = c.bytes_answer.ensures given (λ block. ap (λ (s : List Kind). state_at s block) (sym states)) (λ k below. sym (at k)) in
      inr (inl (record {
        image = given;
        kinds = λ block. refl;
        in_memory = λ k bytes below is. at k ∙ part_holds head.offset head.length into items part long (λ block r byte. (bytes : List ℕ) → bytes_seen old.cache block ≡ Some bytes → byte ≡ get_or bytes r 0)
            (λ j r under inside bytes is. read.in_memory j r bytes under inside (seen j ∙ is)) k below bytes is;
        from_base = λ honest base fronts last holds k below none is_data unwritten. at k ∙ part_holds head.offset head.length into items part long
            (λ block r byte. bytes_seen old.cache block ≡ None → base.kind block ≡ Data → is_written block (joined fronts) ≡ false → byte ≡ base.byte (4096 * block + r))
            (λ j r under inside none is_data unwritten. read.from_base honest base fronts last holds j r under inside (seen j ∙ none)
            (ap (λ (n : ℕ). base.kind (n + j)) first ∙ is_data) (ap (λ (n : ℕ). is_written (n + j) (joined fronts)) first ∙ unwritten)
            ∙ ap (λ (n : ℕ). base.byte (4096 * (n + j) + r)) first) k below none is_data unwritten ∙ ap base.byte (place k);
        own = λ honest base image fronts last holds shows clean k below. at k ∙ part_holds head.offset head.length into items part long (λ block r byte. byte ≡ image.byte (4096 * block + r))
            (λ j r under inside. read.image honest base image fronts last holds shows clean j r under inside ∙ ap (λ (n : ℕ). image.byte (4096 * (n + j) + r)) first) k below
            ∙ ap image.byte (place k);
        shows = λ honest base image fronts last holds shows clean. read.shown honest base image fronts last holds shows clean;
        answer = ap (λ (a : Answer). ready_for head.cookie a) answer_is;
        order = read.new;
        states = states;
        keeper_is = read.keeper_ok;
        level = read.faults_ok;
        only_read = read.only_read;
        holds = λ honest base fronts last holds. read.holds honest base fronts last holds;
        in_frames = λ failed. (read.hit (λ lacks. let wrong = read.failed.1 (failed, lacks) in cc)).0;
        there = λ failed. part_holds head.offset head.length into items part long (λ block r byte. bytes_seen old.cache block ≢ None)
            (λ j r under inside none. let wrong = read.failed.1 (failed, lacks_at old.cache c.from_head-blocks.result.first (length c.deref_mut.result.now / 4096) j (let size = read.size in omega (arith, under, size)) (seen j ∙ none)) in cc);
      }));
  hit = search rules;
  count = ap (λ (k : KeeperState g.row.D.Denot). k.count) c.in-Ok-read_with.ensures.keeper_ok;
  extent = c.in-Ok-read_with.ensures.extent;
  honest = c.in-Ok-read_with.ensures.honest;
}

pub returns-in_default : goal.returns-in_default
returns-in_default g c = record {
  read = inl (refl, refl, c.refuse.ensures);
  hit = λ held. (refl, refl);
  count = refl;
  extent = refl;
  honest = (λ honest. honest, λ honest. honest);
}

pub returns-in_default-vec : goal.returns-in_default-vec
returns-in_default-vec g c = record {
  read = inl (refl, refl, c.refuse-in_default-vec.ensures);
  hit = λ held. (refl, refl);
  count = refl;
  extent = refl;
  honest = (λ honest. honest, λ honest. honest);
}

pub read_runs-requires-clause-some : goal.read_runs-requires-clause-some
read_runs-requires-clause-some g c = c.requires.some

pub read_runs-requires-clause-most : goal.read_runs-requires-clause-most
read_runs-requires-clause-most g c = c.requires.most

pub read_runs-requires-clause-few : goal.read_runs-requires-clause-few
read_runs-requires-clause-few g c = c.requires.few

pub read_runs-requires-clause-inside : goal.read_runs-requires-clause-inside
read_runs-requires-clause-inside g c = c.requires.inside

pub from_head-blocks-requires : goal.from_head-blocks-requires
from_head-blocks-requires g c = omega arith

pub bytes-requires : goal.bytes-requires
bytes-requires g c = search rules

pub read_with-requires-clause-whole : goal.read_with-requires-clause-whole
read_with-requires-clause-whole g c = search rules

pub read_with-requires-clause-range : goal.read_with-requires-clause-range
read_with-requires-clause-range g c = search rules

pub read_with-requires-clause-device : goal.read_with-requires-clause-device
read_with-requires-clause-device g c = search rules

pub returns-in_default-read_with-clause-read : goal.returns-in_default-read_with-clause-read
returns-in_default-read_with-clause-read g c = search rules

pub returns-in_default-read_with-clause-hit : goal.returns-in_default-read_with-clause-hit
returns-in_default-read_with-clause-hit g c = search rules

pub returns-in_default-read_with-clause-count : goal.returns-in_default-read_with-clause-count
returns-in_default-read_with-clause-count g c = search rules

pub returns-in_default-read_with-clause-extent : goal.returns-in_default-read_with-clause-extent
returns-in_default-read_with-clause-extent g c = c.in_default-read_with.ensures.extent

pub returns-in_default-read_with-clause-honest : goal.returns-in_default-read_with-clause-honest
returns-in_default-read_with-clause-honest g c = c.in_default-read_with.ensures.honest

pub cut-requires : goal.cut-requires
cut-requires g c = search rules

pub bytes_answer-requires-clause-kind : goal.bytes_answer-requires-clause-kind
bytes_answer-requires-clause-kind g c = c.requires.kind

pub bytes_answer-requires-clause-some : goal.bytes_answer-requires-clause-some
bytes_answer-requires-clause-some g c = c.requires.some

pub bytes_answer-requires-clause-most : goal.bytes_answer-requires-clause-most
bytes_answer-requires-clause-most g c = c.requires.most

pub bytes_answer-requires-clause-few : goal.bytes_answer-requires-clause-few
bytes_answer-requires-clause-few g c = subst (λ (states : List Kind). length states ≤ 16777216) (sym c.in-Ok-read_with.ensures.view.states) c.requires.few

pub bytes_answer-requires-clause-inside : goal.bytes_answer-requires-clause-inside
bytes_answer-requires-clause-inside g c = subst (λ (states : List Kind). c.args.head.now.offset + c.args.head.now.length ≤ 4096 * length states) (sym c.in-Ok-read_with.ensures.view.states) c.requires.inside

pub bytes_answer-requires-clause-size : goal.bytes_answer-requires-clause-size
bytes_answer-requires-clause-size g c =
    let head = c.args.head.now in
    let into = c.read_with.new.into in
    let items = c.cut.new.bytes.items in
    let read = c.in-Ok-read_with.ensures in
    let size : length into ≡ c.in-Ok-vec.bytes.len = read.size ∙ ap length c.deref_mut.ensures.value ∙ sym c.in-Ok-vec.bytes.ok.0 in
    let long : length into ≡ 4096 * blocks_met head.offset head.length = size ∙ c.in-Ok-vec.ensures.len ∙ c.bytes.ensures ∙ ap (λ (n : ℕ). 4096 * n) c.from_head-blocks.ensures.count in
    let part : items ≡ take head.length (drop (head.offset % 4096) into) = c.cut.ensures ∙ ap (λ (l : List ℕ). take head.length (drop (head.offset % 4096) l)) (whole c.in-Ok-vec.bytes.len into c.in-Ok-vec.bytes.items size) in
    c.cut.new.bytes.ok.0 ∙ part_size head.offset head.length into items part long

pub bytes_answer-requires-clause-runs : goal.bytes_answer-requires-clause-runs
bytes_answer-requires-clause-runs g c =
    let head = c.args.head.now in
    c.in-Ok.ensures ∙ ap (λ (states : List Kind). cut_to head.offset head.length (runs_met (λ block. read_status_of (state_at states block)) head.offset head.length)) (sym c.in-Ok-read_with.ensures.view.states)
