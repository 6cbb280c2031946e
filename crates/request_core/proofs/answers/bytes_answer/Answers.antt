use Rattle.std.proofs.Common.{◌≡◌, ◌-◌, ◌*◌, ◌/◌, ◌%◌, ◌<◌, ◌≤◌, Bool, if◌then◌else◌, List, ◌++◌, take, replicate, ℕ, length, length-append, sym, ◌∙◌, ap, subst, arith}
use Rattle.std.proofs.lemmas.Bool.{eq-eqb}
use Rattle.std.proofs.lemmas.List.{length-replicate}
use Rattle.alloc_map.specs.Codes.{state_at}
use Rattle.image_model.specs.Edit.{blocks_met}
use Rattle.nbd_wire.specs.Answer.{IsJoined, PartsBytes}
use Rattle.nbd_wire.specs.declared.message.Answer.TheVariants.{Bytes, States}
use Rattle.nbd_wire.specs.declared.message.Run.{Run}
use Rattle.export_model.specs.Shown.{bytes_from, cut_behind, cut_front, cut_to, most_runs, read_status_of, runs_from, runs_met, status_of}
use Rattle.request_core.proofs.Bytes.{all_in_states, bytes_are, zero_around}
use Rattle.request_core.proofs.Cuts.{joined_behind, joined_front, long_first, parts_cut, sizes_cut}
use Rattle.request_core.proofs.Parts.{count_all, joined_all, parts_all, runs_same, some_runs}
use Rattle.request_core.proofs.answers.bytes_answer.Goals as goal

pub new-requires : goal.new-requires
new-requires g c =
    let head = c.args.head.now in
    let states = c.args.order.now.cache.states in
    let status : ℕ → ℕ = λ b. read_status_of (state_at states b) in
    let first = head.offset / 4096 in
    let blocks = blocks_met head.offset head.length in
    let skip = head.offset % 4096 in
    let bytes = c.args.bytes.items in
    let some = c.requires.some in
    let most = c.requires.most in
    let few = c.requires.few in
    let inside = c.requires.inside in
    let size : length bytes ≡ head.length = sym c.args.bytes.ok.0 ∙ c.requires.size in
    let tail : ℕ = 4096 * blocks - skip - length bytes in
    let front : List ℕ = replicate skip 0 in
    let behind : List ℕ = replicate tail 0 in
    let front_size : length front ≡ skip = length-replicate {A = ℕ} skip 0 in
    let behind_size : length behind ≡ tail = length-replicate {A = ℕ} tail 0 in
    let one = length-append bytes behind in
    let two = length-append front (bytes ++ behind) in
    let there : 0 < blocks = omega (arith, some) in
    let whole : length (front ++ (bytes ++ behind)) ≡ 4096 * blocks = omega (arith, one, two, front_size, behind_size, size) in
    let parted : PartsBytes (runs_from status first blocks) (front ++ (bytes ++ behind)) =
    parts_all status first blocks (front ++ (bytes ++ behind)) whole
    (all_in_states states first blocks (front ++ (bytes ++ behind)) whole
    (λ j k below within other. zero_around states head.offset tail bytes (λ k inside. c.requires.zero k (omega (arith, inside, size))) j k within other)) in
    let cut : PartsBytes (cut_to head.offset head.length (runs_from status first blocks)) bytes =
    subst (λ (n : ℕ). PartsBytes (cut_behind n (cut_front skip (runs_from status first blocks))) bytes) size
    (subst (λ (n : ℕ). PartsBytes (cut_behind (length bytes) (cut_front n (runs_from status first blocks))) bytes) front_size
    (parts_cut (runs_from status first blocks) front bytes behind (omega (arith, front_size)) (omega (arith, some, size)) (long_first status first blocks there) parted)) in
    let sizes = sizes_cut skip head.length (runs_from status first blocks) in
    record {
      count = (
        subst (λ (l : List Run). 0 < length l) (sym c.requires.runs) (sizes.1 (some_runs status first blocks there)),
        subst (λ (l : List Run). length l ≤ 1024) (sym c.requires.runs) (let all = count_all status first blocks in let fewer = sizes.0 in omega (arith, all, fewer, most)),
      );
      parts = subst (λ (l : List Run). PartsBytes l bytes) (sym c.requires.runs) cut;
      joined = subst IsJoined (sym c.requires.runs) (joined_behind head.length (cut_front skip (runs_from status first blocks)) (joined_front skip (runs_from status first blocks) (joined_all status first blocks)));
      most = omega (arith, size, most);
      inside = omega (arith, size, few, inside);
    }

pub returns : goal.returns
returns g c = λ image kinds bytes.
    let head = c.args.head.now in
    let first = head.offset / 4096 in
    let blocks = blocks_met head.offset head.length in
    let states = c.args.order.now.cache.states in
    let size : length c.args.bytes.items ≡ head.length = sym c.args.bytes.ok.0 ∙ c.requires.size in
    let bytes_is = bytes_are image head.offset head.length c.args.bytes.items size bytes in
    let runs_is : c.args.runs.items ≡ cut_to head.offset head.length (runs_met (λ b. read_status_of (image.kind b)) head.offset head.length) =
    c.requires.runs ∙ ap (cut_to head.offset head.length) (runs_same (λ b. read_status_of (state_at states b)) (λ b. read_status_of (image.kind b)) first blocks (λ b. ap read_status_of (sym (kinds b)))) in
    ap Bytes c.new.ensures
    ∙ ap (λ (l : List ℕ). Bytes (record { offset = head.offset; bytes = l; runs = c.args.runs.items })) bytes_is
    ∙ ap (λ (l : List Run). Bytes (record { offset = head.offset; bytes = bytes_from image head.offset head.length; runs = l })) runs_is
    ∙ sym (ap (λ (b : Bool). if b
    then Bytes (record { offset = head.offset; bytes = bytes_from image head.offset head.length; runs = cut_to head.offset head.length (runs_met (λ b. read_status_of (image.kind b)) head.offset head.length) })
    else States (cut_to head.offset head.length (take (most_runs head) (runs_met (λ b. status_of (image.kind b)) head.offset head.length)))) (eq-eqb head.kind 0 c.requires.kind))
