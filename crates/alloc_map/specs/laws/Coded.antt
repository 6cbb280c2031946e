-- what setting codes makes of a map's bytes
use Rattle.std.proofs.Common.{◌≡◌, ◌≢◌, ⊎_elim, ℕ, zero, suc, ◌+◌, ◌-◌, ◌*◌, ◌/◌, ◌%◌, ◌^◌, ◌<◌, ◌≤◌, Bool, true, false, nat_eq, if◌then◌else◌, List, length, replicate, slice_index, slice_set, take, sym, ◌∙◌, ap, arith, rules, subst}
use Rattle.std.proofs.lemmas.Bool.{cases_eq, cases_lt}
use Rattle.std.proofs.lemmas.Bool.Decides.{nat_tests}
use Rattle.std.proofs.lemmas.List.{places, ext_get_or, get_or-replicate, get_or-set_other, length-replicate}
use Rattle.std.proofs.lemmas.Grind.{get_or-set_at}
use Rattle.std.proofs.lemmas.List.Sums.{count_by_more_no, count_by_more_yes}
use Rattle.std.specs.List.{count_by}
use Rattle.image_model.specs.declared.command.Kind.{Kind}
use Rattle.image_model.specs.declared.command.Kind.TheVariants.{Hole}
use Rattle.image_model.specs.Image.{covers}
use Rattle.image_model.specs.Patched.{patched}
use Rattle.image_model.specs.laws.Positions.{filled_at, patched_at}
use Rattle.alloc_map.specs.Codes.{code_at, code_of, is_state, kind_of, state_at, states_of}
use Rattle.alloc_map.specs.Map.{IsMap}
use Rattle.alloc_map.specs.Runs.{IsRun}
use Rattle.alloc_map.specs.declared.run.Run.{Run}
use Rattle.alloc_map.specs.laws.Spelling.{kind_of-code_of, code_of-below}
use Rattle.alloc_map.specs.laws.States.{code_of-kind_of, length-states_of, state_at-states_of}

pub length-patched : {X : Type 0} (list : List X) (at : ℕ) (items : List X) → at + length items ≤ length list → length (patched list at items) ≡ length list
length-patched list at items fits = search (rules, places)

-- the codes of a byte that was changed at one place
abbrev pub HasCode : ℕ → ℕ → ℕ → ℕ → Type 0
HasCode byte place code new = (j : ℕ) → j < 4 → new / 2 ^ (2 * j) % 4 ≡ (if nat_eq j place then code else byte / 2 ^ (2 * j) % 4)

pub first_code : (byte code : ℕ) → code < 3 → HasCode byte 0 code (byte - byte % 4 + code)
first_code byte code small zero below = omega arith
first_code byte code small (suc zero) below = omega arith
first_code byte code small (suc (suc zero)) below = omega arith
first_code byte code small (suc (suc (suc zero))) below = omega arith
first_code byte code small (suc (suc (suc (suc j)))) below = absurd (omega arith)

pub second_code : (byte code : ℕ) → code < 3 → HasCode byte 1 code (byte - byte / 4 % 4 * 4 + code * 4)
second_code byte code small zero below = omega arith
second_code byte code small (suc zero) below = omega arith
second_code byte code small (suc (suc zero)) below = omega arith
second_code byte code small (suc (suc (suc zero))) below = omega arith
second_code byte code small (suc (suc (suc (suc j)))) below = absurd (omega arith)

pub third_code : (byte code : ℕ) → code < 3 → HasCode byte 2 code (byte - byte / 16 % 4 * 16 + code * 16)
third_code byte code small zero below = omega arith
third_code byte code small (suc zero) below = omega arith
third_code byte code small (suc (suc zero)) below = omega arith
third_code byte code small (suc (suc (suc zero))) below = omega arith
third_code byte code small (suc (suc (suc (suc j)))) below = absurd (omega arith)

pub fourth_code : (byte code : ℕ) → byte < 256 → code < 3 → HasCode byte 3 code (byte % 64 + code * 64)
fourth_code byte code fits small zero below = omega arith
fourth_code byte code fits small (suc zero) below = omega arith
fourth_code byte code fits small (suc (suc zero)) below = omega arith
fourth_code byte code fits small (suc (suc (suc zero))) below = omega arith
fourth_code byte code fits small (suc (suc (suc (suc j)))) below = absurd (omega arith)

-- a byte that is a code four times
pub same_codes : (code : ℕ) → code < 3 → (j : ℕ) → j < 4 → 85 * code / 2 ^ (2 * j) % 4 ≡ code
same_codes code small zero below = omega arith
same_codes code small (suc zero) below = omega arith
same_codes code small (suc (suc zero)) below = omega arith
same_codes code small (suc (suc (suc zero))) below = omega arith
same_codes code small (suc (suc (suc (suc j)))) below = absurd (omega arith)

-- ranges one after the other
pub joined : {X : Type 0} (first low high end q : ℕ) (x y : X) → first ≤ low → low ≤ high → high ≤ end →
    (if covers high (end - high) q then x else (if covers low (high - low) q then x else (if covers first (low - first) q then x else y)))
    ≡ (if covers first (end - first) q then x else y)
joined first low high end q x y a b c = grind (arith, nat_tests)

-- a byte that changed at one place, in a map's bytes
pub code_at-set : (bytes : List ℕ) (block code byte : ℕ) → block / 4 < length bytes → HasCode (slice_index bytes (block / 4)) (block % 4) code byte
    → (q : ℕ) → code_at (slice_set bytes (block / 4) byte) q ≡ (if nat_eq q block then code else code_at bytes q)
code_at-set bytes block code byte there has q = ⊎_elim
    (λ here.
    ap (λ (b : ℕ). b / 2 ^ (2 * (q % 4)) % 4) (get_or-set_at bytes (block / 4) (q / 4) byte 0 here there)
    ∙ has (q % 4) (omega arith)
    ∙ ap (λ (b : ℕ). if nat_eq (q % 4) (block % 4) then code else b / 2 ^ (2 * (q % 4)) % 4) (ap (slice_index bytes) (sym here))
    ∙ ap (λ (test : Bool). if test then code else code_at bytes q) (same_test q block here))
    (λ other.
    ap (λ (b : ℕ). b / 2 ^ (2 * (q % 4)) % 4) (get_or-set_other bytes (block / 4) (q / 4) byte 0 other)
    ∙ sym (ap (λ (test : Bool). if test then code else code_at bytes q) (other_test q block other)))
    (cases_eq (q / 4) (block / 4))
  where
    same_test : (q block : ℕ) → q / 4 ≡ block / 4 → nat_eq (q % 4) (block % 4) ≡ nat_eq q block
    same_test q block same = ⊎_elim
        (λ equal. grind (arith, nat_tests))
        (λ apart. grind (arith, nat_tests))
        (cases_eq q block)

    other_test : (q block : ℕ) → q / 4 ≢ block / 4 → nat_eq q block ≡ false
    other_test q block apart = ⊎_elim
        (λ equal. absurd (apart (ap (λ (n : ℕ). n / 4) equal)))
        (λ differ. grind (arith, nat_tests))
        (cases_eq q block)

-- one block more has the code
pub set_more : (code from block q old : ℕ) → from ≤ block →
    (if nat_eq q block then code else (if covers from (block - from) q then code else old)) ≡ (if covers from (block + 1 - from) q then code else old)
set_more code from block q old order = grind (arith, nat_tests)

-- whole bytes that were filled
module _ (bytes : List ℕ) (from to code : ℕ) (order : from ≤ to) (inside : to ≤ 4 * length bytes) (whole : from < to → (from % 4 ≡ 0) × (to % 4 ≡ 0)) (small : code < 3) where
  fits : from / 4 + length (replicate (to / 4 - from / 4) (85 * code)) ≤ length bytes
  fits = omega (arith, length-replicate (to / 4 - from / 4) (85 * code))

  pub code_at-filled : (q : ℕ) → code_at (patched bytes (from / 4) (replicate (to / 4 - from / 4) (85 * code))) q ≡ (if covers from (to - from) q then code else code_at bytes q)
  code_at-filled q = ⊎_elim
      (λ low. outside (⊎_elim (λ some. grind (arith, nat_tests, whole some)) (λ none. grind (arith, nat_tests)) (cases_lt from to)) (grind (arith, nat_tests)))
      (λ above. ⊎_elim
      (λ below. within below (whole (omega arith)) above)
      (λ high. outside (⊎_elim (λ some. grind (arith, nat_tests, whole some)) (λ none. grind (arith, nat_tests)) (cases_lt from to)) (grind (arith, nat_tests)))
      (cases_lt q to))
      (cases_lt q from)
    where
      there : slice_index (patched bytes (from / 4) (replicate (to / 4 - from / 4) (85 * code))) (q / 4)
          ≡ (if covers (from / 4) (to / 4 - from / 4) (q / 4) then slice_index (replicate (to / 4 - from / 4) (85 * code)) (q / 4 - from / 4) else slice_index bytes (q / 4))
      there =
          patched_at bytes (from / 4) (replicate (to / 4 - from / 4) (85 * code)) 0 fits (q / 4)
          ∙ ap (λ (n : ℕ). if covers (from / 4) n (q / 4) then slice_index (replicate (to / 4 - from / 4) (85 * code)) (q / 4 - from / 4) else slice_index bytes (q / 4))
          (length-replicate (to / 4 - from / 4) (85 * code))

      outside : covers (from / 4) (to / 4 - from / 4) (q / 4) ≡ false → covers from (to - from) q ≡ false
          → code_at (patched bytes (from / 4) (replicate (to / 4 - from / 4) (85 * code))) q ≡ (if covers from (to - from) q then code else code_at bytes q)
      outside apart not_here =
          ap (λ (byte : ℕ). byte / 2 ^ (2 * (q % 4)) % 4) (there
          ∙ ap (λ (test : Bool). if test then slice_index (replicate (to / 4 - from / 4) (85 * code)) (q / 4 - from / 4) else slice_index bytes (q / 4)) apart)
          ∙ sym (ap (λ (test : Bool). if test then code else code_at bytes q) not_here)

      within : q < to → (from % 4 ≡ 0) × (to % 4 ≡ 0) → from ≤ q
          → code_at (patched bytes (from / 4) (replicate (to / 4 - from / 4) (85 * code))) q ≡ (if covers from (to - from) q then code else code_at bytes q)
      within below edges above =
          let first = edges.0 in
          let last = edges.1 in
          let met : covers (from / 4) (to / 4 - from / 4) (q / 4) ≡ true = grind (arith, nat_tests) in
          let here : covers from (to - from) q ≡ true = grind (arith, nat_tests) in
          ap (λ (byte : ℕ). byte / 2 ^ (2 * (q % 4)) % 4) (there
          ∙ ap (λ (test : Bool). if test then slice_index (replicate (to / 4 - from / 4) (85 * code)) (q / 4 - from / 4) else slice_index bytes (q / 4)) met
          ∙ get_or-replicate (to / 4 - from / 4) (q / 4 - from / 4) (85 * code) 0 (omega arith))
          ∙ same_codes code small (q % 4) (omega arith)
          ∙ sym (ap (λ (test : Bool). if test then code else code_at bytes q) here)

-- bytes that are all one code
pub code_in_bytes : (bytes : List ℕ) (block count code : ℕ) → code < 3 → block % 4 ≡ 0 → ((i : ℕ) → i < count → slice_index bytes (block / 4 + i) ≡ 85 * code)
    → (k : ℕ) → block ≤ k → k < block + 4 * count → code_at bytes k ≡ code
code_in_bytes bytes block count code small aligned alike k above below =
    let at : block / 4 + (k / 4 - block / 4) ≡ k / 4 = omega arith in
    ap (λ (byte : ℕ). byte / 2 ^ (2 * (k % 4)) % 4) (ap (slice_index bytes) (sym at) ∙ alike (k / 4 - block / 4) (omega arith))
    ∙ same_codes code small (k % 4) (omega arith)

past_range : (first count blocks block : ℕ) → first + count ≤ blocks → blocks ≤ block → covers first count block ≡ false
past_range first count blocks block inside past = grind (arith, nat_tests)

-- a map whose codes were set in a range is a map still, and of these states
module _ (blocks : ℕ) (bytes new : List ℕ) (first count : ℕ) (kind : Kind) (map : IsMap blocks bytes) (inside : first + count ≤ blocks) (size : length new ≡ length bytes)
    (codes : (q : ℕ) → code_at new q ≡ (if covers first count q then code_of kind else code_at bytes q)) where
  pub map_set : IsMap blocks new
  map_set = record {
    few = map.few;
    size = size ∙ map.size;
    below_three = λ block. subst (λ (n : ℕ). n < 3) (sym (codes block)) (either (covers first count block) block);
    padding = λ block past.
        codes block ∙ ap (λ (test : Bool). if test then code_of kind else code_at bytes block) (past_range first count blocks block inside past) ∙ map.padding block past;
  }
    where
      either : (test : Bool) (block : ℕ) → (if test then code_of kind else code_at bytes block) < 3
      either true block = code_of-below kind
      either false block = map.below_three block

  length-set : length (patched (states_of blocks bytes) first (replicate count kind)) ≡ length (states_of blocks bytes)
  length-set =
      length-patched (states_of blocks bytes) first (replicate count kind) (omega (arith, inside, length-replicate count kind, length-states_of blocks bytes))

  pub states_set : states_of blocks new ≡ patched (states_of blocks bytes) first (replicate count kind)
  states_set =
      ext_get_or Hole (states_of blocks new) (patched (states_of blocks bytes) first (replicate count kind))
      (length-states_of blocks new ∙ sym (length-set ∙ length-states_of blocks bytes))
      (λ block below.
      let low : block < blocks = omega (arith, below, length-states_of blocks new) in
      state_at-states_of blocks new block low
      ∙ ap kind_of (codes block)
      ∙ same_state (covers first count block) block low
      ∙ sym (filled_at (states_of blocks bytes) first count kind Hole (omega (arith, inside, length-states_of blocks bytes)) block))
    where
      same_state : (test : Bool) (block : ℕ) → block < blocks → kind_of (if test then code_of kind else code_at bytes block) ≡ (if test then kind else state_at (states_of blocks bytes) block)
      same_state true block low = kind_of-code_of kind
      same_state false block low = sym (state_at-states_of blocks bytes block low)

-- the longest run of codes is one of states
pub run_of_codes : (blocks : ℕ) (bytes : List ℕ) (states : List Kind) (block to end : ℕ) (run : Run) → IsMap blocks bytes → states_of blocks bytes ≡ states → to ≤ blocks → block < end → end ≤ to
    → ((k : ℕ) → block ≤ k → k < end → code_at bytes k ≡ code_at bytes block) → (end < to → code_at bytes end ≢ code_at bytes block)
    → run.blocks ≡ end - block → run.kind ≡ state_at states block → IsRun states block to run
run_of_codes blocks bytes states block to end run map are inside some within same longest count kind =
    let State : List Kind → Type 0 = λ list. (k : ℕ) → k < blocks → state_at list k ≡ kind_of (code_at bytes k) in
    let state : State states = subst State are (state_at-states_of blocks bytes) in
    let there : block + run.blocks ≡ end = omega (arith, count, some) in
    record {
      some = omega (arith, count, some);
      within = omega (arith, there, within);
      same = λ k below.
          state (block + k) (omega (arith, below, there, within, inside)) ∙ ap kind_of (same (block + k) (omega arith) (omega (arith, below, there)))
          ∙ sym (kind ∙ state block (omega (arith, some, within, inside)));
      longest = λ before is.
          longest (omega (arith, before, there))
          (sym (code_of-kind_of (code_at bytes end) (map.below_three end))
          ∙ ap code_of (sym (state end (omega (arith, before, there, within, inside))) ∙ ap (state_at states) (sym there) ∙ is ∙ kind ∙ state block (omega (arith, some, within, inside)))
          ∙ code_of-kind_of (code_at bytes block) (map.below_three block));
    }

-- a part of a run counts where it is of the state that is counted
counted_part : (states : List Kind) (kind state : Kind) (block n : ℕ) → block + n ≤ length states → ((k : ℕ) → k < n → state_at states (block + k) ≡ state)
    → count_by (is_state kind) (take (block + n) states) ≡ count_by (is_state kind) (take block states) + (if is_state kind state then n else 0)
counted_part states kind state block zero inside same =
    let none : block + zero ≡ block = omega arith in
    ap (λ (m : ℕ). count_by (is_state kind) (take m states)) none
    ∙ elim (is_state kind state) as (λ test. count_by (is_state kind) (take block states) ≡ count_by (is_state kind) (take block states) + (if test then zero else 0)) [
      | true ↦ omega arith
      | false ↦ omega arith
    ]
counted_part states kind state block (suc n) inside same =
    let next : block + suc n ≡ block + n + 1 = omega arith in
    let before = counted_part states kind state block n (omega (arith, inside)) (λ k below. same k (omega (arith, below))) in
    let here : is_state kind (state_at states (block + n)) ≡ is_state kind state = ap (is_state kind) (same n (omega arith)) in
    ap (λ (m : ℕ). count_by (is_state kind) (take m states)) next
    ∙ elim (is_state kind state) as (λ test. is_state kind (state_at states (block + n)) ≡ test
    → count_by (is_state kind) (take (block + n) states) ≡ count_by (is_state kind) (take block states) + (if test then n else 0)
    → count_by (is_state kind) (take (block + n + 1) states) ≡ count_by (is_state kind) (take block states) + (if test then suc n else 0)) [
      | true ↦ λ is so_far. let more = count_by_more_yes (is_state kind) states (block + n) Hole (omega (arith, inside)) is in omega (arith, more, so_far)
      | false ↦ λ is so_far. let more = count_by_more_no (is_state kind) states (block + n) Hole (omega (arith, inside)) is in omega (arith, more, so_far)
    ] here before

pub counted_run : (states : List Kind) (kind : Kind) (block to : ℕ) (run : Run) → IsRun states block to run → to ≤ length states
    → count_by (is_state kind) (take (block + run.blocks) states) ≡ count_by (is_state kind) (take block states) + (if is_state kind run.kind then run.blocks else 0)
counted_run states kind block to run is inside =
    let within = is.within in
    counted_part states kind run.kind block run.blocks (omega (arith, within, inside)) is.same
