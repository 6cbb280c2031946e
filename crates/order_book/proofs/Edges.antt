-- where a block lies in a range that is cleared between its edges
use Rattle.std.proofs.Common.{◌≡◌, ◌≢◌, ℕ, ◌+◌, ◌-◌, ◌*◌, ◌≤◌, ◌==◌, ◌⊎◌, inl, inr, Bool, true, false, if◌then◌else◌, Option, Some, None, refl, arith}
use Rattle.std.proofs.lemmas.Bool.{eq-eqb, ne_eqb}
use Rattle.std.proofs.lemmas.Bool.Decides.{nat_tests}
use Rattle.image_model.specs.declared.command.Edges.{Edges}
use Rattle.image_model.specs.declared.command.Edges.TheVariants.{Head, Tail, Both}
use Rattle.image_model.specs.Change.{edge_count, least_blocks}
use Rattle.image_model.specs.Image.{covers, edge_slot, last_of}
use Rattle.shared_cache.specs.laws.Edges.{Place, place_of}
use Rattle.order_book.specs.Cached.{head_count}

-- how many edges stand at the tail
abbrev pub tail_count : Edges → ℕ
tail_count edges = edge_count edges - head_count edges

pub counts_add : (edges : Edges) → head_count edges + tail_count edges ≡ edge_count edges
counts_add Head = refl
counts_add Tail = refl
counts_add Both = refl

pub counts_fit : (edges : Edges) (blocks : ℕ) → least_blocks edges ≤ blocks → head_count edges + tail_count edges ≤ blocks
counts_fit Head blocks least = omega (arith, least)
counts_fit Tail blocks least = omega (arith, least)
counts_fit Both blocks least = omega (arith, least)

-- where in a clear's bytes those of an edge stand
abbrev pub edge_at : ℕ → ℕ → Edges → ℕ → Option ℕ
edge_at first blocks edges block = if covers first blocks block then edge_slot edges (block == first) (block == last_of first blocks) else None

-- a place of a block, and the slot that a block has there
pub record At (first blocks : ℕ) (edges : Edges) (block : ℕ) (at_head between at_tail inside : Bool) (found : Option ℕ) : Type 0 where
  pub place : Place first blocks (head_count edges) (tail_count edges) block at_head between at_tail inside
  pub slot_is : edge_at first blocks edges block ≡ found

-- A block is an edge at the head, lies between, is an edge at the tail, or lies outside.
abbrev pub Somewhere : ℕ → ℕ → Edges → ℕ → Type 0
Somewhere first blocks edges block =
    (At first blocks edges block true false false true (Some 0) ⊎ At first blocks edges block false true false true None)
    ⊎ (At first blocks edges block false false true true (Some (4096 * head_count edges)) ⊎ At first blocks edges block false false false false None)

module _ (first blocks block : ℕ) where
  is_first : covers first 1 block ≡ true → block ≡ first
  is_first is = grind (arith, nat_tests)

  not_first : covers first 1 block ≡ false → block ≢ first
  not_first is e = grind (arith, nat_tests)

  is_last : 1 ≤ blocks → covers (first + blocks - 1) 1 block ≡ true → block ≡ last_of first blocks
  is_last some is = grind (arith, nat_tests)

  not_last : covers (first + blocks - 1) 1 block ≡ false → block ≢ last_of first blocks
  not_last is e = grind (arith, nat_tests)

  none_at : (from : ℕ) → covers from 0 block ≡ true → ⊥
  none_at from is = grind (arith, nat_tests)

  slot_at_head : (edges : Edges) → covers first (head_count edges) block ≡ true → covers first blocks block ≡ true → edge_at first blocks edges block ≡ Some 0
  slot_at_head Head is inside = rw (inside, eq-eqb block first (is_first is)) refl
  slot_at_head Tail is inside = absurd (none_at first is)
  slot_at_head Both is inside = rw (inside, eq-eqb block first (is_first is)) refl

  slot_at_tail : (edges : Edges) → least_blocks edges ≤ blocks → covers (first + blocks - tail_count edges) (tail_count edges) block ≡ true → covers first blocks block ≡ true
      → edge_at first blocks edges block ≡ Some (4096 * head_count edges)
  slot_at_tail Head least is inside = absurd (none_at (first + blocks - 0) is)
  slot_at_tail Tail least is inside = rw (inside, eq-eqb block (last_of first blocks) (is_last (omega (arith, least)) is)) refl
  slot_at_tail Both least is inside =
      let last : block ≡ last_of first blocks = is_last (omega (arith, least)) is in
      rw (inside, ne_eqb block first (λ e. omega (arith, e, last, least)), eq-eqb block (last_of first blocks) last) refl

  slot_between : (edges : Edges) → least_blocks edges ≤ blocks → covers first (head_count edges) block ≡ false
      → covers (first + blocks - tail_count edges) (tail_count edges) block ≡ false → covers first blocks block ≡ true → edge_at first blocks edges block ≡ None
  slot_between Head least no_head no_tail inside = rw (inside, ne_eqb block first (not_first no_head)) refl
  slot_between Tail least no_head no_tail inside = rw (inside, ne_eqb block (last_of first blocks) (not_last no_tail)) refl
  slot_between Both least no_head no_tail inside = rw (inside, ne_eqb block first (not_first no_head), ne_eqb block (last_of first blocks) (not_last no_tail)) refl

  slot_outside : (edges : Edges) → covers first blocks block ≡ false → edge_at first blocks edges block ≡ None
  slot_outside edges out = rw out refl

  pub at_of : (edges : Edges) → least_blocks edges ≤ blocks → Somewhere first blocks edges block
  at_of edges least = elim (place_of first blocks (head_count edges) (tail_count edges) block (counts_fit edges blocks least)) [
    | inl p ↦ elim p [
      | inl at ↦ inl (inl (record { place = at; slot_is = slot_at_head edges at.is_head at.is_inside }))
      | inr at ↦ inl (inr (record { place = at; slot_is = slot_between edges least at.is_head at.is_tail at.is_inside }))
    ]
    | inr p ↦ elim p [
      | inl at ↦ inr (inl (record { place = at; slot_is = slot_at_tail edges least at.is_tail at.is_inside }))
      | inr at ↦ inr (inr (record { place = at; slot_is = slot_outside edges at.is_inside }))
    ]
  ]
