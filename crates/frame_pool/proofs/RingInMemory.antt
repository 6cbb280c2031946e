-- the nodes of a ring as they lie in memory
use Rattle.std.proofs.Common.{◌≡◌, ◌+◌, ◌-◌, ◌%◌, ◌<◌, inl, inr, ℕ, List, length, map, replicate, set, get_or, Option, None, Some, IfSome, unwrap_or, refl, sym, ap, ◌∙◌, zero-add, arith}
use Rattle.std.specs.List.{range_with_len}
use Rattle.std.proofs.lemmas.Bool.{cases_eq, ne_eqb}
use Rattle.std.proofs.lemmas.List.{ext_get_or, get_or-map, get_or-replicate, get_or-set_same, get_or-set_other, length-map, length-replicate, length-set, map-set}
use Rattle.std.proofs.lemmas.List.FromFn.{length-map-range_with_len, get_or-map-range_with_len}
use Rattle.std.proofs.Math.Seq.{map-set_same}
use Rattle.frame_pool.specs.declared.nodes.Node.{Node}
use Rattle.frame_pool.specs.Numbers.{option_of}
use Rattle.frame_pool.specs.Nodes.{AreWritten, NodesState, next_in, previous_in, number_in, nodes_of}
use Rattle.frame_pool.specs.inner.Nodes.{with_next, with_previous, with_number}

pub AreWritten-set : (cells cells' : List (Option Node)) (at : ℕ) (node : Node) → cells' ≡ set cells at (Some node) → AreWritten cells → AreWritten cells'
AreWritten-set cells cells' at node is written other below =
    let inside : other < length cells = omega (arith, below, ap length is, length-set cells at (Some node)) in
    let now = ap (λ (list : List (Option Node)). get_or list other None) is in
    elim (cases_eq other at) [
      | inl e ↦ let here : at < length cells = omega arith in
          (node, now ∙ ap (λ (k : ℕ). get_or (set cells at (Some node)) k None) e ∙ get_or-set_same cells at (Some node) None here)
      | inr ne ↦ let had = written other inside in (had.0, now ∙ get_or-set_other cells at other (Some node) None ne ∙ had.1)
    ]

module _ (cells cells' : List (Option Node)) (at : ℕ) (kept : Node) (state : NodesState) (had : get_or cells at None ≡ Some kept) (shown : nodes_of cells ≡ state) where
  pub next_set : (next : ℕ) → cells' ≡ set cells at (Some (record { next = next; previous = kept.previous; number = kept.number }))
      → nodes_of cells' ≡ with_next at next state
  next_set next is =
      let node : Node = record { next = next; previous = kept.previous; number = kept.number } in
      let links = map-set next_in cells at (Some node) in
      let back = map-set_same previous_in cells at (Some node) None (ap previous_in (sym had)) in
      let numbers = map-set_same number_in cells at (Some node) None (ap number_in (sym had)) in
      ap nodes_of is ∙ (λ i. record { next = links i; previous = back i; numbers = numbers i }) ∙ ap (with_next at next) shown

  pub previous_set : (previous : ℕ) → cells' ≡ set cells at (Some (record { next = kept.next; previous = previous; number = kept.number }))
      → nodes_of cells' ≡ with_previous at previous state
  previous_set previous is =
      let node : Node = record { next = kept.next; previous = previous; number = kept.number } in
      let links = map-set_same next_in cells at (Some node) None (ap next_in (sym had)) in
      let back = map-set previous_in cells at (Some node) in
      let numbers = map-set_same number_in cells at (Some node) None (ap number_in (sym had)) in
      ap nodes_of is ∙ (λ i. record { next = links i; previous = back i; numbers = numbers i }) ∙ ap (with_previous at previous) shown

  pub number_set : (number : Option ℕ) (word : ℕ) → option_of word ≡ number
      → cells' ≡ set cells at (Some (record { next = kept.next; previous = kept.previous; number = word }))
      → nodes_of cells' ≡ with_number at number state
  number_set number word stands is =
      let node : Node = record { next = kept.next; previous = kept.previous; number = word } in
      let links = map-set_same next_in cells at (Some node) None (ap next_in (sym had)) in
      let back = map-set_same previous_in cells at (Some node) None (ap previous_in (sym had)) in
      let numbers = map-set number_in cells at (Some node) ∙ ap (set (map number_in cells) at) stands in
      ap nodes_of is ∙ (λ i. record { next = links i; previous = back i; numbers = numbers i }) ∙ ap (with_number at number) shown

-- a number, or none, as it lies in memory
pub option_of-unwrap_or : (number : Option ℕ) → IfSome number (λ n. 0 < n) → option_of (unwrap_or number 0) ≡ number
option_of-unwrap_or None some = refl
option_of-unwrap_or (Some n) some = rw (ne_eqb n 0 (λ e. omega arith)) refl

-- a node of a ring in ascending order
abbrev pub fresh_node : ℕ → ℕ → Node
fresh_node count node = record { next = (node + 1) % count; previous = (node + (count - 1)) % count; number = 0 }

abbrev pub AreFresh : ℕ → ℕ → List (Option Node) → Type 0
AreFresh count made cells = (node : ℕ) → node < made → get_or cells node None ≡ Some (fresh_node count node)

module _ (count : ℕ) (cells : List (Option Node)) (size : length cells ≡ count) (fresh : AreFresh count count cells) where
  pub AreWritten-fresh : AreWritten cells
  AreWritten-fresh node below = (fresh_node count node, fresh node (omega arith))

  links_fresh : (f : Option Node → ℕ) (g : ℕ → ℕ) → ((node : ℕ) → f (Some (fresh_node count node)) ≡ g node) → map f cells ≡ map g (range_with_len 0 count)
  links_fresh f g same =
      ext_get_or 0 (map f cells) (map g (range_with_len 0 count)) (length-map cells f ∙ size ∙ sym (length-map-range_with_len g 0 count)) (λ node below.
      let inside : node < length cells = omega (arith, below, length-map cells f) in
      get_or-map f cells node None 0 inside ∙ ap f (fresh node (omega arith)) ∙ same node
      ∙ sym (get_or-map-range_with_len g 0 count node node 0 (omega arith) (zero-add node)))

  numbers_fresh : map number_in cells ≡ replicate count None
  numbers_fresh =
      ext_get_or None (map number_in cells) (replicate count None) (length-map cells number_in ∙ size ∙ sym (length-replicate count None)) (λ node below.
      let inside : node < length cells = omega (arith, below, length-map cells number_in) in
      get_or-map number_in cells node None None inside ∙ ap number_in (fresh node (omega arith)) ∙ sym (get_or-replicate count node None None (omega arith)))

  pub nodes_fresh : nodes_of cells ≡ record {
    next = map (λ node. (node + 1) % count) (range_with_len 0 count);
    previous = map (λ node. (node + (count - 1)) % count) (range_with_len 0 count);
    numbers = replicate count None;
  }
  nodes_fresh =
      let links = links_fresh next_in (λ node. (node + 1) % count) (λ node. refl) in
      let back = links_fresh previous_in (λ node. (node + (count - 1)) % count) (λ node. refl) in
      let numbers = numbers_fresh in
      λ i. record { next = links i; previous = back i; numbers = numbers i }
