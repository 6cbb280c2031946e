-- runs of blocks, with a block more after them
use Rattle.std.proofs.Common.{◌≡◌, ℕ, zero, suc, ◌+◌, ◌==◌, inl, inr, Bool, if◌then◌else◌, List, [], ◌∷◌, ◌++◌, sym, ◌∙◌, ap, refl, arith}
use Rattle.std.proofs.lemmas.Bool.{cases_Bool, eq-eqb, ne_eqb}
use Rattle.std.proofs.lemmas.Bool.Decides.{eqb_tells}
use Rattle.nbd_wire.specs.declared.message.Run.{Run}
use Rattle.export_model.specs.Shown.{runs_from, with_block}

abbrev pub run_of : ℕ → ℕ → Run
run_of count given = record { length = count; status = given }

-- runs with one more in front, or the first of them longer
abbrev joined : Bool → ℕ → Run → List Run → List Run
joined same s run runs = if same then run_of (run.length + 4096) s ∷ runs else run_of 4096 s ∷ run ∷ runs

-- a block of this status after runs: in the last of them, where that one has the same
abbrev lengthened : Bool → ℕ → Run → List Run
lengthened same s run = if same then run_of (run.length + 4096) s ∷ [] else run ∷ run_of 4096 s ∷ []

behind : List Run → ℕ → List Run
behind [] s = run_of 4096 s ∷ []
behind (r ∷ []) s = lengthened (r.status == s) s r
behind (r ∷ r' ∷ rs) s = r ∷ behind (r' ∷ rs) s

-- a block in front and one after, in whichever order they come
of_one : (a s : ℕ) (r : Run) → with_block a (behind (r ∷ []) s) ≡ behind (with_block a (r ∷ [])) s
unfolding with_block behind
of_one a s r = elim (eqb_tells r.status s) [
  | inl at_s ↦ elim (eqb_tells r.status a) [
    | inl at_a ↦
        let same : s ≡ a = sym at_s.1 ∙ at_a.1 in
        ap (λ (b : Bool). with_block a (lengthened b s r)) at_s.0
        ∙ ap (λ (b : Bool). joined b a (run_of (r.length + 4096) s) []) (eq-eqb s a same)
        ∙ sym (ap (λ (b : Bool). behind (joined b a r []) s) at_a.0
        ∙ ap (λ (b : Bool). lengthened b s (run_of (r.length + 4096) a)) (eq-eqb a s (sym same))
        ∙ ap (λ (n : ℕ). run_of (r.length + 4096 + 4096) n ∷ []) same)
    | inr no_a ↦
        ap (λ (b : Bool). with_block a (lengthened b s r)) at_s.0
        ∙ ap (λ (b : Bool). joined b a (run_of (r.length + 4096) s) []) (ne_eqb s a (λ is. no_a.1 (at_s.1 ∙ is)))
        ∙ sym (ap (λ (b : Bool). behind (joined b a r []) s) no_a.0
        ∙ ap (λ (b : Bool). run_of 4096 a ∷ lengthened b s r) at_s.0)
  ]
  | inr no_s ↦ elim (eqb_tells r.status a) [
    | inl at_a ↦
        ap (λ (b : Bool). with_block a (lengthened b s r)) no_s.0
        ∙ ap (λ (b : Bool). joined b a r (run_of 4096 s ∷ [])) at_a.0
        ∙ sym (ap (λ (b : Bool). behind (joined b a r []) s) at_a.0
        ∙ ap (λ (b : Bool). lengthened b s (run_of (r.length + 4096) a)) (ne_eqb a s (λ is. no_s.1 (at_a.1 ∙ is))))
    | inr no_a ↦
        ap (λ (b : Bool). with_block a (lengthened b s r)) no_s.0
        ∙ ap (λ (b : Bool). joined b a r (run_of 4096 s ∷ [])) no_a.0
        ∙ sym (ap (λ (b : Bool). behind (joined b a r []) s) no_a.0
        ∙ ap (λ (b : Bool). run_of 4096 a ∷ lengthened b s r) no_s.0)
  ]
]

either_end : (a s : ℕ) (runs : List Run) → with_block a (behind runs s) ≡ behind (with_block a runs) s
unfolding with_block behind
either_end a s [] = elim (eqb_tells s a) [
  | inl p ↦
      ap (λ (b : Bool). joined b a (run_of 4096 s) []) p.0
      ∙ sym (ap (λ (b : Bool). lengthened b s (run_of 4096 a)) (eq-eqb a s (sym p.1)) ∙ ap (λ (n : ℕ). run_of 8192 n ∷ []) p.1)
  | inr p ↦
      ap (λ (b : Bool). joined b a (run_of 4096 s) []) p.0
      ∙ sym (ap (λ (b : Bool). lengthened b s (run_of 4096 a)) (ne_eqb a s (λ is. p.1 (sym is))))
]
either_end a s (r ∷ []) = of_one a s r
either_end a s (r ∷ r' ∷ rs) = elim (cases_Bool (r.status == a)) [
  | inl p ↦ ap (λ (b : Bool). joined b a r (behind (r' ∷ rs) s)) p ∙ sym (ap (λ (b : Bool). behind (joined b a r (r' ∷ rs)) s) p)
  | inr p ↦ ap (λ (b : Bool). joined b a r (behind (r' ∷ rs) s)) p ∙ sym (ap (λ (b : Bool). behind (joined b a r (r' ∷ rs)) s) p)
]

-- the runs of a block more
further : (status : ℕ → ℕ) (block count : ℕ) → runs_from status block (suc count) ≡ behind (runs_from status block count) (status (block + count))
unfolding runs_from with_block behind
further status block zero = let same : block ≡ block + 0 = omega arith in ap (λ (n : ℕ). run_of 4096 (status n) ∷ []) same
further status block (suc count) =
    let same : block + 1 + count ≡ block + suc count = omega arith in
    ap (with_block (status block)) (further status (block + 1) count)
    ∙ either_end (status block) (status (block + 1 + count)) (runs_from status (block + 1) count)
    ∙ ap (λ (n : ℕ). behind (with_block (status block) (runs_from status (block + 1) count)) (status n)) same

-- where the last of the runs is known
last_of : (front : List Run) (last : Run) (s : ℕ) → behind (front ++ last ∷ []) s ≡ front ++ lengthened (last.status == s) s last
unfolding behind
last_of [] last s = refl
last_of (r ∷ []) last s = refl
last_of (r ∷ r' ∷ rs) last s = ap (λ (l : List Run). r ∷ l) (last_of (r' ∷ rs) last s)

-- a block more is in the last run, which has its status, or begins one
pub block_more : (status : ℕ → ℕ) (block count : ℕ) (front : List Run) (last : Run) → front ++ last ∷ [] ≡ runs_from status block count
    → (status (block + count) ≡ last.status → front ++ run_of (last.length + 4096) last.status ∷ [] ≡ runs_from status block (count + 1))
    × ((status (block + count) ≡ last.status → ⊥) → (front ++ last ∷ []) ++ run_of 4096 (status (block + count)) ∷ [] ≡ runs_from status block (count + 1))
block_more status block count front last so_far = (longer, begun)
  where
    s : ℕ
    s = status (block + count)

    all : runs_from status block (count + 1) ≡ front ++ lengthened (last.status == s) s last
    all =
        let next : count + 1 ≡ suc count = omega arith in
        ap (runs_from status block) next ∙ further status block count ∙ ap (λ (l : List Run). behind l (status (block + count))) (sym so_far) ∙ last_of front last (status (block + count))

    longer : s ≡ last.status → front ++ run_of (last.length + 4096) last.status ∷ [] ≡ runs_from status block (count + 1)
    longer same = sym (all ∙ ap (λ (b : Bool). front ++ lengthened b s last) (eq-eqb last.status s (sym same)) ∙ ap (λ (n : ℕ). front ++ run_of (last.length + 4096) n ∷ []) same)

    begun : (s ≡ last.status → ⊥) → (front ++ last ∷ []) ++ run_of 4096 s ∷ [] ≡ runs_from status block (count + 1)
    begun other = append_one front ∙ sym (all ∙ ap (λ (b : Bool). front ++ lengthened b s last) (ne_eqb last.status s (λ is. other (sym is))))
      where
        append_one : (l : List Run) → (l ++ last ∷ []) ++ run_of 4096 s ∷ [] ≡ l ++ last ∷ run_of 4096 s ∷ []
        append_one [] = refl
        append_one (r ∷ l) = ap (λ (m : List Run). r ∷ m) (append_one l)

-- one block is one run
pub one_block : (status : ℕ → ℕ) (block : ℕ) → run_of 4096 (status block) ∷ [] ≡ runs_from status block 1
unfolding runs_from with_block
one_block status block = refl
