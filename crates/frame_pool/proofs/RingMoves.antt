-- what taking a node out of a ring and putting one into it make of its path
use Rattle.std.proofs.Common.{◌≡◌, ◌≢◌, ◌<◌, ◌≤◌, ◌+◌, inl, inr, ℕ, zero, suc, List, [], ◌∷◌, ◌++◌, length, get_or, set, refl, ap, ◌∙◌, sym, subst, arith}
use Rattle.std.proofs.lemmas.List.{get_or-set_same, get_or-set_other, length-set}
use Rattle.std.proofs.lemmas.Bool.{ne_eqb, eq-eqb}
use Rattle.std.proofs.lemmas.Bool.Decides.{eqb_tells}
use Rattle.frame_pool.specs.Lists.{times, without}
use Rattle.frame_pool.specs.Ring.{IsPath, walk}
use Rattle.frame_pool.specs.laws.Times.{times-append, without_absent, head_other, tail_none, times_head, times_other, differ}

-- A path stays where the links between its nodes do.
pub path_kept : (next previous next' previous' : List ℕ) (from : ℕ) (nodes : List ℕ)
    → ((a b : ℕ) → 1 ≤ times a (from ∷ nodes) → 1 ≤ times b nodes → get_or next a 0 ≡ b → get_or previous b 0 ≡ a
    → (get_or next' a 0 ≡ b) × (get_or previous' b 0 ≡ a))
    → IsPath next previous from nodes → IsPath next' previous' from nodes
path_kept next previous next' previous' from [] kept path = tt
path_kept next previous next' previous' from (node ∷ nodes) kept path =
    let first = times_head from (node ∷ nodes) in
    let second = times_head node nodes in
    let here = kept from node (omega (arith, first)) (omega (arith, second)) path.0 path.1 in
    (here.0, here.1, path_kept next previous next' previous' node nodes (λ a b source target. kept a b (omega (arith, source)) (omega (arith, target))) path.2)

-- The node before one on the path leads to it.
pub next-previous : (next previous : List ℕ) (from : ℕ) (nodes : List ℕ) (x : ℕ)
    → IsPath next previous from nodes → 1 ≤ times x nodes → get_or next (get_or previous x 0) 0 ≡ x
next-previous next previous from [] x path some = absurd (omega arith)
next-previous next previous from (node ∷ nodes) x path some =
    elim (eqb_tells node x) [
      | inl p ↦ rw (← p.1) (rw path.1 path.0)
      | inr p ↦ next-previous next previous node nodes x path.2 (omega (arith, times_other x node nodes p.1, some))
    ]

-- The node after one on the path, but for its last, leads back to it.
pub previous-next : (next previous : List ℕ) (from : ℕ) (nodes : List ℕ) (last x : ℕ)
    → IsPath next previous from (nodes ++ last ∷ []) → 1 ≤ times x nodes → get_or previous (get_or next x 0) 0 ≡ x
previous-next next previous from [] last x path some = absurd (omega arith)
previous-next next previous from (node ∷ nodes) last x path some =
    elim (eqb_tells node x) [
      | inl p ↦ rw (← p.1) (back next previous node nodes last path.2)
      | inr p ↦ previous-next next previous node nodes last x path.2 (omega (arith, times_other x node nodes p.1, some))
    ]
  where
    back : (next previous : List ℕ) (from : ℕ) (nodes : List ℕ) (last : ℕ) → IsPath next previous from (nodes ++ last ∷ [])
        → get_or previous (get_or next from 0) 0 ≡ from
    back next previous from [] last path = rw path.0 path.1
    back next previous from (node ∷ nodes) last path = rw path.0 path.1

-- A link between other nodes stays where `x` is taken out: the node before it is linked to the one after it.
link-unlinked : (next previous : List ℕ) (x a b : ℕ)
    → get_or next (get_or previous x 0) 0 ≡ x → get_or previous (get_or next x 0) 0 ≡ x
    → a ≢ x → b ≢ x → get_or next a 0 ≡ b → get_or previous b 0 ≡ a
    → (get_or (set next (get_or previous x 0) (get_or next x 0)) a 0 ≡ b) × (get_or (set previous (get_or next x 0) (get_or previous x 0)) b 0 ≡ a)
link-unlinked next previous x a b np pn ax bx ahead back = (
  get_or-set_other next (get_or previous x 0) a (get_or next x 0) 0 (λ e. bx (sym ahead ∙ ap (λ (v : ℕ). get_or next v 0) e ∙ np)) ∙ ahead,
  get_or-set_other previous (get_or next x 0) b (get_or previous x 0) 0 (λ e. ax (sym back ∙ ap (λ (v : ℕ). get_or previous v 0) e ∙ pn)) ∙ back,
)

-- the path after `x`, from the node before it
path_joined : (next previous : List ℕ) (x from : ℕ) (nodes : List ℕ)
    → get_or previous x 0 < length next → get_or next x 0 < length previous
    → get_or next (get_or previous x 0) 0 ≡ x → get_or previous (get_or next x 0) 0 ≡ x
    → get_or previous x 0 ≡ from → times x nodes ≡ 0
    → IsPath next previous x nodes
    → IsPath (set next (get_or previous x 0) (get_or next x 0)) (set previous (get_or next x 0) (get_or previous x 0)) from nodes
path_joined next previous x from [] before behind np pn is none path = tt
path_joined next previous x from (node ∷ nodes) before behind np pn is none path = (
  rw (← is) (get_or-set_same next (get_or previous x 0) (get_or next x 0) 0 before ∙ path.0),
  rw (← path.0) (get_or-set_same previous (get_or next x 0) (get_or previous x 0) 0 behind ∙ is),
  path_kept next previous _ _ node nodes
      (λ a b source target ahead back. link-unlinked next previous x a b np pn (differ a x (node ∷ nodes) source none) (differ b x nodes target (tail_none x node nodes none)) ahead back)
      path.2,
)

-- Taking `x` out of a path that neither begins nor ends with it.
pub path-unlinked : (next previous : List ℕ) (x from last : ℕ) (nodes : List ℕ)
    → get_or previous x 0 < length next → get_or next x 0 < length previous
    → get_or next (get_or previous x 0) 0 ≡ x → get_or previous (get_or next x 0) 0 ≡ x
    → from ≢ x → last ≢ x → times x (nodes ++ last ∷ []) ≤ 1
    → IsPath next previous from (nodes ++ last ∷ [])
    → IsPath (set next (get_or previous x 0) (get_or next x 0)) (set previous (get_or next x 0) (get_or previous x 0)) from (without x (nodes ++ last ∷ []))
path-unlinked next previous x from last [] before behind np pn fx lx once path =
    let here = link-unlinked next previous x from last np pn fx lx path.0 path.1 in rw (ne_eqb last x lx) (here.0, here.1, tt)
path-unlinked next previous x from last (node ∷ nodes) before behind np pn fx lx once path =
    elim (eqb_tells node x) [
      | inl p ↦
          let first : times x (node ∷ (nodes ++ last ∷ [])) ≡ 1 + times x (nodes ++ last ∷ []) = rw p.0 refl in
          let none : times x (nodes ++ last ∷ []) ≡ 0 = omega (arith, once, first) in
          let P : ℕ → Type 0 = λ v. IsPath next previous v (nodes ++ last ∷ []) in
          rw (p.0, without_absent x (nodes ++ last ∷ []) none)
          (path_joined next previous x from (nodes ++ last ∷ []) before behind np pn (ap (λ (v : ℕ). get_or previous v 0) (sym p.1) ∙ path.1) none (subst P p.1 path.2))
      | inr p ↦
          let here = link-unlinked next previous x from node np pn fx p.1 path.0 path.1 in
          let rest = path-unlinked next previous x node last nodes before behind np pn p.1 lx (omega (arith, once)) path.2 in
          rw p.0 (here.0, here.1, rest)
    ]

-- A link between other nodes stays where `x` is put before `y`.
link-linked : (next previous : List ℕ) (x y a b : ℕ) → get_or next (get_or previous y 0) 0 ≡ y
    → a ≢ x → b ≢ x → b ≢ y → get_or next a 0 ≡ b → get_or previous b 0 ≡ a
    → (get_or (set (set next x y) (get_or previous y 0) x) a 0 ≡ b) × (get_or (set (set previous x (get_or previous y 0)) y x) b 0 ≡ a)
link-linked next previous x y a b np ax bx by ahead back = (
  get_or-set_other (set next x y) (get_or previous y 0) a x 0 (λ e. by (sym ahead ∙ ap (λ (v : ℕ). get_or next v 0) e ∙ np))
      ∙ get_or-set_other next x a y 0 ax ∙ ahead,
  get_or-set_other (set previous x (get_or previous y 0)) y b x 0 by ∙ get_or-set_other previous x b (get_or previous y 0) 0 bx ∙ back,
)

-- Putting `x`, which isn't on the path, before `y`, which is on it once.
pub path-linked : (next previous : List ℕ) (x y from : ℕ) (before behind : List ℕ)
    → x < length next → x < length previous → y < length previous → get_or previous y 0 < length next
    → get_or next (get_or previous y 0) 0 ≡ y → from ≢ x → x ≢ y
    → times x (before ++ y ∷ behind) ≡ 0 → times y (before ++ y ∷ behind) ≤ 1
    → IsPath next previous from (before ++ y ∷ behind)
    → IsPath (set (set next x y) (get_or previous y 0) x) (set (set previous x (get_or previous y 0)) y x) from (before ++ x ∷ y ∷ behind)
path-linked next previous x y from [] behind xn xp yp qn np fx xy none once path =
    let q = get_or previous y 0 in
    let away : times y behind ≡ 0 = omega (arith, once, times_head y behind) in (
      rw (← path.1) (get_or-set_same (set next x y) q x 0 (rw length-set qn)),
      get_or-set_other (set previous x q) y x x 0 xy ∙ get_or-set_same previous x q 0 xp ∙ path.1,
      (
        get_or-set_other (set next x y) q x x 0 (λ e. fx (sym path.1 ∙ sym e)) ∙ get_or-set_same next x y 0 xn,
        get_or-set_same (set previous x q) y x 0 (rw length-set yp),
        path_kept next previous _ _ y behind
            (λ a b source target ahead back. link-linked next previous x y a b np (differ a x (y ∷ behind) source none) (differ b x behind target (tail_none x y behind none)) (differ b y behind target away) ahead back)
            path.2,
      ),
    )
path-linked next previous x y from (node ∷ before) behind xn xp yp qn np fx xy none once path =
    let nx : node ≢ x = head_other x node (before ++ y ∷ behind) none in
    let count = times-append y before (y ∷ behind) in
    let one = times_head y behind in
    let ny : node ≢ y = λ e. omega (arith, count, one, once, rw (eq-eqb node y e) at once) in
    let here = link-linked next previous x y from node np fx nx ny path.0 path.1 in
    (here.0, here.1, path-linked next previous x y node before behind xn xp yp qn np nx xy (tail_none x node _ none) (omega (arith, once)) path.2)

-- what is walked from the start of a list to its end
pub walk_path : (next previous : List ℕ) (from end most : ℕ) (nodes behind : List ℕ)
    → IsPath next previous from (nodes ++ end ∷ behind) → times end nodes ≡ 0 → length nodes ≤ most
    → walk next end most (get_or next from 0) ≡ nodes
walk_path next previous from end zero [] behind path none fits = refl
walk_path next previous from end (suc most) [] behind path none fits = rw (path.0, eq-eqb end end refl) refl
walk_path next previous from end zero (node ∷ nodes) behind path none fits = absurd (omega arith)
walk_path next previous from end (suc most) (node ∷ nodes) behind path none fits =
    rw (path.0, ne_eqb node end (head_other end node nodes none))
    (ap (λ (rest : List ℕ). node ∷ rest) (walk_path next previous node end most nodes behind path.2 (tail_none end node nodes none) (omega arith)))
