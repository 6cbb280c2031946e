-- A history with one entry more, at its end as it is kept and first as it is read.
use Rattle.std.proofs.Common.{◌≡◌, ⊎_elim, ℕ, ◌+◌, ◌≤◌, List, [], ◌∷◌, ◌++◌, length, reverse, refl, sym, subst, arith, length-append}
use Rattle.std.proofs.lemmas.List.{reverse-append, get_or_append_left, get_or_push, get_or_past}
use Rattle.std.proofs.lemmas.Bool.{cases_lt}
use Rattle.disk_model.specs.declared.history.Entry.{Entry}
use Rattle.disk_model.specs.declared.history.Entry.TheVariants.{Synced}
use Rattle.disk_model.specs.History.{IsInside, entry_end}

pub reverse-push : (entries : List Entry) (entry : Entry) → reverse (entries ++ entry ∷ []) ≡ entry ∷ reverse entries
reverse-push entries entry = reverse-append entries (entry ∷ [])

module _ (entries : List Entry) (entry : Entry) (size : ℕ) where
  pub inside_rest : IsInside (entries ++ entry ∷ []) size → IsInside entries size
  inside_rest inside k = ⊎_elim
      (λ below. subst (λ (e : Entry). entry_end e ≤ size) (get_or_append_left entries (entry ∷ []) Synced k below) (inside k))
      (λ past. subst (λ (e : Entry). entry_end e ≤ size) (sym (get_or_past entries k Synced past)) (omega arith))
      (cases_lt k (length entries))

  pub inside_last : IsInside (entries ++ entry ∷ []) size → entry_end entry ≤ size
  inside_last inside = subst (λ (e : Entry). entry_end e ≤ size) (get_or_push entries entry Synced (length entries) refl) (inside (length entries))

  pub inside_push : IsInside entries size → entry_end entry ≤ size → IsInside (entries ++ entry ∷ []) size
  inside_push inside last k = ⊎_elim
      (λ below. subst (λ (e : Entry). entry_end e ≤ size) (sym (get_or_append_left entries (entry ∷ []) Synced k below)) (inside k))
      (λ past. ⊎_elim
      (λ here. subst (λ (e : Entry). entry_end e ≤ size) (sym (get_or_push entries entry Synced k (omega arith))) last)
      (λ beyond. subst (λ (e : Entry). entry_end e ≤ size) (sym (get_or_past (entries ++ entry ∷ []) k Synced (omega (arith, length-append entries (entry ∷ []))))) (omega arith))
      (cases_lt k (length entries + 1)))
      (cases_lt k (length entries))
