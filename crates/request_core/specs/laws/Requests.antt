-- what kind a request is
use Rattle.std.proofs.Common.{◌≡◌, ℕ, ◌==◌, true, false, sym, ◌∙◌, ap, refl}
use Rattle.std.proofs.lemmas.Bool.{both_ways, ne_eqb}
use Rattle.export_model.specs.Log.{is_write_type}

-- a write request is none of the others
pub write_others : (kind : ℕ) → is_write_type kind ≡ true → ((kind == 3) ≡ false) × ((kind == 0) ≡ false) × ((kind == 7) ≡ false)
write_others kind write = (ne_eqb kind 3 (λ is. other 3 is refl), ne_eqb kind 0 (λ is. other 0 is refl), ne_eqb kind 7 (λ is. other 7 is refl))
  where
    other : (n : ℕ) → kind ≡ n → is_write_type n ≡ false → ⊥
    other n is none = both_ways (is_write_type n) none (ap is_write_type (sym is) ∙ write)
