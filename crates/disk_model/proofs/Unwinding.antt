-- The writes since the last good sync, gone through from the newest on, each range given other bytes.
use Rattle.std.proofs.Common.{◌≡◌, ◌⊎◌, inl, inr, ⊎_elim, ℕ, ◌+◌, ◌-◌, ◌≤◌, ◌<◌, List, [], ◌∷◌, ◌++◌, length, get_or, reverse, sym, ◌∙◌, ap, subst, arith}
use Rattle.std.proofs.lemmas.Bool.{cases_lt}
use Rattle.disk_model.specs.declared.history.Entry.{Entry}
use Rattle.disk_model.specs.declared.history.Write.{Write}
use Rattle.disk_model.specs.declared.history.Entry.TheVariants.{Written}
use Rattle.disk_model.specs.Disk.{InRange}
use Rattle.disk_model.specs.History.{IsInside, patched, unsynced_by, synced_content}
use Rattle.disk_model.proofs.OneEntryMore.{reverse-push, inside_rest, inside_last}
use Rattle.disk_model.proofs.BytesReplaced.{length-patched, patched_within, patched_others}

-- from this history and content on, to what is left of the history and the content now
pub record Unwinds (first : List Entry) (start : List ℕ) (rest : List Entry) (now : List ℕ) : Type 0 where
  pub inside : IsInside rest (length now)
  pub size : length now ≡ length start
  pub left : (place : ℕ) → unsynced_by (reverse rest) place → unsynced_by (reverse first) place
  pub others : (place : ℕ) → (unsynced_by (reverse first) place → ⊥) → get_or now place 0 ≡ get_or start place 0

module _ (all rest : List Entry) (write : Write) (last : all ≡ rest ++ Written write ∷ []) where
  read_back : reverse all ≡ Written write ∷ reverse rest
  read_back = ap reverse last ∙ reverse-push rest (Written write)

  pub unsynced_last : (place : ℕ) → InRange write.offset (length write.before.items) place → unsynced_by (reverse all) place
  unsynced_last place within = subst (λ (history : List Entry). unsynced_by history place) (sym read_back) (inr within)

  pub unsynced_rest : (place : ℕ) → unsynced_by (reverse rest) place → unsynced_by (reverse all) place
  unsynced_rest place unsynced = subst (λ (history : List Entry). unsynced_by history place) (sym read_back) (inl unsynced)

  pub unsynced_cases : (place : ℕ) → unsynced_by (reverse all) place → unsynced_by (reverse rest) place ⊎ InRange write.offset (length write.before.items) place
  unsynced_cases place unsynced = subst (λ (history : List Entry). unsynced_by history place) read_back unsynced

  pub synced_rest : (content : List ℕ) → synced_content (reverse all) content ≡ synced_content (reverse rest) (patched content write.offset write.before.items)
  synced_rest content = ap (λ (history : List Entry). synced_content history content) read_back

  pub fits_last : (size : ℕ) → IsInside all size → write.offset + length write.before.items ≤ size
  fits_last size inside = inside_last rest (Written write) size (subst (λ (entries : List Entry). IsInside entries size) last inside)

  module _ (now next bytes : List ℕ) (is : next ≡ patched now write.offset bytes) (count : length bytes ≡ length write.before.items) where
    fits : IsInside all (length now) → write.offset + length bytes ≤ length now
    fits inside = omega (arith, fits_last (length now) inside)

    same_size : IsInside all (length now) → length next ≡ length now
    same_size inside = ap length is ∙ length-patched now write.offset bytes (fits inside)

    pub unwinds_more : (first : List Entry) (start : List ℕ) → Unwinds first start all now → Unwinds first start rest next
    unwinds_more first start so_far =
        let size = same_size so_far.inside in
        record {
          inside = subst (λ (n : ℕ). IsInside rest n) (sym size) (inside_rest rest (Written write) (length now) (subst (λ (entries : List Entry). IsInside entries (length now)) last so_far.inside));
          size = size ∙ so_far.size;
          left = λ place unsynced. so_far.left place (unsynced_rest place unsynced);
          others = λ place not.
              ap (λ (content : List ℕ). get_or content place 0) is
              ∙ patched_others now write.offset bytes (fits so_far.inside) place (λ within. not (so_far.left place (unsynced_last place (omega arith, omega arith))))
              ∙ so_far.others place not;
        }

    module _ (byte : ℕ) (all_byte : (k : ℕ) → k < length bytes → get_or bytes k 0 ≡ byte) (inside : IsInside all (length now)) where
      within : (place : ℕ) → InRange write.offset (length write.before.items) place → get_or next place 0 ≡ byte
      within place range =
          ap (λ (content : List ℕ). get_or content place 0) is
          ∙ ap (λ (at : ℕ). get_or (patched now write.offset bytes) at 0) (omega (arith, range.0))
          ∙ patched_within now write.offset bytes (fits inside) (place - write.offset) (omega (arith, range.0, range.1))
          ∙ all_byte (place - write.offset) (omega (arith, range.0, range.1))

      -- a place that has the byte keeps it
      keeps_byte : (place : ℕ) → get_or now place 0 ≡ byte → get_or next place 0 ≡ byte
      keeps_byte place has = ⊎_elim
          (λ below. other place (λ range. omega (arith, range.0)) ∙ has)
          (λ above. ⊎_elim
          (λ inner. within place (above, inner))
          (λ behind. other place (λ range. omega (arith, range.1)) ∙ has)
          (cases_lt place (write.offset + length write.before.items)))
          (cases_lt place write.offset)
        where
          other : (place : ℕ) → (InRange write.offset (length write.before.items) place → ⊥) → get_or next place 0 ≡ get_or now place 0
          other place outside = ap (λ (content : List ℕ). get_or content place 0) is ∙ patched_others now write.offset bytes (fits inside) place (λ range. outside (range.0, omega (arith, range.1)))

      pub filled_more : (place : ℕ) → (get_or now place 0 ≡ byte) ⊎ unsynced_by (reverse all) place → (get_or next place 0 ≡ byte) ⊎ unsynced_by (reverse rest) place
      filled_more place (inl has) = inl (keeps_byte place has)
      filled_more place (inr unsynced) = ⊎_elim (λ older. inr older) (λ range. inl (within place range)) (unsynced_cases place unsynced)
