-- A content with some bytes put in the place of others.
use Rattle.std.proofs.Common.{◌≡◌, ⊎_elim, ℕ, ◌+◌, ◌≤◌, ◌<◌, List, length, get_or, take, drop, ◌∙◌, ap, rules, refl, ◌++◌, take-append-drop}
use Rattle.std.proofs.lemmas.List.{places, take_at, drop_at}
use Rattle.std.proofs.lemmas.Bool.{cases_lt}
use Rattle.disk_model.specs.Disk.{InRange}
use Rattle.disk_model.specs.History.{patched}

module _ (content : List ℕ) (offset : ℕ) (bytes : List ℕ) (fits : offset + length bytes ≤ length content) where
  pub length-patched : length (patched content offset bytes) ≡ length content
  length-patched = search (rules, places)

  pub patched_within : (k : ℕ) → k < length bytes → get_or (patched content offset bytes) (offset + k) 0 ≡ get_or bytes k 0
  patched_within k below = search (rules, places)

  pub patched_before : (place : ℕ) → place < offset → get_or (patched content offset bytes) place 0 ≡ get_or content place 0
  patched_before place below = search (rules, places)

  pub patched_behind : (place : ℕ) → offset + length bytes ≤ place → get_or (patched content offset bytes) place 0 ≡ get_or content place 0
  patched_behind place behind = search (rules, places)

  -- outside the range nothing changed
  pub patched_others : (place : ℕ) → (InRange offset (length bytes) place → ⊥) → get_or (patched content offset bytes) place 0 ≡ get_or content place 0
  patched_others place outside = ⊎_elim
      (λ below. patched_before place below)
      (λ above. ⊎_elim (λ within. absurd (outside (above, within))) (λ behind. patched_behind place behind) (cases_lt place (offset + length bytes)))
      (cases_lt place offset)

  front : length (take offset content) ≡ offset
  front = search (rules, places)

  take-patched : take offset (patched content offset bytes) ≡ take offset content
  take-patched = take_at (take offset content) (bytes ++ drop (length bytes) (drop offset content)) offset front

  drop-patched : drop (length bytes) (drop offset (patched content offset bytes)) ≡ drop (length bytes) (drop offset content)
  drop-patched =
      ap (λ (rest : List ℕ). drop (length bytes) rest) (drop_at (take offset content) (bytes ++ drop (length bytes) (drop offset content)) offset front)
      ∙ drop_at bytes (drop (length bytes) (drop offset content)) (length bytes) refl

  -- the bytes that stood there put back
  pub patched_back : (before : List ℕ) → before ≡ take (length bytes) (drop offset content) → patched (patched content offset bytes) offset before ≡ content
  patched_back before is =
      let count : length before ≡ length bytes = ap length is ∙ search (rules, places) in
      ap (λ (rest : List ℕ). rest ++ (before ++ drop (length before) (drop offset (patched content offset bytes)))) take-patched
      ∙ ap (λ (n : ℕ). take offset content ++ (before ++ drop n (drop offset (patched content offset bytes)))) count
      ∙ ap (λ (rest : List ℕ). take offset content ++ (before ++ rest)) drop-patched
      ∙ ap (λ (middle : List ℕ). take offset content ++ (middle ++ drop (length bytes) (drop offset content))) is
      ∙ ap (λ (rest : List ℕ). take offset content ++ rest) (take-append-drop (length bytes) (drop offset content))
      ∙ take-append-drop offset content
