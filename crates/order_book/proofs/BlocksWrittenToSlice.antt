-- bytes of blocks that were written into a slice, block by block
use Rattle.std.proofs.Common.{◌≡◌, inl, inr, ◌≤◌, ◌<◌, ◌+◌, ◌*◌, ◌-◌, ◌∙◌, ap, sym, ℕ, List, Option, Some, None, length, get_or, arith, rules}
use Rattle.std.specs.Option.{unwrap_or}
use Rattle.std.proofs.lemmas.Bool.{cases_lt}
use Rattle.std.proofs.lemmas.List.{places}
use borrow.Rule.Slice.PartMut.{put_mid}
use Rattle.order_book.specs.Reading.{LiesIn}
use Rattle.order_book.specs.declared.span.Span.{Span}
use Rattle.shared_cache.specs.Cache.{CacheState, bytes_seen}

pub below : (xs ys : List ℕ) (a e p : ℕ) → p < a → a ≤ length xs → get_or (put_mid a (e - a) xs ys) p 0 ≡ get_or xs p 0
below xs ys a e p less inside = search (rules, places)

pub within : (xs ys : List ℕ) (a e k : ℕ) → a ≤ length xs → k < length ys → get_or (put_mid a (e - a) xs ys) (a + k) 0 ≡ get_or ys k 0
within xs ys a e k inside less = search (rules, places)

beyond : (xs ys : List ℕ) (a e p : ℕ) → a ≤ e → e ≤ length xs → length ys ≡ e - a → e ≤ p → get_or (put_mid a (e - a) xs ys) p 0 ≡ get_or xs p 0
beyond xs ys a e p order inside long more = search (rules, places)

pub size_kept : (xs ys : List ℕ) (a e : ℕ) → a ≤ e → e ≤ length xs → length ys ≡ e - a → length (put_mid a (e - a) xs ys) ≡ length xs
size_kept xs ys a e order inside long = search (rules, places)

pub some_same : (seen : Option (List ℕ)) (one other : List ℕ) → Some one ≡ seen → seen ≡ Some other → one ≡ other
some_same seen one other is also = ap (λ (o : Option (List ℕ)). unwrap_or o one) (is ∙ also)

pub some_there : (seen : Option (List ℕ)) (one : List ℕ) → Some one ≡ seen → seen ≡ None → ⊥
some_there seen one is also = cc

none_there : (seen : Option (List ℕ)) (one : List ℕ) → None ≡ seen → seen ≡ Some one → ⊥
none_there seen one is also = cc

-- Of the blocks up to one, what is in memory was put over bytes that were read of them, and each other lies in the span.
pub record ArePut (cache : CacheState) (first : ℕ) (span : Span) (old : List ℕ) (block : ℕ) (into : List ℕ) : Type 0 where
  pub size : length into ≡ length old
  pub rest : (k : ℕ) → 4096 * block ≤ k → get_or into k 0 ≡ get_or old k 0
  pub held : (j k : ℕ) (bytes : List ℕ) → j < block → k < 4096 → bytes_seen cache (first + j) ≡ Some bytes
      → get_or into (4096 * j + k) 0 ≡ get_or bytes k 0
  pub handed : (j k : ℕ) → j < block → k < 4096 → bytes_seen cache (first + j) ≡ None
      → get_or into (4096 * j + k) 0 ≡ get_or old (4096 * j + k) 0
  pub inside : (j : ℕ) → j < block → bytes_seen cache (first + j) ≡ None → LiesIn (first + j) span

module _ (cache : CacheState) (first : ℕ) (span : Span) (old into : List ℕ) (block : ℕ) (put : ArePut cache first span old block into) where
  -- a block more that is in memory
  pub put_cached_over : (bytes : List ℕ) → 4096 * block + 4096 ≤ length into → length bytes ≡ 4096 → Some bytes ≡ bytes_seen cache (first + block)
      → ArePut cache first span old (block + 1) (put_mid (4096 * block) (4096 * block + 4096 - 4096 * block) into bytes)
  put_cached_over bytes room long here = record {
    size = size_kept into bytes (4096 * block) (4096 * block + 4096) (omega arith) room (omega (arith, long)) ∙ put.size;
    rest = λ k more. beyond into bytes (4096 * block) (4096 * block + 4096) k (omega arith) room (omega (arith, long)) (omega (arith, more)) ∙ put.rest k (omega (arith, more));
    held = λ j k given less inside seen. elim (cases_lt j block) [
      | inl l ↦ below into bytes (4096 * block) (4096 * block + 4096) (4096 * j + k) (omega (arith, l, inside)) (omega (arith, room)) ∙ put.held j k given l inside seen
      | inr m ↦
          let at : block ≡ j = omega (arith, m, less) in
          ap (λ (n : ℕ). get_or (put_mid (4096 * block) (4096 * block + 4096 - 4096 * block) into bytes) (4096 * n + k) 0) (sym at)
          ∙ within into bytes (4096 * block) (4096 * block + 4096) k (omega (arith, room)) (omega (arith, inside, long))
          ∙ ap (λ (l : List ℕ). get_or l k 0) (some_same _ _ given here (ap (λ (n : ℕ). bytes_seen cache (first + n)) at ∙ seen))
    ];
    handed = λ j k less inside none. elim (cases_lt j block) [
      | inl l ↦ below into bytes (4096 * block) (4096 * block + 4096) (4096 * j + k) (omega (arith, l, inside)) (omega (arith, room)) ∙ put.handed j k l inside none
      | inr m ↦
          let at : block ≡ j = omega (arith, m, less) in
          absurd (some_there _ _ here (ap (λ (n : ℕ). bytes_seen cache (first + n)) at ∙ none))
    ];
    inside = λ j less none. elim (cases_lt j block) [
      | inl l ↦ put.inside j l none
      | inr m ↦
          let at : block ≡ j = omega (arith, m, less) in
          absurd (some_there _ _ here (ap (λ (n : ℕ). bytes_seen cache (first + n)) at ∙ none))
    ];
  }

  -- a block more that isn't, and lies in the span
  pub put_handed : None ≡ bytes_seen cache (first + block) → LiesIn (first + block) span → ArePut cache first span old (block + 1) into
  put_handed here lies = record {
    size = put.size;
    rest = λ k more. put.rest k (omega (arith, more));
    held = λ j k given less inside seen. elim (cases_lt j block) [
      | inl l ↦ put.held j k given l inside seen
      | inr m ↦
          let at : block ≡ j = omega (arith, m, less) in
          absurd (none_there _ given here (ap (λ (n : ℕ). bytes_seen cache (first + n)) at ∙ seen))
    ];
    handed = λ j k less inside none. elim (cases_lt j block) [
      | inl l ↦ put.handed j k l inside none
      | inr m ↦ put.rest (4096 * j + k) (omega (arith, m, less))
    ];
    inside = λ j less none. elim (cases_lt j block) [
      | inl l ↦ put.inside j l none
      | inr m ↦
          let at : block ≡ j = omega (arith, m, less) in
          (omega (arith, lies.0, at), omega (arith, lies.1, at))
    ];
  }
