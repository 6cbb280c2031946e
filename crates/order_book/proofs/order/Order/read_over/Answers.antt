use Rattle.std.proofs.Common.{◌≡◌, ◌<◌, ◌+◌, ◌*◌, inl, refl, subst, ℕ, IsTrue, true, List, length, get_or, None, Some}
use Rattle.std.proofs.lemmas.Bool.{true≢false}
use Rattle.order_book.specs.Order.{OrderState}
use Rattle.order_book.specs.Reading.{GivesBase, IsCleanAt, LiesIn, ShowsRead}
use Rattle.order_book.specs.Shown.{ShowsImage}
use Rattle.order_book.specs.State.{state_of}
use Rattle.order_book.proofs.ReadsShowImage.{bytes_over, shows_read}
use Rattle.order_book.proofs.OrderKeepsRest.{order_read, read_new}
use Rattle.shared_cache.specs.Cache.{bytes_seen}
use Rattle.order_book.proofs.order.Order.read_over.Goals as goal

pub returns-then-span-le-MOST_KEPT : goal.returns-then-span-le-MOST_KEPT
returns-then-span-le-MOST_KEPT g c = record {
  new = read_new c.self.inside.cache c.keep_blocks-kept.new.cache c.args.first c.put_cached_over.new.into (state_of c.self.inside) c.args.self.now refl refl c.keep_blocks-kept.ensures.view c.self.view_is;
  size = c.if-not-put_cached_over.ensures.size;
  done = subst (λ (o : OrderState). IsTrue true → (j : ℕ) → 4096 * j < length c.args.into.now → bytes_seen o.cache (c.args.first + j) ≡ None → LiesIn (c.args.first + j) c.args.span) c.self.view_is c.if-not-put_cached_over.ensures.done;
  undone = λ undone. absurd (true≢false undone);
  in_memory =
      subst (λ (o : OrderState). IsTrue true → (j k : ℕ) (bytes : List ℕ) → 4096 * j < length c.put_cached_over.new.into → k < 4096 → bytes_seen o.cache (c.args.first + j) ≡ Some bytes
      → get_or c.put_cached_over.new.into (4096 * j + k) 0 ≡ get_or bytes k 0) c.self.view_is c.if-not-put_cached_over.ensures.in_memory;
  handed =
      subst (λ (o : OrderState). IsTrue true → (j k : ℕ) → 4096 * j < length c.put_cached_over.new.into → k < 4096 → bytes_seen o.cache (c.args.first + j) ≡ None
      → get_or c.put_cached_over.new.into (4096 * j + k) 0 ≡ get_or c.args.into.now (4096 * j + k) 0) c.self.view_is c.if-not-put_cached_over.ensures.handed;
  view = λ done. subst (λ (o : OrderState). ShowsRead c.args.first c.put_cached_over.new.into o.cache c.keep_blocks-kept.new.cache) c.self.view_is c.keep_blocks-kept.ensures.view;
  image = λ base image front.
      let put = c.if-not-put_cached_over.ensures in
      subst (λ (order : OrderState). GivesBase c.args.first c.args.into.now order.cache base front → ShowsImage image order.cache → IsCleanAt base front image order.dirty
      → IsTrue true → (j k : ℕ) → 4096 * j < length c.put_cached_over.new.into → k < 4096 → get_or c.put_cached_over.new.into (4096 * j + k) 0 ≡ image.byte (4096 * (c.args.first + j) + k))
      c.self.view_is
      (λ gives shows clean done. bytes_over base image front c.self.inside.cache c.args.first c.args.into.now c.put_cached_over.new.into put.size gives shows clean (put.in_memory done) (put.handed done));
  shown = λ base image front.
      let put = c.if-not-put_cached_over.ensures in
      subst (λ (order : OrderState). GivesBase c.args.first c.args.into.now order.cache base front → ShowsImage image order.cache → IsCleanAt base front image order.dirty
      → IsTrue true → ShowsImage image c.keep_blocks-kept.new.cache)
      c.self.view_is
      (λ gives shows clean done. shows_read image c.args.first c.put_cached_over.new.into c.self.inside.cache c.keep_blocks-kept.new.cache shows c.keep_blocks-kept.ensures.view
      (bytes_over base image front c.self.inside.cache c.args.first c.args.into.now c.put_cached_over.new.into put.size gives shows clean (put.in_memory done) (put.handed done)));
}

pub returns-else-span-le-MOST_KEPT : goal.returns-else-span-le-MOST_KEPT
returns-else-span-le-MOST_KEPT g c = record {
  new = refl;
  size = c.if-not-put_cached_over.ensures.size;
  done = subst (λ (o : OrderState). IsTrue true → (j : ℕ) → 4096 * j < length c.args.into.now → bytes_seen o.cache (c.args.first + j) ≡ None → LiesIn (c.args.first + j) c.args.span) c.self.view_is c.if-not-put_cached_over.ensures.done;
  undone = λ undone. absurd (true≢false undone);
  in_memory =
      subst (λ (o : OrderState). IsTrue true → (j k : ℕ) (bytes : List ℕ) → 4096 * j < length c.put_cached_over.new.into → k < 4096 → bytes_seen o.cache (c.args.first + j) ≡ Some bytes
      → get_or c.put_cached_over.new.into (4096 * j + k) 0 ≡ get_or bytes k 0) c.self.view_is c.if-not-put_cached_over.ensures.in_memory;
  handed =
      subst (λ (o : OrderState). IsTrue true → (j k : ℕ) → 4096 * j < length c.put_cached_over.new.into → k < 4096 → bytes_seen o.cache (c.args.first + j) ≡ None
      → get_or c.put_cached_over.new.into (4096 * j + k) 0 ≡ get_or c.args.into.now (4096 * j + k) 0) c.self.view_is c.if-not-put_cached_over.ensures.handed;
  view = λ done. record { states = refl; dirty = refl; frames = refl; each = λ block. inl refl };
  image = λ base image front.
      let put = c.if-not-put_cached_over.ensures in
      subst (λ (order : OrderState). GivesBase c.args.first c.args.into.now order.cache base front → ShowsImage image order.cache → IsCleanAt base front image order.dirty
      → IsTrue true → (j k : ℕ) → 4096 * j < length c.put_cached_over.new.into → k < 4096 → get_or c.put_cached_over.new.into (4096 * j + k) 0 ≡ image.byte (4096 * (c.args.first + j) + k))
      c.self.view_is
      (λ gives shows clean done. bytes_over base image front c.self.inside.cache c.args.first c.args.into.now c.put_cached_over.new.into put.size gives shows clean (put.in_memory done) (put.handed done));
  shown = λ base image front gives shows clean done. shows;
}

pub invariant_of-self : goal.invariant_of-self
invariant_of-self g c = order_read (state_of c.self.inside) _ _ _ c.keep_blocks-kept.new.cache _ _ c.self.invariant c.keep_blocks-kept.ensures.view.dirty
