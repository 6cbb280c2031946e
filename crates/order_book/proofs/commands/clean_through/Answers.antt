use Rattle.std.proofs.Common.{◌≡◌, ℕ, ◌<◌, ◌≤◌, ◌↔◌, ◌∙◌, sym, ap, arith, false, length, nat_lt}
use Rattle.std.specs.Bool.{IsTrue}
use Rattle.std.proofs.lemmas.Bool.{lt-ltb, ltb-true}
use Rattle.std.proofs.lemmas.Bool.Decides.{nat_tests}
use Rattle.shared_cache.specs.Cache.{CacheState}
use Rattle.order_book.specs.Cached.{cache_cleaned, dirty_of, frames_of}
use Rattle.order_book.proofs.Frames.{frames-cleaned, len-dirty, map-cleaned, none_cleaned}
use Rattle.order_book.proofs.CacheShowsImage.{shows_clean}
use Rattle.order_book.proofs.commands.clean_through.Goals as goal

not_less : (a b : ℕ) → nat_lt a b ≡ false → b ≤ a
not_less a b is = grind (arith, nat_tests, is)

is_not_less : (a b : ℕ) → b ≤ a → nat_lt a b ≡ false
is_not_less a b is = grind (arith, nat_tests, is)

unchanged : (old new : CacheState) (number : ℕ) → new ≡ cache_cleaned old number → length old.blocks.dirty ≤ length new.blocks.dirty → new ≡ old
unchanged old new number is long =
    let same = ap (λ (cache : CacheState). length cache.blocks.dirty) is in
    let none = none_cleaned number old.blocks (omega (arith, same, long)) in
    is ∙ (λ i. record { states = old.states; blocks = none i })

pub returns-clause-dirty : goal.returns-clause-dirty
returns-clause-dirty c = ap dirty_of c.clean_through.ensures.new ∙ map-cleaned c.args.number c.args.cache.now.blocks c.dirty_blocks-before.ensures.once

pub returns-clause-kept : goal.returns-clause-kept
returns-clause-kept c = ap frames_of c.clean_through.ensures.new ∙ frames-cleaned c.args.number c.args.cache.now.blocks

pub returns-clause-none : goal.returns-clause-none
returns-clause-none c = (
  λ is.
      let long = not_less _ _ is in
      let was = c.dirty_blocks-before.ensures.count in
      let now = c.dirty_blocks.ensures.count in
      unchanged c.args.cache.now c.clean_through.new.self c.args.number c.clean_through.ensures.new (omega (arith, long, was, now)),
  λ is.
      let same = ap (λ (cache : CacheState). length cache.blocks.dirty) is in
      let was = c.dirty_blocks-before.ensures.count in
      let now = c.dirty_blocks.ensures.count in
      is_not_less _ _ (omega (arith, same, was, now)),
)

fewer : (before after : ℕ) (was now : ℕ) → was ≡ before → now ≡ after → IsTrue (nat_lt now was) ↔ (after < before)
fewer before after was now was_is now_is = (
  λ is. let less = ltb-true now was is in omega (arith, less, was_is, now_is),
  λ less. lt-ltb now was (omega (arith, less, was_is, now_is)),
)

pub returns-clause-any : goal.returns-clause-any
returns-clause-any c =
    fewer _ _ c.dirty_blocks-before.result c.dirty_blocks.result
    (c.dirty_blocks-before.ensures.count ∙ sym (len-dirty c.args.cache.now.blocks c.dirty_blocks-before.ensures.once))
    (c.dirty_blocks.ensures.count ∙ sym (len-dirty c.clean_through.new.self.blocks c.dirty_blocks.ensures.once))

pub returns-clause-image : goal.returns-clause-image
returns-clause-image c = λ image known. shows_clean image c.args.number c.args.cache.now c.clean_through.new.self known c.clean_through.ensures.view
