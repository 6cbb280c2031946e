-- which request needs the device
use Rattle.std.proofs.Common.{◌≡◌, ◌⊎◌, inl, inr, ◌/◌, ℕ, nat_eq, true, ap, subst, sym, ◌∙◌}
use Rattle.nbd_wire.specs.declared.head.RequestHead.{RequestHead}
use Rattle.std.proofs.lemmas.Bool.{both_ways, eq-eqb}
use Rattle.image_model.specs.Edit.{blocks_met}
use Rattle.nbd_wire.specs.Request.{Message}
use Rattle.order_book.specs.Edits.{NeedsDevice}
use Rattle.order_book.specs.Order.{OrderState}
use Rattle.shared_cache.specs.Cache.{LacksBytes}
use Rattle.export_model.specs.Log.{edit_asked, is_write}
use Rattle.request_core.specs.laws.Requests.{write_others}

module _ (request : Message) (order : OrderState) where
  abbrev lacks : Type 0
  lacks = LacksBytes order.cache (request.head.offset / 4096) (blocks_met request.head.offset request.head.length)

  abbrev needs : Type 0
  needs = ((request.head.kind ≡ 0) × lacks) ⊎ ((is_write request ≡ true) × NeedsDevice order (edit_asked request))

  pub not_read : request.head.kind ≡ 0 → (lacks → ⊥) → needs → ⊥
  not_read kind held (inl read) = held read.1
  not_read kind held (inr edit) = both_ways (nat_eq request.head.kind 0) (write_others request.head.kind edit.0).1 (eq-eqb request.head.kind 0 kind)

  pub is_edit : (request.head.kind ≡ 0 → ⊥) → needs → is_write request ≡ true
  is_edit other (inl read) = absurd (other read.0)
  is_edit other (inr edit) = edit.0

  pub neither_3 : request.head.kind ≡ 3 → needs → ⊥
  neither_3 kind (inl read) = apart (sym read.0 ∙ kind)
    where
      apart : ◌≡◌ {A = ℕ} 0 3 → ⊥
      apart is = cc
  neither_3 kind (inr edit) = both_ways (nat_eq request.head.kind 3) (write_others request.head.kind edit.0).0 (eq-eqb request.head.kind 3 kind)

  pub neither_7 : request.head.kind ≡ 7 → needs → ⊥
  neither_7 kind (inl read) = apart (sym read.0 ∙ kind)
    where
      apart : ◌≡◌ {A = ℕ} 0 7 → ⊥
      apart is = cc
  neither_7 kind (inr edit) = both_ways (nat_eq request.head.kind 7) (write_others request.head.kind edit.0).2 (eq-eqb request.head.kind 7 kind)

  -- of the blocks that its bytes touch
  module _ (head : RequestHead) (first count : ℕ) (head_is : head ≡ request.head) (first_is : first ≡ head.offset / 4096) (count_is : count ≡ blocks_met head.offset head.length) where
    starts : first ≡ request.head.offset / 4096
    starts = first_is ∙ ap (λ (h : RequestHead). h.offset / 4096) head_is

    counts : count ≡ blocks_met request.head.offset request.head.length
    counts = count_is ∙ ap (λ (h : RequestHead). blocks_met h.offset h.length) head_is

    pub lacks_given : LacksBytes order.cache first count → lacks
    lacks_given given =
        subst (λ (n : ℕ). LacksBytes order.cache n (blocks_met request.head.offset request.head.length)) starts (subst (λ (n : ℕ). LacksBytes order.cache first n) counts given)

    pub lacks_blocks : lacks → LacksBytes order.cache first count
    lacks_blocks given =
        subst (λ (n : ℕ). LacksBytes order.cache first n) (sym counts) (subst (λ (n : ℕ). LacksBytes order.cache n (blocks_met request.head.offset request.head.length)) (sym starts) given)
