-- what a request is answered is of its type
use Rattle.std.specs.Prelude.{◌&&◌, bit_and, not}
use Rattle.std.proofs.Common.{◌≡◌, ◌≢◌, ◌⊎◌, ◌∙◌, ◌+◌, ◌==◌, inl, inr, ℕ, Bool, false, true, if◌then◌else◌, List, [], ◌∷◌, Result, Ok, Err, ap, refl, sym, subst, arith}
use Rattle.std.proofs.lemmas.Bool.Decides.{nat_tests}
use Rattle.alloc_map.specs.Codes.{state_at}
use Rattle.device_image.specs.Keeper.{KeeperState}
use Rattle.disk_model.specs.Disk.{State}
use Rattle.image_model.specs.Image.{Image}
use Rattle.image_model.specs.declared.geometry.Geometry.{Geometry}
use Rattle.nbd_wire.specs.Reply.{IsAnswerTo}
use Rattle.nbd_wire.specs.Answer.{BytesRead}
use Rattle.nbd_wire.specs.Request.{Message}
use Rattle.nbd_wire.specs.declared.error.Errno.{Errno}
use Rattle.nbd_wire.specs.declared.error.Errno.TheVariants.{Invalid, Io, NoMemory, NoSpace}
use Rattle.nbd_wire.specs.declared.head.RequestHead.{RequestHead}
use Rattle.nbd_wire.specs.declared.message.Answer.{Answer}
use Rattle.nbd_wire.specs.declared.message.Answer.TheVariants.{Bytes, Done, Refused, States}
use Rattle.nbd_wire.specs.declared.message.Run.{Run}
use Rattle.nbd_wire.specs.declared.message.SessionFlags.{SessionFlags}
use Rattle.order_book.specs.Order.{OrderState}
use Rattle.request_core.specs.Outcomes.{IsPassed, IsServedBy, IsServedHere}
use Rattle.order_book.specs.Shown.{ShowsImage}
use Rattle.order_book.specs.declared.span.Span.{Span}
use Rattle.request_core.specs.Reading.{IsReadOverServed, IsStatusServed}
use Rattle.order_book.specs.Edits.{IsKnownBy}
use Rattle.request_core.specs.Serving.{IsWriteServed, ready_for, served_after}
use Rattle.request_core.specs.declared.serving.Served.{Served}
use Rattle.export_model.specs.Log.{flush_waits, is_flush, is_write, is_write_type, waits_for_store}
use Rattle.export_model.specs.Shown.{shown_by}
use Rattle.export_model.specs.Verdict.{allowed_flags, first_of_rules, is_known, range_verdict, verdict}
use Rattle.export_model.specs.declared.action.Action.{Action}
use Rattle.export_model.specs.declared.action.Action.TheVariants.{End, Serve}
use Rattle.export_model.specs.declared.step.Mode.{Mode}
use Rattle.export.specs.Submits.{IsJudged}
use Rattle.export.specs.inner.Submits.{FitsServed}

-- the sixth rule didn't apply where none of them is the fourth
sixth : (first second third fourth fifth last : Bool) (otherwise : Result Action Errno) → fourth ≡ false
    → first_of_rules ((first, Ok End) ∷ (second, Err Invalid) ∷ (third, Err Invalid) ∷ (fourth, Ok Serve) ∷ (fifth, Err Invalid) ∷ (last, Err Invalid) ∷ []) otherwise ≡ Ok Serve
    → last ≡ false
sixth first second third fourth fifth false otherwise none is = refl
sixth true second third fourth fifth true otherwise none is = cc
sixth false true third fourth fifth true otherwise none is = cc
sixth false false true fourth fifth true otherwise none is = cc
sixth false false false true fifth true otherwise none is = cc
sixth false false false false true true otherwise none is = cc
sixth false false false false false true otherwise none is = cc

agreed_on : (chunks context : Bool) (known : Bool) → known ≡ true → (known && not (chunks && context)) ≡ false → (chunks ≡ true) × (context ≡ true)
agreed_on true true known status is = (refl, refl)
agreed_on true false true status is = cc
agreed_on true false false status is = cc
agreed_on false context true status is = cc
agreed_on false context false status is = cc

-- what a BLOCK_STATUS that passes judgement shows of its session
pub agreed : (head : RequestHead) (geometry : Geometry) (flags : SessionFlags) → verdict head geometry flags ≡ Ok Serve → head.kind ≡ 7 → (flags.structured ≡ true) × (flags.context ≡ true)
agreed head geometry flags is kind =
    agreed_on flags.structured flags.context (head.kind == 7) (ap (λ (k : ℕ). k == 7) kind)
    (sixth (head.kind == 2) (not (is_known head.kind)) _ ((head.kind == 3) && (head.offset == 0) && (head.length == 0)) (head.kind == 3) ((head.kind == 7) && not (flags.structured && flags.context)) (range_verdict head geometry)
    (ap (λ (k : ℕ). (k == 3) && (head.offset == 0) && (head.length == 0)) kind) is)

-- of rules that let a request be served the first two didn't apply
first_two : (first second third fourth fifth last : Bool) (otherwise : Result Action Errno)
    → first_of_rules ((first, Ok End) ∷ (second, Err Invalid) ∷ (third, Err Invalid) ∷ (fourth, Ok Serve) ∷ (fifth, Err Invalid) ∷ (last, Err Invalid) ∷ []) otherwise ≡ Ok Serve
    → (first ≡ false) × (second ≡ false)
first_two false false third fourth fifth last otherwise is = (refl, refl)
first_two false true third fourth fifth last otherwise is = cc
first_two true second third fourth fifth last otherwise is = cc

type_left : (kind : ℕ) → (kind == 2) ≡ false → not (is_known kind) ≡ false → kind ≢ 0 → kind ≢ 7 → (kind == 3) ≡ false → is_write_type kind ≡ true
type_left kind end known reads tells flush = grind (arith, nat_tests)

-- a request that passes judgement and is no READ, BLOCK_STATUS or FLUSH is a write command
pub writes : (request : Message) (geometry : Geometry) (flags : SessionFlags) → verdict request.head geometry flags ≡ Ok Serve
    → request.head.kind ≢ 0 → request.head.kind ≢ 7 → is_flush request ≡ false → is_write request ≡ true
writes request geometry flags is =
    let two =
    first_two (request.head.kind == 2) (not (is_known request.head.kind)) (not (bit_and request.head.flags (allowed_flags request.head.kind flags.structured) == request.head.flags))
    ((request.head.kind == 3) && (request.head.offset == 0) && (request.head.length == 0)) (request.head.kind == 3) ((request.head.kind == 7) && not (flags.structured && flags.context))
    (range_verdict request.head geometry) is in
    type_left request.head.kind two.0 two.1

three_else : (kind : ℕ) → (kind == 3) ≡ true → (kind ≢ 0) × (kind ≢ 7)
three_else kind is = (λ same. absurd (apart (sym (ap (λ (k : ℕ). k == 3) same) ∙ is)), λ same. absurd (apart (sym (ap (λ (k : ℕ). k == 3) same) ∙ is)))
  where
    apart : false ≡ true → ⊥
    apart is = cc

-- a write command is none of the others
write_else : (kind : ℕ) → is_write_type kind ≡ true → ((kind == 3) ≡ false) × (kind ≢ 0) × (kind ≢ 7)
write_else kind write = (grind (arith, nat_tests), λ is. unlike 0 (λ same. cc) is, λ is. unlike 7 (λ same. cc) is)
  where
    unlike : (other : ℕ) → (is_write_type other ≡ true → ⊥) → kind ≡ other → ⊥
    unlike other apart is = apart (sym (ap is_write_type is) ∙ write)

-- a READ or a BLOCK_STATUS is no FLUSH
shows_three : (kind : ℕ) → (kind ≡ 0) ⊎ (kind ≡ 7) → (kind == 3) ≡ false
shows_three kind (inl is) = ap (λ (k : ℕ). k == 3) is
shows_three kind (inr is) = ap (λ (k : ℕ). k == 3) is

module _ (request : Message) (geometry : Geometry) (flags : SessionFlags) where
  -- an answer that the verdict allows
  answered : (cookie : ℕ) (answer : Answer) (result : Served) → IsAnswerTo flags request.head.kind answer → IsJudged (verdict request.head geometry flags) request answer
      → result ≡ ready_for cookie answer → FitsServed geometry flags request result
  answered cookie answer result fits judged is = subst (λ (r : Served). FitsServed geometry flags request r) (sym is) (fits, judged)

  refused : (cookie : ℕ) (errno : Errno) (result : Served) → IsJudged (verdict request.head geometry flags) request (Refused errno) → result ≡ ready_for cookie (Refused errno)
      → FitsServed geometry flags request result
  refused cookie errno result = answered cookie (Refused errno) result tt

  module _ (passes : verdict request.head geometry flags ≡ Ok Serve) where
    judged : (answer : Answer) → IsJudged (Ok Serve) request answer → IsJudged (verdict request.head geometry flags) request answer
    judged answer allowed = subst (λ (given : Result Action Errno). IsJudged given request answer) (sym passes) allowed

    failed : (cookie : ℕ) (result : Served) → result ≡ ready_for cookie (Refused Io) → FitsServed geometry flags request result
    failed cookie result = refused cookie Io result (judged (Refused Io) (inl refl))

    lacked : (cookie : ℕ) (result : Served) → is_flush request ≡ false → result ≡ ready_for cookie (Refused NoMemory) → FitsServed geometry flags request result
    lacked cookie result other = refused cookie NoMemory result (judged (Refused NoMemory) (inr (inl (other, refl))))

    numbered : (waits : Bool) (cookie number : ℕ) (result : Served) → request.head.kind ≢ 0 → request.head.kind ≢ 7 → result ≡ served_after waits cookie number
        → FitsServed geometry flags request result
    numbered true cookie number result reads tells is = subst (λ (r : Served). FitsServed geometry flags request r) (sym is) (record { passes = passes; reads_none = reads; tells_none = tells })
    numbered false cookie number result reads tells is = answered cookie Done result (reads, tells) (judged Done (inr (inr (inr (inl (reads, tells, refl)))))) is

    shown : (image : Image) (cookie : ℕ) (result : Served) → (request.head.kind ≡ 0) ⊎ ((request.head.kind ≡ 7) × (flags.structured ≡ true) × (flags.context ≡ true))
        → result ≡ ready_for cookie (shown_by image request.head) → FitsServed geometry flags request result
    shown image cookie result kind =
        answered cookie (shown_by image request.head) result (by (request.head.kind == 0) _ _ refl kind) (judged (shown_by image request.head) (inr (inr (inr (inr (shows kind, image, refl))))))
      where
        shows : (request.head.kind ≡ 0) ⊎ ((request.head.kind ≡ 7) × (flags.structured ≡ true) × (flags.context ≡ true)) → (request.head.kind ≡ 0) ⊎ (request.head.kind ≡ 7)
        shows (inl read) = inl read
        shows (inr status) = inr status.0

        zero_is : (request.head.kind == 0) ≡ true → request.head.kind ≡ 0
        zero_is is = grind (arith, nat_tests)

        not_zero : (request.head.kind == 0) ≡ false → request.head.kind ≡ 0 → ⊥
        not_zero is zero = grind (arith, nat_tests)

        by : (b : Bool) (read : BytesRead) (runs : List Run) → (request.head.kind == 0) ≡ b
            → (request.head.kind ≡ 0) ⊎ ((request.head.kind ≡ 7) × (flags.structured ≡ true) × (flags.context ≡ true))
            → IsAnswerTo flags request.head.kind (if b then Bytes read else States runs)
        by true read runs test kind = zero_is test
        by false read runs test (inl zero) = absurd (not_zero test zero)
        by false read runs test (inr kind) = kind

  module _ (kept : Mode) (old new : OrderState) (result : Served) where
    status_fits : verdict request.head geometry flags ≡ Ok Serve → request.head.kind ≡ 7 → IsStatusServed request.head old result → FitsServed geometry flags request result
    status_fits passes kind (inl none) = lacked passes request.head.cookie result (shows_three request.head.kind (inr kind)) none
    status_fits passes kind (inr image_shows) =
        let agreed = agreed request.head geometry flags passes kind in
        shown passes (record { blocks = 0; byte = λ place. 0; kind = state_at old.cache.states }) request.head.cookie result (inr (kind, agreed.0, agreed.1)) (image_shows _ (λ block. refl))

    write_fits : (own : Image → Type 0) → verdict request.head geometry flags ≡ Ok Serve → is_flush request ≡ false → request.head.kind ≢ 0 → request.head.kind ≢ 7 → IsWriteServed request geometry kept own old new result
        → FitsServed geometry flags request result
    write_fits own passes other reads tells (inl full) =
        refused request.head.cookie NoSpace result (judged passes (Refused NoSpace) (inr (inr (inl (other, reads, tells, refl))))) full.2
    write_fits own passes other reads tells (inr (left, image, inl room)) = subst (λ (r : Served). FitsServed geometry flags request r) (sym room.2) tt
    write_fits own passes other reads tells (inr (left, image, inr (inl none))) = lacked passes request.head.cookie result other none.2
    write_fits own passes other reads tells (inr (left, image, inr (inr (taken, same)))) =
        numbered passes (waits_for_store kept request) request.head.cookie (old.mark + 1) result reads tells same

    passed_fits : verdict request.head geometry flags ≡ Ok Serve → IsPassed request geometry kept old new result → FitsServed geometry flags request result
    passed_fits passes (inl stopped) = failed passes request.head.cookie result stopped.2
    passed_fits passes (inr (inl flush)) =
        let none = three_else request.head.kind flush.1 in
        numbered passes (flush_waits kept) request.head.cookie old.mark result none.0 none.1 flush.3
    passed_fits passes (inr (inr (inl status))) = status_fits passes status.1 status.3
    passed_fits passes (inr (inr (inr write))) = write_fits (λ image. ShowsImage image old.cache) passes write.1 write.2 write.3 write.4

    pub here_fits : (given : Result Action Errno) → verdict request.head geometry flags ≡ given → IsServedHere given request geometry kept old new result → FitsServed geometry flags request result
    here_fits (Ok End) is here = absurd here
    here_fits (Ok Serve) is (inl by) = passed_fits is by
    here_fits (Ok Serve) is (inr (works, kind, same, inl none)) = lacked is request.head.cookie result (shows_three request.head.kind (inl kind)) none
    here_fits (Ok Serve) is (inr (works, kind, same, inr read)) = shown is read.image request.head.cookie result (inl kind) read.answer
    here_fits (Err errno) is here = refused request.head.cookie errno result (subst (λ (given : Result Action Errno). IsJudged given request (Refused errno)) (sym is) refl) here.1

    pub with_fits : {D : Type 0} (state : D → State) (faults : D → ℕ) (honest : D → Type 0) (keeper left : KeeperState D) (given : Result Action Errno) → verdict request.head geometry flags ≡ given
        → IsServedBy state faults honest given request geometry kept old new keeper left result → FitsServed geometry flags request result
    with_fits state faults honest keeper left (Ok End) is by = absurd by
    with_fits state faults honest keeper left (Ok Serve) is (inl by) = passed_fits is by.1
    with_fits state faults honest keeper left (Ok Serve) is (inr (inl (works, kind, inl none))) = lacked is request.head.cookie result (shows_three request.head.kind (inl kind)) none.2
    with_fits state faults honest keeper left (Ok Serve) is (inr (inl (works, kind, inr (inl read)))) = shown is read.image request.head.cookie result (inl kind) read.answer
    with_fits state faults honest keeper left (Ok Serve) is (inr (inl (works, kind, inr (inr unread)))) = failed is request.head.cookie result unread.answer
    with_fits state faults honest keeper left (Ok Serve) is (inr (inr (works, write, inl edit))) =
        let others = write_else request.head.kind write in
        write_fits (IsKnownBy state honest keeper old) is others.0 others.1 others.2 edit.served
    with_fits state faults honest keeper left (Ok Serve) is (inr (inr (works, write, inr edit))) = failed is request.head.cookie result edit.unread.answer
    with_fits state faults honest keeper left (Err errno) is by = refused request.head.cookie errno result (subst (λ (given : Result Action Errno). IsJudged given request (Refused errno)) (sym is) refl) by.2

-- the same of a READ that was served with bytes read before
pub over_fits : (request : Message) (geometry : Geometry) (flags : SessionFlags) (span : Span) (bytes : List ℕ) (old new : OrderState) (result : Served)
    → verdict request.head geometry flags ≡ Ok Serve → request.head.kind ≡ 0 → IsReadOverServed request.head span bytes old new result → FitsServed geometry flags request result
over_fits request geometry flags span bytes old new result passes kind (inl none) =
    lacked request geometry flags passes request.head.cookie result (shows_three request.head.kind (inl kind)) none.1
over_fits request geometry flags span bytes old new result passes kind (inr read) = shown request geometry flags passes read.image request.head.cookie result (inl kind) read.answer
