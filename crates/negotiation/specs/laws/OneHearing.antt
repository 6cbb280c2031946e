-- A stream has one hearing.
use Rattle.std.proofs.Common.{◌≡◌, ◌≢◌, ◌⊎◌, inl, inr, ℕ, ◌-◌, ◌+◌, ◌<◌, ◌≤◌, ◌^◌, Bool, true, false, cond, eqb, leb, List, [], ◌∷◌, ◌++◌, length, take, drop, refl, sym, ap, subst, ◌∙◌, append_assoc, length-append, arith}
use Rattle.std.specs.List.{list_any}
use Rattle.std.specs.Prelude.{not, ◌==◌, ◌||◌, bit_and}
use Rattle.std.proofs.lemmas.Bool.{cases_lt, cond-true, le-leb, lt-leb}
use Rattle.std.proofs.lemmas.List.{take-append-drop, take-append-le, take_at}
use Rattle.std.proofs.lemmas.List.Folds.{list_any-append}
use Rattle.nbd_wire.specs.Request.{Message}
use Rattle.nbd_wire.specs.Stream.{Begins, Kept, Reads, reading, starved}
use Rattle.negotiation.specs.declared.answer.Agreed.{Agreed}
use Rattle.nbd_wire.specs.laws.Streams.{first_requests_lem, one_reading_lem}
use Rattle.option_wire.specs.Handshake.{client_bits, client_flags_bytes}
use Rattle.option_wire.specs.Head.{option_head, option_magic}
use Rattle.option_wire.specs.declared.handshake.ClientFlags.{ClientFlags}
use Rattle.option_wire.specs.laws.Asked.{one_option_lem}
use Rattle.option_wire.specs.laws.Heads.{length-option_head, one_head, take-option_head}
use Rattle.option_wire.specs.laws.Texts.{number_32, same_front}
use Rattle.negotiation.specs.Answered.{Offer, Answered, IsAnswered, answer_of}
use Rattle.negotiation.specs.declared.answer.Next.{Next}
use Rattle.negotiation.specs.declared.answer.Next.TheVariants as behind
use Rattle.negotiation.specs.Dialog.{Asks, Follows, IsAccepted, IsFlagless, IsNegotiated, IsOver, IsTold, IsTurn, Leaves, LeavesFlags, Negotiates, OneHearing, Outcome, Standing, Turn, agreed_with, before_disc, broken, ended, exhausted, in_discard, in_flags, in_head, in_option, in_requests, is_disc, kept_limit, most_bytes, plain, read_limit, silent}
use Rattle.negotiation.specs.laws.Requests.{before_first-found}

-- ---- options

most_kept : (code : ℕ) → (kept_limit ≤ most_bytes code) × (most_bytes code ≤ read_limit)
most_kept code =
    elim (eqb code 1) as (λ b. (kept_limit ≤ cond b kept_limit read_limit) × (cond b kept_limit read_limit ≤ read_limit)) [
      | true ↦ (omega arith, omega arith)
      | false ↦ (omega arith, omega arith)
    ]

-- what is left of an option with this many bytes of data, of which these were sent
abbrev left_of : ℕ → ℕ → List ℕ → Standing
left_of code size sent = cond (leb size kept_limit) (in_option code size sent) (cond (leb size (most_bytes code)) (in_discard code (size - length sent)) broken)

-- a text that begins with no whole option, by its front
data Front : List ℕ → Standing → Type 0 where
  short : {text : List ℕ} {standing : Standing} → length text < 16 → standing ≡ in_head text → Front text standing
  foreign : {text : List ℕ} {standing : Standing} → 16 ≤ length text → take 8 text ≢ option_magic → standing ≡ broken → Front text standing
  begun : {text : List ℕ} {standing : Standing} (code size : ℕ) (sent : List ℕ) → code < 2 ^ 32 → size < 2 ^ 32 → text ≡ option_head code size ++ sent
      → (most_bytes code < size) ⊎ (length sent < size) → standing ≡ left_of code size sent → Front text standing

front_of : (text : List ℕ) (standing : Standing) → Leaves standing text → Front text standing
front_of text silent p = absurd p
front_of text (in_flags bytes) p = absurd p
front_of text (in_head bytes) p = short (rw p.1 p.0) (ap in_head (sym p.1))
front_of text (in_option code size bytes) p =
    begun code size bytes p.0 (omega (arith, p.1)) p.3 (inr p.2) (sym (cond-true (leb size kept_limit) (in_option code size bytes) _ (le-leb _ _ p.1)))
front_of text (in_discard code missing) (sent, fits, some, long, within, same) =
    let size = length sent + missing in
    let most = most_kept code in
    let above : leb size kept_limit ≡ false = lt-leb size kept_limit long in
    let below = le-leb size (most_bytes code) within in
    let rest : size - length sent ≡ missing = omega arith in
    begun code size sent fits (omega (arith, most.1, within)) same (inr (omega (arith, some))) (rw (above, below, rest) refl)
front_of text (in_requests reader) p = absurd p
front_of text ended p = absurd p
front_of text broken (inl p) = foreign p.0 p.1 refl
front_of text broken (inr (code, size, more, fits, size_fits, long, same)) =
    let above : leb size kept_limit ≡ false = lt-leb size kept_limit (omega (arith, (most_kept code).0, long)) in
    let beyond : leb size (most_bytes code) ≡ false = lt-leb size (most_bytes code) long in
    begun code size more fits size_fits same (inl long) (rw (above, beyond) refl)
front_of text exhausted p = absurd p

head_is_long : (text : List ℕ) (code size : ℕ) (sent : List ℕ) → text ≡ option_head code size ++ sent → 16 ≤ length text
head_is_long text code size sent same = omega (arith, ap length same, length-append (option_head code size) sent, length-option_head code size)

head_has_magic : (text : List ℕ) (code size : ℕ) (sent : List ℕ) → text ≡ option_head code size ++ sent → take 8 text ≡ option_magic
head_has_magic text code size sent same = ap (take 8) same ∙ take-option_head code size sent

one_front : (text : List ℕ) (standing other : Standing) → Front text standing → Front text other → standing ≡ other
one_front text standing other (short p e) (short q f) = e ∙ sym f
one_front text standing other (short p e) (foreign q _ f) = absurd (omega arith)
one_front text standing other (short p e) (begun code size sent _ _ same _ f) = absurd (omega (arith, head_is_long text code size sent same))
one_front text standing other (foreign p _ e) (short q f) = absurd (omega arith)
one_front text standing other (foreign p m e) (foreign q n f) = e ∙ sym f
one_front text standing other (foreign p m e) (begun code size sent _ _ same _ f) = absurd (m (head_has_magic text code size sent same))
one_front text standing other (begun code size sent _ _ same _ e) (short q f) = absurd (omega (arith, head_is_long text code size sent same))
one_front text standing other (begun code size sent _ _ same _ e) (foreign q m f) = absurd (m (head_has_magic text code size sent same))
one_front text standing other (begun code size sent fits size_fits same _ e) (begun code' size' sent' fits' size_fits' same' _ f) =
    let all = one_head code code' size size' sent sent' fits fits' size_fits size_fits' (sym same ∙ same') in
    let lefts : left_of code size sent ≡ left_of code' size' sent' = λ i. left_of (all.0 i) (all.1 i) (all.2 i) in
    e ∙ lefts ∙ sym f

-- what an option's text begins with
turn_parts : (content rest text stream : List ℕ) (code : ℕ) → text ≡ option_head code (length content) ++ content → stream ≡ text ++ rest → stream ≡ option_head code (length content) ++ (content ++ rest)
turn_parts content rest text stream code whole same =
    same ∙ ap (λ (t : List ℕ). t ++ rest) whole ∙ append_assoc (option_head code (length content)) content rest

-- no option stands where none is whole
front_is_no_turn : (agreed : Agreed) (offer : Offer) (stream text rest : List ℕ) (turn : Turn) (standing : Standing) → Front stream standing → IsTurn agreed offer text turn → stream ≡ text ++ rest → ⊥
front_is_no_turn agreed offer stream text rest turn standing (short p _) is same =
    omega (arith, p, head_is_long stream turn.code (length is.content) (is.content ++ rest) (turn_parts is.content rest text stream turn.code is.whole same))
front_is_no_turn agreed offer stream text rest turn standing (foreign _ m _) is same =
    m (head_has_magic stream turn.code (length is.content) (is.content ++ rest) (turn_parts is.content rest text stream turn.code is.whole same))
front_is_no_turn agreed offer stream text rest turn standing (begun code count sent fits count_fits begins more _) is same =
    let all = one_head code turn.code count (length is.content) sent (is.content ++ rest) fits is.code_fits count_fits
    (omega (arith, is.bound, (most_kept turn.code).1)) (sym begins ∙ turn_parts is.content rest text stream turn.code is.whole same) in
    elim more [
      | inl long ↦ omega (arith, long, ap most_bytes all.0, all.1, is.bound)
      | inr less ↦ omega (arith, less, all.1, ap length all.2, length-append is.content rest)
    ]

one_answer : (agreed : Agreed) (offer : Offer) (code : ℕ) (content : List ℕ) (answer other : Answered) → IsAnswered agreed offer code content answer → IsAnswered agreed offer code content other → answer ≡ other
one_answer agreed offer code content answer other (inl (option, is, same)) (inl (option', is', same')) =
    same ∙ ap (answer_of agreed offer) (one_option_lem code content option option' is is') ∙ sym same'
one_answer agreed offer code content answer other (inl (option, is, same)) (inr (none, same')) = absurd (none option is)
one_answer agreed offer code content answer other (inr (none, same)) (inl (option, is, same')) = absurd (none option is)
one_answer agreed offer code content answer other (inr (none, same)) (inr (none', same')) = same ∙ sym same'

one_telling : (agreed : Agreed) (offer : Offer) (code : ℕ) (content : List ℕ) (answer other : Answered) → IsTold agreed offer code content answer → IsTold agreed offer code content other → answer ≡ other
one_telling agreed offer code content answer other (inl p) (inl q) = one_answer agreed offer code content answer other p.1 q.1
one_telling agreed offer code content answer other (inl p) (inr q) = absurd (omega (arith, p.0, q.0))
one_telling agreed offer code content answer other (inr p) (inl q) = absurd (omega (arith, p.0, q.0))
one_telling agreed offer code content answer other (inr p) (inr q) = p.1 ∙ sym q.1

one_turn : (agreed : Agreed) (offer : Offer) (stream text other_text rest other_rest : List ℕ) (turn other : Turn) → IsTurn agreed offer text turn → IsTurn agreed offer other_text other → stream ≡ text ++ rest → stream ≡ other_text ++ other_rest
    → (turn ≡ other) × (rest ≡ other_rest)
one_turn agreed offer stream text other_text rest other_rest turn other p q same other_same =
    let all = one_head turn.code other.code (length p.content) (length q.content) (p.content ++ rest) (q.content ++ other_rest) p.code_fits q.code_fits
    (omega (arith, p.bound, (most_kept turn.code).1)) (omega (arith, q.bound, (most_kept other.code).1))
    (sym (turn_parts p.content rest text stream turn.code p.whole same) ∙ turn_parts q.content other_rest other_text stream other.code q.whole other_same) in
    let both = same_front p.content q.content rest other_rest all.1 all.2 in
    let told = subst (λ (c : List ℕ). IsTold agreed offer other.code c turn.answer) both.0 (subst (λ (n : ℕ). IsTold agreed offer n p.content turn.answer) all.0 p.told) in
    let answers = one_telling agreed offer other.code q.content turn.answer other.answer told q.told in
    (λ i. record { code = all.0 i; answer = answers i }, both.1)

-- ---- requests

-- what was handed out of a stream, by where it ends
data Asking : List ℕ → List Message → Standing → Type 0 where
  going : {stream : List ℕ} {requests : List Message} {standing : Standing} (kept : Kept) → Reads stream requests kept → list_any is_disc requests ≡ false → standing ≡ in_requests (reading kept) → Asking stream requests standing
  over : {stream : List ℕ} {requests : List Message} {standing : Standing} (all : List Message) → Begins stream all → list_any is_disc all ≡ true → requests ≡ before_disc all → standing ≡ ended → Asking stream requests standing

asking_of : (stream : List ℕ) (requests : List Message) (standing : Standing) → Asks stream requests standing → Asking stream requests standing
asking_of stream requests silent p = absurd p
asking_of stream requests (in_flags bytes) p = absurd p
asking_of stream requests (in_head bytes) p = absurd p
asking_of stream requests (in_option code size bytes) p = absurd p
asking_of stream requests (in_discard code missing) p = absurd p
asking_of stream requests (in_requests (reading kept)) p = going kept p.0 p.1 refl
asking_of stream requests (in_requests starved) p = absurd p
asking_of stream requests ended p = over p.0 p.1 p.2 p.3 refl
asking_of stream requests broken p = absurd p
asking_of stream requests exhausted p = absurd p

any_more : (all more requests : List Message) → requests ≡ all ++ more → list_any is_disc all ≡ true → list_any is_disc requests ≡ true
any_more all more requests parts some =
    ap (list_any is_disc) parts ∙ list_any-append is_disc all more ∙ ap (λ (b : Bool). b || list_any is_disc more) some

-- a stream that begins with a DISC has no reading without one
disc_is_read : (stream : List ℕ) (all requests : List Message) (kept : Kept) → Begins stream all → list_any is_disc all ≡ true → Reads stream requests kept → list_any is_disc requests ≡ false → ⊥
disc_is_read stream all requests kept begins some reads none =
    let more = first_requests_lem stream all requests kept begins reads in
    let no : false ≡ true = sym none ∙ any_more all more.0 requests more.1 some in
    cc no

longer_front : (a b x y : List ℕ) → a ++ x ≡ b ++ y → length a ≤ length b → b ≡ a ++ drop (length a) b
longer_front a b x y same le =
    let front : take (length a) b ≡ a = sym (take-append-le (length a) b y le) ∙ ap (take (length a)) (sym same) ∙ take_at a x (length a) refl in
    sym (take-append-drop (length a) b) ∙ ap (λ (t : List ℕ). t ++ drop (length a) b) front

-- the longer of two first parts of a stream has the requests of the shorter
shorter_disc : (stream : List ℕ) (all others : List Message) (p : Begins stream all) (q : Begins stream others) → list_any is_disc all ≡ true → length p.first ≤ length q.first → before_disc all ≡ before_disc others
shorter_disc stream all others p q some le =
    let parts = longer_front p.first q.first p.rest q.rest (sym p.parts ∙ q.parts) le in
    let begins : Begins q.first all = record { first = p.first; rest = drop (length p.first) q.first; kept = p.kept; parts = parts; reads = p.reads } in
    let more = first_requests_lem q.first all others q.kept begins q.reads in
    sym (ap before_disc more.1 ∙ before_first-found is_disc all more.0 some)

one_asking : (stream : List ℕ) (requests others : List Message) (standing other : Standing) → Asking stream requests standing → Asking stream others other → (requests ≡ others) × (standing ≡ other)
one_asking stream requests others standing other (going kept reads none is) (going kept' reads' none' is') =
    let both = one_reading_lem stream requests others kept kept' reads reads' in
    (both.0, is ∙ ap (λ (k : Kept). in_requests (reading k)) both.1 ∙ sym is')
one_asking stream requests others standing other (going kept reads none is) (over all begins some before is') = absurd (disc_is_read stream all requests kept begins some reads none)
one_asking stream requests others standing other (over all begins some before is) (going kept reads none is') = absurd (disc_is_read stream all others kept begins some reads none)
one_asking stream requests others standing other (over all begins some before is) (over all' begins' some' before' is') =
    let same : before_disc all ≡ before_disc all' = elim (cases_lt (length begins'.first) (length begins.first)) [
      | inl lt ↦ sym (shorter_disc stream all' all begins' begins some' (omega (arith, lt)))
      | inr le ↦ shorter_disc stream all all' begins begins' some le
    ] in
    (before ∙ same ∙ sym before', is ∙ sym is')

-- ---- the handshake

abbrev IsOne : List Turn → List Turn → Outcome → Outcome → Type 0
IsOne turns others outcome other = (turns ≡ others) × (outcome ≡ other)

one_over : (agreed : Agreed) (turns others : List Turn) (outcome other : Outcome) (standing : Standing) → (turns ≡ []) × IsOver agreed outcome standing → (others ≡ []) × IsOver agreed other standing → IsOne turns others outcome other
one_over agreed turns others outcome other standing (none, p) (none', q) =
    let requests = p.0 ∙ sym q.0 in
    let agreed = p.1 ∙ sym q.1 in
    let standings = p.2 ∙ sym q.2 in
    (none ∙ sym none', λ i. record { requests = requests i; agreed = agreed i; standing = standings i })

one_follow : (next : Next) (agreed : Agreed) (rest : List ℕ) (turns others : List Turn) (outcome other : Outcome) (P Q : Type 0) → (P → Q → IsOne turns others outcome other)
    → Follows next agreed rest turns outcome P → Follows next agreed rest others other Q → IsOne turns others outcome other
one_follow behind.Option agreed rest turns others outcome other P Q on p q = on p q
one_follow behind.Transmission agreed rest turns others outcome other P Q on p q =
    let asks = one_asking rest outcome.requests other.requests outcome.standing other.standing (asking_of rest outcome.requests outcome.standing p.2) (asking_of rest other.requests other.standing q.2) in
    let agreed = p.1 ∙ sym q.1 in
    (p.0 ∙ sym q.0, λ i. record { requests = asks.0 i; agreed = agreed i; standing = asks.1 i })
one_follow behind.End agreed rest turns others outcome other P Q on p q = one_over agreed turns others outcome other ended p q
one_follow behind.Fault agreed rest turns others outcome other P Q on p q = one_over agreed turns others outcome other broken p q

one_negotiation : (offer : Offer) (agreed : Agreed) (stream : List ℕ) (turns others : List Turn) (outcome other : Outcome) → Negotiates offer agreed stream turns outcome → Negotiates offer agreed stream others other → IsOne turns others outcome other
one_negotiation offer agreed stream [] [] outcome other p q =
    let requests = p.0 ∙ sym q.0 in
    let agreed = p.1 ∙ sym q.1 in
    let standings = one_front stream outcome.standing other.standing (front_of stream outcome.standing p.2) (front_of stream other.standing q.2) in
    (refl, λ i. record { requests = requests i; agreed = agreed i; standing = standings i })
one_negotiation offer agreed stream [] (turn ∷ others) outcome other p q = absurd (front_is_no_turn agreed offer stream q.0 q.1 turn outcome.standing (front_of stream outcome.standing p.2) q.2 q.3)
one_negotiation offer agreed stream (turn ∷ turns) [] outcome other p q = absurd (front_is_no_turn agreed offer stream p.0 p.1 turn other.standing (front_of stream other.standing q.2) p.2 p.3)
one_negotiation offer agreed stream (turn ∷ turns) (turn' ∷ others) outcome other p q =
    let first = one_turn agreed offer stream p.0 q.0 p.1 q.1 turn turn' p.2 q.2 p.3 q.3 in
    let follows = subst (λ (t : Turn). Follows t.answer.next t.answer.agreed p.1 others other (Negotiates offer t.answer.agreed p.1 others other)) (sym first.0)
    (subst (λ (r : List ℕ). Follows turn'.answer.next turn'.answer.agreed r others other (Negotiates offer turn'.answer.agreed r others other)) (sym first.1) q.4) in
    let more = one_follow turn.answer.next turn.answer.agreed p.1 turns others outcome other (Negotiates offer turn.answer.agreed p.1 turns outcome) (Negotiates offer turn.answer.agreed p.1 others other)
    (one_negotiation offer turn.answer.agreed p.1 turns others outcome other) p.4 follows in
    ((λ i. first.0 i ∷ more.0 i), more.1)

-- ---- the client's flags

accepted_fits : (client : ClientFlags) → IsAccepted client → client_bits client < 2 ^ 32
accepted_fits client (inl is) = omega (arith, is)
accepted_fits client (inr is) = omega (arith, is)

accepted_as : (client other : ClientFlags) → client_bits client ≡ client_bits other → IsAccepted client → IsAccepted other
accepted_as client other same (inl is) = inl (sym same ∙ is)
accepted_as client other same (inr is) = inr (sym same ∙ is)

flags_are_long : (stream rest : List ℕ) (client : ClientFlags) → stream ≡ client_flags_bytes client ++ rest → 4 ≤ length stream
flags_are_long stream rest client same = omega (arith, ap length same, length-append (client_flags_bytes client) rest)

-- flags with which a session goes on are no others
accepted_only : (stream : List ℕ) (turns : List Turn) (outcome : Outcome) (offer : Offer) (others : List Turn) (other : Outcome) → IsFlagless stream turns outcome → IsNegotiated offer stream others other → ⊥
accepted_only stream turns outcome offer others other p q =
    elim outcome.standing as (λ s. LeavesFlags s stream → ⊥) [
      | silent ↦ λ l. omega (arith, ap length l, flags_are_long stream q.rest q.client q.whole)
      | in_flags bytes ↦ λ l. omega (arith, l.0, ap length l.1, flags_are_long stream q.rest q.client q.whole)
      | in_head bytes ↦ λ l. l
      | in_option code count bytes ↦ λ l. l
      | in_discard code missing ↦ λ l. l
      | in_requests reader ↦ λ l. l
      | ended ↦ λ l. l
      | broken ↦ λ l.
          let (client, more, fits, refused, same) = l in
          let bits = number_32 (client_bits q.client) (client_bits client) q.rest more (accepted_fits q.client q.accepted) fits (sym q.whole ∙ same) in
          refused (accepted_as q.client client bits.0 q.accepted)
      | exhausted ↦ λ l. l
    ] p.leaves

-- where a text stands that has no flags with which a session goes on, by its length
data Flagless : List ℕ → Standing → Type 0 where
  none : {text : List ℕ} {standing : Standing} → text ≡ [] → Flagless text standing
  part : {text : List ℕ} {standing : Standing} → length text < 4 → standing ≡ in_flags text → Flagless text standing
  refused : {text : List ℕ} {standing : Standing} → 4 ≤ length text → standing ≡ broken → Flagless text standing

flagless_of : (text : List ℕ) (standing : Standing) → LeavesFlags standing text → Flagless text standing
flagless_of text silent p = none p
flagless_of text (in_flags bytes) p = part (omega (arith, p.0, ap length p.1)) (ap in_flags (sym p.1))
flagless_of text (in_head bytes) p = absurd p
flagless_of text (in_option code size bytes) p = absurd p
flagless_of text (in_discard code missing) p = absurd p
flagless_of text (in_requests reader) p = absurd p
flagless_of text ended p = absurd p
flagless_of text broken (client, more, fits, not, same) = refused (flags_are_long text more client same) refl
flagless_of text exhausted p = absurd p

one_flagless : (text : List ℕ) (standing other : Standing) → text ≢ [] → Flagless text standing → Flagless text other → standing ≡ other
one_flagless text standing other some (none empty) q = absurd (some empty)
one_flagless text standing other some p (none empty) = absurd (some empty)
one_flagless text standing other some (part lt is) (part lt' is') = is ∙ sym is'
one_flagless text standing other some (part lt is) (refused le is') = absurd (omega (arith, lt, le))
one_flagless text standing other some (refused le is) (part lt is') = absurd (omega (arith, lt, le))
one_flagless text standing other some (refused le is) (refused le' is') = is ∙ sym is'

-- the same flags agree on the same
same_agreement : (client other : ClientFlags) (agreed : Agreed) → client_bits client ≡ client_bits other → agreed_with client agreed ≡ agreed_with other agreed
same_agreement client other agreed same = λ i. record { flags = agreed.flags; no_zeroes = not (bit_and (same i) 2 == 0) }

pub one_hearing_lem : OneHearing
one_hearing_lem offer stream turns others outcome other (inl p) (inl q) = (
  p.none ∙ sym q.none,
  p.requests ∙ sym q.requests,
  p.agreed ∙ sym q.agreed,
  λ some. one_flagless stream outcome.standing other.standing some (flagless_of stream outcome.standing p.leaves) (flagless_of stream other.standing q.leaves),
)
one_hearing_lem offer stream turns others outcome other (inl p) (inr q) = absurd (accepted_only stream turns outcome offer others other p q)
one_hearing_lem offer stream turns others outcome other (inr p) (inl q) = absurd (accepted_only stream others other offer turns outcome q p)
one_hearing_lem offer stream turns others outcome other (inr p) (inr q) =
    let bits = number_32 (client_bits p.client) (client_bits q.client) p.rest q.rest (accepted_fits p.client p.accepted) (accepted_fits q.client q.accepted) (sym p.whole ∙ q.whole) in
    let agreed = agreed_with p.client plain in
    let same = subst (λ (a : Agreed). Negotiates offer a q.rest others other) (sym (same_agreement p.client q.client plain bits.0)) q.negotiates in
    let one = one_negotiation offer agreed p.rest turns others outcome other p.negotiates (subst (λ (r : List ℕ). Negotiates offer agreed r others other) (sym bits.1) same) in
    (one.0, ap (λ (o : Outcome). o.requests) one.1, ap (λ (o : Outcome). o.agreed) one.1, λ some. ap (λ (o : Outcome). o.standing) one.1)
