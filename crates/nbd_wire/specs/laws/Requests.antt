-- When bytes are a request, and that they are one request only.
use Rattle.std.proofs.Common.{◌≡◌, ◌≢◌, ℕ, ◌<◌, ◌≤◌, true, false, eqb, leb, List, [], ◌++◌, length, take, drop, refl, sym, ap, ◌∙◌, append_assoc, arith}
use Rattle.std.proofs.lemmas.Bool.{eq-eqb, ne_eqb, le-leb, lt-leb, cond-true, cond-false}
use Rattle.std.proofs.lemmas.List.{take_at, drop_at, append-nil}
use Rattle.nbd_wire.specs.declared.head.RequestHead.{RequestHead}
use Rattle.nbd_wire.specs.Head.{head_bytes, IsHead}
use Rattle.nbd_wire.specs.Request.{write_type, payload_limit, stream_limit, Message, data_len, handed_on, IsRequest}
use Rattle.nbd_wire.specs.laws.Heads.{one_head_lem}

pub same_front : (a b x y : List ℕ) → length a ≡ length b → a ++ x ≡ b ++ y → (a ≡ b) × (x ≡ y)
same_front a b x y len same = (
  sym (take_at a x (length b) len) ∙ ap (take (length b)) same ∙ take_at b y (length b) refl,
  sym (drop_at a x (length b) len) ∙ ap (drop (length b)) same ∙ drop_at b y (length b) refl,
)

pub one_request_lem : (text other_text x y : List ℕ) (request other : Message) → IsRequest text request → IsRequest other_text other
    → text ++ x ≡ other_text ++ y → (text ≡ other_text) × (request ≡ other)
one_request_lem text other_text x y request other p q same =
    let whole : head_bytes request.head ++ (p.sent ++ x) ≡ head_bytes other.head ++ (q.sent ++ y) =
    sym (append_assoc (head_bytes request.head) p.sent x) ∙ ap (λ (t : List ℕ). t ++ x) (sym p.whole) ∙ same
    ∙ ap (λ (t : List ℕ). t ++ y) q.whole ∙ append_assoc (head_bytes other.head) q.sent y in
    let heads = one_head_lem request.head other.head (p.sent ++ x) (q.sent ++ y) p.fits q.fits whole in
    let sents = same_front p.sent q.sent x y (p.len ∙ ap data_len heads.0 ∙ sym q.len) heads.1 in
    let handed : request.bytes ≡ other.bytes = p.handed ∙ ap handed_on sents.0 ∙ sym q.handed in
    let texts : head_bytes request.head ++ p.sent ≡ head_bytes other.head ++ q.sent = λ i. head_bytes (heads.0 i) ++ sents.0 i in
    (p.whole ∙ texts ∙ sym q.whole, λ i. record { head = heads.0 i; bytes = handed i })

pub data_len_write : (head : RequestHead) → head.kind ≡ write_type → data_len head ≡ head.length
data_len_write head write = cond-true (eqb head.kind 1) head.length 0 (eq-eqb head.kind 1 write)

pub data_len_other : (head : RequestHead) → head.kind ≢ write_type → data_len head ≡ 0
data_len_other head other = cond-false (eqb head.kind 1) head.length 0 (ne_eqb head.kind 1 other)

pub plain_request : (head : RequestHead) → IsHead head → data_len head ≡ 0 → IsRequest (head_bytes head) (record { head = head; bytes = [] })
plain_request head fits none =
    record { sent = []; whole = sym (append-nil (head_bytes head)); fits = fits; len = sym none; bound = omega (arith, none); handed = refl }

pub kept_request : (head : RequestHead) (bytes : List ℕ) → IsHead head → head.kind ≡ write_type → head.length ≤ payload_limit → length bytes ≡ head.length
    → IsRequest (head_bytes head ++ bytes) (record { head = head; bytes = bytes })
kept_request head bytes fits write short len =
    let data_is = data_len_write head write in
    let kept : leb (length bytes) payload_limit ≡ true = le-leb (length bytes) payload_limit (omega arith) in
    record { sent = bytes; whole = refl; fits = fits; len = len ∙ sym data_is; bound = omega (arith, data_is); handed = sym (cond-true (leb (length bytes) payload_limit) bytes [] kept) }

pub discarded_request : (head : RequestHead) (sent : List ℕ) → IsHead head → head.kind ≡ write_type → payload_limit < head.length → head.length ≤ stream_limit → length sent ≡ head.length
    → IsRequest (head_bytes head ++ sent) (record { head = head; bytes = [] })
discarded_request head sent fits write long within len =
    let data_is = data_len_write head write in
    let passed : leb (length sent) payload_limit ≡ false = lt-leb (length sent) payload_limit (omega arith) in
    record { sent = sent; whole = refl; fits = fits; len = len ∙ sym data_is; bound = omega (arith, data_is); handed = sym (cond-false (leb (length sent) payload_limit) sent [] passed) }
