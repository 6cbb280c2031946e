-- Requests with their data, as they follow one another on a stream ("Transmission" of NBD's proto.md).
use Rattle.std.specs.Prelude.{◌≡◌, ℕ, ◌≤◌, ◌==◌, nat_le, if◌then◌else◌, List, [], ◌++◌, length}
use Rattle.nbd_wire.specs.declared.head.RequestHead.{RequestHead}
use Rattle.nbd_wire.specs.Head.{head_bytes, IsHead}

-- the type of a WRITE, the most bytes of data that are kept, and the most that are read
abbrev pub write_type : ℕ
write_type = 1

abbrev pub payload_limit : ℕ
payload_limit = 1048576

abbrev pub stream_limit : ℕ
stream_limit = 33554432

-- a request, with the data that are handed on
pub record Message : Type 0 where
  pub head : RequestHead
  pub bytes : List ℕ

-- how many bytes of data follow a head: a WRITE's length, and none after any other
abbrev pub data_len : RequestHead → ℕ
data_len head = if head.kind == write_type then head.length else 0

-- what is handed on of the data that were sent: all, or none of them where they are too long
abbrev pub handed_on : List ℕ → List ℕ
handed_on sent = if nat_le (length sent) payload_limit then sent else []

-- how many bytes that is
abbrev pub handed_len : RequestHead → ℕ
handed_len head = if nat_le (data_len head) payload_limit then data_len head else 0

-- These bytes are the request: its head, and the data that follow it. Data that are thrown away may be any.
pub record IsRequest (text : List ℕ) (request : Message) : Type 0 where
  pub sent : List ℕ
  pub whole : text ≡ head_bytes request.head ++ sent
  pub fits : IsHead request.head
  pub len : length sent ≡ data_len request.head
  pub bound : data_len request.head ≤ stream_limit
  pub handed : request.bytes ≡ handed_on sent

-- no request's bytes begin another's, and they are no other request's
abbrev pub OneRequest : Type 0
OneRequest =
    (text other_text x y : List ℕ) (request other : Message) → IsRequest text request → IsRequest other_text other
    → text ++ x ≡ other_text ++ y → (text ≡ other_text) × (request ≡ other)
