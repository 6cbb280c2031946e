-- The heads of messages as bytes, all numbers big endian.
use Rattle.std.specs.Prelude.{◌≡◌, ℕ, ◌<◌, ◌^◌, List, ◌++◌}
use Rattle.std.specs.Int.{w16, w32, w64, to_be_bytes}
use Rattle.nbd_wire.specs.declared.head.RequestHead.{RequestHead}

-- the four bytes that a request begins with
abbrev pub request_magic : List ℕ
request_magic = to_be_bytes w32 0x25609513

-- a request's head, 28 bytes ("Request message" of NBD's proto.md)
unfoldable pub head_bytes : RequestHead → List ℕ
head_bytes head =
    request_magic ++ to_be_bytes w16 head.flags ++ to_be_bytes w16 head.kind ++ to_be_bytes w64 head.cookie
    ++ to_be_bytes w64 head.offset ++ to_be_bytes w32 head.length

-- numbers that have room in a head
pub record IsHead (head : RequestHead) : Type 0 where
  pub flags : head.flags < 2 ^ 16
  pub kind : head.kind < 2 ^ 16
  pub cookie : head.cookie < 2 ^ 64
  pub offset : head.offset < 2 ^ 64
  pub length : head.length < 2 ^ 32

-- no head's bytes begin another's
abbrev pub OneHead : Type 0
OneHead =
    (this other : RequestHead) (x y : List ℕ) → IsHead this → IsHead other
    → head_bytes this ++ x ≡ head_bytes other ++ y → (this ≡ other) × (x ≡ y)

-- a simple reply: 16 bytes, and the data of a READ that succeeded ("Simple reply message" of NBD's proto.md)
abbrev pub simple_reply : ℕ → ℕ → List ℕ → List ℕ
simple_reply error cookie bytes =
    to_be_bytes w32 0x67446698 ++ to_be_bytes w32 error ++ to_be_bytes w64 cookie ++ bytes
