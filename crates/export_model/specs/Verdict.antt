-- what becomes of a request before anything is done for it, by docs/FORMATS.md, "Validation": the first rule that applies
use Rattle.std.specs.Prelude.{ℕ, ◌≡◌, ◌<◌, ◌≤◌, ◌+◌, ◌*◌, Bool, ◌==◌, ◌||◌, ◌&&◌, not, nat_lt, if◌then◌else◌, Result, Ok, Err, bit_and, List, [], ◌∷◌}
use Rattle.nbd_wire.specs.declared.error.Errno.{Errno}
use Rattle.nbd_wire.specs.declared.error.Errno.TheVariants.{Invalid, NoSpace}
use Rattle.nbd_wire.specs.declared.head.RequestHead.{RequestHead}
use Rattle.nbd_wire.specs.declared.message.SessionFlags.{SessionFlags}
use Rattle.image_model.specs.declared.geometry.Geometry.{Geometry}
use Rattle.export_model.specs.declared.action.Action.{Action}
use Rattle.export_model.specs.declared.action.Action.TheVariants.{End, Serve}

-- what the first rule that applies decides, or else the last word
abbrev pub first_of_rules : {X : Type 0} → List (Bool × X) → X → X
first_of_rules [] otherwise = otherwise
first_of_rules (rule ∷ rules) otherwise = if rule.0 then rule.1 else first_of_rules rules otherwise

-- the types that a request may have
abbrev pub is_known : ℕ → Bool
is_known kind = nat_lt kind 8 && not (kind == 5)

-- the flags that a request of a type may have: FUA on each, NO_HOLE on WRITE_ZEROES, DF on a READ that is answered by
-- chunks, REQ_ONE on BLOCK_STATUS
abbrev pub allowed_flags : ℕ → Bool → ℕ
allowed_flags kind structured =
    1 + (if kind == 6 then 2 else 0) + (if (kind == 0) && structured then 4 else 0) + (if kind == 7 then 8 else 0)

-- the error of a range past the end
abbrev pub past_end : ℕ → Errno
past_end kind = if (kind == 1) || (kind == 6) then NoSpace else Invalid

-- the rules on the range of a request that names one
abbrev pub range_verdict : RequestHead → Geometry → Result Action Errno
range_verdict head geometry = first_of_rules (
    (head.length == 0, Err Invalid)
    ∷ (((head.kind == 0) || (head.kind == 1)) && nat_lt 1048576 head.length, Err Invalid)
    ∷ (nat_lt (4096 * geometry.blocks) (head.offset + head.length), Err (past_end head.kind))
    ∷ []) (Ok Serve)

abbrev pub verdict : RequestHead → Geometry → SessionFlags → Result Action Errno
verdict head geometry flags = first_of_rules (
    (head.kind == 2, Ok End)
    ∷ (not (is_known head.kind), Err Invalid)
    ∷ (not (bit_and head.flags (allowed_flags head.kind flags.structured) == head.flags), Err Invalid)
    ∷ ((head.kind == 3) && (head.offset == 0) && (head.length == 0), Ok Serve)
    ∷ (head.kind == 3, Err Invalid)
    ∷ ((head.kind == 7) && not (flags.structured && flags.context), Err Invalid)
    ∷ []) (range_verdict head geometry)

-- one byte at least, all inside the image, of a READ or a WRITE at most 1,048,576
pub record IsServedRange (head : RequestHead) (geometry : Geometry) : Type 0 where
  pub some : 0 < head.length
  pub most_read : head.kind ≡ 0 → head.length ≤ 1048576
  pub most_written : head.kind ≡ 1 → head.length ≤ 1048576
  pub inside : head.offset + head.length ≤ 4096 * geometry.blocks
