-- what a READ and a BLOCK_STATUS are answered, of an image ("Structured reply types" and "Block status" of NBD's proto.md)
use Rattle.std.specs.Prelude.{ℕ, zero, suc, ◌+◌, ◌-◌, ◌/◌, ◌%◌, ◌==◌, nat_le, if◌then◌else◌, List, [], ◌∷◌, take, bit_and}
use Rattle.image_model.specs.Edit.{blocks_met}
use Rattle.image_model.specs.Image.{Image}
use Rattle.image_model.specs.declared.command.Kind.{Kind}
use Rattle.image_model.specs.declared.command.Kind.TheVariants.{Data, Zero, Hole}
use Rattle.nbd_wire.specs.declared.head.RequestHead.{RequestHead}
use Rattle.nbd_wire.specs.declared.message.Answer.{Answer}
use Rattle.nbd_wire.specs.declared.message.Answer.TheVariants.{Bytes, States}
use Rattle.nbd_wire.specs.declared.message.Run.{Run}

-- the status of a block in the context base:allocation
abbrev pub status_of : Kind → ℕ
status_of Data = 0
status_of Zero = 2
status_of Hole = 3

-- the status of a block whose bytes are read: data, or a hole
abbrev pub read_status_of : Kind → ℕ
read_status_of Data = 0
read_status_of Zero = 3
read_status_of Hole = 3

-- `count` bytes of an image, starting at `place`
unfoldable pub bytes_from : Image → ℕ → ℕ → List ℕ
bytes_from image place zero = []
bytes_from image place (suc count) = image.byte place ∷ bytes_from image (place + 1) count

-- a block of this status before runs: in the first of them, where that one has the same
unfoldable pub with_block : ℕ → List Run → List Run
with_block given [] = record { length = 4096; status = given } ∷ []
with_block given (run ∷ runs) =
    if run.status == given then record { length = run.length + 4096; status = given } ∷ runs
    else record { length = 4096; status = given } ∷ run ∷ runs

-- the longest runs of one status, over `count` blocks starting at `block`
unfoldable pub runs_from : (ℕ → ℕ) → ℕ → ℕ → List Run
runs_from status block zero = []
runs_from status block (suc count) = with_block (status block) (runs_from status (block + 1) count)

-- runs without their first `count` bytes; the first run has more bytes than that
abbrev pub cut_front : ℕ → List Run → List Run
cut_front count [] = []
cut_front count (run ∷ runs) = record run { length = run.length - count } ∷ runs

-- the first `count` bytes of runs; `count` is at least 1
unfoldable pub cut_behind : ℕ → List Run → List Run
cut_behind count [] = []
cut_behind count (run ∷ runs) =
    if nat_le count run.length then record run { length = count } ∷ [] else run ∷ cut_behind (count - run.length) runs

-- the runs of blocks from the offset's block on, cut to the `count` bytes from the offset on
abbrev pub cut_to : ℕ → ℕ → List Run → List Run
cut_to offset count runs = cut_behind count (cut_front (offset % 4096) runs)

-- the runs of the blocks that the `count` bytes from the offset on touch
abbrev pub runs_met : (ℕ → ℕ) → ℕ → ℕ → List Run
runs_met status offset count = runs_from status (offset / 4096) (blocks_met offset count)

-- how many runs a BLOCK_STATUS is answered at most: one with REQ_ONE, else 1,024
abbrev pub most_runs : RequestHead → ℕ
most_runs head = if bit_and head.flags 8 == 8 then 1 else 1024

-- the answer to a READ, or else to a BLOCK_STATUS, that an image gives
abbrev pub shown_by : Image → RequestHead → Answer
shown_by image head =
    if head.kind == 0
    then Bytes (record {
      offset = head.offset;
      bytes = bytes_from image head.offset head.length;
      runs = cut_to head.offset head.length (runs_met (λ block. read_status_of (image.kind block)) head.offset head.length);
    })
    else States (cut_to head.offset head.length (take (most_runs head) (runs_met (λ block. status_of (image.kind block)) head.offset head.length)))
