-- Data that are read straight into their room.
use Rattle.std.proofs.Common.{◌≡◌, ℕ, ◌+◌, ◌<◌, ◌≤◌, List, [], ◌++◌, length, take, refl, sym, ap, subst, ◌∙◌, append_assoc, length-append, arith}
use Rattle.std.specs.Prelude.{Option}
use Rattle.std.proofs.Math.Seq.{take-append-add, take-append_seam}
use Rattle.std.proofs.lemmas.List.{take-append-le, take-take, take_all}
use Rattle.nbd_wire.specs.declared.head.RequestHead.{RequestHead}
use Rattle.nbd_wire.specs.Head.{head_bytes}
use Rattle.nbd_wire.specs.Stream.{Feeds, Fills, in_data, reading}
use Rattle.nbd_wire.specs.inner.State.{Advances, IsReadBehind}
use Rattle.nbd_wire.specs.laws.Streams.{Feeds-advances}

-- what was there stays before its room
pub kept_front : (before now zeroes : List ℕ) (len most : ℕ) → len ≡ length before → length before ≤ most → now ≡ take most before ++ zeroes → take len now ≡ before
kept_front before now zeroes len most is within same =
    ap (take len) (same ∙ ap (λ (t : List ℕ). t ++ zeroes) (take_all most before within)) ∙ ap (λ (n : ℕ). take n (before ++ zeroes)) is ∙ take-append_seam before zeroes

-- what was read stands after what was there; the room after it is let go
pub cut_behind : (front before buf post rest : List ℕ) (len count most : ℕ) → front ≡ before → len ≡ length before → count ≤ length buf → len + length buf ≤ most
    → take (len + count) (take most ((front ++ (buf ++ post)) ++ rest)) ≡ before ++ take count buf
cut_behind front before buf post rest len count most same is within room =
    let behind : List ℕ = (buf ++ post) ++ rest in
    ap (λ (t : List ℕ). take (len + count) (take most t)) (append_assoc front (buf ++ post) rest) ∙ take-take (len + count) most (front ++ behind) (omega (arith, within, room))
    ∙ ap (λ (t : List ℕ). take (len + count) (t ++ behind)) same
    ∙ ap (λ (n : ℕ). take (n + count) (before ++ behind)) is ∙ take-append-add before behind count
    ∙ ap (λ (t : List ℕ). before ++ t) (take-append-le count (buf ++ post) rest (omega (arith, within, length-append buf post)) ∙ take-append-le count buf post within)

-- a part of the data, which doesn't end them
part_advances : (head : RequestHead) (bytes piece : List ℕ) → length bytes + length piece < head.length → Advances (in_data head bytes) piece [] (in_data head (bytes ++ piece))
part_advances head bytes piece part text keeps = (
  keeps.0,
  omega (arith, part, length-append bytes piece),
  ap (λ (t : List ℕ). t ++ piece) keeps.2 ∙ append_assoc (head_bytes head) bytes piece,
)

pub part_fills : (head : RequestHead) (bytes after : List ℕ) (input left : Option (List ℕ)) (count : ℕ) → IsReadBehind bytes input left count after → length after < head.length
    → Fills (reading (in_data head bytes)) input left count (reading (in_data head after))
part_fills head bytes after input left count read part =
    let less : length bytes + length read.piece < head.length = omega (arith, part, ap length read.behind, length-append bytes read.piece) in
    record {
      piece = read.piece;
      len = read.len;
      read = read.read;
      feeds = subst (λ (b : List ℕ). Feeds (reading (in_data head bytes)) read.piece [] (reading (in_data head b))) (sym read.behind)
          (Feeds-advances (in_data head bytes) read.piece [] (reading (in_data head (bytes ++ read.piece))) (part_advances head bytes read.piece less));
      going = refl;
      end = read.end;
    }
