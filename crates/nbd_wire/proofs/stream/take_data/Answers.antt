use Rattle.std.proofs.Common.{◌≡◌, ℕ, List, [], ◌∷◌, ◌++◌, length, sym, subst, rules}
use Rattle.nbd_wire.specs.Head.{head_bytes}
use Rattle.nbd_wire.specs.Request.{Message}
use Rattle.nbd_wire.specs.Stream.{Reads}
use Rattle.nbd_wire.specs.State.{kept}
use Rattle.nbd_wire.specs.laws.Requests.{kept_request}
use Rattle.nbd_wire.specs.laws.Streams.{reads_one}
use Rattle.nbd_wire.proofs.stream.take_data.Goals as goal

pub returns-clause-reads : goal.returns-clause-reads
returns-clause-reads c =
    let bytes : List ℕ = c.extend_from_slice.new.self.items in
    let items : bytes ≡ c.args.bytes.items ++ c.args.more.now = search rules in
    let len : length bytes ≡ c.args.head.length = search rules in
    let write = c.requires.write in
    let request : Message = record { head = c.args.head; bytes = bytes } in
    let made : c.new.result ≡ request = c.new.ensures in
    subst (λ (b : List ℕ). Reads (head_bytes c.args.head ++ b) (c.new.result ∷ []) (kept c.at_start.result)) items
    (subst (λ (m : Message). Reads (head_bytes c.args.head ++ bytes) (m ∷ []) (kept c.at_start.result)) (sym made)
    (reads_one (head_bytes c.args.head ++ bytes) request _ (kept_request c.args.head bytes write.0 write.1 write.2 len) c.at_start.ensures.value))
