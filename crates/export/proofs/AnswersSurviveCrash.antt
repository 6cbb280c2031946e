-- What an answer means for what a crash leaves.
use Rattle.std.proofs.Common.{◌≤◌, ◌+◌, ℕ, List, [], ◌∷◌, ◌++◌, length, arith, length-append}
use mathlib.Core.List.{IsPrefix}
use Rattle.export.specs.Left.{HasStored}
use Rattle.export.specs.Submits.{IsAccepted, IsCovered}
use Rattle.export_model.specs.Log.{edit_asked}
use Rattle.image_model.specs.Change.{Change}
use Rattle.image_model.specs.Edit.{becomes}
use Rattle.image_model.specs.Image.{Image}
use Rattle.marks.specs.Known.{PassState}
use Rattle.marks.specs.laws.Beginnings.{prefix_shorter, prefix_trans}
use Rattle.nbd_wire.specs.Request.{Message}
use Rattle.shared_store.specs.Parts.{StandsWithin}

-- commands that begin the history up to a number are there
has_stored : (opening : ℕ) (image : Image) (history commands : List Change) (least : ℕ) (content : List ℕ) → IsPrefix commands history → opening + length commands ≤ least
    → StandsWithin opening image history least content → HasStored opening image history commands content
has_stored opening image history commands least content begins reaches stands =
    let more = stands.reaches in record {
      stored = stands.stored;
      begins = stands.begins;
      has = prefix_shorter commands stands.stored history begins stands.begins (omega (arith, reaches, more));
      stands = stands.stands;
    }

pub flushed : (opening : ℕ) (image : Image) (old new : PassState) (history : List Change) (least : ℕ) (content : List ℕ) → IsCovered opening old new → IsPrefix new.history history → new.durable ≤ least
    → StandsWithin opening image history least content → HasStored opening image history old.history content
flushed opening image old new history least content is grows durable stands =
    let reaches = is.durable in
    let all = has_stored opening image history is.covered least content (prefix_trans is.covered new.history history is.within grows) (omega (arith, reaches, durable)) stands in
    record { stored = all.stored; begins = all.begins; has = prefix_trans old.history is.covered all.stored is.knew all.has; stands = all.stands }

pub forced : (opening : ℕ) (image : Image) (Sure : Type 0 → Type 0) (request : Message) (number : ℕ) (old new : PassState) (own : IsAccepted opening image Sure request number old new) → number ≤ new.durable
    → (history : List Change) (least : ℕ) (content : List ℕ) → IsPrefix new.history history → new.durable ≤ least → StandsWithin opening image history least content
    → HasStored opening image history (own.earlier ++ becomes (edit_asked request) own.image ∷ []) content
forced opening image Sure request number old new own stored history least content grows durable stands =
    let commands : List Change = own.earlier ++ becomes (edit_asked request) own.image ∷ [] in
    let size = length-append own.earlier (becomes (edit_asked request) own.image ∷ []) in let place = own.place in
    has_stored opening image history commands least content (prefix_trans commands new.history history own.within grows) (omega (arith, size, place, stored, durable)) stands
