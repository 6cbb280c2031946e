-- what the order takes as an edit
use Rattle.std.proofs.Common.{◌≡◌, ◌≢◌, ◌↔◌, ◌⊎◌, inl, inr, ⊎_elim, ℕ, ◌+◌, ◌-◌, ◌*◌, ◌/◌, ◌≤◌, ◌<◌, ◌&&◌, Bool, true, false, not, nat_eq, if◌then◌else◌, List, ◌++◌, length, get_or, Some, None, Result, Ok, Err, ap, sym, subst, ◌∙◌, refl, arith, length-append}
use Rattle.std.specs.Bool.{IsTrue}
use Rattle.std.specs.Result.{IfErr, OnOk}
use Rattle.std.proofs.lemmas.Bool.{and_parts, eq-eqb, ne_eqb, not-true}
use Rattle.std.proofs.lemmas.Bool.Decides.{eqb_tells}
use Rattle.checkpoint.specs.Keeper.{refused_by}
use Rattle.checkpoint.specs.declared.fault.KeeperFault.{KeeperFault}
use Rattle.checkpoint.specs.declared.fault.KeeperFault.TheVariants.{DeviceFault, Failed}
use Rattle.device_image.specs.Holds.{is_written}
use Rattle.device_image.specs.Keeper.{KeeperState}
use Rattle.image_model.specs.declared.command.Command.{Command}
use Rattle.image_model.specs.declared.command.Edges.{Edges}
use Rattle.image_model.specs.declared.command.Edges.TheVariants.{Head, Tail, Both}
use Rattle.image_model.specs.declared.command.Kind.{Kind}
use Rattle.image_model.specs.declared.command.Kind.TheVariants.{Data}
use Rattle.image_model.specs.Bodies.{body_bytes}
use Rattle.image_model.specs.Change.{Change, Cleared, Edged, IsChange, Written, change_of, edge_count}
use Rattle.image_model.specs.Dirty.{Dirty, frames_suffice}
use Rattle.image_model.specs.Edit.{ByteEdit, BytesPut, BytesZeroed, BytesTrimmed, IsEdit, apply_edit, becomes, blocks_met, bytes_of, count_of, is_partial_data, offset_of}
use Rattle.image_model.specs.Image.{Image, apply, apply_all, blocks_of, last_of}
use Rattle.image_model.specs.laws.Becoming.{becomes_change, length-bytes_of}
use Rattle.image_model.specs.laws.WholeEdits.{whole_put}
use Rattle.marks.specs.Client.{HasAsked}
use Rattle.marks.specs.Known.{PassState}
use Rattle.marks.specs.declared.view.Client.{Client}
use Rattle.shared_cache.specs.Blocks.{IsOnce, available_frames, count_missing, edges_missing}
use Rattle.shared_cache.specs.Cache.{CacheState, bytes_seen}
use Rattle.order_book.specs.Cached.{ShowsCommand, dirty_of, frames_of, head_count}
use Rattle.order_book.specs.Edits.{HasAskedEdit, IsMissing, TakesEdit, bytes_or, image_in, image_with}
use Rattle.order_book.specs.inner.Edits.{IsWholePut, edge_bytes, edges_given, put_bytes, whole_change, zeroed_block}
use Rattle.order_book.specs.Order.{OrderState, with_command}
use Rattle.order_book.specs.Shown.{ShowsImage}
use Rattle.order_book.specs.laws.Edited.{byte-image_with}
use Rattle.order_book.proofs.Edges.{tail_count}
use Rattle.order_book.proofs.Editing.{edged_is, needed_ends, put_becomes, unedged_is, zeroed_is}
use Rattle.order_book.proofs.Frames.{finds_frames}

-- what the order took as a command whose change the edit becomes
pub makes_take : (edit : ByteEdit) (image : Image) (old new : OrderState) (before after : PassState) (command : Command) (number : ℕ) (client : Client)
    → change_of command ≡ becomes edit image → number ≡ old.mark + 1 → new ≡ with_command old command → ShowsCommand (change_of command) old.cache new.cache
    → ((given : Image) → ShowsImage given old.cache → ShowsImage (apply (change_of command) given) new.cache)
    → after ≡ record before { history = new.history; accepted = number; own = record { count = before.own.count + 1; last = Some (record { number = number; change = change_of command }) }; client = client }
    → TakesEdit edit image old new before after
makes_take edit image old new before after command number client is next taken seen shown pass = record {
  command = command;
  is = is;
  taken = taken;
  pass = pass ∙ (λ i. record before { history = new.history; accepted = next i; own = record { count = before.own.count + 1; last = Some (record { number = next i; change = is i }) }; client = sym (ap (λ (p : PassState). p.client) pass) i });
  seen = subst (λ (change : Change). ShowsCommand change old.cache new.cache) is seen;
  shown = subst (λ (change : Change). (given : Image) → ShowsImage given old.cache → ShowsImage (apply change given) new.cache) is shown;
}

-- what a client has asked for whose edit becomes the same over the image that it is taken over and the history's own
pub has_asked : (trusted : Type 0) (image : Image) (order : OrderState) (edit : ByteEdit) (client : Client) (over : Image) → HasAskedEdit trusted image order edit client
    → (trusted → becomes edit over ≡ becomes edit (apply_all order.history image)) → HasAsked trusted image order.history (becomes edit over) client
has_asked trusted image order edit client over asked same = record {
  speaks = asked.speaks;
  request = asked.request;
  asks = asked.asks;
  write = asked.write;
  own = (over, ap (λ (e : ByteEdit). becomes e over) asked.asked);
  right = λ t. ap (λ (e : ByteEdit). becomes e (apply_all order.history image)) asked.asked ∙ sym (same t);
}

-- a put of whole blocks
pub whole_becomes : (edit : ByteEdit) (image : Image) → IsWholePut edit → becomes edit image ≡ whole_change edit
whole_becomes (BytesPut offset bytes) image whole = whole_put offset bytes image whole.0 whole.1
whole_becomes (BytesZeroed offset count kind) image whole = absurd whole
whole_becomes (BytesTrimmed offset count) image whole = absurd whole

-- what an edit becomes is a change that an image takes which has as many blocks
pub becomes_taken : (edit : ByteEdit) (image : Image) → image.blocks ≤ 16777216 → IsEdit image.blocks edit → IsChange image.blocks (becomes edit image)
becomes_taken edit image few is = becomes_change edit image (omega (arith, few)) is

-- the bytes of a put, and of a clear with edges
pub put_body : (offset met : ℕ) (bytes : List ℕ) (image : Image) → met ≡ blocks_met offset (length bytes) → 13 + 4096 * met ≡ body_bytes (becomes (BytesPut offset bytes) image)
put_body offset met bytes image is =
    let size = length-bytes_of (apply_edit (BytesPut offset bytes) image) (offset / 4096) (blocks_met offset (length bytes)) in
    omega (arith, is, size)

-- the frames and the bytes of a clear that zeroes become
module _ (offset count : ℕ) (kind : Kind) (image : Image) where
  abbrev first : ℕ
  first = offset / 4096

  abbrev last : ℕ
  last = last_of first (blocks_met offset count)

  abbrev head : Bool
  head = is_partial_data offset count first (image.kind first)

  abbrev tail : Bool
  tail = not (nat_eq last first) && is_partial_data offset count last (image.kind last)

  abbrev bytes_at : ℕ → List ℕ
  bytes_at block = bytes_of (apply_edit (BytesZeroed offset count kind) image) block 1

  long_at : (block : ℕ) → length (bytes_at block) ≡ 4096
  long_at block = length-bytes_of (apply_edit (BytesZeroed offset count kind) image) block 1

  pub unedged : None ≡ edges_given head tail → Cleared first (blocks_met offset count) kind ≡ becomes (BytesZeroed offset count kind) image
  unedged none = unedged_is first (blocks_met offset count) kind head tail (bytes_at first) (bytes_at last) none

  pub edged : (edges : Edges) → Some edges ≡ edges_given head tail
      → Edged first (blocks_met offset count) kind edges (edge_bytes edges (bytes_at first) (bytes_at last)) ≡ becomes (BytesZeroed offset count kind) image
  edged edges some = edged_is first (blocks_met offset count) kind head tail edges (bytes_at first) (bytes_at last) some

  pub no_edges_frames : (frames : ℕ) (dirty : Dirty) (number : ℕ) → None ≡ edges_given head tail → true ≡ frames_suffice frames dirty number (becomes (BytesZeroed offset count kind) image)
  no_edges_frames frames dirty number none = ap (frames_suffice frames dirty number) (unedged none)

  pub no_edges_body : None ≡ edges_given head tail → 13 ≡ body_bytes (becomes (BytesZeroed offset count kind) image)
  no_edges_body none = ap body_bytes (unedged none)

  long_edges : (edges : Edges) → length (edge_bytes edges (bytes_at first) (bytes_at last)) ≡ 4096 * edge_count edges
  long_edges Head = long_at first
  long_edges Tail = long_at last
  long_edges Both =
      let split = length-append (bytes_at first) (bytes_at last) in
      omega (arith, split, long_at first, long_at last)

  pub edges_body : (edges : Edges) (size : ℕ) → Some edges ≡ edges_given head tail → size ≡ edge_count edges → 14 + 4096 * size ≡ body_bytes (becomes (BytesZeroed offset count kind) image)
  edges_body edges size some is =
      let long = long_edges edges in
      let sum : 14 + 4096 * size ≡ 14 + length (edge_bytes edges (bytes_at first) (bytes_at last)) = omega (arith, long, is) in
      sum ∙ ap body_bytes (edged edges some)

-- whether there are frames for them
pub edges_found : (cache : CacheState) (number offset count met : ℕ) (kind : Kind) (edges : Edges) (found : Bool) (at_head at_tail : ℕ) → length cache.states ≤ 16777216
    → IsEdit (length cache.states) (BytesZeroed offset count kind) → IsOnce cache.blocks
    → Some edges ≡ edges_given (head offset count kind (image_in cache)) (tail offset count kind (image_in cache))
    → at_head ≡ head_count edges → at_tail ≡ tail_count edges → met ≡ blocks_met offset count
    → IsTrue found ↔ (edges_missing (offset / 4096) met at_head at_tail cache.blocks ≤ available_frames cache.blocks)
    → found ≡ frames_suffice (frames_of cache) (dirty_of cache) number (becomes (BytesZeroed offset count kind) (image_in cache))
edges_found cache number offset count met kind edges found at_head at_tail few edit once some head_is tail_is met_is enough =
    let same = edged offset count kind (image_in cache) edges some in
    let bytes = edge_bytes edges (bytes_at offset count kind (image_in cache) (offset / 4096)) (bytes_at offset count kind (image_in cache) (last offset count kind (image_in cache))) in
    let change : Change = Edged (offset / 4096) (blocks_met offset count) kind edges bytes in
    let is : IsChange (length cache.states) change =
    subst (IsChange (length cache.states)) (sym same) (becomes_taken (BytesZeroed offset count kind) (image_in cache) few edit) in
    let all : IsTrue found ↔ (edges_missing (offset / 4096) (blocks_met offset count) (head_count edges) (tail_count edges) cache.blocks ≤ available_frames cache.blocks) =
    subst (λ (n : ℕ). IsTrue found ↔ (n ≤ available_frames cache.blocks)) (λ i. edges_missing (offset / 4096) (met_is i) (head_is i) (tail_is i) cache.blocks) enough in
    finds_frames (length cache.states) cache number change found is once all ∙ ap (frames_suffice (frames_of cache) (dirty_of cache) number) same

-- whether there are frames for a put
pub put_found : (cache : CacheState) (number offset met : ℕ) (bytes : List ℕ) (found : Bool) → length cache.states ≤ 16777216
    → IsEdit (length cache.states) (BytesPut offset bytes) → IsOnce cache.blocks → met ≡ blocks_met offset (length bytes)
    → IsTrue found ↔ (count_missing (offset / 4096) met cache.blocks ≤ available_frames cache.blocks)
    → found ≡ frames_suffice (frames_of cache) (dirty_of cache) number (becomes (BytesPut offset bytes) (image_in cache))
put_found cache number offset met bytes found few edit once met_is enough =
    let change = becomes (BytesPut offset bytes) (image_in cache) in
    let long = length-bytes_of (apply_edit (BytesPut offset bytes) (image_in cache)) (offset / 4096) (blocks_met offset (length bytes)) in
    let count : met ≡ blocks_of change = omega (arith, met_is, long) in
    finds_frames (length cache.states) cache number change found (becomes_taken (BytesPut offset bytes) (image_in cache) few edit) once
    (subst (λ (n : ℕ). IsTrue found ↔ (count_missing (offset / 4096) n cache.blocks ≤ available_frames cache.blocks)) count enough)

-- what is built of a put is what it becomes over the image that stands for memory
pub put_made : (cache : CacheState) (offset : ℕ) (bytes head tail first_bytes last_bytes : List ℕ) → 1 ≤ length bytes → length first_bytes ≡ 4096 → length last_bytes ≡ 4096
    → first_bytes ≡ bytes_or (bytes_seen cache (offset / 4096)) head
    → last_bytes ≡ bytes_or (bytes_seen cache (last_of (offset / 4096) (blocks_met offset (length bytes)))) (if nat_eq (last_of (offset / 4096) (blocks_met offset (length bytes))) (offset / 4096) then head else tail)
    → Written (offset / 4096) (put_bytes first_bytes offset bytes last_bytes) ≡ becomes (BytesPut offset bytes) (image_with cache (offset / 4096) head tail)
put_made cache offset bytes head tail first_bytes last_bytes some long also first_is last_is =
    let first = offset / 4096 in
    let end = last_of first (blocks_met offset (length bytes)) in
    let image = image_with cache first head tail in
    ap (λ (l : List ℕ). Written first l) (put_becomes offset bytes first_bytes last_bytes image some long also
    (λ k below. byte-image_with cache first head tail first k below
    ∙ ap (λ (b : Bool). get_or (bytes_or (bytes_seen cache first) (if b then head else tail)) k 0) (eq-eqb first first refl)
    ∙ ap (λ (l : List ℕ). get_or l k 0) (sym first_is))
    (λ k below. byte-image_with cache first head tail end k below ∙ ap (λ (l : List ℕ). get_or l k 0) (sym last_is)))

-- the bytes of edges by the flags that tell which there are
edge_bytes_same : (edges : Edges) (head tail : Bool) (one ending other also : List ℕ) → Some edges ≡ edges_given head tail → one ≡ other → (tail ≡ true → ending ≡ also)
    → edge_bytes edges one ending ≡ edge_bytes edges other also
edge_bytes_same Head has_head has_tail one ending other also is at_head at_tail = at_head
edge_bytes_same Tail has_head true one ending other also is at_head at_tail = at_tail refl
edge_bytes_same Tail true false one ending other also is at_head at_tail = cc
edge_bytes_same Tail false false one ending other also is at_head at_tail = cc
edge_bytes_same Both has_head true one ending other also is at_head at_tail = λ i. at_head i ++ at_tail refl i
edge_bytes_same Both true false one ending other also is at_head at_tail = cc
edge_bytes_same Both false false one ending other also is at_head at_tail = cc

-- what is built of the edges of zeroes is what stands there over the image that stands for memory
pub zeroed_made : (cache : CacheState) (offset count : ℕ) (kind : Kind) (edges : Edges) (given other : List ℕ) → 1 ≤ count
    → length (bytes_or (bytes_seen cache (offset / 4096)) given) ≡ 4096 → length (bytes_or (bytes_seen cache (last_of (offset / 4096) (blocks_met offset count))) other) ≡ 4096
    → Some edges ≡ edges_given (head offset count kind (image_with cache (offset / 4096) given other)) (tail offset count kind (image_with cache (offset / 4096) given other))
    → edge_bytes edges (zeroed_block offset count (offset / 4096) (bytes_or (bytes_seen cache (offset / 4096)) given))
    (zeroed_block offset count (last_of (offset / 4096) (blocks_met offset count)) (bytes_or (bytes_seen cache (last_of (offset / 4096) (blocks_met offset count))) other))
    ≡ edge_bytes edges (bytes_at offset count kind (image_with cache (offset / 4096) given other) (offset / 4096))
    (bytes_at offset count kind (image_with cache (offset / 4096) given other) (last_of (offset / 4096) (blocks_met offset count)))
zeroed_made cache offset count kind edges given other some long also is =
    let at_first = offset / 4096 in
    let at_last = last_of at_first (blocks_met offset count) in
    let image = image_with cache at_first given other in
    edge_bytes_same edges (head offset count kind image) (tail offset count kind image) _ _ _ _ is
    (zeroed_is offset count at_first (bytes_or (bytes_seen cache at_first) given) kind image long (omega arith) (omega (arith, some))
    (λ k below. byte-image_with cache at_first given other at_first k below
    ∙ ap (λ (b : Bool). get_or (bytes_or (bytes_seen cache at_first) (if b then given else other)) k 0) (eq-eqb at_first at_first refl)))
    (λ has. zeroed_is offset count at_last (bytes_or (bytes_seen cache at_last) other) kind image also (omega (arith, some)) (omega (arith, some))
    (λ k below. byte-image_with cache at_first given other at_last k below
    ∙ ap (λ (b : Bool). get_or (bytes_or (bytes_seen cache at_last) (if b then given else other)) k 0) (not-true (nat_eq at_last at_first) (and_parts _ _ has).0)))

-- what was read of one block
pub read_one : (base : Image) (front : List Change) (cache : CacheState) (block : ℕ) (into : List ℕ)
    → ((j k : ℕ) → 4096 * j < length into → k < 4096 → bytes_seen cache (block + j) ≡ None → base.kind (block + j) ≡ Data → is_written (block + j) front ≡ false
    → get_or into (4096 * j + k) 0 ≡ base.byte (4096 * (block + j) + k))
    → length into ≡ 4096 → bytes_seen cache block ≡ None → base.kind block ≡ Data → is_written block front ≡ false → (k : ℕ) → k < 4096 → get_or into k 0 ≡ base.byte (4096 * block + k)
read_one base front cache block into from size none kind unwritten k below =
    let at : block + 0 ≡ block = omega arith in
    let here : 4096 * 0 + k ≡ k = omega arith in
    ap (λ (n : ℕ). get_or into n 0) (sym here)
    ∙ from 0 k (omega (arith, size)) below (ap (bytes_seen cache) at ∙ none) (ap base.kind at ∙ kind) (ap (λ (b : ℕ). is_written b front) at ∙ unwritten)
    ∙ ap (λ (b : ℕ). base.byte (4096 * b + k)) at

-- what was read of the first block and of the last
pub read_ends : (edit : ByteEdit) (cache : CacheState) (base : Image) (front : List Change) (start end : ℕ) (given other : List ℕ) → 1 ≤ count_of edit
    → start ≡ offset_of edit / 4096 → end ≡ (offset_of edit + count_of edit - 1) / 4096
    → ((k : ℕ) → k < 4096 → IsMissing edit cache start → base.kind start ≡ Data → is_written start front ≡ false → get_or given k 0 ≡ base.byte (4096 * start + k))
    → (end ≢ start → (k : ℕ) → k < 4096 → IsMissing edit cache end → base.kind end ≡ Data → is_written end front ≡ false → get_or other k 0 ≡ base.byte (4096 * end + k))
    → (block k : ℕ) → k < 4096 → IsMissing edit cache block → base.kind block ≡ Data → is_written block front ≡ false
    → get_or (if nat_eq block (offset_of edit / 4096) then given else other) k 0 ≡ base.byte (4096 * block + k)
read_ends edit cache base front start end given other some start_is end_is at_start at_end block k below missing kind unwritten = elim (eqb_tells block (offset_of edit / 4096)) [
  | inl p ↦
      let same : block ≡ start = p.1 ∙ sym start_is in
      ap (λ (b : Bool). get_or (if b then given else other) k 0) (eq-eqb block (offset_of edit / 4096) p.1)
      ∙ at_start k below (subst (IsMissing edit cache) same missing) (subst (λ (b : ℕ). base.kind b ≡ Data) same kind) (subst (λ (b : ℕ). is_written b front ≡ false) same unwritten)
      ∙ ap (λ (b : ℕ). base.byte (4096 * b + k)) (sym same)
  | inr p ↦
      let same : block ≡ end = ⊎_elim (λ at. absurd (p.1 at)) (λ at. at ∙ sym end_is) (needed_ends edit block some missing.0) in
      ap (λ (b : Bool). get_or (if b then given else other) k 0) (ne_eqb block (offset_of edit / 4096) p.1)
      ∙ at_end (λ e. p.1 (same ∙ e ∙ start_is)) k below (subst (IsMissing edit cache) same missing) (subst (λ (b : ℕ). base.kind b ≡ Data) same kind) (subst (λ (b : ℕ). is_written b front ≡ false) same unwritten)
      ∙ ap (λ (b : ℕ). base.byte (4096 * b + k)) (sym same)
]

-- a keeper whose second read is refused
pub refused_on : {D : Type 0} (old mid new : KeeperState D) (outcome : Result (Unit {0}) KeeperFault) → mid ≡ record old { disk = mid.disk } → (outcome ≡ Err Failed → mid ≡ old)
    → IfErr outcome (λ fault. (fault ≡ DeviceFault) ⊎ (fault ≡ Failed)) → IfErr outcome (λ fault. new ≡ refused_by fault mid new.disk) → IfErr outcome (λ fault. new ≡ refused_by fault old new.disk)
refused_on old mid new (Ok value) kept same only refused = tt
refused_on {D} old mid new (Err fault) kept same only refused = elim only [
  | inl is ↦ subst (λ (f : KeeperFault). new ≡ refused_by f old new.disk) (sym is)
      (subst (λ (f : KeeperFault). new ≡ refused_by f mid new.disk) is refused ∙ ap (λ (keeper : KeeperState D). record keeper { disk = new.disk; failed = true }) kept)
  | inr is ↦ subst (λ (f : KeeperFault). new ≡ refused_by f old new.disk) (sym is)
      (subst (λ (f : KeeperFault). new ≡ refused_by f mid new.disk) is refused ∙ same (ap Err is))
]

-- what holds once a call has succeeded
pub map_ok : {X E P Q : Type 0} (outcome : Result X E) → (P → Q) → OnOk outcome P → OnOk outcome Q
map_ok (Ok value) to holds = to holds
map_ok (Err fault) to holds = tt
