-- What a list's commands make of an image, by the last touch of each block.
use Rattle.std.proofs.Common.{◌≡◌, ℕ, ◌+◌, ◌-◌, ◌*◌, ◌/◌, ◌^◌, ◌≤◌, ◌<◌, min, Bool, true, false, if◌then◌else◌, nat_eq, Option, Some, None, List, [], ◌∷◌, ◌++◌, length, slice_index, sym, ◌∙◌, ap, subst, refl, arith}
use Rattle.std.specs.List.{flat_map}
use Rattle.std.proofs.lemmas.Bool.{eqb-true}
use Rattle.std.proofs.lemmas.Bool.Decides.{nat_tests}
use Rattle.image_model.specs.declared.command.Kind.{Kind}
use Rattle.image_model.specs.declared.command.Kind.TheVariants.{Data}
use Rattle.image_model.specs.declared.command.Edges.{Edges}
use Rattle.image_model.specs.declared.command.Edges.TheVariants.{Head, Tail, Both}
use Rattle.image_model.specs.Change.{Change, Written, Cleared, Edged, IsChange, AreChanges, edge_count, least_blocks}
use Rattle.image_model.specs.Image.{Image, apply, apply_all, byte_in, covers, data_of, edge_slot, kind_given, kind_in, last_of, slot, touches}
use Rattle.image_model.specs.laws.Slots.{byte-apply}
use Rattle.journal_format.specs.declared.touch.Touch.{Touch}
use Rattle.journal_format.specs.declared.touch.Touch.TheVariants.{Put, Clear}
use Rattle.journal_format.specs.declared.touch.TouchedRange.{TouchedRange}
use Rattle.journal_format.specs.Spelling.{StoredGroup, edged_byte, edges_byte, change_head, change_bytes, body_of_group, group_head, group_bytes}
use Rattle.journal_format.specs.GroupList.{StandsAt, size_of, number_behind, changes_of, Stand}
use Rattle.journal_format.specs.Touches.{byte_after_touch, edge_ranges, kind_after, last_touch, later, tail_block, touch_in, touched_by, touched_by_changes, touched_by_groups}
use Rattle.journal_format.specs.laws.OneList.{front, back}
use Rattle.journal_format.specs.laws.Spelled.{length-change_head, length-group_head}

-- where the bytes that a change brings stand, if it stands at this place of the device: after its head of 13 bytes, and
-- with edges after the byte that says which
abbrev pub data_place : ℕ → Change → ℕ
data_place place (Written first bytes) = place + 13
data_place place (Cleared first blocks kind) = place + 13
data_place place (Edged first blocks kind edges bytes) = place + 14

-- the later of two touches
later_kind : (first second : Option Touch) (kind : Kind) → kind_after second (kind_after first kind) ≡ kind_after (later first second) kind
later_kind first None kind = refl
later_kind first (Some (Put place)) kind = refl
later_kind first (Some (Clear cleared)) kind = refl

later_byte : (first second : Option Touch) (content : List ℕ) (offset byte : ℕ) → byte_after_touch second content offset (byte_after_touch first content offset byte) ≡ byte_after_touch (later first second) content offset byte
later_byte first None content offset byte = refl
later_byte first (Some (Put place)) content offset byte = refl
later_byte first (Some (Clear cleared)) content offset byte = refl

later_later : (a b c : Option Touch) → later a (later b c) ≡ later (later a b) c
later_later a b None = refl
later_later a b (Some touch) = refl

later_none : (touch : Option Touch) → later None touch ≡ touch
later_none None = refl
later_none (Some touch) = refl

pub last_touch-append : (block : ℕ) (xs ys : List TouchedRange) → last_touch block (xs ++ ys) ≡ later (last_touch block xs) (last_touch block ys)
last_touch-append block [] ys = sym (later_none (last_touch block ys))
last_touch-append block (x ∷ xs) ys =
    ap (λ (t : Option Touch). later (touch_in block x) t) (last_touch-append block xs ys) ∙ later_later (touch_in block x) (last_touch block xs) (last_touch block ys)

apply_all-append : (xs ys : List Change) (image : Image) → apply_all (xs ++ ys) image ≡ apply_all ys (apply_all xs image)
apply_all-append [] ys image = refl
apply_all-append (x ∷ xs) ys image = apply_all-append xs ys (apply x image)

-- One change: what it makes of a block is told by where the block's bytes stand in its data.
abbrev pub touch_of : ℕ → Option ℕ → Kind → Touch
touch_of place None kind = Clear kind
touch_of place (Some at) kind = Put (place + at)

abbrev pub touch_told : ℕ → ℕ → Change → Option Touch
touch_told block place change = if touches block change then Some (touch_of (data_place place change) (slot block change) (kind_given change)) else None

-- the range of one block
one_covered : (block first : ℕ) → covers first 1 block ≡ nat_eq block first
one_covered block first = grind (arith, nat_tests)

one_touched : (block first count place : ℕ) → count ≡ 1 → touch_in block (record { first = first; blocks = count; touch = Put place }) ≡ (if nat_eq block first then Some (Put (place + 0)) else None)
one_touched block first count place one =
    ap (λ (n : ℕ). if covers first n block then Some (Put (place + 4096 * (block - first))) else None) one
    ∙ ap (λ (test : Bool). if test then Some (Put (place + 4096 * (block - first))) else None) (one_covered block first)
    ∙ at_first (nat_eq block first) refl
  where
    at_first : (test : Bool) → nat_eq block first ≡ test → (if test then Some (Put (place + 4096 * (block - first))) else None) ≡ (if test then Some (Put (place + 0)) else None)
    at_first true is =
        let same : block ≡ first = eqb-true block first is in
        let at : place + 4096 * (block - first) ≡ place + 0 = omega (arith, same) in
        ap (λ (p : ℕ). Some (Put p)) at
    at_first false is = refl

-- the edges of this many blocks
put_at : ℕ → Option ℕ → Option Touch
put_at place None = None
put_at place (Some at) = Some (Put (place + at))

tail_is : (first blocks : ℕ) → 1 ≤ blocks → first + blocks ≤ 2 ^ 64 → tail_block first blocks ≡ last_of first blocks
tail_is first blocks some fits = omega (arith, some, fits)

two_touched : (place : ℕ) (here there : Bool) → (here ≡ true → there ≡ true → ⊥)
    → later (if here then Some (Put (place + 0)) else None) (if there then Some (Put (place + 4096 + 0)) else None)
    ≡ put_at place (if here then Some 0 else (if there then Some 4096 else None))
unfolding put_at
two_touched place true true apart = absurd (apart refl refl)
two_touched place true false apart = refl
two_touched place false true apart = let same : place + 4096 + 0 ≡ place + 4096 = omega arith in ap (λ (p : ℕ). Some (Put p)) same
two_touched place false false apart = refl

one_at : (place : ℕ) (here : Bool) → (if here then Some (Put (place + 0)) else None) ≡ put_at place (if here then Some 0 else None)
unfolding put_at
one_at place true = refl
one_at place false = refl

edges_told : (block first blocks : ℕ) (edges : Edges) (place stored : ℕ) → least_blocks edges ≤ blocks → first + blocks ≤ 2 ^ 64 → stored ≡ edge_count edges
    → last_touch block (edge_ranges first blocks edges place stored) ≡ put_at place (edge_slot edges (nat_eq block first) (nat_eq block (last_of first blocks)))
edges_told block first blocks Head place stored least fits is =
    one_touched block first (min 1 stored) place (omega (arith, is)) ∙ one_at place (nat_eq block first)
edges_told block first blocks Tail place stored least fits is =
    one_touched block (tail_block first blocks) (min 1 stored) place (omega (arith, is))
    ∙ ap (λ (n : ℕ). if nat_eq block n then Some (Put (place + 0)) else None) (tail_is first blocks (omega (arith, least)) fits)
    ∙ one_at place (nat_eq block (last_of first blocks))
edges_told block first blocks Both place stored least fits is =
    let one : min 1 stored ≡ 1 = omega (arith, is) in
    let other : min 1 (stored - 1) ≡ 1 = omega (arith, is) in
    let second : place + 4096 * min 1 stored ≡ place + 4096 = omega (arith, is) in
    ap (λ (t : Option Touch). later t (touch_in block (record { first = tail_block first blocks; blocks = min 1 (stored - 1); touch = Put (place + 4096 * min 1 stored) })))
    (one_touched block first (min 1 stored) place one)
    ∙ ap (λ (t : Option Touch). later (if nat_eq block first then Some (Put (place + 0)) else None) t)
    (one_touched block (tail_block first blocks) (min 1 (stored - 1)) (place + 4096 * min 1 stored) other
    ∙ ap (λ (n : ℕ). if nat_eq block n then Some (Put (place + 4096 * min 1 stored + 0)) else None) (tail_is first blocks (omega (arith, least)) fits)
    ∙ ap (λ (p : ℕ). if nat_eq block (last_of first blocks) then Some (Put (p + 0)) else None) second)
    ∙ two_touched place (nat_eq block first) (nat_eq block (last_of first blocks))
    (λ here there.
    let first_is = eqb-true block first here in
    let last_is = eqb-true block (last_of first blocks) there in
    omega (arith, first_is, last_is, least))

put_told : (test : Bool) (place at kind : _) → (if test then Some (Put (place + at)) else None)
    ≡ (if test then Some (touch_of place (if test then Some at else None) kind) else None)
put_told true place at kind = refl
put_told false place at kind = refl

-- edges lie within what is cleared
edged_told : (covered : Bool) (place : ℕ) (edge : Option ℕ) (kind : Kind) → (covered ≡ false → edge ≡ None)
    → later (if covered then Some (Clear kind) else None) (put_at place edge) ≡ (if covered then Some (touch_of place (if covered then edge else None) kind) else None)
unfolding put_at
edged_told true place None kind inside = refl
edged_told true place (Some at) kind inside = refl
edged_told false place edge kind inside = ap (λ (e : Option ℕ). later None (put_at place e)) (inside refl)

edge_inside : (block first blocks : ℕ) (edges : Edges) → least_blocks edges ≤ blocks → covers first blocks block ≡ false
    → edge_slot edges (nat_eq block first) (nat_eq block (last_of first blocks)) ≡ None
edge_inside block first blocks Head least outside =
    let no_first : nat_eq block first ≡ false = grind (arith, nat_tests, least, outside) in
    ap (λ (test : Bool). if test then Some 0 else None) no_first
edge_inside block first blocks Tail least outside =
    let no_last : nat_eq block (last_of first blocks) ≡ false = grind (arith, nat_tests, least, outside) in
    ap (λ (test : Bool). if test then Some 0 else None) no_last
edge_inside block first blocks Both least outside =
    let no_first : nat_eq block first ≡ false = grind (arith, nat_tests, least, outside) in
    let no_last : nat_eq block (last_of first blocks) ≡ false = grind (arith, nat_tests, least, outside) in
    ap (λ (test : Bool). if test then Some 0 else (if nat_eq block (last_of first blocks) then Some 4096 else None)) no_first
    ∙ ap (λ (test : Bool). if test then Some 4096 else None) no_last

pub touches_told : (limit block place : ℕ) (change : Change) → IsChange limit change → last_touch block (touched_by place change) ≡ touch_told block place change
touches_told limit block place (Written first bytes) is =
    let blocks : length bytes / 4096 ≡ (length bytes + 4095) / 4096 = omega (arith, is.1) in
    ap (λ (n : ℕ). if covers first n block then Some (Put (place + 13 + 4096 * (block - first))) else None) blocks
    ∙ put_told (touches block (Written first bytes)) (place + 13) (4096 * (block - first)) Data
touches_told limit block place (Cleared first blocks kind) is = refl
touches_told limit block place (Edged first blocks kind edges bytes) is =
    ap (λ (t : Option Touch). later (if covers first blocks block then Some (Clear kind) else None) t)
    (edges_told block first blocks edges (place + 14) (length bytes / 4096) is.0 is.5 (omega (arith, is.4)))
    ∙ edged_told (covers first blocks block) (place + 14) (edge_slot edges (nat_eq block first) (nat_eq block (last_of first blocks))) kind (edge_inside block first blocks edges is.0)

kind_told : (test : Bool) (place : ℕ) (at : Option ℕ) (given kind : Kind) → (if test then kind_in at given else kind) ≡ kind_after (if test then Some (touch_of place at given) else None) kind
kind_told true place None given kind = refl
kind_told true place (Some at) given kind = refl
kind_told false place at given kind = refl

one_kind : (limit place : ℕ) (change : Change) (image : Image) (block : ℕ) → IsChange limit change → (apply change image).kind block ≡ kind_after (last_touch block (touched_by place change)) (image.kind block)
one_kind limit place change image block is =
    kind_told (touches block change) (data_place place change) (slot block change) (kind_given change) (image.kind block)
    ∙ ap (λ (t : Option Touch). kind_after t (image.kind block)) (sym (touches_told limit block place change is))

-- the data of a change stand where it stands, and the bytes of a block that it writes are among them
pub data_stand : (content : List ℕ) (place : ℕ) (change : Change) → StandsAt content place (change_bytes change) → StandsAt content (data_place place change) (data_of change)
unfolding change_bytes
data_stand content place (Written first bytes) stands =
    let at : place + length (change_head 1 first (length bytes / 4096)) ≡ place + 13 = omega (arith, length-change_head 1 first (length bytes / 4096)) in
    subst (λ (p : ℕ). StandsAt content p bytes) at (back content place (change_head 1 first (length bytes / 4096)) bytes stands)
data_stand content place (Cleared first blocks kind) stands = λ k below. absurd (omega (arith, below))
data_stand content place (Edged first blocks kind edges bytes) stands =
    let head = change_head (edged_byte kind) first blocks in
    let at : place + length head + 1 ≡ place + 14 = omega (arith, length-change_head (edged_byte kind) first blocks) in
    subst (λ (p : ℕ). StandsAt content p bytes) at
    (back content (place + length head) (edges_byte edges ∷ []) bytes (back content place head (edges_byte edges ∷ bytes) stands))

some_inside : (test : Bool) (at found limit : ℕ) → (test ≡ true → at + 4096 ≤ limit) → (if test then Some at else None) ≡ Some found → found + 4096 ≤ limit
some_inside true at found limit inside is = let same : at ≡ found = cc in omega (arith, inside refl, same)
some_inside false at found limit inside is = let none : None ≡ Some found = is in cc

pub slot_inside : (limit block : ℕ) (change : Change) (at : ℕ) → IsChange limit change → slot block change ≡ Some at → at + 4096 ≤ length (data_of change)
slot_inside limit block (Written first bytes) at is slot_is = some_inside (touches block (Written first bytes)) (4096 * (block - first)) at (length bytes)
    (λ covered.
    let low : first ≤ block = grind (arith, nat_tests, covered) in
    let high : block < first + (length bytes + 4095) / 4096 = grind (arith, nat_tests, covered) in
    omega (arith, is.1, low, high))
    slot_is
slot_inside limit block (Cleared first blocks kind) at is slot_is = cc
slot_inside limit block (Edged first blocks kind edges bytes) at is slot_is =
    by_cover (covers first blocks block) slot_is
  where
    by_edge : (edges : Edges) (here there : Bool) → length bytes ≡ 4096 * edge_count edges → edge_slot edges here there ≡ Some at → at + 4096 ≤ length bytes
    by_edge Head here there long found = some_inside here 0 at (length bytes) (λ _. omega (arith, long)) found
    by_edge Tail here there long found = some_inside there 0 at (length bytes) (λ _. omega (arith, long)) found
    by_edge Both true there long found = let same : 0 ≡ at = cc in omega (arith, long, same)
    by_edge Both false there long found = some_inside there 4096 at (length bytes) (λ _. omega (arith, long)) found

    by_cover : (test : Bool) → (if test then edge_slot edges (nat_eq block first) (nat_eq block (last_of first blocks)) else None) ≡ Some at → at + 4096 ≤ length bytes
    by_cover true found = by_edge edges (nat_eq block first) (nat_eq block (last_of first blocks)) is.4 found
    by_cover false found = let none : None ≡ Some at = found in cc

byte_told : (test : Bool) (content written : List ℕ) (place : ℕ) (at : Option ℕ) (given : Kind) (offset byte : ℕ)
    → ((found : ℕ) → at ≡ Some found → slice_index written (found + offset) ≡ slice_index content (place + found + offset))
    → (if test then byte_in at written offset else byte) ≡ byte_after_touch (if test then Some (touch_of place at given) else None) content offset byte
byte_told true content written place None given offset byte same = refl
byte_told true content written place (Some at) given offset byte same = same at refl
byte_told false content written place at given offset byte same = refl

one_byte : (limit place : ℕ) (change : Change) (content : List ℕ) (image : Image) (block offset : ℕ) → IsChange limit change → StandsAt content place (change_bytes change) → offset < 4096
    → (apply change image).byte (4096 * block + offset) ≡ byte_after_touch (last_touch block (touched_by place change)) content offset (image.byte (4096 * block + offset))
one_byte limit place change content image block offset is stands small =
    let written = data_stand content place change stands in
    byte-apply change image block offset small
    ∙ byte_told (touches block change) content (data_of change) (data_place place change) (slot block change) (kind_given change) offset (image.byte (4096 * block + offset))
    (λ found at.
    let inside = slot_inside limit block change found is at in
    let same : data_place place change + found + offset ≡ data_place place change + (found + offset) = omega arith in
    sym (ap (λ (p : ℕ). slice_index content p) same ∙ written (found + offset) (omega (arith, inside, small))))
    ∙ ap (λ (t : Option Touch). byte_after_touch t content offset (image.byte (4096 * block + offset))) (sym (touches_told limit block place change is))

-- changes one after another
changes_kind : (limit place : ℕ) (changes : List Change) (image : Image) (block : ℕ) → AreChanges limit changes
    → (apply_all changes image).kind block ≡ kind_after (last_touch block (touched_by_changes place changes)) (image.kind block)
changes_kind limit place [] image block are = refl
changes_kind limit place (c ∷ changes) image block are =
    changes_kind limit (place + length (change_bytes c)) changes (apply c image) block are.1
    ∙ ap (λ (k : Kind). kind_after (last_touch block (touched_by_changes (place + length (change_bytes c)) changes)) k) (one_kind limit place c image block are.0)
    ∙ later_kind (last_touch block (touched_by place c)) (last_touch block (touched_by_changes (place + length (change_bytes c)) changes)) (image.kind block)
    ∙ ap (λ (t : Option Touch). kind_after t (image.kind block)) (sym (last_touch-append block (touched_by place c) (touched_by_changes (place + length (change_bytes c)) changes)))

changes_byte : (limit place : ℕ) (changes : List Change) (content : List ℕ) (image : Image) (block offset : ℕ) → AreChanges limit changes → StandsAt content place (flat_map change_bytes changes) → offset < 4096
    → (apply_all changes image).byte (4096 * block + offset) ≡ byte_after_touch (last_touch block (touched_by_changes place changes)) content offset (image.byte (4096 * block + offset))
changes_byte limit place [] content image block offset are stands small = refl
changes_byte limit place (c ∷ changes) content image block offset are stands small =
    changes_byte limit (place + length (change_bytes c)) changes content (apply c image) block offset are.1 (back content place (change_bytes c) (flat_map change_bytes changes) stands) small
    ∙ ap (λ (b : ℕ). byte_after_touch (last_touch block (touched_by_changes (place + length (change_bytes c)) changes)) content offset b)
    (one_byte limit place c content image block offset are.0 (front content place (change_bytes c) (flat_map change_bytes changes) stands) small)
    ∙ later_byte (last_touch block (touched_by place c)) (last_touch block (touched_by_changes (place + length (change_bytes c)) changes)) content offset (image.byte (4096 * block + offset))
    ∙ ap (λ (t : Option Touch). byte_after_touch t content offset (image.byte (4096 * block + offset))) (sym (last_touch-append block (touched_by place c) (touched_by_changes (place + length (change_bytes c)) changes)))

body_stands : (content : List ℕ) (place : ℕ) (group : StoredGroup) → StandsAt content (place + 1) (group_bytes group) → StandsAt content (place + 17) (body_of_group group)
unfolding group_bytes
body_stands content place group stands =
    let head = group_head (length (body_of_group group)) group.first (length group.changes) in
    let at : place + 1 + length head ≡ place + 17 = omega (arith, length-group_head (length (body_of_group group)) group.first (length group.changes)) in
    subst (λ (p : ℕ). StandsAt content p (body_of_group group)) at (back content (place + 1) head (body_of_group group) stands)

-- groups one after another
pub groups_kind : (limit : ℕ) (content : List ℕ) (place next : ℕ) (groups : List StoredGroup) → Stand limit content place next groups → (image : Image) (block : ℕ)
    → (apply_all (changes_of groups) image).kind block ≡ kind_after (last_touch block (touched_by_groups place groups)) (image.kind block)
groups_kind limit content place next [] stand image block = refl
groups_kind limit content place next (g ∷ groups) stand image block =
    let first = last_touch block (touched_by_changes (place + 17) g.changes) in
    let second = last_touch block (touched_by_groups (place + size_of g) groups) in
    ap (λ (i : Image). i.kind block) (apply_all-append g.changes (changes_of groups) image)
    ∙ groups_kind limit content (place + size_of g) (number_behind g) groups stand.3 (apply_all g.changes image) block
    ∙ ap (λ (k : Kind). kind_after second k) (changes_kind limit (place + 17) g.changes image block stand.2.changes)
    ∙ later_kind first second (image.kind block)
    ∙ ap (λ (t : Option Touch). kind_after t (image.kind block)) (sym (last_touch-append block (touched_by_changes (place + 17) g.changes) (touched_by_groups (place + size_of g) groups)))

pub groups_byte : (limit : ℕ) (content : List ℕ) (place next : ℕ) (groups : List StoredGroup) → Stand limit content place next groups → (image : Image) (block offset : ℕ) → offset < 4096
    → (apply_all (changes_of groups) image).byte (4096 * block + offset) ≡ byte_after_touch (last_touch block (touched_by_groups place groups)) content offset (image.byte (4096 * block + offset))
groups_byte limit content place next [] stand image block offset small = refl
groups_byte limit content place next (g ∷ groups) stand image block offset small =
    let first = last_touch block (touched_by_changes (place + 17) g.changes) in
    let second = last_touch block (touched_by_groups (place + size_of g) groups) in
    ap (λ (i : Image). i.byte (4096 * block + offset)) (apply_all-append g.changes (changes_of groups) image)
    ∙ groups_byte limit content (place + size_of g) (number_behind g) groups stand.3 (apply_all g.changes image) block offset small
    ∙ ap (λ (b : ℕ). byte_after_touch second content offset b) (changes_byte limit (place + 17) g.changes content image block offset stand.2.changes (body_stands content place g stand.1) small)
    ∙ later_byte first second content offset (image.byte (4096 * block + offset))
    ∙ ap (λ (t : Option Touch). byte_after_touch t content offset (image.byte (4096 * block + offset))) (sym (last_touch-append block (touched_by_changes (place + 17) g.changes) (touched_by_groups (place + size_of g) groups)))
