-- The bytes of an area hold at most one list of groups.
use Rattle.std.proofs.Common.{◌≡◌, ℕ, ◌+◌, ◌/◌, ◌^◌, ◌<◌, ◌≤◌, List, [], ◌∷◌, ◌++◌, length, slice_index, get_or, take, drop, sym, ◌∙◌, ap, subst, refl, arith, append_assoc, length-append}
use Rattle.std.specs.List.{flat_map}
use Rattle.std.proofs.lemmas.List.Sums.{sum_by-cons}
use Rattle.std.proofs.lemmas.List.{append-nil, ext_get_or, get_or_append_left, get_or-append-add, take_at, drop_at}
use Rattle.byteorder.specs.Endian.{big_from, big_bytes}
use Rattle.byteorder.specs.Numbers.{big_number-reads_back}
use Rattle.image_model.specs.declared.command.Kind.{Kind}
use Rattle.image_model.specs.declared.command.Kind.TheVariants.{Data, Zero, Hole}
use Rattle.image_model.specs.Command.{IsCleared}
use Rattle.image_model.specs.declared.command.Edges.{Edges}
use Rattle.image_model.specs.declared.command.Edges.TheVariants.{Head, Tail, Both}
use Rattle.image_model.specs.Change.{Change, Written, Cleared, Edged, IsChange, AreChanges, edge_count}
use Rattle.journal_format.specs.Spelling.{StoredGroup, clear_byte, edged_byte, edges_byte, change_head, change_bytes, body_of_group, group_head, group_bytes}
use Rattle.journal_format.specs.Area.{AreaState}
use Rattle.journal_format.specs.GroupList.{StandsAt, size_of, sizes_of, number_behind, next_behind, IsNextGroup, Stand, Lead, IsList, IsDamaged}
use Rattle.journal_format.specs.laws.Spelled.{length-change_head, length-group_head}

-- bytes at a place
pub front : (content : List ℕ) (place : ℕ) (xs ys : List ℕ) → StandsAt content place (xs ++ ys) → StandsAt content place xs
front content place xs ys stand k below = stand k (omega (arith, below, length-append xs ys)) ∙ get_or_append_left xs ys 0 k below

pub back : (content : List ℕ) (place : ℕ) (xs ys : List ℕ) → StandsAt content place (xs ++ ys) → StandsAt content (place + length xs) ys
back content place xs ys stand k below =
    let at : place + length xs + k ≡ place + (length xs + k) = omega arith in
    ap (λ (p : ℕ). slice_index content p) at ∙ stand (length xs + k) (omega (arith, below, length-append xs ys)) ∙ get_or-append-add xs ys k 0

pub same_bytes : (content : List ℕ) (place : ℕ) (xs ys : List ℕ) → length xs ≡ length ys → StandsAt content place xs → StandsAt content place ys → xs ≡ ys
same_bytes content place xs ys count left right =
    ext_get_or 0 xs ys count (λ k below. sym (left k below) ∙ right k (omega (arith, below, count)))

same_split : (a b r s : List ℕ) → length a ≡ length b → a ++ r ≡ b ++ s → (a ≡ b) × (r ≡ s)
same_split a b r s count same = (
  sym (take_at a r (length a) refl) ∙ ap (λ (l : List ℕ). take (length a) l) same ∙ take_at b s (length a) (sym count),
  sym (drop_at a r (length a) refl) ∙ ap (λ (l : List ℕ). drop (length a) l) same ∙ drop_at b s (length a) (sym count),
)

-- heads that are spelled alike are alike
pub body_read : (body first count : ℕ) → body < 256 ^ 4 → big_from 0 4 (group_head body first count) ≡ body
unfolding group_head
body_read body first count fits = big_number-reads_back 4 body (big_bytes 8 first ++ big_bytes 4 count) fits

kind_read : (kind first blocks : ℕ) → get_or (change_head kind first blocks) 0 0 ≡ kind
unfolding change_head
kind_read kind first blocks = refl

first_read : (kind first blocks : ℕ) → first < 256 ^ 8 → big_from 0 8 (drop 1 (change_head kind first blocks)) ≡ first
unfolding change_head
first_read kind first blocks fits = big_number-reads_back 8 first (big_bytes 4 blocks) fits

blocks_read : (kind first blocks : ℕ) → blocks < 256 ^ 4 → big_from 0 4 (drop 9 (change_head kind first blocks)) ≡ blocks
unfolding change_head
blocks_read kind first blocks fits = big_number-reads_back 4 blocks [] fits

-- a command is read back from its bytes, whatever follows them
cleared_not_put : (kind : Kind) → clear_byte kind ≡ 1 → ⊥
cleared_not_put Data is = omega (arith, is)
cleared_not_put Zero is = omega (arith, is)
cleared_not_put Hole is = omega (arith, is)

same_kind : (kind other : Kind) → IsCleared kind → IsCleared other → clear_byte kind ≡ clear_byte other → kind ≡ other
same_kind Data other cleared also same = absurd cleared
same_kind Zero Data cleared also same = absurd also
same_kind Zero Zero cleared also same = refl
same_kind Zero Hole cleared also same = absurd (omega (arith, same))
same_kind Hole Data cleared also same = absurd also
same_kind Hole Zero cleared also same = absurd (omega (arith, same))
same_kind Hole Hole cleared also same = refl

edged_not_put : (kind : Kind) → edged_byte kind ≡ 1 → ⊥
edged_not_put Data is = omega (arith, is)
edged_not_put Zero is = omega (arith, is)
edged_not_put Hole is = omega (arith, is)

edged_above : (kind : Kind) → 4 ≤ edged_byte kind
edged_above Data = omega arith
edged_above Zero = omega arith
edged_above Hole = omega arith

clear_below : (kind : Kind) → clear_byte kind < 4
clear_below Data = omega arith
clear_below Zero = omega arith
clear_below Hole = omega arith

same_edged_kind : (kind other : Kind) → IsCleared kind → IsCleared other → edged_byte kind ≡ edged_byte other → kind ≡ other
same_edged_kind Data other cleared also same = absurd cleared
same_edged_kind Zero Data cleared also same = absurd also
same_edged_kind Zero Zero cleared also same = refl
same_edged_kind Zero Hole cleared also same = absurd (omega (arith, same))
same_edged_kind Hole Data cleared also same = absurd also
same_edged_kind Hole Zero cleared also same = absurd (omega (arith, same))
same_edged_kind Hole Hole cleared also same = refl

same_edges : (edges other : Edges) → edges_byte edges ≡ edges_byte other → edges ≡ other
same_edges Head Head same = refl
same_edges Head Tail same = absurd (omega (arith, same))
same_edges Head Both same = absurd (omega (arith, same))
same_edges Tail Head same = absurd (omega (arith, same))
same_edges Tail Tail same = refl
same_edges Tail Both same = absurd (omega (arith, same))
same_edges Both Head same = absurd (omega (arith, same))
same_edges Both Tail same = absurd (omega (arith, same))
same_edges Both Both same = refl

-- the three parts of heads of commands
pub record SameHeads (k f n k' f' n' : ℕ) : Type 0 where
  pub kind : k ≡ k'
  pub first : f ≡ f'
  pub blocks : n ≡ n'

pub same_heads : (k f n k' f' n' : ℕ) (r s : List ℕ) → f < 256 ^ 8 → n < 256 ^ 4 → f' < 256 ^ 8 → n' < 256 ^ 4 → change_head k f n ++ r ≡ change_head k' f' n' ++ s → SameHeads k f n k' f' n' × (r ≡ s)
same_heads k f n k' f' n' r s f_fits n_fits f'_fits n'_fits same =
    let parts = same_split (change_head k f n) (change_head k' f' n') r s (length-change_head k f n ∙ sym (length-change_head k' f' n')) same in (
      record {
        kind = sym (kind_read k f n) ∙ ap (λ (l : List ℕ). get_or l 0 0) parts.0 ∙ kind_read k' f' n';
        first = sym (first_read k f n f_fits) ∙ ap (λ (l : List ℕ). big_from 0 8 (drop 1 l)) parts.0 ∙ first_read k' f' n' f'_fits;
        blocks = sym (blocks_read k f n n_fits) ∙ ap (λ (l : List ℕ). big_from 0 4 (drop 9 l)) parts.0 ∙ blocks_read k' f' n' n'_fits;
      },
      parts.1,
    )

-- a change as its head and what stands after it
record Parts (image : ℕ) (change : Change) : Type 0 where
  kind : ℕ
  first : ℕ
  blocks : ℕ
  rest : List ℕ
  spelled : change_bytes change ≡ change_head kind first blocks ++ rest
  first_fits : first < 256 ^ 8
  blocks_fit : blocks < 256 ^ 4

module _ (image : ℕ) (fits : image < 2 ^ 64) where
  parts_of : (x : Change) → IsChange image x → Parts image x
  unfolding change_bytes
  parts_of (Written first bytes) is = record {
    kind = 1;
    first = first;
    blocks = length bytes / 4096;
    rest = bytes;
    spelled = refl;
    first_fits = omega (arith, is.4, fits);
    blocks_fit = omega (arith, is.1, is.3);
  }
  parts_of (Cleared first blocks kind) is = record {
    kind = clear_byte kind;
    first = first;
    blocks = blocks;
    rest = [];
    spelled = sym (append-nil (change_head (clear_byte kind) first blocks));
    first_fits = omega (arith, is.1, fits);
    blocks_fit = omega (arith, is.2);
  }
  parts_of (Edged first blocks kind edges bytes) is = record {
    kind = edged_byte kind;
    first = first;
    blocks = blocks;
    rest = edges_byte edges ∷ bytes;
    spelled = refl;
    first_fits = omega (arith, is.1, fits);
    blocks_fit = omega (arith, is.2);
  }

  -- what two changes have in common that are spelled alike
  same_parts : (x y : Change) (r s : List ℕ) (is : IsChange image x) (is' : IsChange image y) → change_bytes x ++ r ≡ change_bytes y ++ s
      → SameHeads (parts_of x is).kind (parts_of x is).first (parts_of x is).blocks (parts_of y is').kind (parts_of y is').first (parts_of y is').blocks
      × ((parts_of x is).rest ++ r ≡ (parts_of y is').rest ++ s)
  same_parts x y r s is is' same =
      let one = parts_of x is in
      let other = parts_of y is' in
      same_heads one.kind one.first one.blocks other.kind other.first other.blocks (one.rest ++ r) (other.rest ++ s)
      one.first_fits one.blocks_fit other.first_fits other.blocks_fit
      (sym (append_assoc (change_head one.kind one.first one.blocks) one.rest r)
      ∙ ap (λ (l : List ℕ). l ++ r) (sym one.spelled)
      ∙ same
      ∙ ap (λ (l : List ℕ). l ++ s) other.spelled
      ∙ append_assoc (change_head other.kind other.first other.blocks) other.rest s)

  same_change : (x y : Change) (r s : List ℕ) → IsChange image x → IsChange image y → change_bytes x ++ r ≡ change_bytes y ++ s → (x ≡ y) × (r ≡ s)
  unfolding parts_of
  same_change (Written f bytes) (Written f' bytes') r s is is' same =
      let heads = same_parts (Written f bytes) (Written f' bytes') r s is is' same in
      let tails = same_split bytes bytes' r s (omega (arith, heads.0.blocks, is.1, is'.1)) heads.1 in
      (ap (λ (first : ℕ). Written first bytes) heads.0.first ∙ ap (λ (b : List ℕ). Written f' b) tails.0, tails.1)
  same_change (Written f bytes) (Cleared f' n' kind') r s is is' same =
      absurd (cleared_not_put kind' (sym (same_parts (Written f bytes) (Cleared f' n' kind') r s is is' same).0.kind))
  same_change (Written f bytes) (Edged f' n' kind' edges' bytes') r s is is' same =
      absurd (edged_not_put kind' (sym (same_parts (Written f bytes) (Edged f' n' kind' edges' bytes') r s is is' same).0.kind))
  same_change (Cleared f n kind) (Written f' bytes') r s is is' same =
      absurd (cleared_not_put kind (same_parts (Cleared f n kind) (Written f' bytes') r s is is' same).0.kind)
  same_change (Cleared f n kind) (Cleared f' n' kind') r s is is' same =
      let heads = same_parts (Cleared f n kind) (Cleared f' n' kind') r s is is' same in (
        ap (λ (first : ℕ). Cleared first n kind) heads.0.first ∙ ap (λ (blocks : ℕ). Cleared f' blocks kind) heads.0.blocks
            ∙ ap (λ (k : Kind). Cleared f' n' k) (same_kind kind kind' is.3 is'.3 heads.0.kind),
        heads.1,
      )
  same_change (Cleared f n kind) (Edged f' n' kind' edges' bytes') r s is is' same =
      let kinds = (same_parts (Cleared f n kind) (Edged f' n' kind' edges' bytes') r s is is' same).0.kind in
      absurd (omega (arith, kinds, clear_below kind, edged_above kind'))
  same_change (Edged f n kind edges bytes) (Written f' bytes') r s is is' same =
      absurd (edged_not_put kind (same_parts (Edged f n kind edges bytes) (Written f' bytes') r s is is' same).0.kind)
  same_change (Edged f n kind edges bytes) (Cleared f' n' kind') r s is is' same =
      let kinds = (same_parts (Edged f n kind edges bytes) (Cleared f' n' kind') r s is is' same).0.kind in
      absurd (omega (arith, kinds, clear_below kind', edged_above kind))
  same_change (Edged f n kind edges bytes) (Edged f' n' kind' edges' bytes') r s is is' same =
      let heads = same_parts (Edged f n kind edges bytes) (Edged f' n' kind' edges' bytes') r s is is' same in
      let bytes_alike : edges_byte edges ≡ edges_byte edges' = ap (λ (l : List ℕ). get_or l 0 0) heads.1 in
      let edges_alike : edges ≡ edges' = same_edges edges edges' bytes_alike in
      let counts : edge_count edges ≡ edge_count edges' = ap edge_count edges_alike in
      let behind : bytes ++ r ≡ bytes' ++ s = ap (λ (l : List ℕ). drop 1 l) heads.1 in
      let tails = same_split bytes bytes' r s (omega (arith, counts, is.4, is'.4)) behind in (
        ap (λ (first : ℕ). Edged first n kind edges bytes) heads.0.first ∙ ap (λ (blocks : ℕ). Edged f' blocks kind edges bytes) heads.0.blocks
            ∙ ap (λ (k : Kind). Edged f' n' k edges bytes) (same_edged_kind kind kind' is.3 is'.3 heads.0.kind)
            ∙ ap (λ (e : Edges). Edged f' n' kind' e bytes) edges_alike ∙ ap (λ (b : List ℕ). Edged f' n' kind' edges' b) tails.0,
        tails.1,
      )

  some_bytes : (x : Change) (xs : List Change) → [] ≡ flat_map change_bytes (x ∷ xs) → ⊥
  unfolding change_bytes
  some_bytes (Written f bytes) xs same = omega (arith, ap length same, length-append (change_head 1 f (length bytes / 4096) ++ bytes) (flat_map change_bytes xs), length-append (change_head 1 f (length bytes / 4096)) bytes, length-change_head 1 f (length bytes / 4096))
  some_bytes (Cleared f n kind) xs same = omega (arith, ap length same, length-append (change_head (clear_byte kind) f n) (flat_map change_bytes xs), length-change_head (clear_byte kind) f n)
  some_bytes (Edged f n kind edges bytes) xs same = omega (
    arith,
    ap length same,
    length-append (change_head (edged_byte kind) f n ++ edges_byte edges ∷ bytes) (flat_map change_bytes xs),
    length-append (change_head (edged_byte kind) f n) (edges_byte edges ∷ bytes),
    length-change_head (edged_byte kind) f n,
  )

  same_changes : (xs ys : List Change) → AreChanges image xs → AreChanges image ys → flat_map change_bytes xs ≡ flat_map change_bytes ys → xs ≡ ys
  same_changes [] [] are are' same = refl
  same_changes [] (y ∷ ys) are are' same = absurd (some_bytes y ys same)
  same_changes (x ∷ xs) [] are are' same = absurd (some_bytes x xs (sym same))
  same_changes (x ∷ xs) (y ∷ ys) are are' same =
      let parts = same_change x y (flat_map change_bytes xs) (flat_map change_bytes ys) are.0 are'.0 same in
      let rest = same_changes xs ys are.1 are'.1 parts.1 in
      ap (λ (z : Change). z ∷ xs) parts.0 ∙ ap (λ (zs : List Change). y ∷ zs) rest

  same_group : (content : List ℕ) (place next : ℕ) (g h : StoredGroup) → IsNextGroup image next g → IsNextGroup image next h → StandsAt content place (group_bytes g) → StandsAt content place (group_bytes h) → g ≡ h
  unfolding group_bytes
  same_group content place next g h is_next is_next' stand stand' =
      let head = group_head (length (body_of_group g)) g.first (length g.changes) in
      let head' = group_head (length (body_of_group h)) h.first (length h.changes) in
      let count : length head ≡ 16 = length-group_head _ _ _ in
      let count' : length head' ≡ 16 = length-group_head _ _ _ in
      let heads : head ≡ head' = same_bytes content place head head' (count ∙ sym count') (front content place head (body_of_group g) stand) (front content place head' (body_of_group h) stand') in
      let sizes : length (body_of_group g) ≡ length (body_of_group h) =
      sym (body_read _ g.first (length g.changes) (omega (arith, is_next.body))) ∙ ap (λ (l : List ℕ). big_from 0 4 l) heads ∙ body_read _ h.first (length h.changes) (omega (arith, is_next'.body)) in
      let behind = subst (λ (n : ℕ). StandsAt content (place + n) (body_of_group g)) (count ∙ sym count') (back content place head (body_of_group g) stand) in
      let bodies = same_bytes content (place + length head') (body_of_group g) (body_of_group h) sizes behind (back content place head' (body_of_group h) stand') in
      let firsts : g.first ≡ h.first = is_next.first ∙ sym is_next'.first in
      let changes : g.changes ≡ h.changes = same_changes g.changes h.changes is_next.changes is_next'.changes bodies in
      let left : g ≡ record { first = h.first; changes = g.changes } = ap (λ (f : ℕ). let made : StoredGroup = record { first = f; changes = g.changes } in made) firsts in
      left ∙ ap (λ (cs : List Change). let made : StoredGroup = record { first = h.first; changes = cs } in made) changes

  pub one_list : (content : List ℕ) (place next : ℕ) (gs hs : List StoredGroup) → Stand image content place next gs → Stand image content place next hs → gs ≡ hs
  one_list content place next [] [] stand stand' = refl
  one_list content place next [] (h ∷ hs) stand stand' = absurd (stand stand'.0)
  one_list content place next (g ∷ gs) [] stand stand' = absurd (stand' stand.0)
  one_list content place next (g ∷ gs) (h ∷ hs) stand stand' =
      let same : g ≡ h = same_group content (place + 1) next g h stand.2 stand'.2 stand.1 stand'.1 in
      let rest = one_list content (place + size_of h) (number_behind h) gs hs (subst (λ (k : StoredGroup). Stand image content (place + size_of k) (number_behind k) gs) same stand.3) stand'.3 in
      ap (λ (k : StoredGroup). k ∷ gs) same ∙ ap (λ (ks : List StoredGroup). h ∷ ks) rest

  -- a list begins with the groups that stand first
  record Rest (content : List ℕ) (place next : ℕ) (gs hs : List StoredGroup) : Type 0 where
    rest : List StoredGroup
    sizes : sizes_of hs ≡ sizes_of gs + sizes_of rest
    stand : Stand image content (place + sizes_of gs) (next_behind next gs) rest

  rest_of : (content : List ℕ) (place next : ℕ) (gs hs : List StoredGroup) → Lead image content place next gs → Stand image content place next hs → Rest content place next gs hs
  rest_of content place next [] hs lead stand =
      let same : place ≡ place + 0 = omega arith in
      record { rest = hs; sizes = omega arith; stand = subst (λ (p : ℕ). Stand image content p next hs) same stand }
  rest_of content place next (g ∷ gs) [] lead stand = absurd (stand lead.0)
  rest_of content place next (g ∷ gs) (h ∷ hs) lead stand =
      let same : h ≡ g = same_group content (place + 1) next h g stand.2 lead.2 stand.1 lead.1 in
      let further = rest_of content (place + size_of g) (number_behind g) gs hs lead.3 (subst (λ (k : StoredGroup). Stand image content (place + size_of k) (number_behind k) hs) same stand.3) in
      let size : size_of h ≡ size_of g = ap (λ (k : StoredGroup). size_of k) same in
      let at : place + size_of g + sizes_of gs ≡ place + sizes_of (g ∷ gs) = omega (arith, sum_by-cons size_of g gs) in
      record {
        rest = further.rest;
        sizes = omega (arith, further.sizes, size, sum_by-cons size_of g gs, sum_by-cons size_of h hs);
        stand = subst (λ (p : ℕ). Stand image content p (next_behind (number_behind g) gs) further.rest) at further.stand;
      }

-- a damaged area holds no list
pub damaged_none : (area : AreaState) (first : ℕ) (content : List ℕ) (groups : List StoredGroup) → area.blocks < 2 ^ 64 → IsDamaged area first content → IsList area first groups content → ⊥
damaged_none area first content groups fits damaged list =
    let found = rest_of area.blocks fits content area.from first damaged.groups groups damaged.lead list.stand in
    no_rest found.rest found.stand (omega (arith, found.sizes, list.inside))
  where
    no_rest : (rest : List StoredGroup) → Stand area.blocks content (area.from + sizes_of damaged.groups) (next_behind first damaged.groups) rest → sizes_of damaged.groups + sizes_of rest < area.bytes → ⊥
    no_rest [] stand below = stand damaged.is_open
    no_rest (g ∷ rest) stand below = damaged.none g stand.2 stand.1 (omega (arith, below, sum_by-cons size_of g rest))
