-- maps of dirty blocks as lists of entries
use Rattle.std.proofs.Common.{◌≡◌, ℕ, ◌+◌, ◌≤◌, suc, Bool, true, false, cond, if◌then◌else◌, nat_eq, nat_lt, Option, Some, None, List, [], ◌∷◌, length, map, filter, sym, ap, ◌∙◌, refl, arith}
use Rattle.std.specs.Prelude.{fold}
use Rattle.std.specs.Option.{is_some}
use Rattle.std.specs.List.{IsDistinct, AllByRecursion}
use Rattle.std.specs.Map.{lookup, keys_of}
use Rattle.std.specs.Ordering.{nat_cmp}
use Rattle.std.specs.Cmp.{nat_cmp_total, nat_eq_equiv, unsigned_tied}
use Rattle.std.specs.FinMap.{find, get, len, from_entries, get-from_entries, len-empty, len-insert, same_map, nat_cmp-IsAntisymmetric}
use Rattle.std.proofs.lemmas.Map.Entries.{option_filter, lookup-filter-values}
use Rattle.image_model.specs.declared.command.Command.{Command}
use Rattle.image_model.specs.Change.{Change, change_of}
use Rattle.image_model.specs.Image.{touches}
use Rattle.image_model.specs.Dirty.{Dirty, with_blocks, clean_through, dirty_after, dirty_from}
use Rattle.image_model.specs.laws.DirtyMaps.{get-dirty_after, given, len-with_blocks_more}
use Rattle.image_model.specs.laws.CleanedMaps.{above, get-clean_through}
use Rattle.order_book.specs.Order.{OrderState, with_command}

abbrev pub Entries : Type 0
Entries = List (ℕ × ℕ)

find-lookup : (entries : Entries) (q : ℕ) → find nat_cmp q entries ≡ lookup (nat_eq q) entries
find-lookup [] q = refl
find-lookup (e ∷ entries) q = λ i. cond (unsigned_tied q e.0 i) (Some e.1) (find-lookup entries q i)

-- a map made of entries has what a look-up finds in them
pub get-entries : (entries : Entries) (q : ℕ) → get (from_entries {R = nat_cmp} entries) q ≡ lookup (nat_eq q) entries
get-entries entries q = get-from_entries nat_cmp_total entries q ∙ find-lookup entries q

-- entries in which a look-up finds what a map has make that map
made : (entries : Entries) (dirty : Dirty) → ((q : ℕ) → lookup (nat_eq q) entries ≡ get dirty q) → from_entries entries ≡ dirty
made entries dirty is = same_map nat_cmp_total nat_cmp-IsAntisymmetric _ _ (λ q. get-entries entries q ∙ is q)

-- a command decides for the blocks that it touches
pub made-after : (old new : Entries) (number : ℕ) (change : Change)
    → ((q : ℕ) → lookup (nat_eq q) new ≡ (if touches q change then given number q change else lookup (nat_eq q) old))
    → from_entries new ≡ dirty_after (from_entries old) number change
made-after old new number change is = made new (dirty_after (from_entries old) number change) (λ q.
    is q ∙ sym (get-dirty_after (from_entries old) number change q
    ∙ ap (λ (o : Option ℕ). if touches q change then given number q change else o) (get-entries old q)))

not_found : (k : ℕ) (entries : Entries) → AllByRecursion (λ x. nat_eq k x ≡ false) (keys_of entries) → lookup (nat_eq k) entries ≡ None
not_found k [] all = refl
not_found k (e ∷ entries) all = ap (λ (b : Bool). cond b (Some e.1) (lookup (nat_eq k) entries)) all.0 ∙ not_found k entries all.1

-- of entries with distinct keys a map has as many
pub len-entries : (entries : Entries) → IsDistinct nat_eq (keys_of entries) → len (from_entries {R = nat_cmp} entries) ≡ length entries
unfolding IsDistinct
len-entries [] distinct = len-empty nat_cmp ℕ
len-entries (e ∷ entries) distinct =
    let rest : Dirty = from_entries entries in
    let absent : get rest e.0 ≡ None = get-entries entries e.0 ∙ not_found e.0 entries distinct.0 in
    len-insert nat_cmp_total rest e.0 e.1
    ∙ ap (λ (o : Option ℕ). cond (is_some o) (len rest) (len rest + 1)) absent
    ∙ (let known = len-entries entries distinct.1 in omega arith)

-- a step of a count of the blocks that have a number, and those of a range
pub len-with_blocks_step : (entries : Entries) (number first count : ℕ) →
    len (with_blocks (from_entries entries) number first (count + 1))
    ≡ (let counted = len (with_blocks (from_entries entries) number first count) in if is_some (lookup (nat_eq (first + count)) entries) then counted else counted + 1)
len-with_blocks_step entries number first count =
    let counted = len (with_blocks (from_entries entries) number first count) in
    let next : count + 1 ≡ suc count = omega arith in
    ap (λ (n : ℕ). len (with_blocks (from_entries entries) number first n)) next
    ∙ len-with_blocks_more (from_entries entries) number first count
    ∙ ap (λ (o : Option ℕ). if is_some o then counted else counted + 1) (get-entries entries (first + count))

-- what an order that accepts commands holds as dirty
pub dirty-fold : (order : OrderState) (commands : List Command) →
    (fold with_command order commands).dirty ≡ dirty_from order.dirty order.mark (map change_of commands)
dirty-fold order [] = refl
dirty-fold order (command ∷ commands) = dirty-fold (with_command order command) commands

clean_found : (number : ℕ) (found : Option ℕ) → option_filter (λ own. nat_lt number own) found ≡ above number found
clean_found number None = refl
clean_found number (Some own) = refl

-- the entries above a number make the map whose other blocks are clean
pub made-clean_through : (old : Entries) (number : ℕ) → IsDistinct nat_eq (keys_of old)
    → from_entries (filter (λ (e : ℕ × ℕ). nat_lt number e.1) old) ≡ clean_through (from_entries old) number
made-clean_through old number distinct = made _ (clean_through (from_entries old) number) (λ q.
    lookup-filter-values nat_eq_equiv (λ own. nat_lt number own) q old distinct
    ∙ clean_found number (lookup (nat_eq q) old)
    ∙ sym (get-clean_through (from_entries old) number q ∙ ap (above number) (get-entries old q)))

shorter : {X : Type 0} (test : X → Bool) (list : List X) → length (filter test list) ≤ length list
shorter test [] = omega arith
shorter test (x ∷ list) = elim (test x) as (λ b. length (cond b (x ∷ filter test list) (filter test list)) ≤ length (x ∷ list)) [
  | true ↦ omega (arith, shorter test list)
  | false ↦ omega (arith, shorter test list)
]

-- a list that a filter leaves as long as it was is as it was
pub all_kept : {X : Type 0} (test : X → Bool) (list : List X) → length list ≤ length (filter test list) → filter test list ≡ list
all_kept test [] long = refl
all_kept test (x ∷ list) long =
    elim (test x) as (λ b. length (x ∷ list) ≤ length (cond b (x ∷ filter test list) (filter test list)) → cond b (x ∷ filter test list) (filter test list) ≡ x ∷ list) [
      | true ↦ λ l. ap (λ rest. x ∷ rest) (all_kept test list (omega (arith, l)))
      | false ↦ λ l. absurd (omega (arith, l, shorter test list))
    ] long
