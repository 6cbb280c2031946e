-- What seats know keeps fitting a board as the history and the numbers grow, and as seats come, hear and are spent.
use Rattle.std.proofs.Common.{◌≡◌, ◌≢◌, ℕ, zero, suc, ◌+◌, ◌≤◌, ◌⊎◌, List, [], ◌∷◌, ◌++◌, length, replicate, get_or, set, refl, sym, ap, ◌∙◌, subst, ⊎_elim, inl, inr, arith, false}
use mathlib.Core.Option.{some, some-injective, some-ne-none}
use mathlib.Core.List.{IsPrefix}
use lib.ListN.{get_elem?}
use Rattle.atomic_table.specs.Table.{State, keeps, stepped, opening}
use Rattle.atomic_table.proofs.Lists.{at_set}
use Rattle.image_model.specs.Image.{Image}
use Rattle.export_model.specs.declared.step.Mode.{Mode}
use Rattle.marks.specs.declared.said.Said.{Said}
use Rattle.marks.specs.declared.view.View.{View}
use Rattle.marks.specs.Rule.{World, Fits, FitsLog, IsBoard, IsLogged, first_view}
use Rattle.export_model.specs.World.{Setting}
use Rattle.export_model.specs.laws.Good.{good_quiet, knows_quiet, quiet}
use Rattle.image_model.specs.declared.layout.Layout.TheVariants.{One}
use Rattle.marks.specs.inner.Steps.{nothing}
use Rattle.marks.specs.laws.Beginnings.{prefix_none, prefix_self, prefix_trans}

abbrev pub Table : Type 0
Table = State Said View

-- more was accepted, stored or copied
pub record Grows (old new : World) : Type 0 where
  pub opened : new.opening ≡ old.opening
  pub history : IsPrefix old.history new.history
  pub durable : old.durable ≤ new.durable
  pub base : old.base ≤ new.base
  pub order : new.order ≡ old.order
  pub keeper : new.keeper ≡ old.keeper

-- what other seats have a right to raise stays as it is
pub record SameFor (old new : World) (seat : ℕ) : Type 0 where
  pub order : seat ≡ old.order → new.history ≡ old.history
  pub keeper : seat ≡ old.keeper → (new.durable ≡ old.durable) × (new.base ≡ old.base)

pub grows_none : (w : World) → Grows w w
grows_none w = record { opened = refl; history = prefix_self w.history; durable = omega arith; base = omega arith; order = refl; keeper = refl }

pub same_for : (w : World) (seat : ℕ) → SameFor w w seat
same_for w seat = record { order = λ _. refl; keeper = λ _. (refl, refl) }

fits_more : (old new : World) (seat : ℕ) (view : View) → Grows old new → SameFor old new seat → Fits old seat view → Fits new seat view
fits_more old new seat view more same fits =
    let d = fits.durable in let b = fits.base in let td = fits.told_durable in let tb = fits.told_base in let md = more.durable in let mb = more.base in record {
      opened = λ live. fits.opened live ∙ sym more.opened;
      seen = prefix_trans view.seen old.history new.history fits.seen more.history;
      durable = omega arith;
      base = omega arith;
      told = prefix_trans view.told old.history new.history fits.told more.history;
      told_durable = omega arith;
      told_base = omega arith;
      as_order = λ right. let own = fits.as_order right in (own.0 ∙ sym more.order, own.1 ∙ sym (same.order own.0));
      as_keeper = λ right. let own = fits.as_keeper right in let kept = same.keeper own.0 in (own.0 ∙ sym more.keeper, own.1 ∙ sym kept.0, own.2 ∙ sym kept.1);
    }

-- all seats fit once one of them has another view
each_set : (old new : World) (id : ℕ) (w : View) (views : List View) → Grows old new → ((seat : ℕ) → seat ≢ id → SameFor old new seat)
    → Fits new id w → ((seat : ℕ) (view : View) → get_elem? views seat ≡ some view → Fits old seat view)
    → (seat : ℕ) (view : View) → get_elem? (set views id w) seat ≡ some view → Fits new seat view
each_set old new id w views more same mine each seat view at =
    ⊎_elim
    (λ (here : (seat ≡ id) × (w ≡ view)). subst (λ (x : ℕ × View). Fits new x.0 x.1) (λ k. (sym here.0 k, here.1 k)) mine)
    (λ (there : (seat ≢ id) × (get_elem? views seat ≡ some view)). fits_more old new seat view more (same seat there.0) (each seat view there.1))
    (at_set views id seat w view at)

abbrev pub words_of : World → List ℕ
words_of w = (w.opening + length w.history) ∷ w.durable ∷ replicate 526 0

abbrev zeroes : ℕ → List ℕ
zeroes n = replicate n 0

-- a word that is 0 is 0 after an exchange of 0 for 0
set_quiet : (n i : ℕ) → set (zeroes n) i 0 ≡ zeroes n
set_quiet zero i = refl
set_quiet (suc n) zero = refl
set_quiet (suc n) (suc i) = ap (λ (ws : List ℕ). 0 ∷ ws) (set_quiet n i)

get_quiet : (n i : ℕ) → get_or (zeroes n) i 0 ≡ 0
get_quiet zero i = refl
get_quiet (suc n) zero = refl
get_quiet (suc n) (suc i) = get_quiet n i

-- all words after the first two are 0, and so they stay
pub quiet_stay : (w : World) (i : ℕ) → 2 ≤ i → set (words_of w) i 0 ≡ words_of w
quiet_stay w zero above = absurd (omega (arith, above))
quiet_stay w (suc zero) above = absurd (omega (arith, above))
quiet_stay w (suc (suc i)) above = ap (λ (ws : List ℕ). (w.opening + length w.history) ∷ w.durable ∷ ws) (set_quiet 526 i)

pub quiet_at : (w : World) (i : ℕ) → 2 ≤ i → get_or (words_of w) i 0 ≡ 0
quiet_at w zero above = absurd (omega (arith, above))
quiet_at w (suc zero) above = absurd (omega (arith, above))
quiet_at w (suc (suc i)) above = get_quiet 526 i

-- what a list that is one longer has at a place was there before, or stands at its end
pub at_end : (l : List View) (a v : View) (i : ℕ) → get_elem? (l ++ a ∷ []) i ≡ some v → (get_elem? l i ≡ some v) ⊎ ((i ≡ length l) × (a ≡ v))
at_end [] a v zero e = inr (refl, some-injective a v e)
at_end [] a v (suc i) e = absurd (some-ne-none v (sym e))
at_end (x ∷ l) a v zero e = inl e
at_end (x ∷ l) a v (suc i) e = ⊎_elim inl (λ (t : (i ≡ length l) × (a ≡ v)). inr (ap suc t.0, t.1)) (at_end l a v i e)

-- a view that knows nothing fits in any seat
pub fits_nothing : (w : World) (seat : ℕ) → Fits w seat nothing
fits_nothing w seat = record {
  opened = λ live. (cc);
  seen = prefix_none w.history;
  durable = omega arith;
  base = omega arith;
  told = prefix_none w.history;
  told_durable = omega arith;
  told_base = omega arith;
  as_order = λ r. (cc);
  as_keeper = λ r. (cc);
}

module _ (logs trusted : Type 0) (mode : Mode) (image : Image) where
  abbrev pub Rule : Table → Type 0
  Rule = IsBoard logs trusted mode image

  abbrev pub Log : World → List View → Type 0
  Log w views = logs → IsLogged trusted mode image w.opening w.history w.durable views

  -- a step of the seat `id`, which raises what grows
  pub moved : (s : Table) (b : Rule s) (new : World) (i n id : ℕ) (slots : List (ℕ × Said)) (w : View)
      → set (words_of b.world) i n ≡ words_of new → new.durable ≤ new.opening + length new.history → Grows b.world new
      → ((seat : ℕ) → seat ≢ id → SameFor b.world new seat) → Fits new id w → Log new (set s.views id w) → Rule (stepped s i n id slots w keeps)
  moved s b new i n id slots w words ordered more same mine log = record {
    world = new;
    words = ap (λ (ws : List ℕ). set ws i n) b.words ∙ words;
    ordered = ordered;
    each = each_set b.world new id w s.views more same mine b.each;
    logged = log;
  }

  -- a step that leaves the numbers as they are
  pub looked : (s : Table) (b : Rule s) (i n id : ℕ) (slots : List (ℕ × Said)) (w : View) → set (words_of b.world) i n ≡ words_of b.world
      → Fits b.world id w → Log b.world (set s.views id w) → Rule (stepped s i n id slots w keeps)
  looked s b i n id slots w same mine log = moved s b b.world i n id slots w same b.ordered (grows_none b.world) (λ seat _. same_for b.world seat) mine log

  -- a new seat comes, to which the seat `id` gives something
  pub split_to : (s : Table) (b : Rule s) (new : World) (id : ℕ) (left right : View) → words_of b.world ≡ words_of new → new.durable ≤ new.opening + length new.history
      → ((seat : ℕ) (view : View) → seat ≢ id → get_elem? s.views seat ≡ some view → Fits new seat view) → Fits new id left → Fits new (length (set s.views id left)) right
      → Log new (set s.views id left ++ right ∷ []) → Rule record { words = s.words; homes = s.homes; views = set s.views id left ++ right ∷ [] }
  split_to s b new id left right words ordered others mine theirs log = record {
    world = new;
    words = b.words ∙ words;
    ordered = ordered;
    each = λ seat view e.
        ⊎_elim
        (λ (was : get_elem? (set s.views id left) seat ≡ some view).
        ⊎_elim
        (λ (here : (seat ≡ id) × (left ≡ view)). subst (λ (x : ℕ × View). Fits new x.0 x.1) (λ k. (sym here.0 k, here.1 k)) mine)
        (λ (there : (seat ≢ id) × (get_elem? s.views seat ≡ some view)). others seat view there.0 there.1)
        (at_set s.views id seat left view was))
        (λ (last : (seat ≡ length (set s.views id left)) × (right ≡ view)). subst (λ (x : ℕ × View). Fits new x.0 x.1) (λ k. (sym last.0 k, last.1 k)) theirs)
        (at_end (set s.views id left) right view seat e);
    logged = log;
  }

  -- a seat takes something from another one, which is spent
  pub join_to : (s : Table) (b : Rule s) (new : World) (id other : ℕ) (both : View) → words_of b.world ≡ words_of new → new.durable ≤ new.opening + length new.history
      → ((seat : ℕ) (view : View) → seat ≢ id → seat ≢ other → get_elem? s.views seat ≡ some view → Fits new seat view) → Fits new id both
      → Log new (set (set s.views id both) other nothing) → Rule record { words = s.words; homes = s.homes; views = set (set s.views id both) other nothing }
  join_to s b new id other both words ordered others mine log = record {
    world = new;
    words = b.words ∙ words;
    ordered = ordered;
    each = λ seat view e.
        ⊎_elim
        (λ (gone : (seat ≡ other) × (nothing ≡ view)). subst (Fits new seat) gone.1 (fits_nothing new seat))
        (λ (there : (seat ≢ other) × (get_elem? (set s.views id both) seat ≡ some view)).
        ⊎_elim
        (λ (here : (seat ≡ id) × (both ≡ view)). subst (λ (x : ℕ × View). Fits new x.0 x.1) (λ k. (sym here.0 k, here.1 k)) mine)
        (λ (away : (seat ≢ id) × (get_elem? s.views seat ≡ some view)). others seat view away.0 there.0 away.1)
        (at_set s.views id seat both view there.1))
        (at_set (set s.views id both) other seat nothing view e);
    logged = log;
  }

  -- the other seat of a join fits as it did
  pub there_still : (s : Table) (id other : ℕ) (both w : View) → ¬ (other ≡ id) → get_elem? (set s.views id both) other ≡ some w → get_elem? s.views other ≡ some w
  there_still s id other both w apart at =
      ⊎_elim (λ (here : (other ≡ id) × (both ≡ w)). absurd (apart here.0)) (λ (there : (other ≢ id) × (get_elem? s.views other ≡ some w)). there.1) (at_set s.views id other both w at)

-- a world's setting of which the board knows these three
abbrev pub setting_of : Mode → Image → ℕ → Setting
setting_of mode image number = record {
  geometry = record { blocks = 1; area = 2097152; layout = One; some_blocks = omega arith; not_too_many = omega arith; area_not_too_small = omega arith; areas_not_too_small = omega arith; area_not_too_large = omega arith; area_whole = omega arith };
  flags = record { structured = false; context = false };
  mode = mode;
  connections = 0;
  frames = 0;
  image = image;
  opening = number;
  generation = 0;
  failures = 0;
  trusted = false;
}

abbrev pub world_at : ℕ → World
world_at number = record { opening = number; history = []; durable = number; base = number; order = 0; keeper = 0 }

-- a board that opens with a number
pub opens : (logs trusted : Type 0) (mode : Mode) (image : Image) (number : ℕ) → IsBoard logs trusted mode image (opening (number ∷ number ∷ replicate 526 0) [] (first_view number))
opens logs trusted mode image number = record {
  world = world_at number;
  words = ap (λ (k : ℕ). k ∷ number ∷ replicate 526 0) (omega arith);
  ordered = omega arith;
  each = λ seat view at.
      ⊎_elim (λ none_there. absurd (some-ne-none view (sym none_there)))
      (λ (first : (seat ≡ 0) × (first_view number ≡ view)). subst (Fits (world_at number) seat) first.1
      record {
        opened = λ _. refl;
        seen = prefix_none [];
        durable = omega arith;
        base = omega arith;
        told = prefix_none [];
        told_durable = omega arith;
        told_base = omega arith;
        as_order = λ _. (first.0, refl);
        as_keeper = λ _. (first.0, refl, refl);
      })
      (at_end [] (first_view number) view seat at);
  logged = λ _. record {
    room = record { world = quiet (setting_of mode image number); maker = 0; made = 0; holder = λ by. 0 };
    good = good_quiet trusted (setting_of mode image number);
    mode_is = refl;
    image_is = refl;
    opened = refl;
    order = refl;
    stored = omega arith;
    unmade = λ by above. (refl, refl, knows_quiet (setting_of mode image number) by);
    each = λ seat view at.
        ⊎_elim (λ none_there. absurd (some-ne-none view (sym none_there)))
        (λ (first : (seat ≡ 0) × (first_view number ≡ view)). subst (FitsLog (record { world = quiet (setting_of mode image number); maker = 0; made = 0; holder = λ by. 0 }) seat) first.1
        record { as_maker = λ _. (first.0, refl); as_client = λ r. (cc); gathered = tt })
        (at_end [] (first_view number) view seat at);
  };
}
