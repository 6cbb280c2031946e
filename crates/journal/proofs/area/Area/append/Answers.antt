use Rattle.std.proofs.Common.{◌≡◌, ◌∙◌, ℕ, ◌+◌, [], ◌∷◌, ◌++◌, List, length, take, Err, ap, refl, subst, sym, arith}
use Rattle.image_model.specs.Command.{bodies_of}
use Rattle.journal_format.specs.Area.{AreaState}
use Rattle.journal_format.specs.Group.{Numbered, number_after}
use Rattle.journal_format.specs.GroupList.{IsListStored}
use Rattle.journal_format.specs.Spelling.{stored_of}
use Rattle.journal_format.specs.declared.touch.TouchedRange.{TouchedRange}
use Rattle.journal.specs.Append.{grown}
use Rattle.journal.proofs.RefusalHandedOn.{ok_apart, same_fault}
use Rattle.journal.proofs.area.Area.append.Goals as goal

-- an area with the group noted, once its gate and its next number are after it
grown_at : (old noted inside : AreaState) (group : Numbered) (bytes next : ℕ) → inside ≡ noted → noted ≡ record old { touched = (grown old group).touched } → bytes ≡ bodies_of group.commands → next ≡ number_after group
    → record inside { next = next; gate = inside.gate + (17 + bytes) } ≡ grown old group
grown_at old noted inside group bytes next inside_is noted_is bytes_are next_is =
    let gate_is : old.gate + (17 + bytes) ≡ old.gate + 17 + bodies_of group.commands = omega (arith, bytes_are) in
    ap (λ (area : AreaState). record area { next = next; gate = area.gate + (17 + bytes) }) (inside_is ∙ noted_is)
    ∙ ap (λ (gate : ℕ). record (grown old group) { next = next; gate = gate }) gate_is
    ∙ ap (λ (number : ℕ). record (grown old group) { next = number }) next_is

-- one that remembers only what it did of its list
cut_back : (old left inside : AreaState) (held : ℕ) (list : List TouchedRange) → inside ≡ left → left ≡ record old { touched = left.touched } → held ≡ length old.touched → list ≡ take held inside.touched
    → take (length old.touched) left.touched ≡ old.touched → record inside { touched = list } ≡ old
cut_back old left inside held list inside_is left_is held_is list_is begins =
    ap (λ (area : AreaState). record area { touched = list }) (inside_is ∙ left_is)
    ∙ ap (λ (touched : List TouchedRange). record old { touched = touched })
    (list_is ∙ ap (λ (count : ℕ). take count inside.touched) held_is ∙ ap (λ (area : AreaState). take (length old.touched) area.touched) inside_is ∙ begins)

pub returns-in-Ok : goal.returns-in-Ok
returns-in-Ok g c =
    let stored = c.in-Ok.ensures in
    let is = grown_at c.args.self.now c.store-stored.new.self _ c.args.group c.body_bytes.result c.number_after-self-inside.result c.self-2.view_is stored.noted c.body_bytes.ensures.exact c.number_after-self-inside.ensures in record {
      ok = is;
      err = tt;
      group_back = tt;
      extent = stored.extent;
      honest = stored.honest;
      full = (λ none. absurd none, λ over. absurd (omega (arith, over, stored.fits)));
      out_of_order = (λ none. absurd none, λ at. absurd (ok_apart _ _ (stored.out_of_order.1 at)));
      undamaged = tt;
      faults_ok = stored.faults_ok;
      faults_err = tt;
      unchanged = tt;
      stored = λ honest first groups held changes.
          subst (λ (area : AreaState). IsListStored area first (groups ++ stored_of c.args.group ∷ []) (g.D.Disk.state c.args.disk.now) (g.D.Disk.state c.store-stored.new.disk)) (sym is)
          (stored.stored honest first groups held changes);
      any_moment = stored.any_moment;
    }

pub returns-in-Err : goal.returns-in-Err
returns-in-Err g c =
    let stored = c.in-Err.ensures in
    let held : c.len-held.result ≡ length c.args.self.now.touched = omega (arith, c.len-held.ensures, ap (λ (area : AreaState). length area.touched) c.self.view_is) in record {
      ok = tt;
      err = cut_back c.args.self.now c.store-stored.new.self _ c.len-held.result _ c.self-2.view_is stored.same held c.truncate.ensures.items stored.begins;
      group_back = refl;
      extent = stored.extent;
      honest = stored.honest;
      full = (λ is. stored.full.0 (ap Err is), λ over. same_fault _ _ (stored.full.1 over));
      out_of_order = (λ is. stored.out_of_order.0 (ap Err is), λ at. same_fault _ _ (stored.out_of_order.1 at));
      undamaged = stored.undamaged;
      faults_ok = tt;
      faults_err = stored.faults_err;
      unchanged = stored.unchanged;
      stored = λ honest first groups held changes. tt;
      any_moment = stored.any_moment;
    }
