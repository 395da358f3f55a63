-- One session taken in.
use Rattle.std.proofs.Common.{◌++◌, ◌||◌, [], ◌∷◌, sym, ap, subst, ◌∙◌, append_assoc, length, arith}
use Rattle.std.specs.List.{AllByRecursion, list_any}
use Rattle.std.proofs.lemmas.List.Folds.{list_any-append}
use Rattle.std.proofs.lemmas.List.{map-append}
use Rattle.std.proofs.Math.Bool.{or-false}
use Rattle.sv_threads.specs.RunRemains.{is_memory, IsOfLock}
use Rattle.sv_threads.proofs.Taken.{joined_more}
use Rattle.sv_serve.specs.Giving.{passage_kept, kept_served, IsServedOf}
use Rattle.sv_serve.proofs.taking.take_in.Goals as goal

pub give_back-requires-clause-own : goal.give_back-requires-clause-own
give_back-requires-clause-own g c =
    let i = c.loop-session.invariant in
    let own = subst (AllByRecursion (IsServedOf g.D.E.End.told (g.D.Door.made c.args.door.now))) c.in-Some.ensures.steps.0 i.own in
    let low = own.0 in
    let made = i.made in
    omega (arith, low, made)

pub loop-session-preserved : goal.loop-session-preserved
loop-session-preserved g c =
    let i = c.loop-session.invariant in
    let told = g.D.E.End.told in
    let faults = g.D.E.End.faults in
    let e = c.in-Some.ensures.steps.0 in
    let y = c.in-Some.session in
    let yielded = c.loop-session.yielded in
    let rest = c.next.new.self.rest.items in
    let j = c.join.ensures in
    let b = c.give_back.ensures in
    let before = g.D.Door.given c.args.door.now in
    let size = ap (λ l. length l) e in
    let enough = i.enough in
    let owed = i.owed in
    let less = b.owed in
    record {
      all = append_assoc yielded (y ∷ []) rest ∙ (ap (λ l. yielded ++ l) (sym e) ∙ i.all);
      joined =
          joined_more yielded y c.args.keeper.now c.loop-session.keeper c.join.new.keeper i.joined j.same.0 j.same.1 j.same.2 j.same.4 j.ended j.seen.0 j.seen.1
          (record { just = j.just; below = j.below; legal = j.lawful });
      given =
          b.given
          ∙ (ap (λ l. l ++ passage_kept told faults y.end ∷ []) i.given
          ∙ (append_assoc before (kept_served told faults yielded) (passage_kept told faults y.end ∷ []) ∙ ap (λ l. before ++ l) (sym (map-append (λ x. passage_kept told faults x.end) yielded (y ∷ [])))));
      passes = (subst (AllByRecursion (IsOfLock c.args.lock.now)) e i.passes).1;
      own = (subst (AllByRecursion (IsServedOf told (g.D.Door.made c.args.door.now))) e i.own).1;
      enough = omega (arith, size, enough, less);
      owed = omega (arith, size, owed, less);
      made = b.made ∙ i.made;
      faults = b.faults ∙ i.faults;
      lacked =
          c.lacks-lacked.ensures
          ∙ (ap (λ b. b || is_memory y.out) i.lacked
          ∙ sym (list_any-append (λ x. is_memory x.out) yielded (y ∷ []) ∙ ap (λ b. list_any (λ x. is_memory x.out) yielded || b) (or-false (is_memory y.out))));
    }
