-- One session more, and giving all ends back.
use Rattle.std.proofs.Common.{◌≡◌, ℕ, ◌+◌, Bool, false, List, [], ◌∷◌, ◌++◌, length, reverse, refl, sym, ap, subst, ◌∙◌}
use Rattle.std.specs.List.{AllByRecursion, list_any}
use Rattle.std.proofs.lemmas.Bool.{or_parts}
use Rattle.std.proofs.lemmas.List.{length-map, reverse-reverse}
use Rattle.sv_link.specs.Ends.{Told}
use Rattle.sv_journal.specs.declared.entry.Entry.{Entry}
use Rattle.sv_journal.specs.Answer.{Rules, Legal}
use Rattle.sv_journal.specs.Laws.{LegalRelaysNameAccepted}
use Rattle.sv_journal.specs.Text.{RelaysNameAccepted}
use Rattle.law_system.specs.Places.{EachPlace}
use Rattle.sv_threads.specs.declared.tasks.Service.{Service}
use Rattle.sv_threads.specs.declared.tasks.Serviced.{Serviced}
use Rattle.sv_threads.specs.RunRemains.{is_memory}
use Rattle.sv_door.specs.Doors.{Passage}
use Rattle.sv_serve.specs.Giving.{doorway, passage_kept, kept_unserved, kept_served, unused_passage, GaveAllBack, GaveUnused}

-- A legal journal can be printed.
pub named : LegalRelaysNameAccepted → (r : Rules) (entries : List Entry) → Legal r (reverse entries) → RelaysNameAccepted entries
named law r entries legal = subst RelaysNameAccepted (reverse-reverse entries) (law r (reverse entries) legal)

-- Where it is told that no session had no memory, none had none.
pub none_lacked : {E : Type 0} (ys : List (Serviced E)) (told : Bool) → told ≡ list_any (λ (y : Serviced E). is_memory y.out) ys → told ≡ false → AllByRecursion (λ (y : Serviced E). is_memory y.out ≡ false) ys
none_lacked [] told just none = tt
none_lacked (y ∷ ys) told just none =
    let both = or_parts (is_memory y.out) (list_any (λ (x : Serviced _). is_memory x.out) ys) (sym just ∙ none) in
    (both.0, none_lacked ys false (sym both.1) refl)

module _ {E : Type 0} (told : E → Told) (faults : E → ℕ) (given0 given1 : List Passage) (made0 made1 owed0 owed1 : ℕ) where
  pub unserved_back : {G : Type 0} (xs : List (Service E G)) → given1 ≡ given0 ++ kept_unserved told faults xs → EachPlace (λ k x. x.number ≡ made0 + k) (kept_unserved told faults xs) →
      EachPlace (λ k x. x ≡ unused_passage (made0 + k)) (kept_unserved told faults xs) → made1 ≡ made0 + length xs → owed1 ≡ owed0 → GaveUnused (doorway given0 made0 owed0) (doorway given1 made1 owed1)
  unserved_back xs given numbers unused made owed =
      let same = length-map xs (λ (x : Service E _). passage_kept told faults x.end) in
      record {
        back = record { passages = kept_unserved told faults xs; given = given; numbers = numbers; made = made ∙ ap (λ (n : ℕ). made0 + n) (sym same); owed = owed };
        unused = unused;
      }

  pub served_back : (ys : List (Serviced E)) → given1 ≡ given0 ++ kept_served told faults ys → EachPlace (λ k x. x.number ≡ made0 + k) (kept_served told faults ys) → made1 ≡ made0 + length ys → owed1 ≡ owed0 →
      GaveAllBack (doorway given0 made0 owed0) (doorway given1 made1 owed1)
  served_back ys given numbers made owed =
      let same = length-map ys (λ (y : Serviced E). passage_kept told faults y.end) in
      record { passages = kept_served told faults ys; given = given; numbers = numbers; made = made ∙ ap (λ (n : ℕ). made0 + n) (sym same); owed = owed }
