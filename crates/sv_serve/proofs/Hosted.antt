-- All sessions of a scenario that were served.
use Rattle.std.proofs.Common.{◌≡◌, ℕ, ◌+◌, ◌<◌, ◌≤◌, false, List, [], ◌∷◌, ◌++◌, length, reverse, slice_get, Some, sym, ap, subst, ◌∙◌, arith}
use Rattle.std.specs.List.{AllByRecursion, AllZip}
use Rattle.std.proofs.lemmas.List.{length-map}
use Rattle.std.proofs.lemmas.List.Elements.{All-from_recursion, recursion_from_All}
use Rattle.std.proofs.lemmas.Option.{slice_get_within}
use Rattle.std.proofs.lemmas.Slice.Zip.{AllZip-long}
use Rattle.sv_link.specs.Ends.{Told, new_end}
use Rattle.sv_link.specs.declared.side.Side.TheVariants.{Server}
use Rattle.sv_journal.specs.declared.entry.Entry.{Entry}
use Rattle.sv_journal.specs.Laws.{FullRepliesStay, LegalRelaysNameAccepted}
use Rattle.sv_scenario.specs.Sessions.{session_count}
use Rattle.sv_session.specs.Serving.{SessionPass}
use Rattle.law_system.proofs.Every.{each-reverse}
use Rattle.law_system.specs.Places.{EachPlace}
use Rattle.law_system.proofs.Places.{each_all, at_place, unmap_at}
use Rattle.law_traffic.specs.Runs.{IsGoodRun}
use Rattle.sv_threads.specs.declared.tasks.Service.{Service}
use Rattle.sv_threads.specs.declared.tasks.Serviced.{Serviced}
use Rattle.sv_threads.specs.Tasks.{WasServed}
use Rattle.sv_threads.specs.Given.{Setting, keeper_after, IsService}
use Rattle.sv_threads.specs.RunRemains.{is_memory, IsOfLock, JoinedPasses, IsServiced}
use Rattle.sv_threads.specs.Moved.{Moved}
use Rattle.sv_threads.specs.Playing.{TookAllIn}
use Rattle.sv_threads.proofs.Leaving.{served_left, all_of_lock}
use Rattle.sv_threads.proofs.Whole.{session_served}
use Rattle.sv_threads.proofs.Keepers.{just_of, below_of, legal_of, all_taken_in}
use Rattle.sv_door.specs.Doors.{Passage, passage_of}
use Rattle.law_traffic.specs.Sessions.{IsSessionServed}
use Rattle.law_traffic.proofs.Loops.{ends_are}
use Rattle.sv_serve.specs.Giving.{passage_kept, kept_unserved, kept_served, unused_passage, IsUnservedOf, IsServedOf}
use Rattle.sv_serve.specs.Passages.{IsPassageOf}
use Rattle.sv_serve.specs.Hosting.{IsHosted}
use Rattle.sv_serve.proofs.Passages.{passage_is}

-- What a fact of a place and its bound gives of all.
each_within : {X : Type 0} (P : ℕ → X → Type 0) (Q : X → Type 0) (xs : List X) → EachPlace P xs → ((k : ℕ) (x : X) → k < length xs → P k x → Q x) → AllByRecursion Q xs
each_within P Q xs all f =
    each_all (λ k x. (k < length xs) × P k x) Q xs (λ k x e. (slice_get_within xs k x e, all k x e)) (λ k x both. f k x both.0 both.1)

module _ {E G : Type 0} (told : E → Told) (faults : E → ℕ) (calm : E → Type 0) (run : Setting) where
  -- The ends of sessions to be served are of the door that made them.
  pub unserved_own : (xs : List (Service E G)) → EachPlace (IsService told faults calm run) xs → (made : ℕ) → run.pairs + length xs ≤ made → AllByRecursion (IsUnservedOf told made) xs
  unserved_own xs services made most =
      each_within (IsService told faults calm run) (IsUnservedOf told made) xs services
      (λ k x low service. let pair = ap (λ (t : Told). t.pair) service.end.told_is in omega (arith, most, low, pair))

  -- They are numbered in the order of their sessions.
  pub unserved_numbers : (xs : List (Service E G)) → EachPlace (IsService told faults calm run) xs → EachPlace (λ k x. x.number ≡ run.pairs + k) (kept_unserved told faults xs)
  unserved_numbers xs services k p e =
      let x = unmap_at (λ (x : Service E _). passage_kept told faults x.end) xs k p e in
      ap (λ (q : Passage). q.number) (sym x.2) ∙ ap (λ (t : Told). t.pair) (services k x.0 x.1).end.told_is

  -- What is kept of them tells that nobody used them.
  pub unserved_unused : (xs : List (Service E G)) → EachPlace (IsService told faults calm run) xs → EachPlace (λ k x. x ≡ unused_passage (run.pairs + k)) (kept_unserved told faults xs)
  unserved_unused xs services k p e =
      let x = unmap_at (λ (x : Service E _). passage_kept told faults x.end) xs k p e in
      let end = (services k x.0 x.1).end in
      sym x.2 ∙ (ap (λ (t : Told). passage_of t (faults x.0.end)) end.told_is ∙ ap (λ (n : ℕ). passage_of (new_end (run.pairs + k) Server) n) end.faultless)

module _ {E G : Type 0} (told : E → Told) (faults : E → ℕ) (calm : E → Type 0) (run : Setting) (xs : List (Service E G)) (ys : List (Serviced E))
    (count : length xs ≡ session_count run.scenario) (services : EachPlace (IsService told faults calm run) xs) (kept : AllZip (WasServed told faults calm) xs ys) where
  served : EachPlace (IsServiced told faults calm run) ys
  served = served_left told faults calm run xs ys services kept

  pub all_served : length ys ≡ session_count run.scenario
  all_served = AllZip-long (WasServed told faults calm) xs ys kept ∙ count

  pub passes : AllByRecursion (IsOfLock run.lock) ys
  passes = all_of_lock told faults calm run ys served

  pub served_own : (made : ℕ) → made ≡ run.pairs + session_count run.scenario → AllByRecursion (IsServedOf told made) ys
  served_own made is =
      each_within (IsServiced told faults calm run) (IsServedOf told made) ys served
      (λ s y low service. let pair = ap (λ (t : Told). t.pair) service.served.told in omega (arith, is, low, pair, all_served))

  pub served_numbers : EachPlace (λ k x. x.number ≡ run.pairs + k) (kept_served told faults ys)
  served_numbers s p e =
      let y = unmap_at (λ (y : Serviced E). passage_kept told faults y.end) ys s p e in
      ap (λ (q : Passage). q.number) (sym y.2) ∙ ap (λ (t : Told). t.pair) (served s y.0 y.1).served.told

  module _ (k : SessionPass) (joined : JoinedPasses ys (keeper_after (session_count run.scenario) run.lock run.scenario) k) (good : IsGoodRun run.scenario) where
    pub took_all : TookAllIn run.scenario (keeper_after 0 run.lock run.scenario) k
    took_all = all_taken_in told faults calm run ys served all_served k joined good

    module _ (stay : FullRepliesStay) (name : LegalRelaysNameAccepted) (with_memory : AllByRecursion (λ (y : Serviced E). is_memory y.out ≡ false) ys) where
      was_served : (s : ℕ) (y : Serviced E) → slice_get ys s ≡ Some y → IsSessionServed k.seen s y.out (told y.end) (faults y.end)
      was_served = session_served told faults calm run k.seen ys served with_memory joined.seen (just_of told faults calm run ys served all_served k joined good)

      each_passage : EachPlace (IsPassageOf (reverse k.seen)) (kept_served told faults ys)
      each_passage s x e =
          let y = unmap_at (λ (y : Serviced E). passage_kept told faults y.end) ys s x e in
          subst (IsPassageOf (reverse k.seen) s) y.2 (passage_is stay name k.seen s y.0.out (told y.0.end) (faults y.0.end) (was_served s y.0 y.1))

      pub hosted : (m : Moved Passage) → m.kept_now ≡ m.kept_before ++ kept_served told faults ys → m.ran_now ≡ m.ran_before ++ length xs ∷ [] → IsHosted run.scenario (reverse k.seen) m
      hosted m given ran =
          record {
            legal = legal_of told faults calm run ys served all_served k joined good;
            sessions =
                let P : Entry → Type 0 = λ (e : Entry). e.session < session_count run.scenario in
                All-from_recursion P (reverse k.seen) (each-reverse P k.seen (recursion_from_All P k.seen (below_of told faults calm run ys served all_served k joined good)));
            ended = λ s low.
                let y = at_place ys s (omega (arith, low, all_served)) in
                ends_are k.seen s y.0.out (told y.0.end) (faults y.0.end) (was_served s y.0 y.1);
            passages = kept_served told faults ys;
            given = given;
            count = length-map ys (λ (y : Serviced E). passage_kept told faults y.end) ∙ all_served;
            each = each_passage;
            ran = ran ∙ ap (λ (n : ℕ). m.ran_before ++ n ∷ []) count;
          }
