-- A trace that is right so far is so without its last event, whose line is its last. Events t stand with the latest first.
use Rattle.std.proofs.Common.{◌≡◌, ℕ, List, [], ◌∷◌, ◌++◌, reverse, sym, ap, subst, ◌∙◌}
use Rattle.std.proofs.lemmas.List.{reverse-reverse}
use Rattle.sv_wire.specs.declared.message.Reply.{Reply}
use Rattle.sv_journal.specs.declared.entry.Entry.{Entry}
use Rattle.sv_journal.specs.History.{accepted}
use Rattle.sv_client.specs.declared.trace.Event.{Event}
use Rattle.sv_client.specs.declared.trace.Trace.{Trace}
use Rattle.sv_client.specs.Traces.{got}
use Rattle.sv_client.specs.Taking.{Identity}
use Rattle.sv_client.specs.Proper.{AreProper, identity_of}
use Rattle.sv_scenario.specs.declared.scenario.Plan.{Plan}
use Rattle.sv_scenario.specs.declared.scenario.Scenario.{Scenario}
use Rattle.sv_script.specs.Following.{FollowsTo}
use Rattle.law_system.specs.Fits.{is_join_of, replies_in}
use Rattle.law_system.specs.Fronts.{IsFront}
use Rattle.law_system.proofs.Asked.{any-reverse}
use Rattle.sv_report.specs.Report.{event_text, event_lines, trace_text}
use Rattle.sv_check.specs.Next.{GotFronts}
use Rattle.sv_check.specs.Parts.{IsTraceSoFar}
use Rattle.sv_check.proofs.GoingOn.{client_line}
use Rattle.sv_check.proofs.Told.{fronts_less}
use Rattle.sv_check.proofs.WholeLines.{behind_both}

-- The trace with other events.
abbrev pub with_events : Trace → List Event → Trace
with_events L t = record { client = L.client; interest = L.interest; first = L.first; events = reverse t }

module _ (L : Trace) (e : Event) (t : List Event) (latest : reverse L.events ≡ e ∷ t) where
  pub last_event : (entries : List Entry) → trace_text entries L ≡ trace_text entries (with_events L t) ++ event_text entries t e ++ 10 ∷ []
  last_event entries =
      let head = client_line L.client.0 in
      let line = event_text entries t e in
      ap (λ (u : List Event). head ++ 10 ∷ event_lines entries u) latest
      ∙ behind_both head (10 ∷ event_lines entries t) line
      ∙ ap (λ (u : List Event). (head ++ 10 ∷ event_lines entries u) ++ line ++ 10 ∷ []) (sym (reverse-reverse t))

  module _ (scenario : Scenario) (h : List Entry) (plan : Plan) (far : IsTraceSoFar scenario h plan L) where
    abbrev who : Identity
    who = identity_of scenario.world.shape L

    abbrev R : ℕ → List Reply
    R s = replies_in (accepted h) h s

    turned : t ≡ reverse (reverse t)
    turned = sym (reverse-reverse t)

    all_got : GotFronts R (reverse L.events)
    all_got s j = far.got_is s (any-reverse (is_join_of s) L.events j)

    gets : GotFronts R t
    gets = fronts_less who L.first R e t (subst (GotFronts R) latest all_got)

    pub so_far_less : IsTraceSoFar scenario h plan (with_events L t)
    so_far_less =
        let proper : AreProper who L.first (e ∷ t) = subst (AreProper who L.first) latest far.proper.events in
        let done : FollowsTo who plan.steps (e ∷ t) far.follows.left = subst (λ (u : List Event). FollowsTo who plan.steps u far.follows.left) latest far.follows.follows in
        record {
          proper = record { who = far.proper.who; events = subst (AreProper who L.first) turned proper.1 };
          follows = record { left = done.0; follows = subst (λ (u : List Event). FollowsTo who plan.steps u done.0) turned done.1.0 };
          got_is = λ s j. subst (λ (u : List Event). IsFront (got u s) (R s)) turned (gets s (any-reverse (is_join_of s) t j));
        }
