-- One lying client is tolerated: honest clients report what the serial execution gives, and nothing is agreed without one of them, so all that is
-- agreed is that, whatever the liar reports.
use Rattle.std.proofs.Common.{◌≡◌, ℕ, ◌<◌, true, ◌&&◌, ◌==◌, inl, inr, List, [], ◌∷◌, reverse, length, ℤ, Some, sym, true≢false}
use Rattle.std.specs.List.{AllByRecursion}
use Rattle.std.proofs.lemmas.Bool.{or_cases, and_parts}
use Rattle.std.proofs.lemmas.List.Elements.{recursion_from_All, All-weaker}
use Rattle.sv_world.specs.declared.action.Action.{Action}
use Rattle.sv_world.specs.declared.world.Shape.{Shape}
use Rattle.sv_journal.specs.declared.entry.Entry.{Entry}
use Rattle.sv_journal.specs.History.{client_of, actions_of, reports}
use Rattle.sv_journal.specs.Answer.{Rules}
use Rattle.sv_client.specs.declared.trace.Trace.{Trace}
use Rattle.sv_client.specs.Proper.{identity_of}
use Rattle.sv_client.specs.Traces.{held_of}
use Rattle.law_system.specs.Fits.{has_session, FitsOne}
use Rattle.law_system.specs.Served.{is_session_of, FitsBut}
use Rattle.law_system.specs.Serial.{AreSerial, AreSufficient}
use Rattle.law_system.specs.Cuts.{AreCuts}
use Rattle.law_system.specs.Journals.{serial_result, ResultsAreSerial}
use Rattle.law_system.proofs.Trusted.{some-reported}
use Rattle.law_system.proofs.Histories.{IsEarlier, same, earlier-rest}
use Rattle.law_system.proofs.Entered.{client-stays}
use Rattle.law_system.proofs.Asking.{fits-but_values}
use Rattle.law_system.proofs.Observed.{are-cuts}
use Rattle.law_system.proofs.Induction.{done-serial, whole-well, heads-serial, committed-serial}
use Rattle.sv_witness.specs.Reports.{agreed_history}
use Rattle.sv_witness.specs.Witnessed.{agreed, IsWitnessed}
use Rattle.sv_witness.specs.Tolerance.{IsTolerated}
use Rattle.sv_witness.proofs.Same.{agreed-keeping}
use Rattle.sv_witness.proofs.Forms.{done-of, none-give-none}
use Rattle.sv_witness.proofs.Values.{agreed-serial, disputes-named}

-- ---- What an honest client reports

-- The honest client whose session it is.
owner-of : (shape : Shape) (H : List Entry) (Ls : List Trace) → AllByRecursion (FitsOne shape H) Ls → (k s : ℕ) → is_session_of Ls k s ≡ true →
    (L : Trace) × (FitsOne shape H L × (has_session L s ≡ true))
owner-of shape H [] each k s h = absurd (true≢false (sym h))
owner-of shape H (L ∷ Ls) each k s h =
    elim (or_cases (L.client.0 == k && has_session L s) (is_session_of Ls k s) h) [
      | inl e ↦ (L, (each.0, (and_parts (L.client.0 == k) (has_session L s) e).1))
      | inr e ↦ owner-of shape H Ls each.1 k s e
    ]

-- ---- Values, relays and disputes

module _ (liar : ℕ) (r : Rules) (H : List Entry) (Ls : List Trace) (count : length r.world.values ≡ r.world.shape.objects) (legal : IsWitnessed r H)
    (fits : FitsBut liar r.world.shape H Ls) where
  abbrev acts : List Action
  acts = actions_of H

  honest-done : (e : Entry) (g : List Entry) (k : ℕ) → IsEarlier (e ∷ g) H → client_of g e.session ≡ Some k → (k ≡ liar → ⊥) →
      ResultsAreSerial r.world.values acts (agreed_history g) → (p : ℕ) (vs : List (List ℤ)) → 0 < p → reports p e.request ≡ Some vs → vs ≡ serial_result r.world.values acts p
  honest-done e g k part client other before p vs low is =
      let d = done-of p e.request vs is in
      let mine : is_session_of Ls k e.session ≡ true = fits.joined e.session k (client-stays g H (earlier-rest g e H part) e.session k client) other in
      let o = owner-of r.world.shape H Ls (recursion_from_All (FitsOne r.world.shape H) Ls fits.each) k e.session mine in
      some-reported r.world.values acts p d.results vs low (done-serial agreed agreed-keeping r H count legal e g d.results d.done part before o.0 o.1.0 o.1.1) d.given

  pub results-tolerated : ResultsAreSerial r.world.values acts (agreed_history H)
  results-tolerated = agreed-serial liar r.world.values acts H honest-done (none-give-none r H legal)

  pub tolerated : IsTolerated liar r H Ls
  tolerated = record {
    world = committed-serial agreed agreed-keeping r H count legal results-tolerated H same;
    held = All-weaker (FitsOne r.world.shape H) (λ (L : Trace). AreSerial r.world.values acts (held_of (reverse L.events)))
        (λ L f. (whole-well agreed agreed-keeping r H count legal results-tolerated L (fits-but_values r.world.shape H L f)).serial) Ls fits.each;
    heads = heads-serial agreed agreed-keeping r H count legal results-tolerated;
    relays = All-weaker (FitsOne r.world.shape H) (λ (L : Trace). AreSufficient acts (reverse L.events))
        (λ L f. (whole-well agreed agreed-keeping r H count legal results-tolerated L (fits-but_values r.world.shape H L f)).sufficient) Ls fits.each;
    seen = All-weaker (FitsOne r.world.shape H) (λ (L : Trace). AreCuts r.world.values acts (identity_of r.world.shape L) (reverse L.events))
        (λ L f. are-cuts agreed r H L (record { keeps = agreed-keeping; legal = legal; fits = fits-but_values r.world.shape H L f }) count results-tolerated) Ls fits.each;
    disputes = disputes-named liar r.world.values acts H honest-done (none-give-none r H legal);
  }
