-- Replicas equal serial execution: by induction over the entries, each reported result is that of the serial execution.
use Rattle.std.proofs.Common.{◌≡◌, ℕ, zero, suc, ◌<◌, Bool, true, false, ◌==◌, inl, inr, List, [], ◌∷◌, reverse, length, ℤ, Option, Some, None, refl, sym, ap, ◌∙◌, subst, arith, eqb-true, true≢false}
use Rattle.std.specs.Prelude.{if◌then◌else◌}
use Rattle.std.specs.List.{list_any, AllByRecursion}
use Rattle.std.proofs.lemmas.Bool.{cond-true, cond-false, cases_Bool, or_cases}
use Rattle.std.proofs.lemmas.List.Elements.{All-from_recursion, recursion_from_All}
use Rattle.std.proofs.lemmas.Option.{none-some, same_Some}
use Rattle.sv_world.specs.Control.{action_at}
use Rattle.sv_world.specs.Sets.{read_set, write_set}
use Rattle.sv_world.specs.declared.action.Action.{Action}
use Rattle.sv_world.specs.declared.world.Shape.{Shape}
use Rattle.sv_eval.specs.Serial.{put_all, serial_world}
use Rattle.sv_eval.proofs.Serials.{serial_length}
use Rattle.sv_wire.specs.declared.message.Done1.{Done1}
use Rattle.sv_wire.specs.declared.message.Request.{Request}
use Rattle.sv_wire.specs.declared.message.Request.TheVariants as requests
use Rattle.sv_journal.specs.declared.entry.Entry.{Entry}
use Rattle.sv_journal.specs.History.{accepted, actions_of, is_noted, reported, reports, result_at, either}
use Rattle.sv_journal.specs.Sessions.{is_end}
use Rattle.sv_journal.specs.Answer.{Rules, Legal}
use Rattle.sv_journal.specs.Serving.{plain, LegalFor}
use Rattle.sv_journal.proofs.Plain.{plain-keeping, plain-legal}
use Rattle.sv_client.specs.declared.trace.Trace.{Trace}
use Rattle.sv_client.specs.Traces.{held_at, held_of}
use Rattle.sv_client.specs.Proper.{identity_of}
use Rattle.law_system.specs.Fits.{has_session, FitsOne, is_owned, Fits}
use Rattle.law_system.specs.Serial.{IsSerial, AreSerial, results_held, request_held, reply_held, entry_held, ValuesAreSerial, AreSufficient, RelaysAreSufficient}
use Rattle.law_system.specs.Cuts.{AreCuts, SeenAreCuts}
use Rattle.law_system.specs.Delivery.{AreLawful}
use Rattle.law_system.specs.Journals.{deliveries_of, serial_result, IsSerialResult, ResultsAreSerial}
use Rattle.law_system.proofs.Tests.{at_mask-members, at_mask-ascending}
use Rattle.law_system.proofs.Every.{each-append, each-is_in, each-member}
use Rattle.law_system.proofs.Serials.{serial-step, put-serial}
use Rattle.law_system.proofs.Histories.{IsEarlier, same, earlier-rest}
use Rattle.law_system.proofs.Asking.{fits-but_values}
use Rattle.law_system.proofs.Observed.{are-cuts}
use Rattle.law_system.proofs.Induction.{plain-acts, lawful_at, done-serial, whole-well, reply-all-held}

-- ---- Results that were reported

abbrev IsReportSerial : List (List ℤ) → List Action → Request → Type 0
IsReportSerial opening A (requests.Done results) = AllByRecursion (IsSerialResult opening A) results
IsReportSerial opening A _ = Unit {0}

-- Each result that some Done of the history reports is that of the serial execution.
abbrev pub AreReportsSerial : List (List ℤ) → List Action → List Entry → Type 0
AreReportsSerial opening A h = AllByRecursion (λ (e : Entry). IsReportSerial opening A e.request) h

pub some-reported : (opening : List (List ℤ)) (A : List Action) (p : ℕ) (results : List Done1) (vs : List (List ℤ)) → 0 < p → AllByRecursion (IsSerialResult opening A) results →
    reported p results ≡ Some vs → vs ≡ serial_result opening A p
some-reported opening A p [] vs low each is = absurd (none-some vs is)
some-reported opening A p (d ∷ ds) vs low each is =
    let later = some-reported opening A p ds vs low each.1 in
    elim (cases_Bool (d.pos == p)) [
      | inl e ↦
          (let pos : d.pos ≡ p = eqb-true d.pos p e in
          let values : d.values ≡ vs = same_Some d.values vs (sym (cond-true (d.pos == p) _ _ e) ∙ is) in
          sym values ∙ each.0 (omega arith) ∙ ap (serial_result opening A) pos)
      | inr e ↦ later (sym (cond-false (d.pos == p) _ _ e) ∙ is)
    ]

one-reported : (opening : List (List ℤ)) (A : List Action) (p : ℕ) (q : Request) (vs : List (List ℤ)) → 0 < p → IsReportSerial opening A q → reports p q ≡ Some vs → vs ≡ serial_result opening A p
one-reported opening A p (requests.Done results) vs low each is = some-reported opening A p results vs low each is
one-reported opening A p (requests.Join client life interest) vs low each is = absurd (none-some vs is)
one-reported opening A p (requests.Submit seq a) vs low each is = absurd (none-some vs is)
one-reported opening A p requests.Poll vs low each is = absurd (none-some vs is)
one-reported opening A p (requests.Observe objects wait) vs low each is = absurd (none-some vs is)
one-reported opening A p requests.Leave vs low each is = absurd (none-some vs is)
one-reported opening A p requests.Bad vs low each is = absurd (none-some vs is)
one-reported opening A p requests.End vs low each is = absurd (none-some vs is)

if-noted : (b : Bool) (o : Option (List (List ℤ))) (vs : List (List ℤ)) → (if b then o else None) ≡ Some vs → o ≡ Some vs
if-noted true o vs e = e
if-noted false o vs e = absurd (none-some vs e)

-- Then each result that it notes is.
pub results-serial : (opening : List (List ℤ)) (A : List Action) (h : List Entry) → AreReportsSerial opening A h → ResultsAreSerial opening A h
results-serial opening A [] each p vs low is = absurd (none-some vs is)
results-serial opening A (e ∷ h) each p vs low is = go (result_at h p) refl (results-serial opening A h each.1 p vs low) is
  where
    go : (o : Option (List (List ℤ))) → result_at h p ≡ o → (result_at h p ≡ Some vs → vs ≡ serial_result opening A p) →
        either (result_at h p) (if is_noted e.reply then reports p e.request else None) ≡ Some vs → vs ≡ serial_result opening A p
    go (Some ws) f before g =
        before (f ∙ sym (ap (λ (o : Option (List (List ℤ))). either o (if is_noted e.reply then reports p e.request else None)) f) ∙ g)
    go None f before g =
        one-reported opening A p e.request vs low each.0
        (if-noted (is_noted e.reply) (reports p e.request) vs (sym (ap (λ (o : Option (List (List ℤ))). either o (if is_noted e.reply then reports p e.request else None)) f) ∙ g))

some-owner : (Ls : List Trace) (s : ℕ) → list_any (λ (L : Trace). has_session L s) Ls ≡ true → (shape : Shape) (h : List Entry) → AllByRecursion (FitsOne shape h) Ls →
    (L : Trace) × (FitsOne shape h L × (has_session L s ≡ true))
some-owner [] s h shape g each = absurd (true≢false (sym h))
some-owner (L ∷ Ls) s h shape g each =
    elim (or_cases (has_session L s) (list_any (λ (M : Trace). has_session M s) Ls) h) [ inl e ↦ (L, (each.0, e)) | inr e ↦ some-owner Ls s e shape g each.1 ]

module _ (r : Rules) (H : List Entry) (Ls : List Trace) (count : length r.world.values ≡ r.world.shape.objects) (legal : Legal r H) (fits : Fits r.world.shape H Ls) where
  abbrev legal_for : LegalFor plain r H
  legal_for = plain-legal r H legal

  abbrev acts : List Action
  acts = actions_of H

  entry-serial : (e : Entry) (h : List Entry) (q : Request) → e.request ≡ q → IsEarlier (e ∷ h) H → AreReportsSerial r.world.values acts h → is_owned Ls e ≡ true → IsReportSerial r.world.values acts q
  entry-serial e h (requests.Done results) is b before owned =
      elim (or_cases (is_end e.request) (list_any (λ (L : Trace). has_session L e.session) Ls) owned) [
        | inl x ↦ absurd (true≢false (sym x ∙ ap is_end is))
        | inr x ↦
            (let o = some-owner Ls e.session x r.world.shape H (recursion_from_All (FitsOne r.world.shape H) Ls fits.each) in
            done-serial plain plain-keeping r H count legal_for e h results is b (results-serial r.world.values acts h before) o.0 o.1.0 o.1.1)
      ]
  entry-serial e h (requests.Join client life interest) is b before owned = tt
  entry-serial e h (requests.Submit seq a) is b before owned = tt
  entry-serial e h requests.Poll is b before owned = tt
  entry-serial e h (requests.Observe objects wait) is b before owned = tt
  entry-serial e h requests.Leave is b before owned = tt
  entry-serial e h requests.Bad is b before owned = tt
  entry-serial e h requests.End is b before owned = tt

  all-serial : (h : List Entry) → IsEarlier h H → AllByRecursion (λ (e : Entry). is_owned Ls e ≡ true) h → AreReportsSerial r.world.values acts h
  all-serial [] b owned = tt
  all-serial (e ∷ h) b owned =
      let before : AreReportsSerial r.world.values acts h = all-serial h (earlier-rest h e H b) owned.1 in
      (entry-serial e h e.request refl b before owned.0, before)

  reports-serial : AreReportsSerial r.world.values acts H
  reports-serial = all-serial H same (recursion_from_All (λ (e : Entry). is_owned Ls e ≡ true) H fits.owned)

  pub noted-serial : ResultsAreSerial r.world.values acts H
  noted-serial = results-serial r.world.values acts H reports-serial

  -- ---- Printed values

  result-held : (d : Done1) → IsSerialResult r.world.values acts d → AreSerial r.world.values acts (held_at d.pos (write_set (action_at acts d.pos)) d.values)
  result-held d serial = at_position d.pos refl
    where
      at_position : (p : ℕ) → d.pos ≡ p → AreSerial r.world.values acts (held_at d.pos (write_set (action_at acts d.pos)) d.values)
      at_position zero e = subst (λ (n : ℕ). AreSerial r.world.values acts (held_at n (write_set (action_at acts n)) d.values)) (sym e) tt
      at_position (suc n) e =
          subst (λ (p : ℕ). AreSerial r.world.values acts (held_at p (write_set (action_at acts p)) d.values)) (sym e)
          (let a = action_at acts (suc n) in
          let world = serial_world r.world.values acts n in
          let values : d.values ≡ serial_result r.world.values acts (suc n) = serial (omega arith) ∙ ap (serial_result r.world.values acts) e in
          put-serial r.world.values acts (suc n) world (write_set a) d.values
          (serial-step r.world.values acts n ∙ ap (put_all world (write_set a)) (sym values))
          (at_mask-ascending a.mask 0 (read_set a) (plain-acts plain plain-keeping r H count legal_for (suc n)).0)
          (each-member (λ (x : ℕ). x < length world) (write_set a)
          (λ x m. subst (λ (l : ℕ). x < l) (sym (serial_length r.world.values acts n ∙ count))
          (each-is_in (λ (y : ℕ). y < r.world.shape.objects) (read_set a) (plain-acts plain plain-keeping r H count legal_for (suc n)).1 x (at_mask-members a.mask 0 (read_set a) x m)))))

  results-all-held : (ds : List Done1) → AllByRecursion (IsSerialResult r.world.values acts) ds → AreSerial r.world.values acts (results_held acts ds)
  results-all-held [] h = tt
  results-all-held (d ∷ ds) h =
      each-append (IsSerial r.world.values acts) (held_at d.pos (write_set (action_at acts d.pos)) d.values) (results_held acts ds) (result-held d h.0) (results-all-held ds h.1)

  request-all-held : (q : Request) → IsReportSerial r.world.values acts q → AreSerial r.world.values acts (request_held acts q)
  request-all-held (requests.Done results) h = results-all-held results h
  request-all-held (requests.Join client life interest) h = tt
  request-all-held (requests.Submit seq a) h = tt
  request-all-held requests.Poll h = tt
  request-all-held (requests.Observe objects wait) h = tt
  request-all-held requests.Leave h = tt
  request-all-held requests.Bad h = tt
  request-all-held requests.End h = tt

  printed-serial : (h : List Entry) → AreReportsSerial r.world.values acts h → AreLawful r.world.shape.objects r.world.values acts (deliveries_of h) →
      AllByRecursion (λ (e : Entry). AreSerial r.world.values acts (entry_held acts e)) h
  printed-serial [] reports' lawful = tt
  printed-serial (e ∷ h) reports' lawful =
      let p = reply-all-held plain plain-keeping r H count legal_for e.session (length (accepted (e ∷ h))) e.reply (deliveries_of h) lawful in
      (each-append (IsSerial r.world.values acts) (request_held acts e.request) (reply_held e.reply) (request-all-held e.request reports'.0) p.0, printed-serial h reports'.1 p.1)

  held-serial : (Ms : List Trace) → AllByRecursion (FitsOne r.world.shape H) Ms → AllByRecursion (λ (L : Trace). AreSerial r.world.values acts (held_of (reverse L.events))) Ms
  held-serial [] each = tt
  held-serial (L ∷ Ms) each = ((whole-well plain plain-keeping r H count legal_for noted-serial L (fits-but_values r.world.shape H L each.0)).serial, held-serial Ms each.1)

  got-sufficient : (Ms : List Trace) → AllByRecursion (FitsOne r.world.shape H) Ms → AllByRecursion (λ (L : Trace). AreSufficient acts (reverse L.events)) Ms
  got-sufficient [] each = tt
  got-sufficient (L ∷ Ms) each = ((whole-well plain plain-keeping r H count legal_for noted-serial L (fits-but_values r.world.shape H L each.0)).sufficient, got-sufficient Ms each.1)

  all-cuts : (Ms : List Trace) → AllByRecursion (FitsOne r.world.shape H) Ms → AllByRecursion (λ (L : Trace). AreCuts r.world.values acts (identity_of r.world.shape L) (reverse L.events)) Ms
  all-cuts [] each = tt
  all-cuts (L ∷ Ms) each = (
    are-cuts plain r H L (record { keeps = plain-keeping; legal = legal_for; fits = fits-but_values r.world.shape H L each.0 }) count noted-serial,
    all-cuts Ms each.1,
  )

  pub seen-cuts : SeenAreCuts r.world.shape r.world.values H Ls
  seen-cuts = All-from_recursion (λ (L : Trace). AreCuts r.world.values acts (identity_of r.world.shape L) (reverse L.events)) Ls (all-cuts Ls (recursion_from_All (FitsOne r.world.shape H) Ls fits.each))

  pub values-serial : ValuesAreSerial r.world.values H Ls
  values-serial = record {
    held = All-from_recursion (λ (L : Trace). AreSerial r.world.values acts (held_of (reverse L.events))) Ls (held-serial Ls (recursion_from_All (FitsOne r.world.shape H) Ls fits.each));
    printed = All-from_recursion (λ (e : Entry). AreSerial r.world.values acts (entry_held acts e)) H
        (printed-serial H reports-serial (lawful_at plain plain-keeping r H count legal_for H same noted-serial));
  }

  pub relays-sufficient : RelaysAreSufficient H Ls
  relays-sufficient = All-from_recursion (λ (L : Trace). AreSufficient acts (reverse L.events)) Ls (got-sufficient Ls (recursion_from_All (FitsOne r.world.shape H) Ls fits.each))
