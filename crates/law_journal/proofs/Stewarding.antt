-- Where those clients are honest by whose reports a server goes, its values are those of the serial execution.
use Rattle.std.proofs.Common.{◌≡◌, ℕ, ◌<◌, Bool, true, false, not, ◌&&◌, ◌||◌, ◌==◌, inl, inr, List, [], ◌∷◌, ◌++◌, filter, length, ℤ, Option, Some, None, All, refl, sym, ap, ◌∙◌, subst, append_assoc, eqb-true, true≢false}
use Rattle.std.specs.Prelude.{if◌then◌else◌}
use Rattle.std.specs.List.{AllByRecursion, list_any}
use Rattle.std.proofs.lemmas.Bool.{or_cases}
use Rattle.std.proofs.lemmas.Option.{none-some}
use Rattle.std.proofs.lemmas.List.Elements.{recursion_from_All}
use Rattle.sv_world.specs.declared.action.Action.{Action}
use Rattle.sv_world.specs.declared.world.Shape.{Shape}
use Rattle.sv_wire.specs.declared.message.Done1.{Done1}
use Rattle.sv_wire.specs.declared.message.Request.{Request}
use Rattle.sv_wire.specs.declared.message.Request.TheVariants as requests
use Rattle.sv_journal.specs.declared.entry.Entry.{Entry}
use Rattle.sv_journal.specs.History.{either, is_welcome, is_noted, joining, client_of, is_client, reported, reports, result_at, actions_of}
use Rattle.sv_journal.specs.Sessions.{is_end}
use Rattle.sv_journal.specs.Answer.{Rules}
use Rattle.sv_journal.specs.Serving.{Keeping, with_results, IsKeeping, LegalFor}
use Rattle.sv_journal.specs.Living.{Stewardship, is_stewards, counts, heeded, living}
use Rattle.sv_journal.proofs.Stewards.{heed-next}
use Rattle.sv_client.specs.declared.trace.Trace.{Trace}
use Rattle.law_system.specs.Fits.{has_session, is_owned, FitsOne, Fits}
use Rattle.law_system.specs.Journals.{serial_result, IsSerialResult, ResultsAreSerial}
use Rattle.law_journal.specs.Stewarded.{HasHonestSteward}

-- A law of law_system: honest clients report serial results.
abbrev pub HonestReportsAreSerial : Type 0
HonestReportsAreSerial = (k : Keeping) (r : Rules) (later : List Entry) (e : Entry) (h : List Entry) (L : Trace) (results : List Done1) → IsKeeping k →
    length r.world.values ≡ r.world.shape.objects → LegalFor k r (later ++ e ∷ h) → FitsOne r.world.shape (later ++ e ∷ h) L →
    ResultsAreSerial r.world.values (actions_of (later ++ e ∷ h)) (k.kept h) → has_session L e.session ≡ true → e.request ≡ requests.Done results →
    All (IsSerialResult r.world.values (actions_of (later ++ e ∷ h))) results

-- ---- Reported results

module _ (opening : List (List ℤ)) (A : List Action) where
  abbrev AreSerialResults : List Done1 → Type 0
  AreSerialResults results = AllByRecursion (IsSerialResult opening A) results

  pub some-serial : (test : Done1 → Bool) (ds : List Done1) → AreSerialResults ds → AreSerialResults (filter test ds)
  some-serial test [] all = tt
  some-serial test (d ∷ ds) all = go (test d) (some-serial test ds all.1)
    where
      go : (b : Bool) → AreSerialResults (filter test ds) → AreSerialResults (if b then d ∷ filter test ds else filter test ds)
      go true rest = (all.0, rest)
      go false rest = rest

  pub none-serial : (ds : List Done1) → AreSerialResults (filter (λ (d : Done1). false) ds)
  none-serial [] = tt
  none-serial (d ∷ ds) = none-serial ds

  one-of : (p : ℕ) (ds : List Done1) (vs : List (List ℤ)) → 0 < p → AreSerialResults ds → reported p ds ≡ Some vs → vs ≡ serial_result opening A p
  one-of p [] vs low all is = absurd (none-some vs is)
  one-of p (d ∷ ds) vs low all is = go (d.pos == p) refl is (one-of p ds vs low all.1)
    where
      some_is : (x y : List (List ℤ)) → Some x ≡ Some y → x ≡ y
      some_is x y e = cc

      go : (b : Bool) → (d.pos == p) ≡ b → (if b then Some d.values else reported p ds) ≡ Some vs → (reported p ds ≡ Some vs → vs ≡ serial_result opening A p) →
          vs ≡ serial_result opening A p
      go true here f rest =
          let same : d.pos ≡ p = eqb-true d.pos p here in
          sym (some_is d.values vs f) ∙ subst (λ (n : ℕ). 0 < n → d.values ≡ serial_result opening A n) same all.0 low
      go false here f rest = rest f

  -- A request reports what the serial execution gives, where the results do that are kept of it.
  pub of-request : (test : Done1 → Bool) (p : ℕ) (q : Request) (vs : List (List ℤ)) → 0 < p →
      ((results : List Done1) → q ≡ requests.Done results → AreSerialResults (filter test results)) → reports p (with_results test q) ≡ Some vs →
      vs ≡ serial_result opening A p
  of-request test p (requests.Done results) vs low all is = one-of p (filter test results) vs low (all results refl) is
  of-request test p (requests.Join client life interest) vs low all is = absurd (none-some vs is)
  of-request test p (requests.Submit seq a) vs low all is = absurd (none-some vs is)
  of-request test p requests.Poll vs low all is = absurd (none-some vs is)
  of-request test p (requests.Observe objects wait) vs low all is = absurd (none-some vs is)
  of-request test p requests.Leave vs low all is = absurd (none-some vs is)
  of-request test p requests.Bad vs low all is = absurd (none-some vs is)
  of-request test p requests.End vs low all is = absurd (none-some vs is)

  -- One entry more, whose request reports what the serial execution gives, if anything.
  pub with-entry : (e : Entry) (g : List Entry) → ResultsAreSerial opening A g →
      ((p : ℕ) (vs : List (List ℤ)) → 0 < p → reports p e.request ≡ Some vs → vs ≡ serial_result opening A p) → ResultsAreSerial opening A (e ∷ g)
  with-entry e g before new p vs low is = go (result_at g p) refl (is_noted e.reply) is
    where
      go : (o : Option (List (List ℤ))) → result_at g p ≡ o → (b : Bool) → either o (if b then reports p e.request else None) ≡ Some vs → vs ≡ serial_result opening A p
      go (Some ws) at b f = before p vs low (at ∙ f)
      go None at true f = new p vs low f
      go None at false f = absurd (none-some vs f)

-- ---- The induction

-- Some results of each Done are kept of a history.
module _ (kept : List Entry → List Entry) (test : Entry → List Entry → Done1 → Bool) (none : kept [] ≡ [])
    (next : (e : Entry) (h : List Entry) → kept (e ∷ h) ≡ record e { request = with_results (test e h) e.request } ∷ kept h)
    (opening : List (List ℤ)) (acts : List Action) (H : List Entry) where
  abbrev AreGood : List Entry → Type 0
  AreGood h = ResultsAreSerial opening acts (kept h)

  -- Those that are kept of one more Done are serial, where all before are.
  abbrev KeepsSerial : Type 0
  KeepsSerial = (later : List Entry) (e : Entry) (h : List Entry) → H ≡ later ++ e ∷ h → AreGood h → (results : List Done1) → e.request ≡ requests.Done results →
      AreSerialResults opening acts (filter (test e h) results)

  good-by : KeepsSerial → (h later : List Entry) → H ≡ later ++ h → AreGood h
  good-by each [] later split = subst (ResultsAreSerial opening acts) (sym none) (λ p vs low is. absurd (none-some vs is))
  good-by each (e ∷ h) later split =
      let before : AreGood h = good-by each h (later ++ e ∷ []) (split ∙ sym (append_assoc later (e ∷ []) h)) in
      subst (ResultsAreSerial opening acts) (sym (next e h))
      (with-entry opening acts (record e { request = with_results (test e h) e.request }) (kept h) before
      (λ p vs low is. of-request opening acts (test e h) p e.request vs low (each later e h split before) is))

-- ---- Any keeping, and honest clients

-- Of a trace whose session a Done is of.
done-of : HonestReportsAreSerial → (k : Keeping) → IsKeeping k → (r : Rules) (H : List Entry) → length r.world.values ≡ r.world.shape.objects → LegalFor k r H →
    (L : Trace) → FitsOne r.world.shape H L → (later : List Entry) (e : Entry) (h : List Entry) → H ≡ later ++ e ∷ h →
    ResultsAreSerial r.world.values (actions_of H) (k.kept h) → has_session L e.session ≡ true → (results : List Done1) → e.request ≡ requests.Done results →
    AllByRecursion (IsSerialResult r.world.values (actions_of H)) results
done-of honest k keeps r H count legal L fits later e h split good has results asked =
    recursion_from_All (IsSerialResult r.world.values (actions_of H)) results
    (subst (λ (g : List Entry). LegalFor k r g → FitsOne r.world.shape g L → ResultsAreSerial r.world.values (actions_of g) (k.kept h) →
    All (IsSerialResult r.world.values (actions_of g)) results) (sym split)
    (λ l f s. honest k r later e h L results keeps count l f s has asked) legal fits good)

some-owner : (shape : Shape) (H : List Entry) (Ls : List Trace) (s : ℕ) → AllByRecursion (FitsOne shape H) Ls → list_any (λ (L : Trace). has_session L s) Ls ≡ true →
    (L : Trace) × (FitsOne shape H L × (has_session L s ≡ true))
some-owner shape H [] s each owned = absurd (true≢false (sym owned))
some-owner shape H (L ∷ Ls) s each owned =
    elim (or_cases (has_session L s) (list_any (λ (M : Trace). has_session M s) Ls) owned) [ inl e ↦ (L, (each.0, e)) | inr e ↦ some-owner shape H Ls s each.1 e ]

-- An entry within the whole.
owned-at : (Ls : List Trace) (later : List Entry) (e : Entry) (h : List Entry) → AllByRecursion (λ (d : Entry). is_owned Ls d ≡ true) (later ++ e ∷ h) → is_owned Ls e ≡ true
owned-at Ls [] e h all = all.0
owned-at Ls (d ∷ later) e h all = owned-at Ls later e h all.1

pub honest-serial : HonestReportsAreSerial → (k : Keeping) → IsKeeping k → (r : Rules) (H : List Entry) (Ls : List Trace) → length r.world.values ≡ r.world.shape.objects →
    LegalFor k r H → Fits r.world.shape H Ls → ResultsAreSerial r.world.values (actions_of H) (k.kept H)
honest-serial honest k keeps r H Ls count legal fits =
    good-by k.kept (λ e h. (keeps.next e h).0) keeps.none (λ e h. (keeps.next e h).1) r.world.values (actions_of H) H each H [] refl
  where
    own : (e : Entry) (results : List Done1) → e.request ≡ requests.Done results → is_owned Ls e ≡ true → list_any (λ (L : Trace). has_session L e.session) Ls ≡ true
    own e results asked owned =
        elim (or_cases (is_end e.request) (list_any (λ (L : Trace). has_session L e.session) Ls) owned) [
          | inl ends ↦ absurd (true≢false (sym ends ∙ ap is_end asked))
          | inr mine ↦ mine
        ]

    each : (later : List Entry) (e : Entry) (h : List Entry) → H ≡ later ++ e ∷ h → ResultsAreSerial r.world.values (actions_of H) (k.kept h) →
        (results : List Done1) → e.request ≡ requests.Done results →
        AllByRecursion (IsSerialResult r.world.values (actions_of H)) (filter (keeps.next e h).0 results)
    each later e h split good results asked =
        let all = recursion_from_All (λ (d : Entry). is_owned Ls d ≡ true) H fits.owned in
        let owned = owned-at Ls later e h (subst (AllByRecursion (λ (d : Entry). is_owned Ls d ≡ true)) split all) in
        let o = some-owner r.world.shape H Ls e.session (recursion_from_All (FitsOne r.world.shape H) Ls fits.each) (own e results asked owned) in
        some-serial r.world.values (actions_of H) (keeps.next e h).0 results
        (done-of honest k keeps r H count legal o.0 o.1.0 later e h split good o.1.1 results asked)

-- ---- The steward

-- A session's client stays.
client-later : (later h : List Entry) (s k : ℕ) → client_of h s ≡ Some k → client_of (later ++ h) s ≡ Some k
client-later [] h s k is = is
client-later (e ∷ later) h s k is =
    ap (λ (o : Option ℕ). either o (if (e.session == s) && is_welcome e.reply then joining e.request else None)) (client-later later h s k is)

stewards-client : (steward : Option ℕ) (h : List Entry) (s k : ℕ) → steward ≡ Some k → is_stewards steward h s ≡ true → client_of h s ≡ Some k
stewards-client steward h s k is own = go (client_of h s) (sym (ap (λ (o : Option ℕ). is_stewards o h s) is) ∙ own)
  where
    go : (o : Option ℕ) → is_client o k ≡ true → o ≡ Some k
    go None e = absurd (true≢false (sym e))
    go (Some j) e = ap (λ (m : ℕ). Some m) (eqb-true j k e)

-- Where the steward's reports alone count, a session whose reports count was joined as the steward.
pub counts-stewards : (w : Stewardship) (h : List Entry) (s : ℕ) → w.authority ≡ true → counts w h s ≡ true → is_stewards w.steward h s ≡ true
counts-stewards w h s alone own = sym (ap (λ (b : Bool). not b || is_stewards w.steward h s) alone) ∙ own

pub stewards-serial : HonestReportsAreSerial → (w : Stewardship) → IsKeeping (living w) → (r : Rules) (H : List Entry) (L : Trace) →
    length r.world.values ≡ r.world.shape.objects → LegalFor (living w) r H → HasHonestSteward w r.world.shape H L →
    ResultsAreSerial r.world.values (actions_of H) (heeded w H)
stewards-serial honest w keeps r H L count legal steward =
    good-by (heeded w) (λ e h d. counts w h e.session) refl (λ e h. heed-next w e h) r.world.values (actions_of H) H each H [] refl
  where
    own-session : (later : List Entry) (e : Entry) (h : List Entry) → H ≡ later ++ e ∷ h → counts w h e.session ≡ true → has_session L e.session ≡ true
    own-session later e h split own =
        let mine : client_of h e.session ≡ Some L.client.0 =
        stewards-client w.steward h e.session L.client.0 steward.steward (counts-stewards w h e.session steward.alone own) in
        steward.owns e.session
        (subst (λ (g : List Entry). client_of g e.session ≡ Some L.client.0) (sym split)
        (client-later later (e ∷ h) e.session L.client.0 (client-later (e ∷ []) h e.session L.client.0 mine)))

    each : (later : List Entry) (e : Entry) (h : List Entry) → H ≡ later ++ e ∷ h → ResultsAreSerial r.world.values (actions_of H) (heeded w h) →
        (results : List Done1) → e.request ≡ requests.Done results →
        AllByRecursion (IsSerialResult r.world.values (actions_of H)) (filter (λ (d : Done1). counts w h e.session) results)
    each later e h split good results asked = go (counts w h e.session) refl
      where
        go : (b : Bool) → counts w h e.session ≡ b → AllByRecursion (IsSerialResult r.world.values (actions_of H)) (filter (λ (d : Done1). b) results)
        go true own =
            some-serial r.world.values (actions_of H) (λ (d : Done1). true) results
            (done-of honest (living w) keeps r H count legal L steward.fits later e h split good (own-session later e h split own) results asked)
        go false own = none-serial r.world.values (actions_of H) results
