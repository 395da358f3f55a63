-- What becomes of pairs that nobody used, and of those of a whole run.
use Rattle.std.proofs.Common.{◌≡◌, ℕ, ◌+◌, ◌≤◌, Bool, true, false, List, [], ◌∷◌, ◌++◌, length, if◌then◌else◌, inl, inr, refl, sym, ap, subst, ◌∙◌, arith, append-nil}
use Rattle.std.specs.Prelude.{Result, Ok, Err, IsErrAnd}
use Rattle.std.specs.List.{AllByRecursion, AllZip}
use Rattle.std.proofs.lemmas.Option.{slice_get_within}
use Rattle.sv_bytes.specs.Faults.{Rose}
use Rattle.sv_link.specs.Ends.{Told, new_end}
use Rattle.sv_link.specs.Nets.{BothArrived}
use Rattle.sv_link.specs.declared.side.Side.TheVariants.{Server, Client}
use Rattle.sv_threads.specs.declared.outcome.PlayFault.{PlayFault}
use Rattle.sv_threads.specs.declared.outcome.PlayFault.TheVariants as faults_of
use Rattle.sv_threads.specs.declared.gathering.ClientEnd.{ClientEnd}
use Rattle.sv_threads.specs.Opening.{FaultCause, HoldsUnused, SettledAfter}
use Rattle.sv_threads.specs.Pairs.{Pairing, SettledAll, MatchedAll, LeavesPairs, HasDiffered, SomeDiffered}
use Rattle.sv_threads.specs.Playing.{PlayCause}
use Rattle.sv_threads.specs.Settling.{SettledCause, SettledEach, ArePair, AreCalm, IsSince, AnyZip, Differ}
use Rattle.sv_threads.proofs.Places.{zip_from}

abbrev pub unerr : {A : Type 0} → Result A PlayFault → PlayFault
unerr (Ok _) = faults_of.Link
unerr (Err fault) = fault

pub not_start : (fault : PlayFault) (a b : ℕ) → FaultCause a b fault → fault ≡ faults_of.Start → ⊥
not_start fault a b p is = subst (FaultCause a b) is p

-- ---- Where nothing was made

pub none_made : (p : Pairing) → MatchedAll p p
none_made p =
    record {
      all =
          record {
            transcripts = [];
            others = [];
            settled = sym (append-nil p.settled);
            unmatched = sym (append-nil p.unmatched);
            made = omega arith;
            owed = refl;
          };
      matched = refl;
    }

pub memory_leaves : (A : Type 0) (r : Result A PlayFault) (old new : Pairing) → IsErrAnd r (λ f. f ≡ faults_of.Memory) → MatchedAll old new → LeavesPairs {A = A} old new r
memory_leaves A (Ok a) old new e m = absurd e
memory_leaves A (Err fault) old new e m = subst (λ f. LeavesPairs {A = A} old new (Err f)) (sym e) m

-- ---- All pairs that were made are settled

module _ {E : Type 0} (told : E → Told) (calm : E → Type 0) (net_calm : Type 0) (servers : List E) (clients : List (ClientEnd E)) (m : Bool)
    (n : ℕ) (old mid new : Pairing) (settled : mid.settled ≡ old.settled) (unmatched : mid.unmatched ≡ old.unmatched) (made : mid.made ≡ old.made + n) (owed : mid.owed ≡ old.owed + n)
    (count : length servers ≡ n) (each : SettledEach told calm net_calm servers clients m mid new) where
  pub settled_all : SettledAll old new
  settled_all =
      let all = each.count in
      let kept = each.made in
      let less = each.owed in
      record {
        transcripts = each.transcripts;
        others = each.others;
        settled = each.settled ∙ ap (λ l. l ++ each.transcripts) settled;
        unmatched = each.unmatched ∙ ap (λ l. l ++ each.others) unmatched;
        made = omega (arith, all, kept, made, count);
        owed = omega (arith, less, owed, count);
      }

  pub matched_all : m ≡ true → MatchedAll old new
  matched_all e =
      record {
        all = settled_all;
        matched = each.unmatched ∙ (ap (λ l. mid.unmatched ++ l) (each.matched e) ∙ (append-nil mid.unmatched ∙ unmatched));
      }

  pub some_differed : m ≡ false → net_calm → AllZip (AreCalm calm) servers clients → AllZip (IsSince told old.made) servers clients → SomeDiffered old new
  some_differed e q calms since =
      record {
        others = each.others;
        unmatched = each.unmatched ∙ ap (λ l. l ++ each.others) unmatched;
        some = each.failed e;
        each = subst (λ k. AllByRecursion (HasDiffered old.made k) each.others) (sym each.made) (each.each q calms old.made since);
      }

-- ---- Pairs that nobody used

new_arrived : (p : ℕ) → BothArrived (new_end p Server) (new_end p Client)
new_arrived p = record { to_server = record { part = ([], refl); whole = λ e. refl }; to_client = record { part = ([], refl); whole = λ e. refl } }

none_differs : {E : Type 0} (told : E → Told) (servers : List E) (clients : List (ClientEnd E)) → AllZip (λ server z. BothArrived (told server) (told z.end)) servers clients → AnyZip (Differ told) servers clients → ⊥
none_differs told [] zs all any = absurd any
none_differs told (s ∷ ss) [] all any = absurd any
none_differs told (s ∷ ss) (z ∷ zs) all (inl differ) = differ all.0
none_differs told (s ∷ ss) (z ∷ zs) all (inr any) = none_differs told ss zs all.1 any

later_rose : (fault : PlayFault) (a b c : ℕ) → FaultCause a b fault → Rose b c → Rose a c
later_rose faults_of.Start a b c p r = absurd p
later_rose faults_of.Link a b c p r = omega (arith, p, r)
later_rose faults_of.Memory a b c p r = omega (arith, p, r)

cause_by : (A : Type 0) (m : Bool) (fault after : PlayFault) (k a b c : ℕ) → after ≡ (if m then fault else faults_of.Link) → FaultCause a b fault → SettledCause b c m → PlayCause {A = A} k k a c (Err after)
cause_by A true faults_of.Start after k a b c is p s = absurd p
cause_by A true faults_of.Link after k a b c is p s = subst (λ f. PlayCause {A = A} k k a c (Err f)) (sym is) (refl, omega (arith, p, s))
cause_by A true faults_of.Memory after k a b c is p s = subst (λ f. PlayCause {A = A} k k a c (Err f)) (sym is) (refl, omega (arith, p, s))
cause_by A false fault after k a b c is p s = subst (λ f. PlayCause {A = A} k k a c (Err f)) (sym is) (refl, later_rose fault a b c p s)

module _ {E : Type 0} (told : E → Told) (faults : E → ℕ) (calm : E → Type 0) (net_calm : Type 0) (old mid : Pairing) (servers : List E) (clients : List (ClientEnd E))
    (h : HoldsUnused told faults calm net_calm old mid servers clients) where
  pub unused_pairs : AllZip (ArePair told mid.made) servers clients
  unused_pairs =
      zip_from (ArePair told mid.made) servers clients h.as_many
      (λ s server z es ez.
      let a = h.at_servers s server es in
      let b = h.at_clients s z ez in
      let within = slice_get_within servers s server es in
      let made = h.made in
      let own = ap (λ (t : Told). t.pair) a.told_is in
      record {
        same = own ∙ sym (ap (λ (t : Told). t.pair) b.told_is);
        made_here = omega (arith, within, made, own);
        server_side = ap (λ (t : Told). t.side) a.told_is;
        client_side = ap (λ (t : Told). t.side) b.told_is;
      })

  pub unused_owed : length servers ≤ mid.owed
  unused_owed = let owed = h.owed in omega (arith, owed)

  all_arrived : AllZip (λ server z. BothArrived (told server) (told z.end)) servers clients
  all_arrived =
      zip_from (λ server z. BothArrived (told server) (told z.end)) servers clients h.as_many
      (λ s server z es ez.
      subst (λ (t : Told). BothArrived t (told z.end)) (sym (h.at_servers s server es).told_is)
      (subst (BothArrived (new_end (old.made + s) Server)) (sym (h.at_clients s z ez).told_is) (new_arrived (old.made + s))))

  all_calm : net_calm → AllZip (AreCalm calm) servers clients
  all_calm q = zip_from (AreCalm calm) servers clients h.as_many (λ s server z es ez. ((h.at_servers s server es).calm_is q, (h.at_clients s z ez).calm_is q))

  module _ (now_calm : Type 0) (a b : ℕ) (new : Pairing) (fault after : PlayFault) (s : SettledAfter told calm now_calm servers clients a b mid new fault after) where
    leaves_by : (A : Type 0) (m : Bool) (f g : PlayFault) → m ≡ s.matched → g ≡ (if m then f else faults_of.Link) → (f ≡ faults_of.Start → ⊥) → LeavesPairs {A = A} old new (Err g)
    leaves_by A true faults_of.Start g e is may = absurd (may refl)
    leaves_by A true faults_of.Link g e is may =
        subst (λ x. LeavesPairs {A = A} old new (Err x)) (sym is) (settled_all told calm now_calm servers clients s.matched (length servers) old mid new h.settled h.unmatched h.made h.owed refl s.each)
    leaves_by A true faults_of.Memory g e is may =
        subst (λ x. LeavesPairs {A = A} old new (Err x)) (sym is) (matched_all told calm now_calm servers clients s.matched (length servers) old mid new h.settled h.unmatched h.made h.owed refl s.each (sym e))
    leaves_by A false f g e is may =
        subst (λ x. LeavesPairs {A = A} old new (Err x)) (sym is) (settled_all told calm now_calm servers clients s.matched (length servers) old mid new h.settled h.unmatched h.made h.owed refl s.each)

    pub unused_leaves : (A : Type 0) → (fault ≡ faults_of.Start → ⊥) → LeavesPairs {A = A} old new (Err after)
    unused_leaves A may = leaves_by A s.matched fault after refl s.after_is may

    pub unused_cause : (A : Type 0) (k z : ℕ) → FaultCause z a fault → PlayCause {A = A} k k z b (Err after)
    unused_cause A k z p = cause_by A s.matched fault after k z a b s.after_is p s.cause

    link_by : (m : Bool) (g : PlayFault) → m ≡ s.matched → g ≡ (if m then fault else faults_of.Link) → (fault ≡ faults_of.Link → ⊥) → net_calm → now_calm → g ≡ faults_of.Link → ⊥
    link_by true g e is other q now link = other (sym is ∙ link)
    link_by false g e is other q now link = none_differs told servers clients all_arrived (s.certain (sym e) now (all_calm q))

    pub unused_matches : (fault ≡ faults_of.Link → ⊥) → net_calm → now_calm → after ≡ faults_of.Link → SomeDiffered old new
    unused_matches other q now link = absurd (link_by s.matched after refl s.after_is other q now link)
