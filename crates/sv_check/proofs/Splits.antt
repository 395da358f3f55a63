-- The last of some first traces, and those before it.
use Rattle.std.proofs.Common.{◌≡◌, ℕ, suc, ◌+◌, List, [], ◌∷◌, ◌++◌, length, refl, sym, ap, ◌∙◌, arith, append_assoc, append-nil}
use Rattle.std.specs.List.{flat_map}
use Rattle.sv_journal.specs.declared.entry.Entry.{Entry}
use Rattle.sv_client.specs.declared.trace.Trace.{Trace}
use Rattle.sv_scenario.specs.declared.scenario.Plan.{Plan}
use Rattle.sv_scenario.specs.Sessions.{sessions_of_plan, sessions_in}
use Rattle.law_system.specs.Records.{AreTracesOf, EachTrace}
use Rattle.sv_report.specs.Report.{trace_text}
use Rattle.sv_check.specs.Parts.{IsOf}

-- A client by the same number, with the same first session.
pub is_of : (k s i n : ℕ) (plan : Plan) (L : Trace) → k ≡ i → s ≡ n → IsOf k s plan L → IsOf i n plan L
is_of k s i n plan L e f o = record { client = o.client ∙ ap (λ (m : ℕ). record { 0 = m }) e; interest = o.interest; first_is = o.first_is ∙ f }

-- The last of some first traces, and those before it.
pub record IsSplit (W : Plan → Trace → Type 0) (k s : ℕ) (before : List Plan) (Ls : List Trace) : Type 0 where
  pub first : List Plan
  pub plan : Plan
  pub plans : before ≡ first ++ plan ∷ []
  pub Ms : List Trace
  pub L : Trace
  pub traces : Ls ≡ Ms ++ L ∷ []
  pub clients : AreTracesOf k s first Ms
  pub each : EachTrace W first Ms
  pub of : IsOf (k + length first) (s + sessions_in first) plan L
  pub whole : W plan L

pub split_last : (W : Plan → Trace → Type 0) (k s : ℕ) (p : Plan) (before : List Plan) (M : Trace) (Ls : List Trace) → AreTracesOf k s (p ∷ before) (M ∷ Ls) → EachTrace W (p ∷ before) (M ∷ Ls) →
    IsSplit W k s (p ∷ before) (M ∷ Ls)
split_last W k s p [] M [] a w = record {
  first = [];
  plan = p;
  plans = refl;
  Ms = [];
  L = M;
  traces = refl;
  clients = tt;
  each = tt;
  of = is_of k s (k + 0) (s + 0) p M (omega arith) (omega arith) (record { client = a.0; interest = a.1; first_is = a.2 });
  whole = w.0;
}
split_last W k s p [] M (N ∷ Ls) a w = absurd a.3
split_last W k s p (q ∷ before) M [] a w = absurd a.3
split_last W k s p (q ∷ before) M (N ∷ Ls) a w =
    let more = split_last W (suc k) (s + sessions_of_plan p) q before N Ls a.3 w.1 in
    record {
      first = p ∷ more.first;
      plan = more.plan;
      plans = ap (λ (ps : List Plan). p ∷ ps) more.plans;
      Ms = M ∷ more.Ms;
      L = more.L;
      traces = ap (λ (Ns : List Trace). M ∷ Ns) more.traces;
      clients = (a.0, a.1, a.2, more.clients);
      each = (w.0, more.each);
      of = is_of (suc k + length more.first) (s + sessions_of_plan p + sessions_in more.first) (k + suc (length more.first)) (s + (sessions_of_plan p + sessions_in more.first)) more.plan more.L
          (omega arith) (omega arith) more.of;
      whole = more.whole;
    }

pub lines_append : (entries : List Entry) (Ls : List Trace) (L : Trace) → flat_map (trace_text entries) (Ls ++ L ∷ []) ≡ flat_map (trace_text entries) Ls ++ trace_text entries L
lines_append entries [] L = append-nil (trace_text entries L)
lines_append entries (M ∷ Ls) L =
    ap (λ (l : List ℕ). trace_text entries M ++ l) (lines_append entries Ls L) ∙ sym (append_assoc (trace_text entries M) (flat_map (trace_text entries) Ls) (trace_text entries L))
