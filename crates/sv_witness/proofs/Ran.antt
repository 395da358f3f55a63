-- A witnessing server that hears lies answers as a run's server is to, and what it leaves is the witnessed run.
use Rattle.std.proofs.Common.{◌≡◌, ℕ, true, false, List, [], ◌∷◌, reverse, Option, Some, None, Result, Ok, Err, refl, sym, ap, ap₂, ◌∙◌, true≢false}
use Rattle.std.specs.Prelude.{IfOk, String, string_bytes}
use Rattle.std.specs.declared.alloc.AllocError.{AllocError}
use Rattle.std.specs.declared.alloc.Global.{Global}
use Rattle.std.proofs.lemmas.Bool.{cond-true, cond-false}
use Rattle.std.proofs.lemmas.List.{reverse-append}
use Rattle.sv_wire.specs.declared.message.Reply.{Reply}
use Rattle.sv_wire.specs.declared.message.Request.{Request}
use Rattle.sv_journal.specs.declared.entry.Entry.{Entry}
use Rattle.sv_journal.specs.History.{client_of, is_client, accepted, full_reply}
use Rattle.sv_journal.specs.Answer.{Rules}
use Rattle.sv_scenario.specs.declared.scenario.Scenario.{Scenario}
use Rattle.sv_journal.specs.History.{entry_of}
use Rattle.sv_sequencer.specs.Step.{SequencerView, history}
use Rattle.law_schedule.specs.Serving.{Server, served, traces_of}
use Rattle.law_schedule.specs.Schedule.{rules_of}
use Rattle.sv_replay.specs.Serving.{Answers}
use Rattle.sv_witness.specs.declared.liar.Lying.{Lying}
use Rattle.sv_witness.specs.Lies.{lied}
use Rattle.sv_witness.specs.Lines.{witness_text}
use Rattle.sv_witness.specs.Lying.{hears_lies, lying_view}
use Rattle.sv_witness.specs.Run.{heard_of, witness_of, witnessed_run, IsWitnessedRun}
use Rattle.sv_witness.specs.Statuses.{IsRunText}
use Rattle.sv_witness.specs.Step.{Witnesses}
use Rattle.sv_witness.specs.Witnessed.{witnessed_reply}

-- ---- A step

pub heard-lie : (liar : Option ℕ) (h : List Entry) (s : ℕ) (q : Request) → hears_lies liar h s ≡ true → heard_of liar h s q ≡ lied q
heard-lie None h s q t = absurd (true≢false (sym t))
heard-lie (Some k) h s q t = cond-true (is_client (client_of h s) k) (lied q) q t

pub heard-truth : (liar : Option ℕ) (h : List Entry) (s : ℕ) (q : Request) → hears_lies liar h s ≡ false → heard_of liar h s q ≡ q
heard-truth None h s q f = refl
heard-truth (Some k) h s q f = cond-false (is_client (client_of h s) k) (lied q) q f

pub lying-answers : (a b : Lying) (s : ℕ) (q heard : Request) (answer : Result Reply AllocError) → b.liar ≡ a.liar → heard_of a.liar (history a.witness) s q ≡ heard →
    IfOk answer (Witnesses a.witness b.witness s heard) → IfOk answer (Answers (lying_view a) (lying_view b) s q)
lying-answers a b s q heard (Err e) same is done = tt
lying-answers a b s q heard (Ok reply) same is done =
    let r : Rules = a.witness.rules in
    let h : List Entry = history a.witness in
    let server : Server = witness_of r a.liar in
    let entered : history b.witness ≡ entry_of s heard (witnessed_reply r h s heard) ∷ h =
    ap reverse done.grew.entries ∙ reverse-append a.witness.journal.entries (entry_of s heard (witnessed_reply r h s heard) ∷ []) in
    let grown : history b.witness ≡ served server h s q = entered ∙ ap (λ (x : Request). entry_of s x (witnessed_reply r h s x) ∷ h) (sym is) in
    record {
      rules = done.grew.rules;
      server = ap₂ (λ (x : Rules) (o : Option ℕ). witness_of x o) done.grew.rules same;
      entries = grown;
      whole = done.whole
          ∙ ap (λ (g : List Entry). full_reply (accepted g) (witnessed_reply r h s heard)) grown
          ∙ ap (λ (x : Request). full_reply (accepted (served server h s q)) (witnessed_reply r h s x)) (sym is);
    }

-- ---- The text

pub run-texts : (scenario : Scenario) (liar : Option ℕ) (w : SequencerView) (made : Result (String Global) AllocError) → w.rules ≡ rules_of scenario →
    history w ≡ (witnessed_run scenario liar).history → IsWitnessedRun scenario liar (witnessed_run scenario liar).history (traces_of (witnessed_run scenario liar)) →
    IfOk made (λ text. string_bytes text ≡ witness_text w.rules.world (history w)) → IfOk made (λ text. IsRunText scenario liar (string_bytes text))
run-texts scenario liar w (Err e) rules kept run is = tt
run-texts scenario liar w (Ok text) rules kept run is = record {
  h = (witnessed_run scenario liar).history;
  Ls = traces_of (witnessed_run scenario liar);
  run = run;
  text_is = is ∙ ap (λ (x : Rules). witness_text x.world (history w)) rules ∙ ap (witness_text scenario.world) kept;
}
