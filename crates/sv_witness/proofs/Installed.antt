-- A noted Done: what its results are goes into the core, the rows of reports and the disputes.
use Rattle.std.proofs.Common.{◌≡◌, ℕ, ◌<◌, false, Some, List, ◌∷◌, sym, ap, ◌∙◌, subst}
use Rattle.std.specs.List.{list_any}
use Rattle.sv_wire.specs.declared.message.Done1.{Done1}
use Rattle.sv_wire.specs.declared.message.Reply.{Reply}
use Rattle.sv_wire.specs.declared.message.Request.{Request}
use Rattle.sv_wire.specs.declared.message.Request.TheVariants as requests
use Rattle.sv_journal.specs.declared.entry.Entry.{Entry}
use Rattle.sv_journal.specs.History.{client_of, reported, commit_of}
use Rattle.sv_journal.specs.Answer.{is_bad_result, is_bad_done}
use Rattle.sv_journal.specs.Serving.{noted_after}
use Rattle.sv_journal.specs.View.{JournalView}
use Rattle.sv_core.specs.declared.decision.Decision.TheVariants as decisions
use Rattle.sv_core.specs.declared.server_core.Core.{Core}
use Rattle.sv_core.specs.Cores.{core_rules, queue_of, Keeps}
use Rattle.sv_core.specs.Decisions.{results_in}
use Rattle.sv_sequencer.specs.Entering.{EnteredReply}
use Rattle.sv_witness.specs.declared.report.Dispute.{Dispute}
use Rattle.sv_witness.specs.Reports.{agreed_history, agreed_commit}
use Rattle.sv_witness.specs.Disputes.{with_disputes}
use Rattle.sv_witness.specs.Kept.{RowView, kept_at, counts_as_report, counted_results, AreOnce, with_values, agreed_results, new_disputes}
use Rattle.sv_witness.specs.Standing.{Standing, witnessed_entry, Replied}
use Rattle.sv_witness.specs.Witnessed.{agreed, witnessed_reply}
use Rattle.sv_witness.proofs.Noted.{once-filter}
use Rattle.sv_witness.proofs.Stepped.{noted-keeps, noted-replied}
use Rattle.sv_witness.proofs.Steps.{once, agreed-good}

module _ (old : Core) (rows : List RowView) (ds : List Dispute) (h : List Entry) (s k : ℕ) (q : Request) (counted brought : List Done1) (made : List Dispute)
    (is : Standing old rows ds h) (joined : client_of h s ≡ Some k) (done : q ≡ requests.Done (results_in q))
    (good : is_bad_done (core_rules old) (agreed_history h) s (results_in q) ≡ false) (reply : witnessed_reply (core_rules old) h s q ≡ noted_after agreed h s q)
    (are_counted : counted ≡ counted_results (queue_of old).commit rows k (results_in q)) (are_brought : brought ≡ agreed_results (queue_of old) rows counted)
    (are_made : made ≡ new_disputes rows k counted) where
  count : counted ≡ counted_results (agreed_commit h) rows k (results_in q)
  count = are_counted ∙ ap (λ c. counted_results c rows k (results_in q)) is.keeps.commit

  bring : brought ≡ agreed_results (queue_of old) rows (counted_results (agreed_commit h) rows k (results_in q))
  bring = are_brought ∙ ap (agreed_results (queue_of old) rows) count

  pub install-good : list_any (is_bad_result (core_rules old) (agreed_history h) s) brought ≡ false
  install-good =
      subst (λ (l : List Done1). list_any (is_bad_result (core_rules old) (agreed_history h) s) l ≡ false) (sym bring)
      (agreed-good (core_rules old) h s k (results_in q) joined good rows (queue_of old))

  pub install-once : AreOnce counted
  install-once = subst AreOnce (sym count) (once-filter (λ p. counts_as_report (agreed_commit h) rows k p) (results_in q) (once (core_rules old) h s k (results_in q) joined good))

  module _ (core : Core) (before after : JournalView) (x : Reply) (entered : EnteredReply old core before after (agreed_history h) s q (requests.Done brought) decisions.Note x) where
    agreed-entered : EnteredReply old core before after (agreed_history h) s (requests.Done (results_in q))
        (requests.Done (agreed_results (queue_of old) rows (counted_results (agreed_commit h) rows k (results_in q)))) decisions.Note x
    agreed-entered = subst (λ (l : List Done1). EnteredReply old core before after (agreed_history h) s (requests.Done (results_in q)) (requests.Done l) decisions.Note x) bring
        (subst (λ (y : Request). EnteredReply old core before after (agreed_history h) s y (requests.Done brought) decisions.Note x) done entered)

    done-reply : witnessed_reply (core_rules old) h s (requests.Done (results_in q)) ≡ noted_after agreed h s (requests.Done (results_in q))
    done-reply = subst (λ (y : Request). witnessed_reply (core_rules old) h s y ≡ noted_after agreed h s y) done reply

    keeps : Keeps core (agreed_history (witnessed_entry (core_rules old) h s (requests.Done (results_in q)) ∷ h))
    keeps = noted-keeps old core before after rows ds h s k (results_in q) x is joined good done-reply agreed-entered

    -- The rows once the counted results are in, and once those are gone that are of committed positions.
    pub installed : (last : ℕ) (mid new : List RowView) (disputes : List Dispute) → ((g : List Entry) → Keeps core g → last ≡ commit_of g) →
        ((p : ℕ) → kept_at mid p ≡ with_values k (reported p counted) (kept_at rows p)) → ((p : ℕ) → last < p → kept_at new p ≡ kept_at mid p) →
        disputes ≡ with_disputes made ds → Replied old core before after new disputes h s q x
    installed last mid new disputes at added left are =
        subst (λ (y : Request). Replied old core before after new disputes h s y x) (sym done)
        (subst (λ (l : List Dispute). Replied old core before after new l h s (requests.Done (results_in q)) x)
        (sym (are ∙ ap (λ (l : List Dispute). with_disputes l ds) (are_made ∙ ap (new_disputes rows k) count)))
        (noted-replied old core before after rows ds h s k (results_in q) x is joined good done-reply agreed-entered new
        (λ p above. (left p (subst (λ n. n < p) (sym (at _ keeps)) above) ∙ added p
        ∙ ap (λ (l : List Done1). with_values k (reported p l) (kept_at rows p)) count))))
